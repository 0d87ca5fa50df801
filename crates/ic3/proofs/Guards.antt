-- Guarded clauses: what guards are true, what clauses that are switched off leave, and what a question leaves.
use Rattle.std.proofs.Common.{◌≡◌, ℕ, zero, suc, ◌+◌, ◌*◌, Bool, true, false, not, ◌&&◌, ◌||◌, List, [], ◌∷◌, ◌++◌, refl, ap, subst, ◌∙◌, arith, append_assoc}
use Rattle.proof_semantics.specs.declared.literals.Lit.{Lit}
use Rattle.proof_semantics.specs.Clauses.{clause_value, clauses_value}
use Rattle.cnf_unroll.proofs.Truth.{both, together}
use Rattle.ic3_questions.specs.SteppingClauses.{level_guard, question_guard, guarded, Retires}

-- ---- guards by turns

-- the values of levels, and between them those of questions
guards_of : (ℕ → Bool) → (ℕ → Bool) → ℕ → Bool
guards_of levels questions zero = levels 0
guards_of levels questions (suc zero) = questions 0
guards_of levels questions (suc (suc n)) = guards_of (λ k. levels (suc k)) (λ t. questions (suc t)) n

pub guards : (ℕ → Bool) → (ℕ → Bool) → ℕ → Bool
guards levels questions n = guards_of levels questions n

guards_of-level : (levels questions : ℕ → Bool) (k : ℕ) → guards_of levels questions (2 * k) ≡ levels k
unfolding guards_of
guards_of-level levels questions zero = refl
guards_of-level levels questions (suc k) =
    let e : 2 * suc k ≡ suc (suc (2 * k)) = omega arith in
    ap (guards_of levels questions) e ∙ guards_of-level (λ j. levels (suc j)) (λ t. questions (suc t)) k

guards_of-question : (levels questions : ℕ → Bool) (t : ℕ) → guards_of levels questions (2 * t + 1) ≡ questions t
unfolding guards_of
guards_of-question levels questions zero = refl
guards_of-question levels questions (suc t) =
    let e : 2 * suc t + 1 ≡ suc (suc (2 * t + 1)) = omega arith in
    ap (guards_of levels questions) e ∙ guards_of-question (λ j. levels (suc j)) (λ u. questions (suc u)) t

pub level_value : (v levels questions : ℕ → Bool) (free : ℕ) → ((i : ℕ) → v (free + i) ≡ guards levels questions i)
    → (k : ℕ) → v (level_guard free k) ≡ levels k
unfolding guards
level_value v levels questions free h k = h (2 * k) ∙ guards_of-level levels questions k

pub question_value : (v levels questions : ℕ → Bool) (free : ℕ) → ((i : ℕ) → v (free + i) ≡ guards levels questions i)
    → (t : ℕ) → v (question_guard free t) ≡ questions t
unfolding guards
question_value v levels questions free h t =
    let e : free + 2 * t + 1 ≡ free + (2 * t + 1) = omega arith in
    ap v e ∙ h (2 * t + 1) ∙ guards_of-question levels questions t

-- ---- a guarded clause

off : (g b : Bool) → g ≡ false → (not g || b) ≡ true
off true b h = let x : true ≡ false = h in absurd (cc)
off false b h = refl

pub guarded_off : (v : ℕ → Bool) (g : ℕ) (clause : List Lit) → v g ≡ false → clause_value v (guarded g clause) ≡ true
guarded_off v g clause h = off (v g) (clause_value v clause) h

on : (g b : Bool) → g ≡ true → (not g || b) ≡ true → b ≡ true
on true b h c = c
on false b h c = let x : false ≡ true = h in absurd (cc)

pub guarded_on : (v : ℕ → Bool) (g : ℕ) (clause : List Lit) → v g ≡ true → clause_value v (guarded g clause) ≡ true → clause_value v clause ≡ true
guarded_on v g clause h c = on (v g) (clause_value v clause) h c

held : (g b : Bool) → b ≡ true → (not g || b) ≡ true
held true b h = h
held false b h = refl

pub guarded_held : (v : ℕ → Bool) (g : ℕ) (clause : List Lit) → clause_value v clause ≡ true → clause_value v (guarded g clause) ≡ true
guarded_held v g clause h = held (v g) (clause_value v clause) h

alone : (b : Bool) → b ≡ true → (b && true) ≡ true
alone true h = refl
alone false h = h

pub one_clause : (v : ℕ → Bool) (clause : List Lit) → clause_value v clause ≡ true → clauses_value v (clause ∷ []) ≡ true
one_clause v clause h = alone (clause_value v clause) h

-- ---- clauses that come

-- clauses that stay
pub retires_more : (added held more : List (List Lit)) (free asked : ℕ) → Retires added held free asked
    → Retires (added ++ more) (held ++ more) free asked
retires_more added held more free asked r = record {
  fewer = λ v h. let parts = both v added more h in together v held more (r.fewer v parts.0) parts.1;
  more = λ v h offs. let parts = both v held more h in together v added more (r.more v parts.0 offs) parts.1;
}

-- clauses that came behind others
pub behind : (front added more held : List (List Lit)) (free asked : ℕ) → Retires ((front ++ added) ++ more) held free asked
    → Retires (front ++ (added ++ more)) held free asked
behind front added more held free asked r = subst (λ cs. Retires cs held free asked) (append_assoc front added more) r
