-- A lemma that is left out, since a later one implies it.
use Rattle.std.proofs.Common.{◌≡◌, ℕ, zero, suc, ◌+◌, ◌<◌, ◌≤◌, ◌&&◌, ◌||◌, List, [], ◌∷◌, length, drop, get_or, refl, ap, ◌∙◌, inl, inr, Bool, true, false, arith, nat_lt}
use Rattle.std.specs.Prelude.{nat_le}
use Rattle.std.specs.List.{list_all}
use Rattle.std.proofs.lemmas.Bool.{false≢true, and_parts, and_from, or_cases, ltb-true, leb-true, lt-ltb}
use Rattle.proof_semantics.specs.Clauses.{clause_value, values_of, is_part}
use Rattle.ic3_semantics.specs.declared.lemmas.Lemma.{Lemma}
use Rattle.ic3_frames.specs.Implying.{IsImpliedBehind}
use Rattle.ic3_frames.proofs.Meaning.{part-implies}

or_first : (a b : Bool) → a ≡ true → (a || b) ≡ true
or_first true b h = refl
or_first false b h = absurd (false≢true h)

or_second : (a b : Bool) → b ≡ true → (a || b) ≡ true
or_second true b h = refl
or_second false b h = h

-- where the one of a higher level whose literals are among those of the other is met
met_by : (lemma other : Lemma) (level : ℕ) (state : List Bool) → nat_le lemma.level other.level ≡ true
    → is_part other.clause lemma.clause ≡ true
    → (nat_lt other.level level || clause_value (values_of state) other.clause) ≡ true
    → (nat_lt lemma.level level || clause_value (values_of state) lemma.clause) ≡ true
met_by lemma other level state high part met =
    elim (or_cases (nat_lt other.level level) (clause_value (values_of state) other.clause) met) [
      | inl lower ↦
          let a : lemma.level ≤ other.level = leb-true lemma.level other.level high in
          let b : other.level < level = ltb-true other.level level lower in
          or_first (nat_lt lemma.level level) (clause_value (values_of state) lemma.clause) (lt-ltb lemma.level level (omega arith))
      | inr there ↦
          or_second (nat_lt lemma.level level) (clause_value (values_of state) lemma.clause)
          (part-implies (values_of state) other.clause lemma.clause part there)
    ]

all_at : (f : Lemma → Bool) (lemmas : List Lemma) (i : ℕ) (d : Lemma) → i < length lemmas → list_all f lemmas ≡ true
    → f (get_or lemmas i d) ≡ true
all_at f [] i d below h = absurd (omega arith)
all_at f (lemma ∷ lemmas) zero d below h = (and_parts (f lemma) (list_all f lemmas) h).0
all_at f (lemma ∷ lemmas) (suc i) d below h =
    all_at f lemmas i d (omega arith) (and_parts (f lemma) (list_all f lemmas) h).1

all_behind : (f : Lemma → Bool) (lemmas : List Lemma) (n i : ℕ) (d : Lemma) → n ≤ i → i < length lemmas
    → list_all f (drop n lemmas) ≡ true → f (get_or lemmas i d) ≡ true
all_behind f lemmas zero i d from below h = all_at f lemmas i d below h
all_behind f [] (suc n) i d from below h = absurd (omega arith)
all_behind f (lemma ∷ lemmas) (suc n) zero d from below h = absurd (omega arith)
all_behind f (lemma ∷ lemmas) (suc n) (suc i) d from below h = all_behind f lemmas n i d (omega arith) (omega arith) h

pub implied_behind : (lemmas : List Lemma) (place other : ℕ) (lemma by : Lemma) → place < other → other < length lemmas
    → by ≡ get_or lemmas other by → (nat_le lemma.level by.level && is_part by.clause lemma.clause) ≡ true
    → IsImpliedBehind lemmas place lemma
implied_behind lemmas place other lemma by behind below is h = λ level state met.
    let f : Lemma → Bool = λ x. nat_lt x.level level || clause_value (values_of state) x.clause in
    let parts = and_parts (nat_le lemma.level by.level) (is_part by.clause lemma.clause) h in
    let there : f by ≡ true = ap f is ∙ all_behind f lemmas (place + 1) other by (omega arith) below met in
    and_from (f lemma) true (met_by lemma by level state parts.0 parts.1 there) refl
