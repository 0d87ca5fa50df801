-- Clauses in two parts are all true where both parts are.
use Rattle.std.proofs.Common.{◌≡◌, ℕ, ◌+◌, Bool, true, false, ◌&&◌, List, [], ◌∷◌, ◌++◌, refl, sym, ap, ◌∙◌, add-one}
use Rattle.std.proofs.lemmas.Bool.{and_parts}
use Rattle.std.proofs.lemmas.List.Folds.{list_all-append}
use Rattle.aig_semantics.specs.Circuits.{Circuit, fair_literals}
use Rattle.proof_semantics.specs.declared.literals.Lit.{Lit}
use Rattle.proof_semantics.specs.Clauses.{clause_value, clauses_value}
use Rattle.cdcl.specs.Asking.{assigned, IsAsked}
use Rattle.cdcl.specs.Solving.{HasNoModel}
use Rattle.cdcl.specs.declared.asking.Asked.{Asked}
use Rattle.cdcl.specs.declared.asking.Asked.TheVariants.{Sat, Unsat}
use Rattle.lasso_clauses.specs.Clauses.{position_clauses, positions_clauses}
use Rattle.lasso_bmc.specs.declared.deepening.Deepening.{Deepening}
use Rattle.lasso_bmc.specs.Growing.{IsGrown, IsCompleted}

-- ---- the clauses of a position, one by one

one_by_one : (a x i b : Bool) → (a && x) ≡ b → (a && (x && i)) ≡ (b && i)
one_by_one true x i b e = ap (λ y. y && i) e
one_by_one false x i b e = ap (λ y. y && i) e

pub part_next : (all : Bool) (v : ℕ → Bool) (taken rest taken_new rest_new left next : List (List Lit)) (clause : List Lit)
    → left ≡ clause ∷ next
    → ((clauses_value v taken && clauses_value v rest) && clause_value v clause) ≡ (clauses_value v taken_new && clauses_value v rest_new)
    → all ≡ ((clauses_value v taken && clauses_value v rest) && clauses_value v left)
    → all ≡ ((clauses_value v taken_new && clauses_value v rest_new) && clauses_value v next)
part_next all v taken rest taken_new rest_new left next clause e put before =
    before ∙ ap (λ xs. (clauses_value v taken && clauses_value v rest) && clauses_value v xs) e
    ∙ one_by_one (clauses_value v taken && clauses_value v rest) (clause_value v clause) (clauses_value v next) (clauses_value v taken_new && clauses_value v rest_new) put

and_true : (a : Bool) → (a && true) ≡ a
and_true true = refl
and_true false = refl

pub part_end : (all a : Bool) (v : ℕ → Bool) (left : List (List Lit)) → left ≡ [] → all ≡ (a && clauses_value v left) → all ≡ a
part_end all a v left e before = before ∙ ap (λ xs. a && clauses_value v xs) e ∙ and_true a

-- ---- the clauses of a position

behind : (s r c t q : Bool) → (r && c) ≡ (t && q) → ((s && r) && c) ≡ ((s && t) && q)
behind true r c t q e = e
behind false r c t q e = refl

pub added_more : (v : ℕ → Bool) (added more taken rest left clauses : List (List Lit)) → more ≡ added ++ taken
    → (clauses_value v rest && clauses_value v clauses) ≡ (clauses_value v taken && clauses_value v left)
    → ((clauses_value v added && clauses_value v rest) && clauses_value v clauses) ≡ (clauses_value v more && clauses_value v left)
added_more v added more taken rest left clauses e parts =
    behind (clauses_value v added) (clauses_value v rest) (clauses_value v clauses) (clauses_value v taken) (clauses_value v left) parts
    ∙ ap (λ x. x && clauses_value v left) (sym (list_all-append (clause_value v) added taken) ∙ ap (clauses_value v) (sym e))

pub grown_more : (c : Circuit) (literals : List ℕ) (k : ℕ) (v : ℕ → Bool) (parts now : Bool) (clauses : List (List Lit))
    → clauses_value v (positions_clauses c literals k) ≡ parts → clauses ≡ position_clauses c literals k
    → (parts && clauses_value v clauses) ≡ now → clauses_value v (positions_clauses c literals (k + 1)) ≡ now
grown_more c literals k v parts now clauses before is after =
    ap (λ n. clauses_value v (positions_clauses c literals n)) (add-one k)
    ∙ list_all-append (clause_value v) (positions_clauses c literals k) (position_clauses c literals k)
    ∙ ap (λ x. x && clauses_value v (position_clauses c literals k)) before
    ∙ ap (λ xs. parts && clauses_value v xs) (sym is)
    ∙ after

-- ---- a part, and both

pub part_of : (c : Circuit) (j k : ℕ) (d : Deepening) → IsGrown c j d → d.positions ≡ k → (v : ℕ → Bool)
    → clauses_value v (positions_clauses c (fair_literals c j) k) ≡ true → clauses_value v d.solver.added ≡ true
part_of c j k d grown e v all =
    (and_parts (clauses_value v d.solver.added) (clauses_value v d.rest.items)
    (sym (grown v) ∙ ap (λ n. clauses_value v (positions_clauses c (fair_literals c j) n)) e ∙ all)).0

-- the solver has all
pub whole : (c : Circuit) (j k : ℕ) (old new : Deepening) → IsGrown c j old → IsCompleted old new → old.positions ≡ k → (v : ℕ → Bool)
    → clauses_value v (positions_clauses c (fair_literals c j) k) ≡ clauses_value v new.solver.added
whole c j k old new grown all e v =
    ap (λ n. clauses_value v (positions_clauses c (fair_literals c j) n)) (sym e) ∙ grown v
    ∙ sym (list_all-append (clause_value v) old.solver.added old.rest.items) ∙ ap (clauses_value v) (sym all.added)

pub grown_whole : (all added rest : List (List Lit)) (v : ℕ → Bool) → clauses_value v all ≡ clauses_value v added
    → rest ≡ [] → clauses_value v all ≡ (clauses_value v added && clauses_value v rest)
grown_whole all added rest v same e =
    same ∙ sym (and_true (clauses_value v added)) ∙ ap (λ xs. clauses_value v added && clauses_value v xs) (sym e)

-- ---- answers of a part

pub none_of_part : (all added : List (List Lit)) (assumptions : List Lit)
    → ((v : ℕ → Bool) → clauses_value v all ≡ true → clauses_value v added ≡ true) → HasNoModel added assumptions → HasNoModel all assumptions
none_of_part all added assumptions part none = λ v model. none v (record { clauses = part v model.clauses; assumed = model.assumed })

pub answer_of_all : (all added : List (List Lit)) (assumptions values : List Lit) (answer : Asked)
    → ((v : ℕ → Bool) → clauses_value v all ≡ clauses_value v added) → IsAsked added assumptions values answer → IsAsked all assumptions values answer
answer_of_all all added assumptions values Sat same model =
    record { clauses = same (assigned values) ∙ model.clauses; assumed = model.assumed }
answer_of_all all added assumptions values (Unsat core) same is = record {
  among = is.among;
  refused = none_of_part all added core.items (λ v h. sym (same v) ∙ h) is.refused;
  no_model = none_of_part all added assumptions (λ v h. sym (same v) ∙ h) is.no_model;
}
