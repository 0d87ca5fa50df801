-- Laws of answers, by what a search found.
use Rattle.std.proofs.Common.{◌≡◌, ℕ, Bool, true, false, eqb, List, [], ◌∷◌, ◌++◌, map, Option, Some, None, refl, ap, sym, subst, ◌∙◌, inl, inr}
use Rattle.std.specs.Option.{unwrap_or, option_map}
use Rattle.std.proofs.lemmas.Bool.{false≢true, cond-true, cond-false}
use Rattle.proof_semantics.specs.Clauses.{bool_eq, negation, literal_value, clause_value, cube_value, clauses_value, values_of, is_part}
use Rattle.proof_semantics.specs.declared.literals.Lit.{Lit}
use Rattle.proof_semantics.proofs.LiteralLaws.{bool_eq-true, bool_eq-same}
use Rattle.proof_semantics.proofs.Soundness.{hints_refute}
use Rattle.cnf.specs.Clauses.{clause_numbered}
use Rattle.cdcl_trail.specs.Trails.{Step, literals_of, step_of, value_of}
use Rattle.cdcl_trail.specs.Propagation.{is_value, is_true}
use Rattle.cdcl_trail.proofs.TrailLaws.{either}
use Rattle.proof_semantics.specs.Proofs.{Refutes}
use Rattle.cdcl_trail.proofs.PrefixLaws.{all_from}
use Rattle.cdcl_learn.specs.declared.learning.Learned.{Learned}
use Rattle.cdcl.specs.Asking.{assigned, IsCore, IsAsked}
use Rattle.cdcl.specs.declared.asking.Asked.{Asked}
use Rattle.cdcl.specs.declared.asking.Asked.TheVariants as asked
use Rattle.cdcl.specs.declared.asking.Refuted.{Refuted}
use Rattle.cdcl.specs.declared.asking.Refuted.TheVariants as refuted
use Rattle.cdcl.specs.declared.finding.Found.{Found}
use Rattle.cdcl.specs.declared.finding.Found.TheVariants.{Satisfied, Refused}
use Rattle.cdcl_log.specs.LoggedClauses.{LoggedClauses, added_of, IsLog}
use Rattle.cdcl.specs.Finding.{Satisfies, Refuses, IsSearchResult, IsAskedFrom, MayRefuse, IsRefutedFrom}
use Rattle.cdcl.specs.Refuting.{IsRefuted}
use Rattle.cdcl_log.specs.UnitClauses.{unit_clauses}
use Rattle.cdcl.proofs.UnitLaws.{model_of_units}
use Rattle.cdcl.specs.Searching.{AreTrue}
use Rattle.cdcl.specs.Solving.{IsModel, HasNoModel}
use Rattle.cdcl_log.proofs.LoggedLaws.{numbered_true}
use Rattle.cdcl.proofs.ProgressLaws.{added_all}
use Rattle.cdcl.proofs.SearchLaws.{model_holds}
use Rattle.cdcl_learn.proofs.LiteralTraceLaws.{true_stands}
use Rattle.cdcl.proofs.RefusalLaws.{part_negations, core_holds}

-- the assignment gives each variable its value on the trail
pub assigned_is : (steps : List Step) (n : ℕ) → unwrap_or (value_of steps n) false ≡ assigned (literals_of steps) n
assigned_is [] n = refl
assigned_is (x ∷ steps) n =
    elim (either (eqb x.literal.var n)) [
      | inl here ↦
          ap (λ o. unwrap_or (option_map (λ (s : Step). s.literal.positive) o) false) (cond-true (eqb x.literal.var n) (Some x) (step_of steps n) here)
          ∙ sym (cond-true (eqb x.literal.var n) x.literal.positive (assigned (literals_of steps) n) here)
      | inr differs ↦
          ap (λ o. unwrap_or (option_map (λ (s : Step). s.literal.positive) o) false) (cond-false (eqb x.literal.var n) (Some x) (step_of steps n) differs)
          ∙ assigned_is steps n
          ∙ sym (cond-false (eqb x.literal.var n) x.literal.positive (assigned (literals_of steps) n) differs)
    ]

valued : (o : Option Bool) (b : Bool) → is_value o b ≡ true → bool_eq b (unwrap_or o false) ≡ true
valued None b e = absurd (false≢true e)
valued (Some x) b e = ap (bool_eq b) (bool_eq-true x b e) ∙ bool_eq-same b

-- what is true on the trail is true under it
assigned_true : (steps : List Step) (a : Lit) → is_true steps a ≡ true → literal_value (assigned (literals_of steps)) a ≡ true
assigned_true steps a e = ap (bool_eq a.positive) (sym (assigned_is steps a.var)) ∙ valued (value_of steps a.var) a.positive e

model_from : (logged : LoggedClauses) (added : List (List Lit)) (assumptions : List Lit) (steps : List Step) (v : ℕ → Bool) → added ≡ added_of logged
    → Satisfies logged.clauses assumptions steps → ((a : Lit) → is_true steps a ≡ true → literal_value v a ≡ true) → IsModel added assumptions v
model_from logged added assumptions steps v same s each = record {
  clauses = ap (clauses_value v) same ∙ added_all (clause_value v) logged.sources logged.clauses (model_holds v steps logged.clauses each s.clauses_true);
  assumed = all_from (literal_value v) assumptions (λ a has. each a (s.assumed a has));
}

-- The values of a list that makes the trail's literals true.
pub listed_model : (logged : LoggedClauses) (assumptions : List Lit) (steps : List Step) (values : List Bool) → Satisfies logged.clauses assumptions steps
    → AreTrue values (literals_of steps) → IsModel (added_of logged) assumptions (values_of values)
listed_model logged assumptions steps values s each =
    model_from logged (added_of logged) assumptions steps (values_of values) refl s (λ a e. each a (true_stands steps a e))

-- The values that the trail gives.
pub assigned_model : (logged : LoggedClauses) (added : List (List Lit)) (assumptions : List Lit) (steps : List Step) → added ≡ added_of logged
    → Satisfies logged.clauses assumptions steps → IsModel added assumptions (assigned (literals_of steps))
assigned_model logged added assumptions steps same s = model_from logged added assumptions steps (assigned (literals_of steps)) same s (assigned_true steps)

-- The negations of the clause that was found.
core_from : (logged : LoggedClauses) (added : List (List Lit)) (assumptions core : List Lit) (traced : Learned) → added ≡ added_of logged → IsLog logged
    → Refuses logged.clauses assumptions traced → core ≡ map negation traced.clause → IsCore added assumptions core
core_from logged added assumptions core traced same log r is =
    let part : is_part core assumptions ≡ true = ap (λ c. is_part c assumptions) is ∙ part_negations assumptions traced.clause r.among in
    let refused : HasNoModel added core = λ v model.
    hints_refute v (clause_numbered logged.clauses) (map negation traced.clause) traced.hints
    (numbered_true v logged.clauses (log.implied v (ap (clauses_value v) (sym same) ∙ model.clauses)))
    (ap (cube_value v) (sym is) ∙ model.assumed) r.hinted in
    record {
      among = part;
      refused = refused;
      no_model = λ v model. refused v (record { clauses = model.clauses; assumed = core_holds v assumptions core part model.assumed });
    }

-- What is told of a search is true.
pub asked_from : (logged : LoggedClauses) (added : List (List Lit)) (assumptions : List Lit) (steps : List Step) (found : Found) (answer : Asked) → added ≡ added_of logged → IsLog logged
    → IsSearchResult logged.clauses assumptions steps found → IsAskedFrom found answer → IsAsked added assumptions (literals_of steps) answer
asked_from logged added assumptions steps Satisfied asked.Sat same log is told = assigned_model logged added assumptions steps same is
asked_from logged added assumptions steps Satisfied (asked.Unsat core) same log is told = absurd told
asked_from logged added assumptions steps (Refused traced) asked.Sat same log is told = absurd told
asked_from logged added assumptions steps (Refused traced) (asked.Unsat core) same log is told = core_from logged added assumptions core.items traced same log is told

pub may_refuse : (clauses : List (List Lit)) (assumptions : List Lit) (steps : List Step) (found : Found) → IsSearchResult clauses assumptions steps found → MayRefuse clauses assumptions found
may_refuse clauses assumptions steps Satisfied is = tt
may_refuse clauses assumptions steps (Refused traced) is = is

pub refuted_from : (logged : LoggedClauses) (added : List (List Lit)) (units : List Lit) (steps : List Step) (found : Found) (answer : Refuted) → added ≡ added_of logged
    → IsSearchResult logged.clauses units steps found → IsRefutedFrom (added_of logged ++ unit_clauses units) found answer → IsRefuted added units (literals_of steps) answer
refuted_from logged added units steps Satisfied refuted.Sat same is told =
    model_of_units (assigned (literals_of steps)) added units (assigned_model logged added units steps same is)
refuted_from logged added units steps Satisfied (refuted.Unsat lines) same is told = absurd told
refuted_from logged added units steps (Refused traced) refuted.Sat same is told = absurd told
refuted_from logged added units steps (Refused traced) (refuted.Unsat lines) same is told = subst (λ cs. Refutes (cs ++ unit_clauses units) lines) (sym same) told
