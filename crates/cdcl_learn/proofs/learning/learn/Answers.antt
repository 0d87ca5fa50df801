use Rattle.std.proofs.Common.{◌≡◌, false, true, List, Result, Ok, Err}
use Rattle.proof_semantics.specs.Clauses.{is_subsumed}
use Rattle.std.specs.Prelude.{IfOk}
use Rattle.cdcl_learn.specs.Walking.{IsLearned}
use Rattle.cdcl_learn.specs.declared.learning.Learned.{Learned}
use Rattle.cdcl_trail.specs.Trails.{Step, lower_steps}
use Rattle.cdcl_trail.specs.Propagation.{is_complete}
use Rattle.proof_semantics.specs.declared.literals.Lit.{Lit}
use Rattle.cdcl_learn.proofs.WalkLaws.{contains_none}
use Rattle.cdcl_learn.proofs.learning.learn.Goals as goal

new_here : {E : Type 0} (result : Result Learned E) (clauses held : List (List Lit)) (steps : List Step) → clauses ≡ held → is_complete held (lower_steps steps) ≡ true
    → IfOk result (λ learned. IsLearned clauses steps learned.clause learned.hints) → IfOk result (λ learned. is_subsumed held learned.clause ≡ false)
new_here (Ok learned) clauses held steps same complete is =
    contains_none (lower_steps steps) held learned.clause is.last_level complete
new_here (Err e) clauses held steps same complete is = is

pub returns-clause-new : goal.returns-clause-new
returns-clause-new c =
    new_here c.walk.result c.as_slice.result.now c.args.db.now.clauses c.args.trail.now.steps c.as_slice.ensures c.requires.complete c.walk.ensures
