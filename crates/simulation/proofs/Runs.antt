-- Initial runs that grow by one position.
use Rattle.std.proofs.Common.{Bool, List, [], ◌∷◌, ◌++◌}
use Rattle.aig_semantics.specs.declared.traces.Position.{Position}
use Rattle.aig_semantics.specs.Circuits.{Circuit}
use Rattle.aig_semantics.specs.Runs.{IsInitial, position_of, successor, MeetsConstraints}
use Rattle.lasso_join.specs.Fitting.{IsStemTo}
use Rattle.lasso_join.proofs.Ways.{leads-none, leads-on, leads-through}

-- a run of no position
pub empty_stem : (c : Circuit) (s : List Bool) → IsInitial c s → IsStemTo c s []
empty_stem c s initial = record { start = s; is_initial = initial; leads = leads-none c s }

-- one more position, of the state that the run leads to
pub longer_stem : (c : Circuit) (t inputs : List Bool) (run : List Position) → IsStemTo c t run → MeetsConstraints c (position_of t inputs)
    → IsStemTo c (successor c (position_of t inputs)) (run ++ position_of t inputs ∷ [])
longer_stem c t inputs run h possible =
    let p : Position = position_of t inputs in
    record {
      start = h.start;
      is_initial = h.is_initial;
      leads = leads-through c h.start t (successor c p) run (p ∷ []) h.leads (leads-on c p (successor c p) [] possible (leads-none c (successor c p)));
    }
