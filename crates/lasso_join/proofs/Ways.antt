-- Runs that lead from one state to another, one behind the other.
use Rattle.std.proofs.Common.{◌≡◌, ℕ, zero, suc, Bool, List, [], ◌∷◌, ◌++◌, length, refl, sym, subst, Some, slice_get, arith}
use Rattle.aig_semantics.specs.declared.traces.Position.{Position}
use Rattle.aig_semantics.specs.Circuits.{Circuit}
use Rattle.aig_semantics.specs.Runs.{successor, MeetsConstraints}
use Rattle.lasso_join.specs.Fitting.{end_of, LeadsTo}

pub leads-none : (c : Circuit) (s : List Bool) → LeadsTo c s s []
leads-none c s = record { is_run = tt; starts = tt; ends = refl }

-- a position leads from its state to its successor
pub leads-on : (c : Circuit) (p : Position) (t : List Bool) (xs : List Position)
    → MeetsConstraints c p → LeadsTo c (successor c p) t xs → LeadsTo c p.latches t (p ∷ xs)
leads-on c p t xs possible h = record { is_run = (possible, h.starts, h.is_run); starts = refl; ends = h.ends }

pub leads-through : (c : Circuit) (s t u : List Bool) (xs ys : List Position)
    → LeadsTo c s t xs → LeadsTo c t u ys → LeadsTo c s u (xs ++ ys)
leads-through c s t u [] ys h k = subst (λ v. LeadsTo c v u ys) (sym h.ends) k
leads-through c s t u (p ∷ xs) ys h k =
    let later : LeadsTo c (successor c p) t xs = record { is_run = h.is_run.2; starts = h.is_run.1; ends = h.ends } in
    let rest = leads-through c (successor c p) t u xs ys later k in
    record { is_run = (h.is_run.0, rest.starts, rest.is_run); starts = h.starts; ends = rest.ends }

-- the last position
pub last-at : (c : Circuit) (s : List Bool) (run : List Position) (k : ℕ) → suc k ≡ length run
    → (last : Position) × (slice_get run k ≡ Some last) × (end_of c s run ≡ successor c last)
last-at c s [] k e = absurd (omega arith)
last-at c s (p ∷ []) zero e = (p, refl, refl)
last-at c s (p ∷ []) (suc k) e = absurd (omega arith)
last-at c s (p ∷ q ∷ run) zero e = absurd (omega arith)
last-at c s (p ∷ q ∷ run) (suc k) e = last-at c (successor c p) (q ∷ run) k (omega arith)
