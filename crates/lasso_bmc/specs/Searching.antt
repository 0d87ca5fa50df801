-- What a bounded search for lassos answers (bounded model checking: Biere, Cimatti, Clarke, Zhu, 1999).
use Rattle.std.specs.Prelude.{ℕ, ◌<◌, ◌≤◌, List, length}
use Rattle.aig_semantics.specs.declared.traces.Lasso.{Lasso}
use Rattle.aig_semantics.specs.declared.traces.Position.{Position}
use Rattle.aig_semantics.specs.Circuits.{Circuit}
use Rattle.aig_semantics.specs.Runs.{IsFairLasso}
use Rattle.aig_semantics.specs.Stimuli.{IsFairLassoOf}
use Rattle.edge.specs.Units.{Spendings}
use Rattle.edge.specs.Ends.{IsEnd}
use Rattle.edge.specs.declared.solve_end.SolveEnd.TheVariants as solving
use Rattle.lasso_bmc.specs.declared.ends.Searched.{Searched}
use Rattle.lasso_bmc.specs.declared.ends.Searched.TheVariants.{Found, NoneWithin}
use Rattle.lasso_bmc.specs.declared.ends.SearchEnd.{SearchEnd}
use Rattle.lasso_bmc.specs.declared.ends.SearchEnd.TheVariants.{Spent, Memory}

-- no fair lasso of property j has at most n positions
abbrev pub HasNoneWithin : Circuit → ℕ → ℕ → Type 0
HasNoneWithin c j n = (run : List Position) (from : ℕ) → IsFairLasso c j run from → length run ≤ n → ⊥

-- A fair lasso of property j, and none has fewer positions.
pub record IsShortest (c : Circuit) (j : ℕ) (lasso : Lasso) : Type 0 where
  pub fair : IsFairLassoOf c j lasso
  pub fewest : (run : List Position) (from : ℕ) → IsFairLasso c j run from → length lasso.inputs ≤ length run

-- What is answered where lassos of up to so many positions are asked for: one of the shortest, or that there is none.
abbrev pub IsSearched : Circuit → ℕ → ℕ → Searched → Type 0
IsSearched c j depth (Found lasso) = IsShortest c j lasso × (length lasso.inputs ≤ depth)
IsSearched c j depth NoneWithin = HasNoneWithin c j depth

-- Why a search from one length on up to another answers nothing: the count of conflicts equals its limit, and no fair
-- lasso has at most so many positions, which are at least those that were done, and fewer than were asked for.
abbrev pub IsSearchEnd : Circuit → ℕ → ℕ → ℕ → Spendings → SearchEnd → Type 0
IsSearchEnd c j done depth meter (Spent spent most) =
    IsEnd meter (solving.Spent spent) × HasNoneWithin c j most × (done ≤ most) × (most < depth)
IsSearchEnd c j done depth meter Memory = Unit {0}
