use Rattle.std.proofs.Common.{◌≡◌, refl, inl, inr}
use Rattle.ternary.specs.declared.values.Value3.TheVariants.{Zero, One, X}
use Rattle.ternary.proofs.worked_rows.completions.Goals as goal

pub returns-clause-either : goal.returns-clause-either
returns-clause-either c = (inl refl, (inl refl, (inr refl, tt)))

not_x : Zero ≡ X → ⊥
not_x e = cc

not_one : Zero ≡ One → ⊥
not_one e = cc

pub returns-clause-other : goal.returns-clause-other
returns-clause-other c = λ h. elim h.0 [
  | inl e ↦ not_x e
  | inr e ↦ not_one e
]

pub returns-clause-fewer : goal.returns-clause-fewer
returns-clause-fewer c = λ h. h.1
