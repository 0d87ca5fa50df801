-- The list of one literal is sized where its number is.
use Rattle.std.proofs.Common.{◌≡◌, ◌^◌, ◌<◌, true, [], ◌∷◌, nat_eq, arith}
use Rattle.std.proofs.lemmas.Bool.{and_parts, eqb-true}
use Rattle.proof_semantics.specs.Clauses.{lit_eq, bool_eq}
use Rattle.proof_semantics.specs.Lines.{AreSized}
use Rattle.proof_semantics.specs.declared.literals.Lit.{Lit}
use Rattle.lasso_clauses.proofs.Holding.{alone}

pub sized_one : (l : Lit) → 0 < l.var → l.var < 2 ^ 63 → AreSized (l ∷ [])
sized_one l some small a h =
    let same : a.var ≡ l.var = eqb-true a.var l.var (and_parts (nat_eq a.var l.var) (bool_eq a.positive l.positive) (alone (lit_eq a l) h)).0 in
    (omega arith, omega arith)
