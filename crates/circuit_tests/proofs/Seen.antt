-- Steps by which the tests see that parts fit.
use Rattle.std.proofs.Common.{◌≡◌, ℕ, ◌+◌, ◌<◌, Bool, List, [], ◌∷◌, ◌++◌, length, take, get_or, sym, ap, ◌∙◌, subst}
use Rattle.std.proofs.lemmas.List.{take_more}
use Rattle.aig_semantics.specs.declared.traces.Position.{Position}
use Rattle.aig_semantics.specs.Circuits.{Circuit}
use Rattle.aig_semantics.specs.Runs.{successor, MeetsConstraints}
use Rattle.lasso_join.specs.Fitting.{LeadsTo}
use Rattle.lasso_join.proofs.Ways.{leads-none, leads-on, leads-through}

-- one position more
pub leads-more : (c : Circuit) (s now next : List Bool) (xs : List Position) (k : ℕ) (p : Position)
    → LeadsTo c s now (take k xs) → k < length xs → p ≡ get_or xs k p → p.latches ≡ now → MeetsConstraints c p → next ≡ successor c p
    → LeadsTo c s next (take (k + 1) xs)
leads-more c s now next xs k p h inside at same possible step =
    let one : LeadsTo c p.latches (successor c p) (p ∷ []) = leads-on c p (successor c p) [] possible (leads-none c (successor c p)) in
    let last : LeadsTo c now next (p ∷ []) = subst (λ t. LeadsTo c now t (p ∷ [])) (sym step) (subst (λ t. LeadsTo c t (successor c p) (p ∷ [])) same one) in
    let more : take k xs ++ p ∷ [] ≡ take (k + 1) xs = ap (λ q. take k xs ++ q ∷ []) at ∙ sym (take_more xs k p inside) in
    subst (LeadsTo c s next) more (leads-through c s now next (take k xs) (p ∷ []) h last)
