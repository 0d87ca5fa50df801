-- Laws of clauses that are added one after another.
use Rattle.std.proofs.Common.{◌≡◌, List, [], ◌∷◌, ◌++◌, ap, sym, ◌∙◌, append_assoc}
use Rattle.std.proofs.lemmas.List.{append_cancel_left}
use Rattle.proof_semantics.specs.declared.literals.Lit.{Lit}
use Rattle.cdcl.specs.Adding.{AddsFirst}

-- one clause more, where the rest is still to come
pub adds_more : (clauses old now next : List (List Lit)) (c : List Lit) (rest : List (List Lit)) → AddsFirst clauses old now → next ≡ now ++ c ∷ []
    → next ++ rest ≡ old ++ clauses → AddsFirst clauses old next
adds_more clauses old now next c rest before more all =
    let first = before.first ++ c ∷ [] in
    let behind : next ≡ old ++ first = more ∙ ap (λ xs. xs ++ c ∷ []) before.behind ∙ append_assoc old before.first (c ∷ []) in
    record {
      first = first;
      rest = rest;
      parts = append_cancel_left old clauses (first ++ rest) (sym all ∙ ap (λ xs. xs ++ rest) behind ∙ append_assoc old first rest);
      behind = behind;
    }
