-- Steps that are kept for lemmas.
use Rattle.std.proofs.Common.{◌≡◌, Bool, true, false, cond, List, Option, Some, IfSome, ◌⊎◌, sym, subst, inl, inr, ◌∙◌}
use Rattle.std.proofs.lemmas.Bool.{cases_Bool}
use Rattle.indexmap.specs.IndexMap.{IndexMap, get}
use Rattle.aig_semantics.specs.declared.traces.Position.{Position}
use Rattle.proof_semantics.specs.declared.literals.Lit.{Lit}
use Rattle.ic3_frames.specs.Frames.{same_clause}
use Rattle.ic3_frames.proofs.Times.{same-is}
use Rattle.ic3_semantics.specs.Searching.{Question}
use Rattle.ic3_frames.specs.Witnessing.{Breaks, EachBreaks}

-- one step more
pub breaks_more : {S : Type 0} (q : Question) (old new : IndexMap (List Lit) Position S) (lemma : List Lit) (step : Position)
    → ((other : List Lit) → get same_clause new other ≡ cond (same_clause lemma other) (Some step) (get same_clause old other))
    → EachBreaks q old → Breaks q lemma step → EachBreaks q new
breaks_more q old new lemma step is each breaks other =
    subst (λ found. IfSome found (Breaks q other)) (sym (is other)) (at_key (cases_Bool (same_clause lemma other)))
  where
    at_key : (same_clause lemma other ≡ true) ⊎ (same_clause lemma other ≡ false)
        → IfSome (cond (same_clause lemma other) (Some step) (get same_clause old other)) (Breaks q other)
    at_key (inl same) = rw same (subst (λ c. Breaks q c step) (same-is lemma other same) breaks)
    at_key (inr apart) = rw apart (each other)

-- the step that is found of a lemma
pub breaks_found : (q : Question) (lemma : List Lit) (found : Option Position) (step : Position) → found ≡ Some step
    → IfSome found (Breaks q lemma) → Breaks q lemma step
breaks_found q lemma found step is breaks = subst (λ o. IfSome o (Breaks q lemma)) is breaks
