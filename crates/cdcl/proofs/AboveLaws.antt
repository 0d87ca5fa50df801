-- Laws of the literals above a level.
use Rattle.std.proofs.Common.{◌≡◌, ℕ, ◌+◌, ◌-◌, ◌<◌, ◌≤◌, false, zero, suc, List, [], ◌∷◌, ◌++◌, length, get_or, take, drop, None, ap, sym, ◌∙◌, arith}
use Rattle.std.proofs.lemmas.List.{take_more, take_all, take-append-drop, take-map, get_or-map, length-drop}
use Rattle.proof_semantics.specs.declared.literals.Lit.{Lit}
use Rattle.cdcl_trail.specs.Trails.{Step, opened_by, literals_of, reasons_in, level, up_to_level}
use Rattle.cdcl_trail.proofs.TrailLaws.{level_push, opened_small, cut_last, cut_nothing}

no_step_here : Step
no_step_here = record { literal = record { var = 0; positive = false }; reason = None }

-- The search back has come to a place: what is before it has this level, and is cut at the target as all is.
pub record IsAbove (target : ℕ) (steps : List Step) (levels place : ℕ) : Type 0 where
  pub within : place ≤ length steps
  pub depth : levels ≡ level (take place steps)
  pub same : up_to_level target (take place steps) ≡ up_to_level target steps

-- one more step back
pub above_more : (target : ℕ) (steps : List Step) (levels place earlier next : ℕ) → IsAbove target steps levels place → place ≡ earlier + 1 → target < levels
    → levels ≡ next + opened_by (get_or (reasons_in steps) earlier None) → IsAbove target steps next earlier
above_more target steps levels place earlier next now is above left =
    let below : earlier < length steps = omega (arith, is, now.within) in
    let s = get_or steps earlier no_step_here in
    let cut : take place steps ≡ take earlier steps ++ s ∷ [] = ap (λ n. take n steps) is ∙ take_more steps earlier no_step_here below in
    let reason : get_or (reasons_in steps) earlier None ≡ s.reason = get_or-map (λ (t : Step). t.reason) steps earlier no_step_here None below in
    let deep : levels ≡ level (take earlier steps) + opened_by s.reason = now.depth ∙ ap level cut ∙ level_push (take earlier steps) s in
    record {
      within = omega (arith, below);
      depth = omega (arith, deep, left, ap opened_by reason);
      same = sym (cut_last target (take earlier steps) s (omega (arith, above, now.depth, ap level cut))) ∙ ap (up_to_level target) (sym cut) ∙ now.same;
    }

pub above_ends : (target : ℕ) (steps : List Step) (levels place : ℕ) (lits : List Lit) → IsAbove target steps levels place → levels ≤ target → lits ≡ literals_of steps
    → literals_of (up_to_level target steps) ++ take (length lits - place) (drop place lits) ≡ literals_of steps
above_ends target steps levels place lits now within is =
    ap (λ xs. literals_of (up_to_level target steps) ++ xs) (take_all (length lits - place) (drop place lits) (omega (arith, length-drop place lits)))
    ∙ ap (λ xs. literals_of xs ++ drop place lits) (sym now.same ∙ cut_nothing target (take place steps) (omega (arith, within, now.depth)))
    ∙ ap (λ xs. literals_of (take place steps) ++ drop place xs) is
    ∙ ap (λ xs. xs ++ drop place (literals_of steps)) (sym (take-map (λ (t : Step). t.literal) place steps))
    ∙ take-append-drop place (literals_of steps)

level_take : (n : ℕ) (xs : List Step) → level (take n xs) ≤ n
level_take zero [] = omega arith
level_take zero (x ∷ xs) = omega arith
level_take (suc n) [] = omega arith
level_take (suc n) (x ∷ xs) = omega (arith, level_take n xs, opened_small x.reason)

pub below_place : (target : ℕ) (steps : List Step) (levels place : ℕ) → IsAbove target steps levels place → target < levels → 0 < place
below_place target steps levels place now above = omega (arith, above, now.depth, level_take place steps)

-- what a place opens is a part of the level
pub opens_part : (target : ℕ) (steps : List Step) (levels place earlier : ℕ) → IsAbove target steps levels place → place ≡ earlier + 1
    → opened_by (get_or (reasons_in steps) earlier None) ≤ levels
opens_part target steps levels place earlier now is =
    let below : earlier < length steps = omega (arith, is, now.within) in
    let s = get_or steps earlier no_step_here in
    let cut : take place steps ≡ take earlier steps ++ s ∷ [] = ap (λ n. take n steps) is ∙ take_more steps earlier no_step_here below in
    let reason : get_or (reasons_in steps) earlier None ≡ s.reason = get_or-map (λ (t : Step). t.reason) steps earlier no_step_here None below in
    omega (arith, now.depth, ap level cut, level_push (take earlier steps) s, ap opened_by reason)
