-- The positions of a lasso whose loop goes on.
use Rattle.std.proofs.Common.{◌≡◌, ℕ, zero, suc, ◌-◌, Bool, List, [], ◌∷◌, ◌++◌, length, drop, sym, ap, ◌∙◌, Some, slice_get, arith}
use Rattle.aig_semantics.specs.Circuits.{Circuit}
use Rattle.aig_semantics.specs.declared.traces.Position.{Position}
use Rattle.aig_semantics.specs.Runs.{position_of, successor}
use Rattle.aig_semantics.specs.Stimuli.{simulated, state_after}
use Rattle.waves.specs.Laws.{LoopsAreUnrolled}
use Rattle.waves.proofs.Lines.{simulated_append, length_simulated}

same_position : (p q : Position) → ◌≡◌ {A = _} (Some p) (Some q) → p ≡ q
same_position p q e = cc

-- from a position on, a run is laid out from its latches
pub run_from : (c : Circuit) (k : ℕ) (s : List Bool) (xs : List (List Bool)) (p : Position) → slice_get (simulated c s xs) k ≡ Some p
    → drop k (simulated c s xs) ≡ simulated c p.latches (drop k xs)
unfolding simulated
run_from c k s [] p e = absurd (cc e)
run_from c zero s (now ∷ xs) p e = ap (λ (q : Position). simulated c q.latches (now ∷ xs)) (same_position (position_of s now) p e)
run_from c (suc k) s (now ∷ xs) p e = run_from c k (successor c (position_of s now)) xs p e

-- the last position's successor is the state after the run
pub last_successor : (c : Circuit) (n : ℕ) (s : List Bool) (xs : List (List Bool)) (p : Position) → length xs ≡ suc n → slice_get (simulated c s xs) n ≡ Some p
    → successor c p ≡ state_after c s xs
unfolding simulated state_after
last_successor c n s [] p many e = absurd (omega (arith, many))
last_successor c zero s (now ∷ []) p many e = ap (successor c) (sym (same_position (position_of s now) p e))
last_successor c zero s (now ∷ later ∷ xs) p many e = absurd (omega (arith, many))
last_successor c (suc n) s (now ∷ xs) p many e = last_successor c n (successor c (position_of s now)) xs p (omega (arith, many)) e

pub loops_are_unrolled : LoopsAreUnrolled
loops_are_unrolled c j lasso h =
    let xs = lasso.inputs in
    let run : List Position = simulated c lasso.start xs in
    let many : length run ≡ length xs = length_simulated c lasso.start xs in
    let n : ℕ = length run - 1 in
    let after : successor c h.closes.last ≡ state_after c lasso.start xs =
    last_successor c n lasso.start xs h.closes.last (omega (arith, many, h.inside)) h.closes.is_last in
    let back : state_after c lasso.start xs ≡ h.closes.first.latches = sym after ∙ h.closes.closes in
    simulated_append c lasso.start xs (drop lasso.from xs)
    ∙ ap (λ (r : List Position). run ++ r)
    (ap (λ (s : List Bool). simulated c s (drop lasso.from xs)) back ∙ sym (run_from c lasso.from lasso.start xs h.closes.first h.closes.is_first))
