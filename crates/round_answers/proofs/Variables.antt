-- The latches of monitors.
use Rattle.std.proofs.Common.{◌≡◌, ◌≤◌, ◌+◌, ◌∙◌, ℕ, ap, length, length-append, arith}
use Rattle.std.specs.List.{range_with_len}
use Rattle.std.proofs.lemmas.List.{length-map}
use Rattle.std.proofs.lemmas.List.FromFn.{length-range_with_len}
use Rattle.aig_semantics.specs.Circuits.{Circuit}
use Rattle.live_to_safe.specs.Watching.{numbered}
use Rattle.round_monitor.specs.Numbers.{sizes_of}
use Rattle.round_monitor.specs.Watching.{seen_latch, counter_latch, new_latches}
use Rattle.round_monitor.specs.Monitor.{monitor_circuit}

some_of : (all before seen counted k : ℕ) → all ≡ before + (seen + counted) → counted ≡ k → 1 ≤ k → 1 ≤ all
some_of all before seen counted k whole same some = omega (arith, whole, same, some)

-- a monitor has counters
pub has_latch : (c : Circuit) (n k : ℕ) → 1 ≤ k → 1 ≤ length (monitor_circuit c n k).latches
has_latch c n k some =
    let z = sizes_of c n k in
    let watching : ℕ = length (numbered (seen_latch z) 0 z.literals) in
    let counting : ℕ = length (numbered (counter_latch z) 0 z.counters) in
    some_of (length (monitor_circuit c n k).latches) (length c.latches) watching counting k
    (length-append c.latches (new_latches z)
    ∙ ap (λ (m : ℕ). length c.latches + m) (length-append (numbered (seen_latch z) 0 z.literals) (numbered (counter_latch z) 0 z.counters)))
    (length-map (range_with_len 0 k) (counter_latch z) ∙ length-range_with_len 0 k) some
