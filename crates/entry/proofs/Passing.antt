-- The lines of a proof that passed, by a line at a time.
use Rattle.std.proofs.Common.{◌≡◌, ℕ, zero, suc, ◌+◌, ◌<◌, ◌≤◌, List, [], ◌∷◌, length, get_or, take, drop, refl, sym, ap, subst, ◌∙◌, Option, Ok, add-one, arith}
use Rattle.std.proofs.Math.Seq.{take-suc}
use Rattle.std.proofs.lemmas.List.{take_all}
use Rattle.proof_semantics.specs.declared.faults.LratFault.{LratFault}
use Rattle.proof_semantics.specs.Proofs.{ProofState, judge, judge_all}
use Rattle.proof_semantics.proofs.Soundness.{judge_push}
use Rattle.entry.specs.Faults.{line_fault, fault_from}

pub passed_more : (s t u : ProofState) (lines : List (List ℕ)) (k : ℕ) (line : List ℕ) → k < length lines → line ≡ get_or lines k line
    → judge t line ≡ Ok u → judge_all s (take k lines) ≡ Ok t → judge_all s (take (k + 1) lines) ≡ Ok u
passed_more s t u lines k line below at f e =
    ap (λ n. judge_all s (take n lines)) (add-one k)
    ∙ ap (λ front. judge_all s front) (take-suc lines k line below)
    ∙ judge_push s t u (take k lines) (get_or lines k line) e (ap (λ x. judge t x) (sym at) ∙ f)

pub passed_whole : (s t : ProofState) (lines : List (List ℕ)) (k : ℕ) → length lines ≤ k → judge_all s (take k lines) ≡ Ok t
    → judge_all s (take (length lines) lines) ≡ Ok t
passed_whole s t lines k past e =
    ap (λ front. judge_all s front) (take_all (length lines) lines (omega arith) ∙ sym (take_all k lines past)) ∙ e

fault_at : (k n : ℕ) (s : ProofState) (lines : List (List ℕ)) (d : List ℕ) → k < length lines
    → fault_from n s (drop k lines) ≡ line_fault n (judge s (get_or lines k d)) (λ t. fault_from (n + 1) t (drop (suc k) lines))
fault_at k n s [] d below = absurd (omega arith)
fault_at zero n s (line ∷ lines) d below = refl
fault_at (suc k) n s (line ∷ lines) d below = fault_at k n s lines d (omega arith)

-- the first fault is among the lines behind one that passed
pub fault_more : (s t : ProofState) (lines : List (List ℕ)) (k : ℕ) (line : List ℕ) (whole : Option (ℕ × LratFault)) → k < length lines
    → line ≡ get_or lines k line → judge s line ≡ Ok t → fault_from k s (drop k lines) ≡ whole → fault_from (k + 1) t (drop (k + 1) lines) ≡ whole
fault_more s t lines k line whole below at f h =
    let passes : judge s (get_or lines k line) ≡ Ok t = ap (λ x. judge s x) (sym at) ∙ f in
    let rest : fault_from (k + 1) t (drop (suc k) lines) ≡ whole =
    sym (ap (λ r. line_fault k r (λ u. fault_from (k + 1) u (drop (suc k) lines))) passes) ∙ sym (fault_at k k s lines line below) ∙ h
    in
    let next : suc k ≡ k + 1 = omega arith in
    subst (λ n. fault_from (k + 1) t (drop n lines) ≡ whole) next rest
