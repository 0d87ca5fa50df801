-- A section, as its loop reads it: what was read before, and what is still read.
use Rattle.std.proofs.Common.{◌≡◌, ℕ, suc, ◌+◌, ◌-◌, ◌<◌, ◌≤◌, List, [], ◌∷◌, ◌++◌, Result, Ok, Err, refl, sym, ap, ◌∙◌, append_assoc, arith}
use Rattle.std.proofs.lemmas.List.{append-nil}
use Rattle.circuit.specs.declared.faults.ModelFault.{ModelFault}
use Rattle.circuit.specs.declared.faults.ModelEnd.{ModelEnd}
use Rattle.circuit.specs.declared.faults.ModelEnd.TheVariants as ends
use Rattle.aiger_grammar.specs.Answered.{FailsAs}
use Rattle.aiger_grammar.specs.Reading.{Reader, ◌>>=◌, many}

abbrev pub with_front : {A : Type 0} → List A → Result (List A × List ℕ) ModelFault → Result (List A × List ℕ) ModelFault
with_front front read = read >>= λ xs rest. Ok (front ++ xs, rest)

pub regroup : {A : Type 0} (front : List A) (x : A) (read : Result (List A × List ℕ) ModelFault) → with_front front (read >>= λ xs rest. Ok (x ∷ xs, rest)) ≡ with_front (front ++ x ∷ []) read
regroup front x (Ok y) = ap (λ xs. Ok (xs, y.1)) (simp append_assoc)
regroup front x (Err f) = refl

pub nothing_more : {A : Type 0} (front : List A) (bytes : List ℕ) → with_front front (Ok ([], bytes)) ≡ Ok (front, bytes)
nothing_more front bytes = ap (λ xs. Ok (xs, bytes)) (append-nil front)

pub goes_on : {A : Type 0} (read : ℕ → Reader A) (front : List A) (count i : ℕ) (bytes : List ℕ) (x : A) (after : List ℕ) (total : Result (List A × List ℕ) ModelFault) → i < count → read i bytes ≡ Ok (x, after)
    → with_front front (many read i (count - i) bytes) ≡ total → with_front (front ++ x ∷ []) (many read (i + 1) (count - (i + 1)) after) ≡ total
unfolding many
goes_on read front count i bytes x after total lt h so_far =
    let k : count - i ≡ suc (count - (i + 1)) = omega arith in
    let one : with_front front (many read i (count - i) bytes) ≡ with_front (front ++ x ∷ []) (many read (i + 1) (count - (i + 1)) after) = rw (k, h) (regroup front x (many read (i + 1) (count - (i + 1)) after)) in
    sym one ∙ so_far

pub ends_so : {A : Type 0} (e : ModelEnd) (read : ℕ → Reader A) (front : List A) (count i : ℕ) (bytes : List ℕ) (total : Result (List A × List ℕ) ModelFault) → i < count → FailsAs e (read i bytes)
    → with_front front (many read i (count - i) bytes) ≡ total → FailsAs e total
unfolding many
ends_so ends.Memory read front count i bytes total lt h so_far = tt
ends_so (ends.Fault f) read front count i bytes total lt h so_far =
    let k : count - i ≡ suc (count - (i + 1)) = omega arith in
    let one : with_front front (many read i (count - i) bytes) ≡ Err f = rw (k, h) refl in
    sym so_far ∙ one

pub is_done : {A : Type 0} (read : ℕ → Reader A) (front : List A) (count i : ℕ) (bytes : List ℕ) (total : Result (List A × List ℕ) ModelFault) → count ≤ i → with_front front (many read i (count - i) bytes) ≡ total → total ≡ Ok (front, bytes)
unfolding many
is_done read front count i bytes total le so_far =
    let k : count - i ≡ 0 = omega arith in
    let one : with_front front (many read i (count - i) bytes) ≡ Ok (front, bytes) = rw k (nothing_more front bytes) in
    sym so_far ∙ one
