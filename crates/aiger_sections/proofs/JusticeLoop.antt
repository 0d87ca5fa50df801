-- The literals of all properties, as their loop reads them.
use Rattle.std.proofs.Common.{◌≡◌, ℕ, ◌+◌, ◌<◌, ◌≤◌, List, [], ◌∷◌, ◌++◌, length, drop, get_or, Result, Ok, Err, refl, sym, ◌∙◌}
use Rattle.std.proofs.lemmas.List.{drop_more, drop_all}
use Rattle.circuit.specs.declared.faults.ModelFault.{ModelFault}
use Rattle.circuit.specs.declared.faults.ModelEnd.{ModelEnd}
use Rattle.circuit.specs.declared.faults.ModelEnd.TheVariants as ends
use Rattle.aiger_grammar.specs.Answered.{FailsAs}
use Rattle.aiger_grammar.specs.Sections.{literals_at, justice_at}
use Rattle.aiger_sections.proofs.LoopLaws.{with_front, regroup, nothing_more}

pub property_read : (max total : ℕ) (front : List (List ℕ)) (sizes : List ℕ) (i d : ℕ) (bytes property after : List ℕ) (all : Result (List (List ℕ) × List ℕ) ModelFault) → i < length sizes
    → literals_at max total (get_or sizes i d) bytes ≡ Ok (property, after)
    → with_front front (justice_at max total (drop i sizes) bytes) ≡ all → with_front (front ++ property ∷ []) (justice_at max total (drop (i + 1) sizes) after) ≡ all
unfolding justice_at
property_read max total front sizes i d bytes property after all lt h so_far =
    let more = drop_more sizes i d lt in
    let one : with_front front (justice_at max total (drop i sizes) bytes) ≡ with_front (front ++ property ∷ []) (justice_at max total (drop (i + 1) sizes) after) =
    rw (more, h) (regroup front property (justice_at max total (drop (i + 1) sizes) after)) in
    sym one ∙ so_far

pub property_fails : (e : ModelEnd) (max total : ℕ) (front : List (List ℕ)) (sizes : List ℕ) (i d : ℕ) (bytes : List ℕ) (all : Result (List (List ℕ) × List ℕ) ModelFault) → i < length sizes
    → FailsAs e (literals_at max total (get_or sizes i d) bytes) → with_front front (justice_at max total (drop i sizes) bytes) ≡ all → FailsAs e all
unfolding justice_at
property_fails ends.Memory max total front sizes i d bytes all lt h so_far = tt
property_fails (ends.Fault f) max total front sizes i d bytes all lt h so_far =
    let more = drop_more sizes i d lt in
    let one : with_front front (justice_at max total (drop i sizes) bytes) ≡ Err f = rw (more, h) refl in
    sym so_far ∙ one

pub all_read : (max total : ℕ) (front : List (List ℕ)) (sizes : List ℕ) (i : ℕ) (bytes : List ℕ) (all : Result (List (List ℕ) × List ℕ) ModelFault) → length sizes ≤ i
    → with_front front (justice_at max total (drop i sizes) bytes) ≡ all → all ≡ Ok (front, bytes)
unfolding justice_at
all_read max total front sizes i bytes all le so_far =
    let none_left = drop_all i sizes le in
    let one : with_front front (justice_at max total (drop i sizes) bytes) ≡ Ok (front, bytes) = rw none_left (nothing_more front bytes) in
    sym so_far ∙ one
