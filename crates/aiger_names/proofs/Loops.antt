-- The loop over symbols.
use Rattle.std.proofs.Common.{◌≡◌, ℕ, zero, suc, ◌+◌, ◌-◌, ◌<◌, ◌≤◌, true, false, cond, List, [], ◌∷◌, ◌++◌, Option, Some, None, Result, Ok, Err, refl, sym, ap, ◌∙◌, append_assoc, arith}
use Rattle.std.proofs.lemmas.List.{append-nil}
use Rattle.circuit.specs.declared.faults.ModelFault.{ModelFault}
use Rattle.circuit.specs.declared.faults.ModelEnd.{ModelEnd}
use Rattle.circuit.specs.declared.faults.ModelEnd.TheVariants as ends
use Rattle.aiger_grammar.specs.declared.names.Symbol.{Symbol}
use Rattle.aiger_grammar.specs.declared.names.Counts.{Counts}
use Rattle.aiger_grammar.specs.Names.{ends_symbols, symbol_at, symbols_at, fault_at, in_front, and_others}
use Rattle.aiger_grammar.specs.Answered.{FailsAs}
use Rattle.aiger_names.specs.Steps.{or_fault, symbol_or_fault}

abbrev Read : Type 0
Read = Result (List Symbol × List ℕ) ModelFault

-- the symbols so far, and those that are still read, are all of them
abbrev pub Goes : Counts → ℕ → List ℕ → List Symbol → List ℕ → ℕ → ℕ → Type 0
Goes counts total bytes front rest count i = in_front front (symbols_at (count - i) counts total rest) ≡ symbols_at count counts total bytes

at_end : (most : ℕ) (counts : Counts) (total : ℕ) (rest : List ℕ) → ends_symbols rest ≡ true → symbols_at most counts total rest ≡ Ok ([], rest)
unfolding symbols_at
at_end zero counts total rest ends = refl
at_end (suc most) counts total rest ends =
    ap (λ t. cond t (Ok ([], rest)) (and_others (symbol_at counts rest) (fault_at total rest) (λ more. symbols_at most counts total more))) ends

empty_behind : (front : List Symbol) (rest : List ℕ) (read : Read) → read ≡ Ok ([], rest) → in_front front read ≡ Ok (front, rest)
empty_behind front rest read e = ap (in_front front) e ∙ ap (λ xs. Ok (xs, rest)) (append-nil front)

pub ended : (counts : Counts) (total : ℕ) (bytes : List ℕ) (front : List Symbol) (rest : List ℕ) (count i : ℕ) → ends_symbols rest ≡ true
    → Goes counts total bytes front rest count i → symbols_at count counts total bytes ≡ Ok (front, rest)
ended counts total bytes front rest count i ends so_far =
    sym so_far ∙ empty_behind front rest (symbols_at (count - i) counts total rest) (at_end (count - i) counts total rest ends)

pub spent : (counts : Counts) (total : ℕ) (bytes : List ℕ) (front : List Symbol) (rest : List ℕ) (count i : ℕ) → count ≤ i
    → Goes counts total bytes front rest count i → symbols_at count counts total bytes ≡ Ok (front, rest)
unfolding symbols_at
spent counts total bytes front rest count i le so_far =
    let k : count - i ≡ 0 = omega arith in
    sym so_far ∙ empty_behind front rest (symbols_at (count - i) counts total rest) (ap (λ n. symbols_at n counts total rest) k)

-- one turn, where the symbols do not end
turn : (most : ℕ) (counts : Counts) (total : ℕ) (rest : List ℕ) (read : Option (Symbol × List ℕ)) → ends_symbols rest ≡ false → symbol_at counts rest ≡ read
    → symbols_at (suc most) counts total rest ≡ and_others read (fault_at total rest) (λ more. symbols_at most counts total more)
unfolding symbols_at
turn most counts total rest read ends is =
    ap (λ t. cond t (Ok ([], rest)) (and_others (symbol_at counts rest) (fault_at total rest) (λ more. symbols_at most counts total more))) ends
    ∙ ap (λ r. and_others r (fault_at total rest) (λ more. symbols_at most counts total more)) is

grown : (front : List Symbol) (symbol : Symbol) (read : Read) → in_front front (in_front (symbol ∷ []) read) ≡ in_front (front ++ symbol ∷ []) read
grown front symbol (Ok read) = ap (λ xs. Ok (xs, read.1)) (simp append_assoc)
grown front symbol (Err fault) = refl

or_some : (read : Option (Symbol × List ℕ)) (fault : ModelFault) (y : Symbol × List ℕ) → or_fault read fault ≡ Ok y → read ≡ Some y
or_some (Some x) fault y e = cc
or_some None fault y e = absurd cc

or_none : (read : Option (Symbol × List ℕ)) (fault other : ModelFault) → or_fault read fault ≡ Err other → (read ≡ None) × (fault ≡ other)
or_none (Some x) fault other e = absurd cc
or_none None fault other e = (refl, cc)

pub goes_on : (counts : Counts) (total : ℕ) (bytes : List ℕ) (front : List Symbol) (rest : List ℕ) (count i : ℕ) (symbol : Symbol) (behind : List ℕ) → i < count
    → ends_symbols rest ≡ false → symbol_or_fault counts total rest ≡ Ok (symbol, behind)
    → Goes counts total bytes front rest count i → Goes counts total bytes (front ++ symbol ∷ []) behind count (i + 1)
goes_on counts total bytes front rest count i symbol behind lt ends read so_far =
    let k : count - i ≡ suc (count - (i + 1)) = omega arith in
    let some : symbol_at counts rest ≡ Some (symbol, behind) = or_some (symbol_at counts rest) (fault_at total rest) (symbol, behind) read in
    sym (grown front symbol (symbols_at (count - (i + 1)) counts total behind))
    ∙ ap (in_front front) (sym (turn (count - (i + 1)) counts total rest (Some (symbol, behind)) ends some))
    ∙ ap (λ n. in_front front (symbols_at n counts total rest)) (sym k)
    ∙ so_far

pub ends_so : (e : ModelEnd) (counts : Counts) (total : ℕ) (bytes : List ℕ) (front : List Symbol) (rest : List ℕ) (count i : ℕ) → i < count
    → ends_symbols rest ≡ false → FailsAs e (symbol_or_fault counts total rest)
    → Goes counts total bytes front rest count i → FailsAs e (symbols_at count counts total bytes)
ends_so ends.Memory counts total bytes front rest count i lt on failed so_far = tt
ends_so (ends.Fault fault) counts total bytes front rest count i lt on failed so_far =
    let k : count - i ≡ suc (count - (i + 1)) = omega arith in
    let none = or_none (symbol_at counts rest) (fault_at total rest) fault failed in
    sym so_far
    ∙ ap (λ n. in_front front (symbols_at n counts total rest)) k
    ∙ ap (in_front front) (turn (count - (i + 1)) counts total rest None on none.0)
    ∙ ap (λ f. Err f) none.1
