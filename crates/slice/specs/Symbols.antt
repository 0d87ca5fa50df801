-- The symbols of a slice: those of what is left, in their order, under the new places in the lists.
use Rattle.std.specs.Prelude.{ℕ, ◌==◌, Bool, false, List, map, length, take, Option, Some, None, slice_get, if◌then◌else◌}
use Rattle.std.specs.List.{filter}
use Rattle.aig_semantics.specs.Circuits.{Circuit}
use Rattle.aiger_grammar.specs.declared.names.TheConstants.{INPUT, LATCH, CONSTRAINT, JUSTICE, FAIRNESS}
use Rattle.aiger_grammar.specs.declared.names.Symbol.{Symbol}

-- there is a variable, and it is in the set
abbrev pub has_variable : (ℕ → Bool) → Option ℕ → Bool
has_variable set None = false
has_variable set (Some v) = set v

-- where place k of a list of variables comes when only those in the set are left: how many of them stand before it; nowhere
-- where its own variable is not in the set
abbrev pub place_left : (ℕ → Bool) → List ℕ → ℕ → Option ℕ
place_left set variables k =
    if has_variable set (slice_get variables k) then Some (length (filter set (take k variables))) else None

-- the new place of what a symbol names, where it is left: outputs, bad state literals and other properties are not
abbrev pub index_left : Circuit → ℕ → (ℕ → Bool) → Symbol → Option ℕ
index_left c j set symbol =
    if symbol.letter == INPUT then place_left set c.inputs symbol.index
    else if symbol.letter == LATCH then place_left set (map (λ latch. latch.var) c.latches) symbol.index
    else if symbol.letter == JUSTICE then (if symbol.index == j then Some 0 else None)
    else if symbol.letter == CONSTRAINT then Some symbol.index
    else if symbol.letter == FAIRNESS then Some symbol.index
    else None

-- the symbol under another place
abbrev pub at_place : Symbol → Option ℕ → Option Symbol
at_place symbol None = None
at_place symbol (Some place) = Some (record { letter = symbol.letter; index = place; name = symbol.name })

-- the symbol under its new place, where what it names is left
abbrev pub symbol_left : Circuit → ℕ → (ℕ → Bool) → Symbol → Option Symbol
symbol_left c j set symbol = at_place symbol (index_left c j set symbol)
