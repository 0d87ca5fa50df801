-- Each signal has a wire.
use Rattle.std.proofs.Common.{◌≡◌, ℕ, zero, suc, ◌+◌, ◌<◌, Bool, true, false, List, [], ◌∷◌, ◌++◌, length, map, fold, refl, sym, ap, ◌∙◌, arith, if◌then◌else◌, Option, Some, None}
use Rattle.std.specs.Prelude.{nat_lt}
use Rattle.std.specs.List.{flat_map}
use Rattle.std.proofs.lemmas.Bool.{ltb-true}
use Rattle.aiger_grammar.specs.Models.{Model}
use Rattle.waves.specs.declared.wires.Wire.{Wire}
use Rattle.waves.specs.declared.groups.Member.{Member}
use Rattle.waves.specs.declared.groups.Group.{Group}
use Rattle.waves.specs.declared.buses.Variable.{Variable}
use Rattle.waves.specs.declared.signals.Signal.{Signal}
use Rattle.waves.specs.Buses.{lowest, wire_at, behind, row_of, bus_of, single, by_bus, of_group, groups_of, variables_of}
use Rattle.waves.specs.Signals.{next_signal, with_signal, signals_of}

some_list : (a b : List Wire) → ◌≡◌ {A = Option (List Wire)} (Some a) (Some b) → a ≡ b
some_list a b e = cc

-- a row has as many wires as it has indices
pub row_length : (members : List Member) (low n : ℕ) (wires : List Wire) → row_of members low n ≡ Some wires → length wires ≡ n
unfolding row_of
row_length members low zero wires e = sym (ap length (some_list [] wires e))
row_length members low (suc n) wires e = by (wire_at members (low + n)) (row_of members low n) refl e (row_length members low n)
  where
    by : (w : Option Wire) (row : Option (List Wire)) → row_of members low n ≡ row → behind w row ≡ Some wires
        → ((later : List Wire) → row_of members low n ≡ Some later → length later ≡ n) → length wires ≡ suc n
    by None row f k h = absurd (cc k)
    by (Some w) None f k h = absurd (cc k)
    by (Some w) (Some later) f k h = sym (ap length (some_list (w ∷ later) wires k)) ∙ ap suc (h later f)

bus_length : (members : List Member) (wires : List Wire) → bus_of members ≡ Some wires → 0 < length wires
bus_length members wires e = by (nat_lt 1 (length members)) refl e
  where
    by : (t : Bool) → nat_lt 1 (length members) ≡ t → (if t then row_of members (lowest members) (length members) else None) ≡ Some wires → 0 < length wires
    by false f k = absurd (cc k)
    by true f k = omega (arith, ltb-true 1 (length members) f, row_length members (lowest members) (length members) wires k)

HaveSome : List Variable → Type 0
HaveSome [] = Unit {0}
HaveSome (v ∷ variables) = (0 < length v.wires) × HaveSome variables

some_both : (a b : List Variable) → HaveSome a → HaveSome b → HaveSome (a ++ b)
unfolding HaveSome
some_both [] b h k = k
some_both (v ∷ a) b h k = (h.0, some_both a b h.1 k)

singles_some : (members : List Member) → HaveSome (map single members)
unfolding HaveSome
singles_some [] = tt
singles_some (m ∷ members) = (omega arith, singles_some members)

group_some : (g : Group) (row : Option (List Wire)) → bus_of g.members ≡ row → HaveSome (by_bus g row)
unfolding HaveSome
group_some g None e = singles_some g.members
group_some g (Some wires) e = (bus_length g.members wires e, tt)

groups_some : (groups : List Group) → HaveSome (flat_map of_group groups)
unfolding HaveSome
groups_some [] = tt
groups_some (g ∷ groups) = some_both (of_group g) (flat_map of_group groups) (group_some g (bus_of g.members) refl) (groups_some groups)

unfoldable pub HaveWires : List Signal → Type 0
HaveWires [] = Unit {0}
HaveWires (s ∷ signals) = (0 < length s.wires) × HaveWires signals

signals_push : (signals : List Signal) (s : Signal) → HaveWires signals → 0 < length s.wires → HaveWires (signals ++ s ∷ [])
unfolding HaveWires
signals_push [] s h k = (k, tt)
signals_push (x ∷ signals) s h k = (h.0, signals_push signals s h.1 k)

signals_all : (variables : List Variable) (signals : List Signal) → HaveSome variables → HaveWires signals → HaveWires (fold with_signal signals variables)
unfolding HaveSome
signals_all [] signals some h = h
signals_all (v ∷ variables) signals some h = signals_all variables (with_signal signals v) some.1 (signals_push signals (next_signal signals v) h some.0)

no_signals : HaveWires []
unfolding HaveWires
no_signals = tt

pub have_wires : (m : Model) (j : ℕ) → HaveWires (signals_of m j)
have_wires m j = signals_all (variables_of m j) [] (groups_some (groups_of m j)) no_signals
