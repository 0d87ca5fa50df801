-- Wires by their indices, and rows of them.
use Rattle.std.proofs.Common.{◌≡◌, ℕ, suc, ◌+◌, ◌<◌, ◌==◌, Bool, true, false, List, [], ◌∷◌, ◌++◌, length, take, get_or, refl, sym, ap, ◌∙◌, cond, if◌then◌else◌, Option, Some, None, append_assoc}
use Rattle.std.specs.Map.{lookup}
use Rattle.std.specs.BTreeMap.{BTreeMap, get, is_at}
use Rattle.std.specs.Ordering.{nat_cmp, is_eq}
use Rattle.std.proofs.lemmas.Bool.{false≢true}
use Rattle.std.proofs.lemmas.List.{append-nil}
use Rattle.waves.specs.declared.wires.Wire.{Wire}
use Rattle.waves.specs.declared.groups.Member.{Member}
use Rattle.waves.specs.Buses.{found_at, wire_at, behind, row_of}
use Rattle.waves.specs.Kept.{GetsMember, AreIndexed}
use Rattle.waves.proofs.KeptLaws.{equal_is}
use Rattle.waves.proofs.NameLaws.{fold_more}

-- an inserted wire is found at its index
pub member_kept : (old new : BTreeMap ℕ Wire) (m : Member) (index : ℕ) (w : Wire) → index ≡ m.index → w ≡ m.wire
    → ((q : ℕ) → get nat_cmp new q ≡ cond (is_at (nat_cmp index) q) (Some w) (get nat_cmp old q)) → GetsMember old m new
member_kept old new m index w e f insert at =
    insert at
    ∙ ap (λ x. cond (is_eq (nat_cmp index at)) (Some x) (get nat_cmp old at)) f
    ∙ by (is_eq (nat_cmp index at)) (m.index == at) (equal_is index at ∙ ap (λ n. n == at) e)
  where
    by : (t u : Bool) → t ≡ u → cond t (Some m.wire) (get nat_cmp old at) ≡ (if u then Some m.wire else get nat_cmp old at)
    by true true k = refl
    by false false k = refl
    by true false k = absurd (false≢true (sym k))
    by false true k = absurd (false≢true k)

pub none_indexed : (indexed : BTreeMap ℕ Wire) → indexed.entries ≡ [] → AreIndexed [] indexed
none_indexed indexed e at = ap (lookup (is_at (nat_cmp at))) e

pub indexed_more : (members : List Member) (i : ℕ) (d : Member) (old new : BTreeMap ℕ Wire) → i < length members → AreIndexed (take i members) old
    → GetsMember old (get_or members i d) new → AreIndexed (take (i + 1) members) new
indexed_more members i d old new inside h more at =
    more at ∙ ap (λ o. found_at at o (get_or members i d)) (h at) ∙ sym (fold_more (found_at at) None members i d inside)

-- wires in front of a row
abbrev pub in_front : List Wire → Option (List Wire) → Option (List Wire)
in_front wires None = None
in_front wires (Some row) = Some (wires ++ row)

-- one index less is left
pub row_on : (members : List Member) (low left : ℕ) (wires new : List Wire) (w : Wire) → wire_at members (low + left) ≡ Some w → new ≡ wires ++ w ∷ []
    → in_front new (row_of members low left) ≡ in_front wires (row_of members low (suc left))
unfolding row_of
row_on members low left wires new w e f =
    ap (λ (x : List Wire). in_front x (row_of members low left)) f
    ∙ by (row_of members low left)
    ∙ ap (λ o. in_front wires (behind o (row_of members low left))) (sym e)
  where
    by : (row : Option (List Wire)) → in_front (wires ++ w ∷ []) row ≡ in_front wires (behind (Some w) row)
    by None = refl
    by (Some row) = ap Some (append_assoc wires (w ∷ []) row)

pub row_missing : (members : List Member) (low left : ℕ) (wires : List Wire) → wire_at members (low + left) ≡ None → in_front wires (row_of members low (suc left)) ≡ None
unfolding row_of
row_missing members low left wires e = ap (λ o. in_front wires (behind o (row_of members low left))) e

pub row_done : (members : List Member) (low : ℕ) (wires : List Wire) → in_front wires (row_of members low 0) ≡ Some wires
unfolding row_of
row_done members low wires = ap Some (append-nil wires)
