-- The wires of a bus are bits of its name.
use Rattle.std.proofs.Common.{◌≡◌, ◌⊎◌, inl, inr, ℕ, zero, suc, ◌+◌, ◌<◌, ◌==◌, Bool, true, false, List, [], ◌∷◌, ◌++◌, length, map, take, fold, refl, sym, ap, subst, ◌∙◌, arith, if◌then◌else◌, Option, Some, None}
use Rattle.std.specs.Prelude.{nat_lt, decimal}
use Rattle.std.specs.List.{AllByRecursion, Contains, flat_map}
use Rattle.std.specs.Str.{bytes_eq}
use Rattle.std.proofs.lemmas.Bool.{and_parts, eqb-true, ltb-true}
use Rattle.std.proofs.lemmas.List.Elements.{All-from_recursion, recursion_from_All, All-contains_itself}
use Rattle.std.proofs.lemmas.Slice.Eq.{bytes_eq-Decides}
use Rattle.text_grammar.specs.Numerals.{IsNumeral, number_at}
use Rattle.text_grammar.proofs.NumeralLaws.{reads_numerals}
use Rattle.waves.specs.declared.wires.Wire.{Wire}
use Rattle.waves.specs.declared.named.Named.{Named}
use Rattle.waves.specs.declared.groups.Member.{Member}
use Rattle.waves.specs.declared.groups.Group.{Group}
use Rattle.waves.specs.declared.buses.Variable.{Variable}
use Rattle.waves.specs.Names.{named_wires}
use Rattle.waves.specs.Buses.{closed, index_in, at_place, bracket_from, bracket_in, bit_letter, member, alone, is_of, grown, joined, with_bit, with_element, with_named, lowest, found_at, wire_at, behind, row_of, bus_of, single, by_bus, of_group, groups_of, variables_of}
use Rattle.waves.specs.Laws.{bit_name, IsBit, AreBits, IsBusOf, BusesAreNamed}
use Rattle.waves.proofs.WidthLaws.{row_length}

-- ---- the name of a bit

same_index : (a b : ℕ) → ◌≡◌ {A = Option ℕ} (Some a) (Some b) → a ≡ b
same_index a b e = cc

closed_is : (read : Option (ℕ × List ℕ)) (i : ℕ) → closed read ≡ Some i → (rest : List ℕ) × (read ≡ Some (i, rest)) × (rest ≡ 93 ∷ [])
closed_is None i e = absurd (cc e)
closed_is (Some read) i e = by (bytes_eq read.1 (93 ∷ [])) refl e
  where
    by : (t : Bool) → bytes_eq read.1 (93 ∷ []) ≡ t → (if t then Some read.0 else None) ≡ Some i
        → (rest : List ℕ) × (◌≡◌ {A = Option (ℕ × List ℕ)} (Some read) (Some (i, rest))) × (rest ≡ 93 ∷ [])
    by true f k = (read.1, ap (λ n. Some (n, read.1)) (same_index read.0 i k), (bytes_eq-Decides read.1 (93 ∷ [])).0 f)
    by false f k = absurd (cc k)

index_is : (bytes : List ℕ) (i : ℕ) → index_in bytes ≡ Some i → bytes ≡ decimal i ++ 93 ∷ []
index_is bytes i e =
    let read = closed_is (number_at 4294967295 bytes) i e in
    let stands : IsNumeral 4294967295 i bytes read.0 = (reads_numerals 4294967295 i bytes read.0 (omega arith)).0 read.1 in
    stands.spelled ∙ ap (λ (x : List ℕ). decimal i ++ x) read.2

same_place : (a b : ℕ × ℕ) → ◌≡◌ {A = Option (ℕ × ℕ)} (Some a) (Some b) → a ≡ b
same_place a b e = cc

bracket_is : (k : ℕ) (bytes : List ℕ) (p i : ℕ) → bracket_from k bytes ≡ Some (p, i) → (front : List ℕ) × (bytes ≡ bit_name front i) × (p ≡ k + length front)
unfolding bracket_from
bracket_is k [] p i e = absurd (cc e)
bracket_is k (byte ∷ bytes) p i e = by (byte == 91) refl (index_in bytes) refl e (bracket_is (k + 1) bytes p i)
  where
    behind_it : (front : List ℕ) × (bytes ≡ bit_name front i) × (p ≡ k + 1 + length front) → (front : List ℕ) × (byte ∷ bytes ≡ bit_name front i) × (p ≡ k + length front)
    behind_it found = (byte ∷ found.0, ap (λ (x : List ℕ). byte ∷ x) found.1, omega (arith, found.2))

    by : (t : Bool) → (byte == 91) ≡ t → (index : Option ℕ) → index_in bytes ≡ index → at_place k (if t then index else None) (bracket_from (k + 1) bytes) ≡ Some (p, i)
        → (bracket_from (k + 1) bytes ≡ Some (p, i) → (front : List ℕ) × (bytes ≡ bit_name front i) × (p ≡ k + 1 + length front))
        → (front : List ℕ) × (byte ∷ bytes ≡ bit_name front i) × (p ≡ k + length front)
    by true f (Some index) g h later =
        let same = same_place (k, index) (p, i) h in
        let here : k ≡ p = ap (λ x. x.0) same in
        let number : index ≡ i = ap (λ x. x.1) same in (
          [],
          ap (λ b. b ∷ bytes) (eqb-true byte 91 f) ∙ ap (λ (x : List ℕ). 91 ∷ x) (index_is bytes index g ∙ ap (λ n. decimal n ++ 93 ∷ []) number),
          omega (arith, here),
        )
    by true f None g h later = behind_it (later h)
    by false f index g h later = behind_it (later h)

front_whole : (xs rest : List ℕ) → take (length xs) (xs ++ rest) ≡ xs
front_whole [] rest = refl
front_whole (x ∷ xs) rest = ap (λ (l : List ℕ). x ∷ l) (front_whole xs rest)

front_taken : (front rest : List ℕ) (p : ℕ) → p ≡ length front → take p (front ++ rest) ≡ front
front_taken front rest p e = ap (λ n. take n (front ++ rest)) e ∙ front_whole front rest

-- a bit's name, in two parts
bit_is : (name : List ℕ) (p i : ℕ) → bracket_in name ≡ Some (p, i) → (name ≡ bit_name (take p name) i) × (0 < length (take p name))
bit_is [] p i e = absurd (cc e)
bit_is (byte ∷ bytes) p i e =
    let found = bracket_is 1 bytes p i e in
    let front : List ℕ = byte ∷ found.0 in
    let whole : byte ∷ bytes ≡ front ++ 91 ∷ (decimal i ++ 93 ∷ []) = ap (λ (x : List ℕ). byte ∷ x) found.1 in
    let cut : take p (byte ∷ bytes) ≡ front =
    ap (take p) whole ∙ front_taken front (91 ∷ (decimal i ++ 93 ∷ [])) p (let n : p ≡ length front = omega (arith, found.2) in n) in
    (whole ∙ ap (λ (x : List ℕ). bit_name x i) (sym cut), subst (λ (x : List ℕ). 0 < length x) (sym cut) (omega arith))

-- ---- groups

module _ (wires : List Named) where
  abbrev BitOf : List ℕ → Member → Type 0
  BitOf base m = IsBit wires base m.index m.wire

  -- a wire without a base, or bits of the base
  abbrev GroupIs : Group → Type 0
  GroupIs g = ((g.base ≡ []) × (length g.members ≡ 1)) ⊎ AllByRecursion (BitOf g.base) g.members

  bits_push : (base : List ℕ) (members : List Member) (m : Member) → AllByRecursion (BitOf base) members → BitOf base m → AllByRecursion (BitOf base) (members ++ m ∷ [])
  bits_push base [] m h k = (k, tt)
  bits_push base (x ∷ members) m h k = (h.0, bits_push base members m h.1 k)

  groups_push : (groups : List Group) (g : Group) → AllByRecursion GroupIs groups → GroupIs g → AllByRecursion GroupIs (groups ++ g ∷ [])
  groups_push [] g h k = (k, tt)
  groups_push (x ∷ groups) g h k = (h.0, groups_push groups g h.1 k)

  grown_is : (letter : ℕ) (base : List ℕ) (m : Member) (g : Group) → 0 < length base → BitOf base m → is_of letter base g ≡ true → GroupIs g → GroupIs (grown g m)
  grown_is letter base m g some h e (inl none) =
      let same : g.base ≡ base = (bytes_eq-Decides g.base base).0 (and_parts (g.letter == letter) (bytes_eq g.base base) e).1 in
      let empty : length base ≡ 0 = ap length (sym same ∙ none.0) in absurd (omega (arith, some, empty))
  grown_is letter base m g some h e (inr bits) =
      let same : g.base ≡ base = (bytes_eq-Decides g.base base).0 (and_parts (g.letter == letter) (bytes_eq g.base base) e).1 in
      inr (bits_push g.base g.members m bits (subst (λ (x : List ℕ). BitOf x m) (sym same) h))

  joined_is : (letter : ℕ) (base : List ℕ) (m : Member) (groups : List Group) → 0 < length base → BitOf base m → AllByRecursion GroupIs groups
      → AllByRecursion GroupIs (joined letter base m groups)
  unfolding joined
  joined_is letter base m [] some h all = (inr (h, tt), tt)
  joined_is letter base m (g ∷ groups) some h all = by (is_of letter base g) refl (joined_is letter base m groups some h all.1)
    where
      by : (t : Bool) → is_of letter base g ≡ t → AllByRecursion GroupIs (joined letter base m groups)
          → AllByRecursion GroupIs (if t then grown g m ∷ groups else g ∷ joined letter base m groups)
      by true e later = (grown_is letter base m g some h e all.0, all.1)
      by false e later = (all.0, later)

  alone_is : (groups : List Group) (n : Named) → AllByRecursion GroupIs groups → AllByRecursion GroupIs (groups ++ alone n ∷ [])
  alone_is groups n all = groups_push groups (alone n) all (inl (refl, refl))

  bit_put : (groups : List Group) (n : Named) (letter : ℕ) (bracket : Option (ℕ × ℕ)) → bracket_in n.name ≡ bracket → Contains wires n → AllByRecursion GroupIs groups
      → AllByRecursion GroupIs (with_bit groups n letter bracket)
  bit_put groups n letter None e among all = alone_is groups n all
  bit_put groups n letter (Some bracket) e among all =
      let is = bit_is n.name bracket.0 bracket.1 e in
      joined_is letter (take bracket.0 n.name) (member n bracket.1) groups is.1
      (subst (λ (x : List ℕ). Contains wires (record { wire = n.wire; name = x })) is.0 among) all

  element_put : (groups : List Group) (n : Named) (letter : Option ℕ) → Contains wires n → AllByRecursion GroupIs groups → AllByRecursion GroupIs (with_element groups n letter)
  element_put groups n None among all = alone_is groups n all
  element_put groups n (Some letter) among all = bit_put groups n letter (bracket_in n.name) refl among all

  all_put : (ns : List Named) (groups : List Group) → AllByRecursion (Contains wires) ns → AllByRecursion GroupIs groups → AllByRecursion GroupIs (fold with_named groups ns)
  all_put [] groups among all = all
  all_put (n ∷ ns) groups among all = all_put ns (with_named groups n) among.1 (element_put groups n (bit_letter n.wire) among.0 all)

  -- ---- rows

  found_is : (base : List ℕ) (index : ℕ) (w : Wire) (members : List Member) (found : Option Wire) → AllByRecursion (BitOf base) members
      → (found ≡ Some w → IsBit wires base index w) → fold (found_at index) found members ≡ Some w → IsBit wires base index w
  found_is base index w [] found h k e = k e
  found_is base index w (m ∷ members) found h k e = found_is base index w members (found_at index found m) h.1 (by (m.index == index) refl) e
    where
      same_wire : (a b : Wire) → ◌≡◌ {A = Option Wire} (Some a) (Some b) → a ≡ b
      same_wire a b e = cc

      by : (t : Bool) → (m.index == index) ≡ t → (if t then Some m.wire else found) ≡ Some w → IsBit wires base index w
      by true f g = subst (λ x. IsBit wires base index x) (same_wire m.wire w g) (subst (λ n. IsBit wires base n m.wire) (eqb-true m.index index f) h.0)
      by false f g = k g

  row_is : (base : List ℕ) (members : List Member) (low n : ℕ) (row : List Wire) → AllByRecursion (BitOf base) members → row_of members low n ≡ Some row → AreBits wires base low row
  unfolding row_of
  row_is base members low zero row h e = subst (AreBits wires base low) (some_row [] row e) tt
    where
      some_row : (a b : List Wire) → ◌≡◌ {A = Option (List Wire)} (Some a) (Some b) → a ≡ b
      some_row a b e = cc
  row_is base members low (suc n) row h e = by (wire_at members (low + n)) refl (row_of members low n) refl e (row_is base members low n)
    where
      some_row : (a b : List Wire) → ◌≡◌ {A = Option (List Wire)} (Some a) (Some b) → a ≡ b
      some_row a b e = cc

      none_wire : (w : Wire) → ◌≡◌ {A = Option Wire} None (Some w) → ⊥
      none_wire w e = absurd (cc e)

      by : (w : Option Wire) → wire_at members (low + n) ≡ w → (later : Option (List Wire)) → row_of members low n ≡ later → behind w later ≡ Some row
          → ((x : List Wire) → AllByRecursion (BitOf base) members → row_of members low n ≡ Some x → AreBits wires base low x) → AreBits wires base low row
      by None f later g k more = absurd (cc k)
      by (Some w) f None g k more = absurd (cc k)
      by (Some w) f (Some later) g k more =
          let here : IsBit wires base (low + n) w = found_is base (low + n) w members None h (λ none. absurd (none_wire w none)) f in
          let many : n ≡ length later = sym (row_length members low n later g) in
          subst (AreBits wires base low) (some_row (w ∷ later) row k) (subst (λ m. IsBit wires base (low + m) w) many here, more later h g)

  bus_is : (g : Group) (row : List Wire) → GroupIs g → bus_of g.members ≡ Some row → AreBits wires g.base (lowest g.members) row
  bus_is g row is e = by (nat_lt 1 (length g.members)) refl e is
    where
      by : (t : Bool) → nat_lt 1 (length g.members) ≡ t → (if t then row_of g.members (lowest g.members) (length g.members) else None) ≡ Some row → GroupIs g
          → AreBits wires g.base (lowest g.members) row
      by false f k is = absurd (cc k)
      by true f k (inl one) = let two : 1 < length g.members = ltb-true 1 (length g.members) f in absurd (omega (arith, one.1, two))
      by true f k (inr bits) = row_is g.base g.members (lowest g.members) (length g.members) row bits k

  variables_both : (a b : List Variable) → AllByRecursion (IsBusOf wires) a → AllByRecursion (IsBusOf wires) b → AllByRecursion (IsBusOf wires) (a ++ b)
  variables_both [] b h k = k
  variables_both (v ∷ a) b h k = (h.0, variables_both a b h.1 k)

  singles_are : (members : List Member) → AllByRecursion (IsBusOf wires) (map single members)
  singles_are [] = tt
  singles_are (m ∷ members) = ((λ two. absurd (omega (arith, two))), singles_are members)

  group_is : (g : Group) (row : Option (List Wire)) → GroupIs g → bus_of g.members ≡ row → AllByRecursion (IsBusOf wires) (by_bus g row)
  group_is g None is e = singles_are g.members
  group_is g (Some row) is e = ((λ two. bus_is g row is e), tt)

  groups_are : (groups : List Group) → AllByRecursion GroupIs groups → AllByRecursion (IsBusOf wires) (flat_map of_group groups)
  groups_are [] all = tt
  groups_are (g ∷ groups) all = variables_both (of_group g) (flat_map of_group groups) (group_is g (bus_of g.members) all.0 refl) (groups_are groups all.1)

pub buses_are_named : BusesAreNamed
buses_are_named m j =
    let wires = named_wires m j in
    All-from_recursion (IsBusOf wires) (variables_of m j)
    (groups_are wires (groups_of m j) (all_put wires wires [] (recursion_from_All (Contains wires) wires (All-contains_itself wires)) tt))
