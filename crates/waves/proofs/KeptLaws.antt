-- Names that are kept in order are those that going over all would find.
use Rattle.std.proofs.Common.{◌≡◌, ℕ, ◌+◌, ◌<◌, ◌==◌, ◌&&◌, ◌||◌, Bool, true, false, List, [], ◌∷◌, ◌++◌, length, fold, take, get_or, refl, sym, ap, ◌∙◌, arith, cond, if◌then◌else◌, Option, Some, None, option_map, unwrap_or}
use Rattle.std.specs.Cmp.{both_ways, Equal-is}
use Rattle.std.specs.Cmp.Lexicographic.{slice_cmp}
use Rattle.std.specs.declared.cmp.Ordering.{Ordering}
use Rattle.std.specs.declared.cmp.Ordering.TheVariants.{Less, Equal, Greater}
use Rattle.std.specs.Ordering.{nat_cmp, is_eq, ordering_then, match_ordering}
use Rattle.std.specs.Map.{lookup}
use Rattle.std.specs.BTreeMap.{BTreeMap, get, is_at}
use Rattle.std.specs.BTreeSet.{BTreeSet, insert_key}
use Rattle.std.specs.List.{list_any}
use Rattle.std.specs.Str.{bytes_eq}
use Rattle.std.specs.declared.vec.Vec.{Vec}
use Rattle.std.specs.declared.alloc.Global.{Global}
use Rattle.std.proofs.lemmas.Bool.{false≢true}
use Rattle.std.proofs.lemmas.Cmp.{nat_list_cmp_total, tied_itself}
use Rattle.std.proofs.lemmas.List.Folds.{list_any-append}
use Rattle.std.proofs.lemmas.Map.Lookups.{exact_bytes}
use Rattle.std.proofs.lemmas.Slice.Eq.{bytes_eq-Decides}
use Rattle.aiger_grammar.specs.declared.names.TheConstants.{JUSTICE}
use Rattle.aiger_grammar.specs.declared.names.Symbol.{Symbol}
use Rattle.waves.specs.declared.wires.Wire.{Wire}
use Rattle.waves.specs.declared.wires.Wire.TheVariants.{Element, PropertyLiteral, Loop}
use Rattle.waves.specs.declared.signals.Signal.{Signal}
use Rattle.waves.specs.Wires.{letter_of}
use Rattle.waves.specs.Names.{label, is_symbol_of, escaped, named_by, plain_name, has_name}
use Rattle.waves.specs.Kept.{element_cmp, kept_at, kept_name, found_by, GetsName, AreNamesOf, has_key, AreKeysOf}
use Rattle.waves.proofs.NameLaws.{fold_more}

abbrev Text : Type 0
Text = Vec ℕ Global

-- ---- symbols

-- no name is kept in an empty map
pub none_kept : (names : BTreeMap (ℕ × ℕ) Text) → names.entries ≡ [] → AreNamesOf [] names
none_kept names e (Element section index literal) =
    ap (λ es. option_map (λ (name : Text). name.items) (lookup (is_at (element_cmp (letter_of section, index))) es)) e
none_kept names e (PropertyLiteral property place literal) =
    ap (λ es. option_map (λ (name : Text). name.items) (lookup (is_at (element_cmp (JUSTICE, property))) es)) e
none_kept names e Loop = refl

pub equal_is : (a b : ℕ) → is_eq (nat_cmp a b) ≡ (a == b)
equal_is a b = grind arith

-- elements compare as equal where both parts are
parts_equal : (a b c d : ℕ) → is_eq (element_cmp (a, b) (c, d)) ≡ (a == c && b == d)
parts_equal a b c d = by (nat_cmp a c) (equal_is a c)
  where
    by : (o : Ordering) → is_eq o ≡ (a == c) → is_eq (ordering_then o (nat_cmp b d)) ≡ (a == c && b == d)
    by Less e = ap (λ t. t && b == d) e
    by Equal e = equal_is b d ∙ ap (λ t. t && b == d) e
    by Greater e = ap (λ t. t && b == d) e

module _ (old new : BTreeMap (ℕ × ℕ) Text) (s : Symbol) (name : Text) (is : name.items ≡ escaped s.name)
    (insert : (q : ℕ × ℕ) → get element_cmp new q ≡ cond (is_at (element_cmp (s.letter, s.index)) q) (Some name) (get element_cmp old q)) where
  at_element : (letter index : ℕ)
      → kept_at new (Some (letter, index)) ≡ (if s.letter == letter && s.index == index then Some (escaped s.name) else kept_at old (Some (letter, index)))
  at_element letter index =
      ap (option_map (λ (n : Text). n.items)) (insert (letter, index))
      ∙ by (is_at (element_cmp (s.letter, s.index)) (letter, index)) (s.letter == letter && s.index == index) (parts_equal s.letter s.index letter index)
    where
      by : (t u : Bool) → t ≡ u
          → option_map (λ (n : Text). n.items) (cond t (Some name) (get element_cmp old (letter, index))) ≡ (if u then Some (escaped s.name) else kept_at old (Some (letter, index)))
      by true true e = ap Some is
      by true false e = absurd (false≢true (sym e))
      by false true e = absurd (false≢true e)
      by false false e = refl

  -- what is inserted is found for the wires of the symbol
  pub inserted : GetsName old s new
  inserted (Element section index literal) = at_element (letter_of section) index
  inserted (PropertyLiteral property place literal) = at_element JUSTICE property
  inserted Loop = refl

-- one symbol more
pub names_more : (symbols : List Symbol) (i : ℕ) (d : Symbol) (old new : BTreeMap (ℕ × ℕ) Text) → i < length symbols → AreNamesOf (take i symbols) old
    → GetsName old (get_or symbols i d) new → AreNamesOf (take (i + 1) symbols) new
names_more symbols i d old new inside h more w =
    more w ∙ ap (λ found. found_by w found (get_or symbols i d)) (h w) ∙ sym (fold_more (found_by w) None symbols i d inside)

found_from : (w : Wire) (symbols : List Symbol) (found : Option (List ℕ)) → fold (named_by w) (unwrap_or found (label w)) symbols ≡ unwrap_or (fold (found_by w) found symbols) (label w)
found_from w [] found = refl
found_from w (s ∷ symbols) found = ap (λ name. fold (named_by w) name symbols) (by (is_symbol_of w s)) ∙ found_from w symbols (found_by w found s)
  where
    by : (t : Bool) → (if t then escaped s.name else unwrap_or found (label w)) ≡ unwrap_or (if t then Some (escaped s.name) else found) (label w)
    by true = refl
    by false = refl

-- the name that is kept, or the label, is the name of the last symbol
pub plain_is_kept : (symbols : List Symbol) (names : BTreeMap (ℕ × ℕ) Text) (w : Wire) → AreNamesOf symbols names → plain_name symbols w ≡ unwrap_or (kept_name names w) (label w)
plain_is_kept symbols names w h = found_from w symbols None ∙ ap (λ found. unwrap_or found (label w)) (sym (h w))

-- ---- signals

-- the key is this name
abbrev is_key : List ℕ → Text → Bool
is_key name key = is_eq (slice_cmp nat_cmp name key.items)

abbrev text_cmp : Text → Text → Ordering
text_cmp a b = slice_cmp nat_cmp a.items b.items

-- texts compare as equal where all bytes are
pub texts_equal : (xs ys : List ℕ) → is_eq (slice_cmp nat_cmp xs ys) ≡ bytes_eq xs ys
texts_equal xs ys =
    both_ways _ _ (λ e. (bytes_eq-Decides xs ys).1 (exact_bytes xs ys ((Equal-is (slice_cmp nat_cmp xs ys)).0 e)))
    (λ e. ap (λ (text : List ℕ). is_eq (slice_cmp nat_cmp xs text)) (sym ((bytes_eq-Decides xs ys).0 e)) ∙ ap is_eq (tied_itself nat_list_cmp_total xs))

found_is : (name : List ℕ) (key : Text) → is_key name key ≡ bytes_eq key.items name
found_is name key =
    both_ways _ _ (λ e. (bytes_eq-Decides key.items name).1 (sym (exact_bytes name key.items ((Equal-is (slice_cmp nat_cmp name key.items)).0 e))))
    (λ e. ap (λ (text : List ℕ). is_eq (slice_cmp nat_cmp name text)) ((bytes_eq-Decides key.items name).0 e) ∙ ap is_eq (tied_itself nat_list_cmp_total name))

-- an inserted key is found beside the others
any_inserted : (name : List ℕ) (key : Text) (keys : List Text) → list_any (is_key name) (insert_key text_cmp keys key) ≡ (is_key name key || list_any (is_key name) keys)
any_inserted name key [] = refl
any_inserted name key (x ∷ keys) = by_order (text_cmp key x) refl (any_inserted name key keys)
  where
    once : (b c : Bool) → (b || c) ≡ (b || (b || c))
    once true c = refl
    once false c = refl

    swap : (a b c : Bool) → (a || (b || c)) ≡ (b || (a || c))
    swap true true c = refl
    swap true false c = refl
    swap false b c = refl

    by_order : (o : Ordering) → text_cmp key x ≡ o → list_any (is_key name) (insert_key text_cmp keys key) ≡ (is_key name key || list_any (is_key name) keys)
        → list_any (is_key name) (match_ordering o (key ∷ x ∷ keys) (x ∷ keys) (x ∷ insert_key text_cmp keys key)) ≡ (is_key name key || list_any (is_key name) (x ∷ keys))
    by_order Less is later = refl
    by_order Equal is later =
        let rest : Bool = list_any (is_key name) keys in
        once (is_key name x) rest
        ∙ ap (λ (text : List ℕ). is_eq (slice_cmp nat_cmp name text) || (is_key name x || rest)) (sym (exact_bytes key.items x.items is))
    by_order Greater is later =
        let rest : Bool = list_any (is_key name) keys in
        ap (λ b. is_key name x || b) later ∙ swap (is_key name x) (is_key name key) rest

-- no keys are those of no signals
pub no_keys : (keys : BTreeSet Text) → keys.keys ≡ [] → AreKeysOf [] keys
no_keys keys e name = ap (list_any (is_key name)) e

-- one signal more, by the lists that a push leaves
pub keys_pushed : (signals same all : List Signal) (s : Signal) (old new : BTreeSet Text) (key : Text) → same ≡ signals → all ≡ same ++ s ∷ [] → key.items ≡ s.name
    → new.keys ≡ insert_key text_cmp old.keys key → AreKeysOf signals old → AreKeysOf all new
keys_pushed signals same all s old new key f g is e h name =
    ap (list_any (is_key name)) e
    ∙ any_inserted name key old.keys
    ∙ ap (λ b. b || has_key old name) (found_is name key ∙ ap (λ (text : List ℕ). bytes_eq text name) is)
    ∙ ap (λ b. bytes_eq s.name name || b) (h name)
    ∙ last (bytes_eq s.name name) (has_name signals name)
    ∙ sym (list_any-append (λ (x : Signal). bytes_eq x.name name) signals (s ∷ []))
    ∙ ap (λ (xs : List Signal). has_name xs name) (sym (g ∙ ap (λ (xs : List Signal). xs ++ s ∷ []) f))
  where
    last : (a b : Bool) → (a || b) ≡ (b || (a || false))
    last true true = refl
    last true false = refl
    last false true = refl
    last false false = refl
