-- Literals with names that are kept in order, and the wires that are left out by them.
use Rattle.std.proofs.Common.{◌≡◌, ℕ, ◌+◌, ◌<◌, ◌==◌, ◌&&◌, ◌||◌, Bool, true, false, List, [], ◌∷◌, ◌++◌, length, fold, take, get_or, refl, sym, ap, ◌∙◌, cond, if◌then◌else◌, Option, Some, None, unwrap_or, Result, Ok, Err, subst, ◌≤◌}
use Rattle.std.specs.Prelude.{OnOk}
use Rattle.std.specs.declared.cmp.Ordering.{Ordering}
use Rattle.std.specs.declared.cmp.Ordering.TheVariants.{Less, Equal, Greater}
use Rattle.std.specs.Ordering.{nat_cmp, is_eq, ordering_then}
use Rattle.std.specs.Cmp.Lexicographic.{slice_cmp}
use Rattle.std.specs.BTreeMap.{BTreeMap, is_at}
use Rattle.std.specs.BTreeSet.{BTreeSet, contains}
use Rattle.std.specs.List.{list_any}
use Rattle.std.specs.Str.{bytes_eq}
use Rattle.std.specs.declared.vec.Vec.{Vec}
use Rattle.std.specs.declared.alloc.Global.{Global}
use Rattle.std.proofs.lemmas.List.{take_more, take_all}
use Rattle.std.proofs.lemmas.List.Folds.{list_any-append}
use Rattle.aiger_grammar.specs.declared.names.Symbol.{Symbol}
use Rattle.waves.specs.declared.wires.Wire.{Wire}
use Rattle.waves.specs.declared.named.Named.{Named}
use Rattle.waves.specs.Wires.{literal_of}
use Rattle.waves.specs.Names.{label, plain_name, named, shows, is_among, is_doubled, with_wire}
use Rattle.waves.specs.Kept.{kept_name, AreNamesOf, Key, key_cmp, AreSources, GetsSource, IsDoubledIn, GetsWire, GetsWires, AreNamed}
use Rattle.waves.proofs.KeptLaws.{equal_is, texts_equal, plain_is_kept}
use Rattle.waves.proofs.NameLaws.{fold_more}

abbrev Text : Type 0
Text = Vec ℕ Global

abbrev SymbolNames : Type 0
SymbolNames = BTreeMap (ℕ × ℕ) Text

-- keys compare as equal where both parts are
pub keys_equal : (a b : ℕ) (x y : Text) → is_eq (key_cmp (a, x) (b, y)) ≡ (a == b && bytes_eq x.items y.items)
keys_equal a b x y = by (nat_cmp a b) (equal_is a b)
  where
    by : (o : Ordering) → is_eq o ≡ (a == b) → is_eq (ordering_then o (slice_cmp nat_cmp x.items y.items)) ≡ (a == b && bytes_eq x.items y.items)
    by Less e = ap (λ t. t && bytes_eq x.items y.items) e
    by Equal e = texts_equal x.items y.items ∙ ap (λ t. t && bytes_eq x.items y.items) e
    by Greater e = ap (λ t. t && bytes_eq x.items y.items) e

or_cond : (t c : Bool) → cond t true c ≡ (c || t)
or_cond true true = refl
or_cond true false = refl
or_cond false true = refl
or_cond false false = refl

or_false : (b : Bool) → (b || false) ≡ b
or_false true = refl
or_false false = refl

-- an inserted literal with its name is one more source
pub source_kept : (old new : BTreeSet Key) (n : Named) (literal : ℕ) (name : Text) → literal_of n.wire ≡ Some literal → name.items ≡ n.name
    → ((q : Key) → contains key_cmp new q ≡ cond (is_at (key_cmp (literal, name)) q) true (contains key_cmp old q)) → GetsSource old n new
source_kept old new n literal name e f insert at text =
    let was : Bool = contains key_cmp old (at, text) in
    insert (at, text)
    ∙ or_cond (is_eq (key_cmp (literal, name) (at, text))) was
    ∙ ap (λ t. was || t) (keys_equal literal at name text
    ∙ ap (λ (x : List ℕ). literal == at && bytes_eq x text.items) f
    ∙ ap (λ o. shows o at && bytes_eq n.name text.items) (sym e))

-- a wire without a literal is none
pub source_left : (old : BTreeSet Key) (n : Named) → literal_of n.wire ≡ None → GetsSource old n old
source_left old n e at text =
    let was : Bool = contains key_cmp old (at, text) in
    sym (ap (λ o. was || (shows o at && bytes_eq n.name text.items)) e ∙ or_false was)

pub no_sources : (keys : BTreeSet Key) → keys.keys ≡ [] → AreSources keys []
no_sources keys e at text = ap (list_any (is_at (key_cmp (at, text)))) e

-- one wire more
pub sources_more : (wires : List Named) (i : ℕ) (d : Named) (old new : BTreeSet Key) → i < length wires → AreSources old (take i wires)
    → GetsSource old (get_or wires i d) new → AreSources new (take (i + 1) wires)
sources_more wires i d old new inside h more at text =
    let x = get_or wires i d in
    let own : Bool = shows (literal_of x.wire) at && bytes_eq x.name text.items in
    more at text
    ∙ ap (λ b. b || own) (h at text)
    ∙ ap (λ b. is_among (take i wires) at text.items || b) (sym (or_false own))
    ∙ sym (list_any-append (λ (n : Named). shows (literal_of n.wire) at && bytes_eq n.name text.items) (take i wires) (x ∷ []))
    ∙ sym (ap (λ (ws : List Named). is_among ws at text.items) (take_more wires i d inside))

-- a key that is found
pub doubled_by : (keys : BTreeSet Key) (option : Option ℕ) (literal : ℕ) (name : List ℕ) (key : Text) (is : Bool) → option ≡ Some literal → key.items ≡ name
    → is ≡ contains key_cmp keys (literal, key) → IsDoubledIn keys option name is
doubled_by keys option literal name key is e f g wires h =
    g ∙ h literal key ∙ ap (is_among wires literal) f ∙ ap (λ o. is_doubled wires o name) (sym e)

-- ---- wires

module _ (names : SymbolNames) (keys : BTreeSet Key) (old : List Named) (w : Wire) (literal : Option ℕ) (plain text : List ℕ) (is : Bool)
    (name : plain ≡ unwrap_or (kept_name names w) (label w)) (at : literal ≡ literal_of w) (same : text ≡ plain) (doubled : IsDoubledIn keys literal text is) where
  is_name : (symbols : List Symbol) → AreNamesOf symbols names → plain ≡ plain_name symbols w
  is_name symbols h = name ∙ sym (plain_is_kept symbols names w h)

  told : (symbols : List Symbol) (sources : List Named) → AreNamesOf symbols names → AreSources keys sources
      → is_doubled sources (literal_of w) (plain_name symbols w) ≡ is
  told symbols sources h k =
      ap (λ o. is_doubled sources o (plain_name symbols w)) (sym at)
      ∙ ap (is_doubled sources literal) (sym (same ∙ is_name symbols h))
      ∙ sym (doubled sources k)

  -- a wire that is left out
  pub wire_left : is ≡ true → GetsWire names keys old w old
  wire_left e symbols sources h k =
      sym (ap (λ t. if t then old else old ++ named symbols w ∷ []) (told symbols sources h k ∙ e))

  -- another stands behind the others
  pub wire_put : (new : List Named) → is ≡ false → new ≡ old ++ (record { wire = w; name = plain }) ∷ [] → GetsWire names keys old w new
  wire_put new e put symbols sources h k =
      put
      ∙ ap (λ (x : List ℕ). old ++ (record { wire = w; name = x }) ∷ []) (is_name symbols h)
      ∙ sym (ap (λ t. if t then old else old ++ named symbols w ∷ []) (told symbols sources h k ∙ e))

pub no_wires : (names : SymbolNames) (keys : BTreeSet Key) (old : List Named) (wires : List Wire) → GetsWires names keys old (take 0 wires) old
no_wires names keys old wires symbols sources h k = refl

-- one wire more
pub wires_more : (names : SymbolNames) (keys : BTreeSet Key) (old mid new : List Named) (wires : List Wire) (i : ℕ) (d : Wire) → i < length wires
    → GetsWires names keys old (take i wires) mid → GetsWire names keys mid (get_or wires i d) new → GetsWires names keys old (take (i + 1) wires) new
wires_more names keys old mid new wires i d inside h more symbols sources s k =
    more symbols sources s k
    ∙ ap (λ (x : List Named). with_wire symbols sources x (get_or wires i d)) (h symbols sources s k)
    ∙ sym (fold_more (with_wire symbols sources) old wires i d inside)

-- all wires
pub wires_done : (names : SymbolNames) (keys : BTreeSet Key) (old new : List Named) (wires : List Wire) (i : ℕ) → length wires ≤ i
    → GetsWires names keys old (take i wires) new → GetsWires names keys old wires new
wires_done names keys old new wires i past h symbols sources s k =
    h symbols sources s k ∙ ap (λ (x : List Wire). fold (with_wire symbols sources) old x) (take_all i wires past)

-- the sources, and the later wires behind them
all_named : (names : SymbolNames) (none keys : BTreeSet Key) (sources later : List Wire) (old mid new : List Named) → old ≡ [] → none.keys ≡ []
    → GetsWires names none old sources mid → AreSources keys mid → GetsWires names keys mid later new → AreNamed names sources later new
all_named names none keys sources later old mid new e f first known second symbols h =
    let front : mid ≡ fold (with_wire symbols []) [] sources =
    first symbols [] h (no_sources none f) ∙ ap (λ (x : List Named). fold (with_wire symbols []) x sources) e in
    second symbols mid h known ∙ ap (λ (x : List Named). fold (with_wire symbols x) x later) front

-- the same of a call that may fail
pub all_pushed : {T E : Type 0} (r : Result T E) (names : SymbolNames) (none keys : BTreeSet Key) (sources later : List Wire) (old mid lent new : List Named)
    → old ≡ [] → none.keys ≡ [] → GetsWires names none old sources mid → lent ≡ mid → AreSources keys lent → OnOk r (GetsWires names keys mid later new)
    → OnOk r (AreNamed names sources later new)
all_pushed (Ok x) names none keys sources later old mid lent new e f first same known second =
    all_named names none keys sources later old mid new e f first (subst (λ (x : List Named). AreSources keys x) same known) second
all_pushed (Err y) names none keys sources later old mid lent new e f first same known second = tt
