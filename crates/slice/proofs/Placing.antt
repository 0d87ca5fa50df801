-- New places: within the lists of the slice, and as the tables have them.
use Rattle.std.proofs.Common.{◌≡◌, ℕ, zero, suc, ◌+◌, ◌<◌, ◌==◌, Bool, true, cond, get_or, List, [], ◌∷◌, ◌++◌, map, length, take, Option, Some, None, refl, sym, ap, ◌∙◌, subst, inl, inr, arith}
use Rattle.std.specs.Prelude.{slice_get, slice_index_or, IfSome}
use Rattle.std.specs.List.{All, filter, filter_map, cons_option}
use Rattle.std.specs.Option.{option_to_list}
use Rattle.std.proofs.lemmas.Bool.{cases_Bool, cond_both, eqb-true, false≢true}
use Rattle.std.proofs.lemmas.List.{length-map}
use Rattle.std.proofs.lemmas.List.Elements.{All-nil, All-cons, All-head, All-tail}
use Rattle.aig_semantics.specs.Circuits.{Circuit}
use Rattle.aiger_grammar.specs.declared.names.TheConstants.{INPUT, LATCH, CONSTRAINT, JUSTICE, FAIRNESS}
use Rattle.aiger_grammar.specs.declared.names.Counts.{Counts}
use Rattle.aiger_grammar.specs.declared.names.Symbol.{Symbol}
use Rattle.aiger_grammar.specs.Names.{counts_of, count_of}
use Rattle.aiger_grammar.specs.Models.{Model, heading_of, NamesElement}
use Rattle.slice.specs.declared.symbols.Places.{Places}
use Rattle.slice.specs.Symbols.{has_variable, place_left, index_left, at_place, symbol_left}
use Rattle.slice.specs.Slicing.{sliced_model}
use Rattle.slice.specs.Steps.{places_left, places_for, property_left, index_by, symbol_by}
use Rattle.slice.proofs.Picking.{map-filter}

-- ---- tables

place-at : (set : ℕ → Bool) (n : ℕ) (vs : List ℕ) (k : ℕ)
    → slice_index_or (places_left set n vs) k None ≡ cond (has_variable set (slice_get vs k)) (Some (n + length (filter set (take k vs)))) None
place-at set n [] k = refl
place-at set n (v ∷ vs) zero =
    let e : n ≡ n + 0 = omega arith in
    ap (λ m. cond (set v) (Some m) None) e
place-at set n (v ∷ vs) (suc k) =
    let there : Bool = has_variable set (slice_get vs k) in
    let before : ℕ = length (filter set (take k vs)) in
    elim (cases_Bool (set v)) [
      | inl t ↦
          let e : n + 1 + before ≡ n + suc before = omega arith in
          rw t (place-at set (n + 1) vs k ∙ ap (λ m. cond there (Some m) None) e)
      | inr f ↦ rw f (place-at set n vs k)
    ]

place-is : (set : ℕ → Bool) (vs : List ℕ) (k : ℕ) → slice_index_or (places_left set 0 vs) k None ≡ place_left set vs k
place-is set vs k =
    let e : 0 + length (filter set (take k vs)) ≡ length (filter set (take k vs)) = omega arith in
    place-at set 0 vs k ∙ ap (λ m. cond (has_variable set (slice_get vs k)) (Some m) None) e

-- by the letter of a symbol
abbrev by_letter : Option ℕ → Option ℕ → ℕ → Symbol → Option ℕ
by_letter input latch j symbol =
    cond (symbol.letter == INPUT) input
    (cond (symbol.letter == LATCH) latch
    (cond (symbol.letter == JUSTICE) (property_left j symbol.index)
    (cond (symbol.letter == CONSTRAINT) (Some symbol.index)
    (cond (symbol.letter == FAIRNESS) (Some symbol.index) None))))

index-is : (c : Circuit) (j : ℕ) (set : ℕ → Bool) (symbol : Symbol) → symbol_by (places_for c j set) symbol ≡ symbol_left c j set symbol
index-is c j set symbol =
    let variables : List ℕ = map (λ latch. latch.var) c.latches in
    ap (λ o. at_place symbol (by_letter o (slice_index_or (places_left set 0 variables) symbol.index None) j symbol)) (place-is set c.inputs symbol.index)
    ∙ ap (λ o. at_place symbol (by_letter (place_left set c.inputs symbol.index) o j symbol)) (place-is set variables symbol.index)

filter_map-agree : {X Y : Type 0} (f g : X → Option Y) → ((x : X) → f x ≡ g x) → (xs : List X) → filter_map f xs ≡ filter_map g xs
filter_map-agree f g same [] = refl
filter_map-agree f g same (x ∷ xs) =
    ap (λ o. cons_option o (filter_map f xs)) (same x) ∙ ap (λ ys. cons_option (g x) ys) (filter_map-agree f g same xs)

pub symbols-are : (c : Circuit) (j : ℕ) (set : ℕ → Bool) (symbols : List Symbol) → filter_map (symbol_by (places_for c j set)) symbols ≡ filter_map (symbol_left c j set) symbols
symbols-are c j set symbols = filter_map-agree (symbol_by (places_for c j set)) (symbol_left c j set) (index-is c j set) symbols

one-option : {X : Type 0} (o : Option X) → cons_option o [] ≡ option_to_list o
one-option None = refl
one-option (Some x) = refl

cons-append : {X : Type 0} (o : Option X) (xs ys : List X) → cons_option o (xs ++ ys) ≡ cons_option o xs ++ ys
cons-append None xs ys = refl
cons-append (Some x) xs ys = refl

filter_map-more : {X Y : Type 0} (f : X → Option Y) (xs : List X) (i n : ℕ) (d : X) → n ≡ suc i → i < length xs
    → filter_map f (take n xs) ≡ filter_map f (take i xs) ++ option_to_list (f (get_or xs i d))
filter_map-more f [] i n d e lt = absurd (omega (arith, lt))
filter_map-more f (x ∷ xs) i zero d e lt = absurd (omega (arith, e))
filter_map-more f (x ∷ xs) zero (suc zero) d e lt = one-option (f x)
filter_map-more f (x ∷ xs) zero (suc (suc n)) d e lt = absurd (omega (arith, e))
filter_map-more f (x ∷ xs) (suc i) (suc n) d e lt =
    ap (cons_option (f x)) (filter_map-more f xs i n d (omega (arith, e)) (omega (arith, lt)))
    ∙ cons-append (f x) (filter_map f (take i xs)) (option_to_list (f (get_or xs i d)))

-- one symbol more
pub symbols-more : (places : Places) (symbols : List Symbol) (i : ℕ) (old new : List Symbol) (symbol : Symbol) (place : Option ℕ) → i < length symbols
    → symbol ≡ get_or symbols i symbol → old ≡ filter_map (symbol_by places) (take i symbols)
    → place ≡ index_by places.inputs places.latches places.property symbol → new ≡ old ++ option_to_list (at_place symbol place)
    → new ≡ filter_map (symbol_by places) (take (i + 1) symbols)
symbols-more places symbols i old new symbol place lt is before at pushed =
    pushed
    ∙ ap (λ xs. xs ++ option_to_list (at_place symbol place)) before
    ∙ ap (λ p. filter_map (symbol_by places) (take i symbols) ++ option_to_list (at_place symbol p)) at
    ∙ ap (λ s. filter_map (symbol_by places) (take i symbols) ++ option_to_list (symbol_by places s)) is
    ∙ sym (filter_map-more (symbol_by places) symbols i (i + 1) symbol (omega arith) lt)

-- ---- places of the slice

place-before : (set : ℕ → Bool) (vs : List ℕ) (k : ℕ) → has_variable set (slice_get vs k) ≡ true → length (filter set (take k vs)) < length (filter set vs)
place-before set [] k e = absurd (false≢true e)
place-before set (v ∷ vs) zero e = rw e (omega arith)
place-before set (v ∷ vs) (suc k) e =
    let rest = place-before set vs k e in
    elim (cases_Bool (set v)) [
      | inl t ↦ rw t (omega (arith, rest))
      | inr f ↦ rw f rest
    ]

place-within : (set : ℕ → Bool) (vs : List ℕ) (k : ℕ) → IfSome (place_left set vs k) (λ place. place < length (filter set vs))
place-within set vs k =
    cond_both (has_variable set (slice_get vs k)) (Some (length (filter set (take k vs)))) None (λ o. IfSome o (λ place. place < length (filter set vs)))
    (place-before set vs k) (λ e. tt)

module _ (m : Model) (j : ℕ) (set : ℕ → Bool) where
  abbrev c : Circuit
  c = m.circuit

  abbrev t : Model
  t = sliced_model m j set

  abbrev counts : Counts
  counts = counts_of (heading_of t)

  -- the place, if there is one, is within the slice's list of this letter
  abbrev Within : ℕ → Option ℕ → Type 0
  Within letter place = IfSome place (λ k. k < count_of counts letter)

  latch-within : (index : ℕ) → Within LATCH (place_left set (map (λ latch. latch.var) c.latches) index)
  latch-within index =
      let size : length (filter set (map (λ latch. latch.var) c.latches)) ≡ length (filter (λ latch. set latch.var) c.latches) =
      ap length (sym (map-filter (λ latch. latch.var) set c.latches)) ∙ length-map (filter (λ latch. set latch.var) c.latches) (λ latch. latch.var)
      in
      subst (λ n. IfSome (place_left set (map (λ latch. latch.var) c.latches) index) (λ place. place < n)) size (place-within set (map (λ latch. latch.var) c.latches) index)

  justice-within : (index : ℕ) → Within JUSTICE (property_left j index)
  justice-within index = cond_both (index == j) (Some 0) None (Within JUSTICE) (λ e. omega arith) (λ e. tt)

  index-within : (symbol : Symbol) → symbol.index < count_of (counts_of (heading_of m)) symbol.letter → Within symbol.letter (index_left c j set symbol)
  index-within symbol old =
      let letter : ℕ = symbol.letter in
      let Ok : Option ℕ → Type 0 = Within letter in
      let last : Option ℕ = cond (letter == FAIRNESS) (Some symbol.index) None in
      let fourth : Option ℕ = cond (letter == CONSTRAINT) (Some symbol.index) last in
      let third : Option ℕ = cond (letter == JUSTICE) (property_left j symbol.index) fourth in
      let second : Option ℕ = cond (letter == LATCH) (place_left set (map (λ latch. latch.var) c.latches) symbol.index) third in
      let is : (kind : ℕ) (place : Option ℕ) → (letter == kind) ≡ true → Within kind place → Ok place =
      λ kind place e h. subst (λ l. Within l place) (sym (eqb-true letter kind e)) h
      in
      let same : (kind : ℕ) → (letter == kind) ≡ true → symbol.index < count_of (counts_of (heading_of m)) kind =
      λ kind e. subst (λ l. symbol.index < count_of (counts_of (heading_of m)) l) (eqb-true letter kind e) old
      in
      cond_both (letter == INPUT) (place_left set c.inputs symbol.index) second Ok (λ e. is INPUT (place_left set c.inputs symbol.index) e (place-within set c.inputs symbol.index))
      (λ e. cond_both (letter == LATCH) (place_left set (map (λ latch. latch.var) c.latches) symbol.index) third Ok (λ e. is LATCH (place_left set (map (λ latch. latch.var) c.latches) symbol.index) e (latch-within symbol.index))
      (λ e. cond_both (letter == JUSTICE) (property_left j symbol.index) fourth Ok (λ e. is JUSTICE (property_left j symbol.index) e (justice-within symbol.index))
      (λ e. cond_both (letter == CONSTRAINT) (Some symbol.index) last Ok (λ e. is CONSTRAINT (Some symbol.index) e (same CONSTRAINT e))
      (λ e. cond_both (letter == FAIRNESS) (Some symbol.index) None Ok (λ e. is FAIRNESS (Some symbol.index) e (same FAIRNESS e)) (λ e. tt)))))

  at-place : (symbol : Symbol) (place : Option ℕ) → NamesElement m symbol → Within symbol.letter place → IfSome (at_place symbol place) (NamesElement t)
  at-place symbol None names within = tt
  at-place symbol (Some k) names within = record {
    fits = record { index = within; named = names.fits.named };
    one_line = names.one_line;
  }

  cons-names : (o : Option Symbol) (symbols : List Symbol) → IfSome o (NamesElement t) → All (NamesElement t) symbols → All (NamesElement t) (cons_option o symbols)
  cons-names None symbols h all = all
  cons-names (Some symbol) symbols h all = All-cons (NamesElement t) symbol symbols h all

  pub symbols-name : (symbols : List Symbol) → All (NamesElement m) symbols → All (NamesElement t) (filter_map (symbol_left c j set) symbols)
  symbols-name [] all = All-nil (NamesElement t)
  symbols-name (symbol ∷ symbols) all =
      let names = All-head (NamesElement m) symbol symbols all in
      cons-names (symbol_left c j set symbol) (filter_map (symbol_left c j set) symbols)
      (at-place symbol (index_left c j set symbol) names (index-within symbol names.fits.index))
      (symbols-name symbols (All-tail (NamesElement m) symbol symbols all))
