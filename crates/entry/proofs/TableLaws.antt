-- A table of latches grows latch by latch.
use Rattle.std.proofs.Common.{◌≡◌, ◌≢◌, ℕ, zero, suc, ◌+◌, ◌<◌, Bool, true, false, List, [], ◌∷◌, ◌++◌, length, take, refl, sym, ap, ◌∙◌, subst, arith, eqb, eqb-true, Option, Some, None, slice_index_or, slice_set}
use Rattle.std.specs.Prelude.{if◌then◌else◌}
use Rattle.std.proofs.lemmas.Bool.{eq-eqb}
use Rattle.std.proofs.lemmas.List.{get_or-set_same, get_or-set_other, length-set, length-take-le}
use Rattle.std.proofs.Math.Seq.{take-suc}
use Rattle.aig_semantics.specs.declared.parts.Latch.{Latch}
use Rattle.aig_semantics.specs.Circuits.{Circuit, IsChecked}
use Rattle.circuit.proofs.Evaluated.{latches_in_range}
use Rattle.entry.specs.Clauses.{latch_from}
use Rattle.entry.specs.LatchTables.{number_by, number_in, with_latch}

-- the number of a latch, if it is this variable's
abbrev number_if : Bool → ℕ → Option ℕ
number_if true n = Some n
number_if false n = None

-- the first, if there is one
abbrev first_of : Option ℕ → Option ℕ → Option ℕ
first_of None o = o
first_of (Some n) o = Some n

-- the first of latches of which some number is known behind the first
step : (k variable n m : ℕ) (latches more : List Latch) (mine other : Bool) → m ≡ n
    → latch_from (k + 1) variable more ≡ first_of (latch_from (k + 1) variable latches) (number_if other m)
    → (if mine then Some k else latch_from (k + 1) variable more)
    ≡ first_of (if mine then Some k else latch_from (k + 1) variable latches) (number_if other n)
step k variable n m latches more true other e h = refl
step k variable n m latches more false other e h = h ∙ ap (λ x. first_of (latch_from (k + 1) variable latches) (number_if other x)) e

alone : (k n : ℕ) (b : Bool) → k ≡ n → (if b then Some k else None) ≡ number_if b n
alone k n true e = ap Some e
alone k n false e = refl

-- the latches with one more behind them
latch-behind : (k variable : ℕ) (latches : List Latch) (latch : Latch)
    → latch_from k variable (latches ++ latch ∷ [])
    ≡ first_of (latch_from k variable latches) (number_if (eqb latch.var variable) (k + length latches))
latch-behind k variable [] latch = alone k (k + 0) (eqb latch.var variable) (omega arith)
latch-behind k variable (l ∷ latches) latch =
    step k variable (k + length (l ∷ latches)) ((k + 1) + length latches) latches (latches ++ latch ∷ []) (eqb l.var variable) (eqb latch.var variable)
    (omega arith) (latch-behind (k + 1) variable latches latch)

first_of-none : (o : Option ℕ) → first_of o None ≡ o
first_of-none None = refl
first_of-none (Some n) = refl

-- what stands where it is not 0
number-some : (n : ℕ) → n ≢ 0 → (m : ℕ) × (number_by n ≡ Some m)
number-some zero apart = absurd (apart refl)
number-some (suc n) apart = (n, refl)

first_of-some : (o p : Option ℕ) (m : ℕ) → o ≡ Some m → first_of o p ≡ o
first_of-some None p m e = cc
first_of-some (Some n) p m e = refl

-- another variable than the latch's
other : (table : List ℕ) (place variable n : ℕ) (t : Bool) → variable ≢ place
    → number_by (slice_index_or (if t then slice_set table place (n + 1) else table) variable 0) ≡ number_in table variable
other table place variable n true apart = ap number_by (get_or-set_other table place variable (n + 1) 0 apart)
other table place variable n false apart = refl

-- the latch's variable, by what stands there
same : (table : List ℕ) (place n : ℕ) (found : Option ℕ) (t : Bool) → place < length table → eqb (slice_index_or table place 0) 0 ≡ t
    → number_in table place ≡ found
    → number_by (slice_index_or (if t then slice_set table place (n + 1) else table) place 0) ≡ first_of found (Some n)
same table place n found true room e numbers =
    let empty : slice_index_or table place 0 ≡ 0 = eqb-true (slice_index_or table place 0) 0 e in
    let none : found ≡ None = sym numbers ∙ ap number_by empty in
    let put : slice_index_or (slice_set table place (n + 1)) place 0 ≡ n + 1 = get_or-set_same table place (n + 1) 0 room in
    let stands : n + 1 ≡ suc n = omega arith in
    ap number_by (put ∙ stands) ∙ sym (ap (λ o. first_of o (Some n)) none)
same table place n found false room e numbers =
    let some = number-some (slice_index_or table place 0) (λ is. false-eqb (slice_index_or table place 0) is e) in
    numbers ∙ sym (first_of-some found (Some n) some.0 (sym numbers ∙ some.1))
  where
    false-eqb : (m : ℕ) → m ≡ 0 → eqb m 0 ≡ false → ⊥
    false-eqb m is wrong = let right : eqb m 0 ≡ true = eq-eqb m 0 is in cc

at_latch : (table : List ℕ) (latches : List Latch) (latch : Latch) (variable : ℕ) (b : Bool) → eqb latch.var variable ≡ b
    → latch.var < length table → ((v : ℕ) → number_in table v ≡ latch_from 0 v latches)
    → number_in (with_latch table latch.var (length latches)) variable ≡ first_of (latch_from 0 variable latches) (number_if b (length latches))
at_latch table latches latch variable true e room numbers =
    let is : latch.var ≡ variable = eqb-true latch.var variable e in
    subst (λ v. number_in (with_latch table latch.var (length latches)) v ≡ first_of (latch_from 0 v latches) (Some (length latches))) is
    (same table latch.var (length latches) (latch_from 0 latch.var latches) (eqb (slice_index_or table latch.var 0) 0) room refl (numbers latch.var))
at_latch table latches latch variable false e room numbers =
    other table latch.var variable (length latches) (eqb (slice_index_or table latch.var 0) 0) (λ is. no is)
    ∙ numbers variable ∙ sym (first_of-none (latch_from 0 variable latches))
  where
    no : variable ≡ latch.var → ⊥
    no is = let right : eqb latch.var variable ≡ true = eq-eqb latch.var variable (sym is) in cc

-- the table with one more latch
pub number-with : (table : List ℕ) (latches : List Latch) (latch : Latch) (variable : ℕ) → latch.var < length table
    → ((v : ℕ) → number_in table v ≡ latch_from 0 v latches)
    → number_in (with_latch table latch.var (length latches)) variable ≡ latch_from 0 variable (latches ++ latch ∷ [])
number-with table latches latch variable room numbers =
    let shift : length latches ≡ 0 + length latches = omega arith in
    at_latch table latches latch variable (eqb latch.var variable) refl room numbers
    ∙ ap (λ n. first_of (latch_from 0 variable latches) (number_if (eqb latch.var variable) n)) shift
    ∙ sym (latch-behind 0 variable latches latch)

-- each latch has room in a table of all variables
pub latch_fits : (c : Circuit) → IsChecked c → (latches : List Latch) → latches ≡ c.latches → (n : ℕ) (d : Latch) → n < length latches
    → (size : ℕ) → size ≡ c.max + 1 → (slice_index_or latches n d).var < size
latch_fits c checked latches same n d below size is =
    let below' : n < length c.latches = subst (λ ls. n < length ls) same below in
    let range = latches_in_range c checked n d below' in
    let here : (slice_index_or latches n d).var ≡ (slice_index_or c.latches n d).var = ap (λ ls. (slice_index_or ls n d).var) same in
    let most = range.1 in
    omega (arith, most, here, is)

-- a latch more keeps the table's size
pub with_latch-size : (table : List ℕ) (variable n : ℕ) → length (with_latch table variable n) ≡ length table
with_latch-size table variable n = by (eqb (slice_index_or table variable 0) 0)
  where
    by : (t : Bool) → length (if t then slice_set table variable (n + 1) else table) ≡ length table
    by true = length-set table variable (n + 1)
    by false = refl

-- the latches up to n, and then up to n + 1
pub number-taken : (table : List ℕ) (latches : List Latch) (n : ℕ) (d : Latch) (variable : ℕ) → n < length latches
    → (slice_index_or latches n d).var < length table → ((v : ℕ) → number_in table v ≡ latch_from 0 v (take n latches))
    → number_in (with_latch table (slice_index_or latches n d).var n) variable ≡ latch_from 0 variable (take (n + 1) latches)
number-taken table latches n d variable below room numbers =
    let latch : Latch = slice_index_or latches n d in
    let taken : length (take n latches) ≡ n = length-take-le n latches (omega arith) in
    let next : n + 1 ≡ suc n = omega arith in
    ap (λ k. number_in (with_latch table latch.var k) variable) (sym taken)
    ∙ number-with table (take n latches) latch variable room numbers
    ∙ ap (λ ls. latch_from 0 variable ls) (sym (take-suc latches n d below))
    ∙ ap (λ k. latch_from 0 variable (take k latches)) (sym next)
