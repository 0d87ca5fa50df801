-- A line of uses has no bad use exactly where the uses are closed and the user may make each of them.
use Rattle.std.proofs.Common.{◌≡◌, ℕ, zero, suc, ◌+◌, ◌<◌, ◌≤◌, Bool, true, false, not, ◌||◌, cond, List, [], ◌∷◌, ◌++◌, length, get_or, refl, sym, ap, subst, ◌∙◌, inl, inr, arith, append_assoc, length-append, Some, None, Option}
use Rattle.std.specs.Prelude.{◌==◌}
use Rattle.std.specs.List.{All, Any, AllPairs, list_any}
use Rattle.std.proofs.lemmas.Bool.{and_parts, and_from, cases_Bool, leb-true, ltb-true, le-leb, lt-ltb, eqb-true, eq-eqb, or_left, or_right}
use Rattle.std.proofs.lemmas.List.{get_or_append_left}
use Rattle.std.proofs.lemmas.List.Elements.{All-cons, All-nil, All-head, All-tail, All-append}
use Rattle.std.proofs.lemmas.List.Kept.{AllPairs-cons}
use Rattle.std.proofs.lemmas.List.Folds.{Any-from_list_any, list_any-from_Any}
use Rattle.fair_semantics.specs.declared.entries.Kind.{Kind}
use Rattle.fair_semantics.specs.declared.entries.Kind.TheVariants.{Reach, Wall}
use Rattle.fair_semantics.specs.declared.entries.Side.{Side}
use Rattle.fair_semantics.specs.declared.entries.Side.TheVariants as sides
use Rattle.fair_semantics.specs.declared.entries.Use.{Use}
use Rattle.fair_semantics.specs.Entries.{Entry, entry_at, IsSigned, Uses, AreClosed}
use Rattle.entry.specs.declared.uses.User.{User}
use Rattle.entry.specs.declared.uses.User.TheVariants as users
use Rattle.entry.specs.Faults.{is_signed, may_use, are_known, may_stand, bad_use_behind, first_bad_use}

-- ---- sides

pub signed-true : (side : Side) → (side ≡ sides.Any → ⊥) → is_signed side ≡ true
signed-true sides.Any h = absurd (h refl)
signed-true sides.In h = refl
signed-true sides.Out h = refl

pub signed-from_true : (side : Side) → is_signed side ≡ true → side ≡ sides.Any → ⊥
signed-from_true sides.Any e same = absurd (cc)
signed-from_true sides.In e same = cc
signed-from_true sides.Out e same = cc

pub wall-signed : (user : User) (kind : Kind) (side : Side) → may_use user kind side ≡ true → is_signed side ≡ true → kind ≡ Wall
wall-signed (users.Entry Reach) Reach sides.Any h signed = absurd (cc)
wall-signed (users.Entry Reach) Reach sides.In h signed = absurd (cc)
wall-signed (users.Entry Reach) Reach sides.Out h signed = absurd (cc)
wall-signed (users.Entry Wall) Reach sides.Any h signed = absurd (cc)
wall-signed (users.Entry Wall) Reach sides.In h signed = absurd (cc)
wall-signed (users.Entry Wall) Reach sides.Out h signed = absurd (cc)
wall-signed users.Refutation Reach sides.Any h signed = absurd (cc)
wall-signed users.Refutation Reach sides.In h signed = absurd (cc)
wall-signed users.Refutation Reach sides.Out h signed = absurd (cc)
wall-signed user Wall side h signed = refl

-- ---- one use

pub record Stands (user : User) (before : List Entry) (least : ℕ) (earlier : List Use) (u : Use) : Type 0 where
  pub above : least ≤ u.entry
  pub present : u.entry < length before
  pub may : may_use user (entry_at before u.entry).kind u.side ≡ true
  pub known : are_known earlier (entry_at before u.entry).uses ≡ true

pub stands-from_test : (user : User) (before : List Entry) (least : ℕ) (earlier : List Use) (u : Use) → may_stand user before least earlier u ≡ true
    → Stands user before least earlier u
stands-from_test user before least earlier u h =
    let a = and_parts _ _ h in
    let b = and_parts _ _ a.0 in
    let d = and_parts _ _ b.0 in
    record { above = leb-true _ _ d.0; present = ltb-true _ _ d.1; may = b.1; known = a.1 }

pub test-from_stands : (user : User) (before : List Entry) (least : ℕ) (earlier : List Use) (u : Use) → Stands user before least earlier u
    → may_stand user before least earlier u ≡ true
test-from_stands user before least earlier u h =
    and_from _ _ (and_from _ _ (and_from _ _ (le-leb _ _ h.above) (lt-ltb _ _ h.present)) h.may) h.known

pub split-none : (test : Bool) (rest : Option ℕ) (n : ℕ) → cond test rest (Some n) ≡ None → (test ≡ true) × (rest ≡ None)
split-none true rest n h = (refl, h)
split-none false rest n h = absurd (cc)

-- ---- from the test

pub record Parts (user : User) (before : List Entry) (least : ℕ) (earlier uses : List Use) : Type 0 where
  pub above : All (λ u. least ≤ u.entry) uses
  pub ascend : AllPairs (λ u v. u.entry < v.entry) uses
  pub present : All (λ u. u.entry < length before) uses
  pub may : All (λ u. may_use user (entry_at before u.entry).kind u.side ≡ true) uses
  pub closed : All (λ u. All (λ named. IsSigned named → (named.entry < u.entry) × Uses (earlier ++ uses) named.entry) (entry_at before u.entry).uses) uses

uses-left : (earlier later : List Use) (n : ℕ) → Uses earlier n → Uses (earlier ++ later) n
uses-left earlier later n (k, v, inside, at, same) =
    (k, v, let h : k < length (earlier ++ later) = omega (arith, length-append earlier later) in h, get_or_append_left earlier later v k inside ∙ at, same)

pub known-at : (earlier : List Use) (n : ℕ) → list_any (λ v. v.entry == n) earlier ≡ true → Uses earlier n
known-at earlier n h =
    let found : Any (λ v. (v.entry == n) ≡ true) earlier = Any-from_list_any (λ v. v.entry == n) earlier h in
    (found.0, found.1, found.2, found.3, eqb-true found.1.entry n found.4)

at-known : (earlier : List Use) (n : ℕ) → Uses earlier n → list_any (λ v. v.entry == n) earlier ≡ true
at-known earlier n (k, v, inside, at, same) = list_any-from_Any (λ v. v.entry == n) earlier (k, v, inside, at, eq-eqb v.entry n same)

below-at : (earlier : List Use) (least n : ℕ) → All (λ v. v.entry < least) earlier → Uses earlier n → n < least
below-at earlier least n h (k, v, inside, at, same) =
    let here : (get_or earlier k v).entry < least = h k v inside in
    let e : (get_or earlier k v).entry ≡ n = ap (λ x. x.entry) at ∙ same in
    omega arith

pub one-known : (signed known : Bool) → (not signed || known) ≡ true → signed ≡ true → known ≡ true
one-known true known h signed = h
one-known false known h signed = absurd (cc)

known-each : (earlier whole : List Use) (top least : ℕ) (named : List Use) → All (λ v. v.entry < least) earlier → least ≤ top
    → ((n : ℕ) → Uses earlier n → Uses whole n) → are_known earlier named ≡ true
    → All (λ u. IsSigned u → (u.entry < top) × Uses whole u.entry) named
known-each earlier whole top least [] below order wide h = All-nil (λ u. IsSigned u → (u.entry < top) × Uses whole u.entry)
known-each earlier whole top least (u ∷ named) below order wide h =
    let both = and_parts _ _ h in
    let first : IsSigned u → (u.entry < top) × Uses whole u.entry =
    λ signed.
    let there : Uses earlier u.entry = known-at earlier u.entry (one-known (is_signed u.side) _ both.0 (signed-true u.side signed)) in
    let low : u.entry < least = below-at earlier least u.entry below there in
    ((let r : u.entry < top = omega arith in r), wide u.entry there)
    in
    All-cons (λ v. IsSigned v → (v.entry < top) × Uses whole v.entry) u named first (known-each earlier whole top least named below order wide both.1)

weaken : (low high : ℕ) (uses : List Use) → low ≤ high → All (λ u. high ≤ u.entry) uses → All (λ u. low ≤ u.entry) uses
weaken low high uses order h k d inside = let here = h k d inside in omega arith

raise : (low high : ℕ) (uses : List Use) → low ≤ high → All (λ u. u.entry < low) uses → All (λ u. u.entry < high) uses
raise low high uses order h k d inside = let here = h k d inside in omega arith

pub parts-from_none : (user : User) (before : List Entry) (least : ℕ) (earlier uses : List Use)
    → All (λ v. v.entry < least) earlier → bad_use_behind user before least earlier uses ≡ None → Parts user before least earlier uses
parts-from_none user before least earlier [] below h = record {
  above = All-nil (λ u. least ≤ u.entry);
  ascend = λ i j d lt inside. absurd (omega arith);
  present = All-nil (λ u. u.entry < length before);
  may = All-nil (λ u. may_use user (entry_at before u.entry).kind u.side ≡ true);
  closed = All-nil (λ u. All (λ named. IsSigned named → (named.entry < u.entry) × Uses (earlier ++ []) named.entry) (entry_at before u.entry).uses);
}
parts-from_none user before least earlier (u ∷ uses) below h =
    let both = split-none (may_stand user before least earlier u) _ u.entry h in
    let here : Stands user before least earlier u = stands-from_test user before least earlier u both.0 in
    let low : least ≤ u.entry + 1 = let a = here.above in omega arith in
    let low_u : least ≤ u.entry = here.above in
    let later_below : All (λ v. v.entry < u.entry + 1) (earlier ++ u ∷ []) =
    All-append (λ v. v.entry < u.entry + 1) earlier (u ∷ []) (raise least (u.entry + 1) earlier low below)
    (All-cons (λ v. v.entry < u.entry + 1) u [] (omega arith) (All-nil (λ v. v.entry < u.entry + 1)))
    in
    let rest : Parts user before (u.entry + 1) (earlier ++ u ∷ []) uses = parts-from_none user before (u.entry + 1) (earlier ++ u ∷ []) uses later_below both.1 in
    let whole : List Use = earlier ++ u ∷ uses in
    let Closed : List Use → Use → Type 0 = λ all x. All (λ named. IsSigned named → (named.entry < x.entry) × Uses all named.entry) (entry_at before x.entry).uses in
    let rest_closed : All (Closed whole) uses = subst (λ all. All (Closed all) uses) (append_assoc earlier (u ∷ []) uses) rest.closed in
    record {
      above = All-cons (λ v. least ≤ v.entry) u uses low_u (weaken least (u.entry + 1) uses low rest.above);
      ascend = AllPairs-cons (λ v w. v.entry < w.entry) u uses (λ k d inside. (let r = rest.above k d inside in omega arith)) rest.ascend;
      present = All-cons (λ v. v.entry < length before) u uses here.present rest.present;
      may = All-cons (λ v. may_use user (entry_at before v.entry).kind v.side ≡ true) u uses here.may rest.may;
      closed = All-cons (Closed whole) u uses
          (known-each earlier whole u.entry least (entry_at before u.entry).uses below low_u (λ n there. uses-left earlier (u ∷ uses) n there) here.known) rest_closed;
    }

pub closed-from_none : (user : User) (before : List Entry) (uses : List Use) → first_bad_use user before uses ≡ None
    → AreClosed before uses × All (λ u. may_use user (entry_at before u.entry).kind u.side ≡ true) uses
closed-from_none user before uses h =
    let parts : Parts user before 0 [] uses = parts-from_none user before 0 [] uses (All-nil (λ v. v.entry < 0)) h in
    let closed : AreClosed before uses = record {
      ascend = parts.ascend;
      present = parts.present;
      walls = λ k d inside signed. wall-signed user _ _ (parts.may k d inside) (signed-true _ signed);
      closed = parts.closed;
    }
    in
    (closed, parts.may)

-- ---- to the test

uses-right : (earlier later : List Use) (top n : ℕ) → All (λ v. top ≤ v.entry) later → n < top → Uses (earlier ++ later) n → Uses earlier n
uses-right [] later top n high low (k, v, inside, at, same) =
    let here : top ≤ (get_or later k v).entry = high k v inside in
    let e : (get_or later k v).entry ≡ n = ap (λ x. x.entry) at ∙ same in
    absurd (omega arith)
uses-right (u ∷ earlier) later top n high low (zero, v, inside, at, same) = (zero, v, omega arith, at, same)
uses-right (u ∷ earlier) later top n high low (suc k, v, inside, at, same) =
    let rest : Uses earlier n = uses-right earlier later top n high low (k, v, omega arith, at, same) in
    (suc rest.0, rest.1, (let r = rest.2 in omega arith), rest.3, rest.4)

each-known : (earlier : List Use) (named : List Use) → All (λ u. IsSigned u → Uses earlier u.entry) named → are_known earlier named ≡ true
each-known earlier [] h = refl
each-known earlier (u ∷ named) h =
    let Known : Use → Type 0 = λ v. IsSigned v → Uses earlier v.entry in
    let first : (not (is_signed u.side) || list_any (λ v. v.entry == u.entry) earlier) ≡ true =
    elim (cases_Bool (is_signed u.side)) [
      | inl is_so ↦ or_right _ _ (at-known earlier u.entry (All-head Known u named h (signed-from_true u.side is_so)))
      | inr not_so ↦ or_left _ _ (ap not not_so)
    ]
    in
    and_from _ _ first (each-known earlier named (All-tail Known u named h))

pub none-from_parts : (user : User) (before : List Entry) (least : ℕ) (earlier uses : List Use)
    → Parts user before least earlier uses → bad_use_behind user before least earlier uses ≡ None
none-from_parts user before least earlier [] h = refl
none-from_parts user before least earlier (u ∷ uses) h =
    let whole : List Use = earlier ++ u ∷ uses in
    let Closed : List Use → Use → Type 0 = λ all x. All (λ named. IsSigned named → (named.entry < x.entry) × Uses all named.entry) (entry_at before x.entry).uses in
    let ascend : AllPairs (λ v w. v.entry < w.entry) (u ∷ uses) = h.ascend in
    let high : All (λ v. u.entry ≤ v.entry) (u ∷ uses) =
    All-cons (λ v. u.entry ≤ v.entry) u uses (omega arith) (λ k d inside. (let r = ascend 0 (suc k) d (omega arith) (omega arith) in omega arith))
    in
    let mine : Closed whole u = All-head (Closed whole) u uses h.closed in
    let named : All (λ v. IsSigned v → Uses earlier v.entry) (entry_at before u.entry).uses =
    λ k d inside signed. uses-right earlier (u ∷ uses) u.entry _ high (mine k d inside signed).0 (mine k d inside signed).1
    in
    let stands : may_stand user before least earlier u ≡ true =
    test-from_stands user before least earlier u (record {
      above = All-head (λ v. least ≤ v.entry) u uses h.above;
      present = All-head (λ v. v.entry < length before) u uses h.present;
      may = All-head (λ v. may_use user (entry_at before v.entry).kind v.side ≡ true) u uses h.may;
      known = each-known earlier (entry_at before u.entry).uses named;
    })
    in
    let rest_closed : All (Closed ((earlier ++ u ∷ []) ++ uses)) uses =
    subst (λ all. All (Closed all) uses) (sym (append_assoc earlier (u ∷ []) uses)) (All-tail (Closed whole) u uses h.closed)
    in
    let rest : Parts user before (u.entry + 1) (earlier ++ u ∷ []) uses = record {
      above = λ k d inside. (let r = ascend 0 (suc k) d (omega arith) (omega arith) in omega arith);
      ascend = λ i j d lt inside. ascend (suc i) (suc j) d (omega arith) (omega arith);
      present = All-tail (λ v. v.entry < length before) u uses h.present;
      may = All-tail (λ v. may_use user (entry_at before v.entry).kind v.side ≡ true) u uses h.may;
      closed = rest_closed;
    }
    in
    rw stands (none-from_parts user before (u.entry + 1) (earlier ++ u ∷ []) uses rest)

pub none-from_closed : (user : User) (before : List Entry) (uses : List Use) → AreClosed before uses
    → All (λ u. may_use user (entry_at before u.entry).kind u.side ≡ true) uses → first_bad_use user before uses ≡ None
none-from_closed user before uses closed may = none-from_parts user before 0 [] uses (record {
  above = λ k d inside. omega arith;
  ascend = closed.ascend;
  present = closed.present;
  may = may;
  closed = closed.closed;
})
