-- A lasso that is followed to its end is fair, and the other way round.
use Rattle.std.proofs.Common.{◌≡◌, ℕ, zero, suc, ◌+◌, ◌-◌, ◌<◌, ◌≤◌, ◌==◌, ◌&&◌, ◌||◌, ◌↔◌, Bool, true, false, not, List, [], ◌∷◌, ◌++◌, length, get_or, take, drop, set, replicate, Some, IsTrue, refl, sym, ap, ◌∙◌, subst, arith, map}
use Rattle.std.specs.List.{All, Any, AllZip, list_all, list_any, slice_get}
use Rattle.std.proofs.lemmas.Bool.{and_parts, and_from, and_right, eqb-true, eq-eqb, ne_eqb}
use Rattle.std.proofs.lemmas.List.{append_assoc, take_more_set, drop-set-lt, drop_more, drop_all, take_all, length-map, length-replicate, get_or-replicate, get_or_default}
use Rattle.std.proofs.lemmas.Option.{same_Some}
use Rattle.std.proofs.lemmas.List.Sums.{AllPass-from_list_all, list_all-from_AllPass}
use Rattle.std.proofs.lemmas.List.Folds.{Any-from_list_any, list_any-from_Any}
use Rattle.aig_semantics.specs.declared.parts.Latch.{Latch}
use Rattle.aig_semantics.specs.declared.parts.Reset.{Reset}
use Rattle.aig_semantics.specs.declared.parts.Reset.TheVariants.{Zero, One, Free}
use Rattle.aig_semantics.specs.declared.traces.Position.{Position}
use Rattle.aig_semantics.specs.Literals.{literal_in}
use Rattle.aig_semantics.specs.Circuits.{Circuit, fair_literals}
use Rattle.aig_semantics.specs.Valuations.{valuation}
use Rattle.aig_semantics.specs.Runs.{position_of, StartsIn, IsRun, IsInitial, IsInitialRun, AgreesWith, agrees_with, ClosesAt, MeetsFairness, IsFairLasso, successor, literal_at}
use Rattle.aig_semantics.specs.Stimuli.{simulated, state_after}
use Rattle.circuit.specs.Following.{all_agree, seen_with, follows, seen_after, state_at, IsFollowed}

-- what is left of the inputs gives the answer, the last state and what is seen
pub record IsOnTheWay (c : Circuit) (start latches : List Bool) (inputs rest : List (List Bool)) (literals : List ℕ) (before seen : List Bool) : Type 0 where
  pub answer : follows c latches rest ≡ follows c start inputs
  pub state : state_after c latches rest ≡ state_after c start inputs
  pub noted : seen_after c latches rest literals seen ≡ seen_after c start inputs literals before

-- ---- initial states

agrees_with-told : (reset : Reset) (value : Bool) → agrees_with reset value ≡ true → AgreesWith reset value
agrees_with-told Zero false e = refl
agrees_with-told Zero true e = absurd (let f : false ≡ true = e in cc)
agrees_with-told One false e = absurd (let f : false ≡ true = e in cc)
agrees_with-told One true e = refl
agrees_with-told Free value e = tt

agrees_with-from : (reset : Reset) (value : Bool) → AgreesWith reset value → agrees_with reset value ≡ true
agrees_with-from Zero value e = ap not e
agrees_with-from One value e = e
agrees_with-from Free value e = refl

pub all_agree-told : (latches : List Latch) (values : List Bool) → all_agree latches values ≡ true → AllZip (λ latch value. AgreesWith latch.reset value) latches values
all_agree-told [] [] e = tt
all_agree-told [] (b ∷ values) e = let f : false ≡ true = e in cc
all_agree-told (latch ∷ latches) [] e = let f : false ≡ true = e in cc
all_agree-told (latch ∷ latches) (b ∷ values) e =
    let both = and_parts (agrees_with latch.reset b) (all_agree latches values) e in
    (agrees_with-told latch.reset b both.0, all_agree-told latches values both.1)

pub all_agree-from : (latches : List Latch) (values : List Bool) → AllZip (λ latch value. AgreesWith latch.reset value) latches values → all_agree latches values ≡ true
all_agree-from [] [] h = refl
all_agree-from [] (b ∷ values) h = absurd h
all_agree-from (latch ∷ latches) [] h = absurd h
all_agree-from (latch ∷ latches) (b ∷ values) h =
    and_from (agrees_with latch.reset b) (all_agree latches values) (agrees_with-from latch.reset b h.0) (all_agree-from latches values h.1)

pub all_agree-apart : (latches : List Latch) (values : List Bool) → (length latches ≡ length values → ⊥) → false ≡ all_agree latches values
all_agree-apart [] [] ne = absurd (ne refl)
all_agree-apart [] (b ∷ values) ne = refl
all_agree-apart (latch ∷ latches) [] ne = refl
all_agree-apart (latch ∷ latches) (b ∷ values) ne =
    sym (and_right (agrees_with latch.reset b) (all_agree latches values) (sym (all_agree-apart latches values (λ e. ne (ap suc e)))))

-- ---- what is seen

pub note_more : (values : List Bool) (literals : List ℕ) (seen : List Bool) (k e : ℕ) (d : Bool) → k < length literals → length seen ≡ length literals → take (k + 1) (set seen k (get_or seen k d || literal_in values (get_or literals k e))) ++ seen_with values (drop (k + 1) literals) (drop (k + 1) (set seen k (get_or seen k d || literal_in values (get_or literals k e)))) ≡ take k seen ++ seen_with values (drop k literals) (drop k seen)
note_more values literals seen k e d below fit =
    let x : Bool = get_or seen k d || literal_in values (get_or literals k e) in
    let inside : k < length seen = omega arith in
    ap (λ xs. xs ++ seen_with values (drop (k + 1) literals) (drop (k + 1) (set seen k x))) (take_more_set seen k x inside)
    ∙ (append_assoc (take k seen) (x ∷ []) (seen_with values (drop (k + 1) literals) (drop (k + 1) (set seen k x)))
    ∙ ap (λ xs. take k seen ++ xs)
    (ap (λ xs. x ∷ seen_with values (drop (k + 1) literals) xs) (drop-set-lt (k + 1) seen k x (omega arith))
    ∙ sym (ap (λ xs. seen_with values xs (drop k seen)) (drop_more literals k e below)
    ∙ ap (λ xs. seen_with values (get_or literals k e ∷ drop (k + 1) literals) xs) (drop_more seen k d inside))))

-- ---- position by position

-- the constraints at a position that has these latches and inputs
abbrev pub constraints_hold : Circuit → List Bool → List Bool → Bool
constraints_hold c latches now = list_all (λ literal. literal_in (valuation c latches now) literal) c.constraints

module _ (c : Circuit) (start latches : List Bool) (inputs : List (List Bool)) (literals : List ℕ) (before seen : List Bool) (i : ℕ) (now : List Bool) (below : i < length inputs) (at : now ≡ get_or inputs i now) (way : IsOnTheWay c start latches inputs (drop i inputs) literals before seen) where
  rest : drop i inputs ≡ now ∷ drop (i + 1) inputs
  rest = drop_more inputs i now below ∙ ap (λ x. x ∷ drop (i + 1) inputs) (sym at)

  pub way-apart : (length now ≡ length c.inputs → ⊥) → false ≡ follows c start inputs
  unfolding follows
  way-apart ne = (rw (ne_eqb (length now) (length c.inputs) ne) at (rw rest at way.answer))

  pub way-broken : length now ≡ length c.inputs → constraints_hold c latches now ≡ false → false ≡ follows c start inputs
  unfolding follows
  way-broken fit broken = (rw (eq-eqb (length now) (length c.inputs) fit, broken) at (rw rest at way.answer))

  pub way-on : (latches' seen' : List Bool) → length now ≡ length c.inputs → constraints_hold c latches now ≡ true → latches' ≡ successor c (position_of latches now) → seen' ≡ seen_with (valuation c latches now) literals seen → IsOnTheWay c start latches' inputs (drop (i + 1) inputs) literals before seen'
  unfolding follows state_after seen_after
  way-on latches' seen' fit hold e f = record {
    answer = ap (λ l. follows c l (drop (i + 1) inputs)) e ∙ (rw (eq-eqb (length now) (length c.inputs) fit, hold) at (rw rest at way.answer));
    state = ap (λ l. state_after c l (drop (i + 1) inputs)) e ∙ (rw rest at way.state);
    noted = ap (λ l. seen_after c l (drop (i + 1) inputs) literals seen') e ∙ (ap (λ s. seen_after c (successor c (position_of latches now)) (drop (i + 1) inputs) literals s) f ∙ (rw rest at way.noted));
  }

-- at the end of the inputs
pub way-end : (c : Circuit) (start latches : List Bool) (inputs : List (List Bool)) (literals : List ℕ) (before seen : List Bool) (i : ℕ) → length inputs ≤ i → IsOnTheWay c start latches inputs (drop i inputs) literals before seen → (true ≡ follows c start inputs) × (latches ≡ state_after c start inputs) × (seen ≡ seen_after c start inputs literals before)
unfolding follows state_after seen_after
way-end c start latches inputs literals before seen i all way =
    let none = drop_all i inputs all in
    (rw none at way.answer, rw none at way.state, rw none at way.noted)

-- ---- runs, place by place

and_assoc : (x y z : Bool) → (x && (y && z)) ≡ ((x && y) && z)
and_assoc true y z = refl
and_assoc false y z = refl

-- the positions from a place on are those from the state there
pub drop-simulated : (c : Circuit) (n : ℕ) (start : List Bool) (inputs : List (List Bool)) → drop n (simulated c start inputs) ≡ simulated c (state_at c start inputs n) (drop n inputs)
unfolding simulated state_after
drop-simulated c zero start inputs = refl
drop-simulated c (suc n) start [] = refl
drop-simulated c (suc n) start (now ∷ later) = drop-simulated c n (successor c (position_of start now)) later

-- the inputs of a run lay it out again
pub simulated-inputs : (c : Circuit) (s : List Bool) (run : List Position) → IsRun c run → StartsIn s run
    → simulated c s (map (λ p. p.inputs) run) ≡ run
unfolding simulated
simulated-inputs c s [] h starts = refl
simulated-inputs c s (p ∷ run) h starts =
    let same : position_of s p.inputs ≡ p = ap (λ latches. position_of latches p.inputs) (sym starts) in
    ap (λ q. q ∷ simulated c (successor c q) (map (λ p. p.inputs) run)) same
    ∙ ap (λ later. p ∷ later) (simulated-inputs c (successor c p) run h.2 h.1)

pub length-simulated : (c : Circuit) (start : List Bool) (inputs : List (List Bool)) → length (simulated c start inputs) ≡ length inputs
unfolding simulated
length-simulated c start [] = refl
length-simulated c start (now ∷ later) = ap suc (length-simulated c (successor c (position_of start now)) later)

pub follows-split : (c : Circuit) (n : ℕ) (start : List Bool) (inputs : List (List Bool)) → follows c start inputs ≡ (follows c start (take n inputs) && follows c (state_at c start inputs n) (drop n inputs))
unfolding follows state_after
follows-split c zero start inputs = refl
follows-split c (suc n) start [] = refl
follows-split c (suc n) start (now ∷ later) =
    let here : Bool = (length now == length c.inputs) && constraints_hold c start now in
    let next : List Bool = successor c (position_of start now) in
    ap (λ b. here && b) (follows-split c n next later) ∙ and_assoc here (follows c next (take n later)) (follows c (state_at c next later n) (drop n later))

pub state_after-split : (c : Circuit) (n : ℕ) (start : List Bool) (inputs : List (List Bool)) → state_after c start inputs ≡ state_after c (state_at c start inputs n) (drop n inputs)
unfolding state_after
state_after-split c zero start inputs = refl
state_after-split c (suc n) start [] = refl
state_after-split c (suc n) start (now ∷ later) = state_after-split c n (successor c (position_of start now)) later

-- the position at a place, and what comes after it
pub get-simulated : (c : Circuit) (n : ℕ) (start : List Bool) (inputs : List (List Bool)) → n < length inputs → slice_get (simulated c start inputs) n ≡ Some (position_of (state_at c start inputs n) (get_or inputs n []))
unfolding simulated state_after
get-simulated c n start [] below = absurd (omega arith)
get-simulated c zero start (now ∷ later) below = refl
get-simulated c (suc n) start (now ∷ later) below = get-simulated c n (successor c (position_of start now)) later (omega arith)

pub state_at-next : (c : Circuit) (n : ℕ) (start : List Bool) (inputs : List (List Bool)) → n < length inputs → state_at c start inputs (suc n) ≡ successor c (position_of (state_at c start inputs n) (get_or inputs n []))
unfolding state_after
state_at-next c n start [] below = absurd (omega arith)
state_at-next c zero start (now ∷ later) below = refl
state_at-next c (suc n) start (now ∷ later) below = state_at-next c n (successor c (position_of start now)) later (omega arith)

-- ---- runs

pub StartsIn-simulated : (c : Circuit) (state : List Bool) (inputs : List (List Bool)) → StartsIn state (simulated c state inputs)
unfolding simulated
StartsIn-simulated c state [] = tt
StartsIn-simulated c state (now ∷ later) = refl

all-told : (c : Circuit) (latches now : List Bool) → constraints_hold c latches now ≡ true → All (λ literal. IsTrue (literal_at c (position_of latches now) literal)) c.constraints
all-told c latches now e = AllPass-from_list_all (λ literal. literal_in (valuation c latches now) literal) c.constraints e

all-from : (c : Circuit) (latches now : List Bool) → All (λ literal. IsTrue (literal_at c (position_of latches now) literal)) c.constraints → constraints_hold c latches now ≡ true
all-from c latches now h = list_all-from_AllPass (λ literal. literal_in (valuation c latches now) literal) c.constraints h

pub IsRun-told : (c : Circuit) (start : List Bool) (inputs : List (List Bool)) → length start ≡ length c.latches → follows c start inputs ≡ true → IsRun c (simulated c start inputs)
unfolding simulated follows
IsRun-told c start [] fit e = tt
IsRun-told c start (now ∷ later) fit e =
    let next : List Bool = successor c (position_of start now) in
    let split = and_parts ((length now == length c.inputs) && constraints_hold c start now) (follows c next later) e in
    let here = and_parts (length now == length c.inputs) (constraints_hold c start now) split.0 in (
      record { position = record { latches = fit; inputs = eqb-true (length now) (length c.inputs) here.0 }; constraints = all-told c start now here.1 },
      StartsIn-simulated c next later,
      IsRun-told c next later (length-map c.latches (λ latch. literal_at c (position_of start now) latch.next)) split.1,
    )

pub IsRun-from : (c : Circuit) (start : List Bool) (inputs : List (List Bool)) → IsRun c (simulated c start inputs) → follows c start inputs ≡ true
unfolding simulated follows
IsRun-from c start [] h = refl
IsRun-from c start (now ∷ later) h =
    let next : List Bool = successor c (position_of start now) in
    and_from ((length now == length c.inputs) && constraints_hold c start now) (follows c next later)
    (and_from (length now == length c.inputs) (constraints_hold c start now) (eq-eqb (length now) (length c.inputs) h.0.position.inputs) (all-from c start now h.0.constraints))
    (IsRun-from c next later h.2)

-- ---- what is seen in the end

length-seen_with : (values : List Bool) (literals : List ℕ) (seen : List Bool) → length seen ≡ length literals → length (seen_with values literals seen) ≡ length literals
length-seen_with values [] seen fit = refl
length-seen_with values (literal ∷ literals) [] fit = absurd (omega arith)
length-seen_with values (literal ∷ literals) (b ∷ seen) fit = ap suc (length-seen_with values literals seen (omega arith))

get-seen_with : (values : List Bool) (literals : List ℕ) (seen : List Bool) (k : ℕ) (d : ℕ) → length seen ≡ length literals → k < length literals → get_or (seen_with values literals seen) k false ≡ (get_or seen k false || literal_in values (get_or literals k d))
get-seen_with values [] seen k d fit below = absurd (omega arith)
get-seen_with values (literal ∷ literals) [] k d fit below = absurd (omega arith)
get-seen_with values (literal ∷ literals) (b ∷ seen) zero d fit below = refl
get-seen_with values (literal ∷ literals) (b ∷ seen) (suc k) d fit below = get-seen_with values literals seen k d (omega arith) (omega arith)

or_assoc : (x y z : Bool) → ((x || y) || z) ≡ (x || (y || z))
or_assoc true y z = refl
or_assoc false y z = refl

or_false : (x : Bool) → (x || false) ≡ x
or_false true = refl
or_false false = refl

length-seen_after : (c : Circuit) (start : List Bool) (inputs : List (List Bool)) (literals : List ℕ) (seen : List Bool) → length seen ≡ length literals → length (seen_after c start inputs literals seen) ≡ length literals
unfolding seen_after
length-seen_after c start [] literals seen fit = fit
length-seen_after c start (now ∷ later) literals seen fit =
    length-seen_after c (successor c (position_of start now)) later literals (seen_with (valuation c start now) literals seen)
    (length-seen_with (valuation c start now) literals seen fit)

get-seen_after : (c : Circuit) (start : List Bool) (inputs : List (List Bool)) (literals : List ℕ) (seen : List Bool) (k d : ℕ) → length seen ≡ length literals → k < length literals → get_or (seen_after c start inputs literals seen) k false ≡ (get_or seen k false || list_any (λ p. literal_at c p (get_or literals k d)) (simulated c start inputs))
unfolding seen_after simulated
get-seen_after c start [] literals seen k d fit below = sym (or_false (get_or seen k false))
get-seen_after c start (now ∷ later) literals seen k d fit below =
    let next : List Bool = successor c (position_of start now) in
    let values : List Bool = valuation c start now in
    let later_on : Bool = list_any (λ p. literal_at c p (get_or literals k d)) (simulated c next later) in
    get-seen_after c next later literals (seen_with values literals seen) k d (length-seen_with values literals seen fit) below
    ∙ (ap (λ b. b || later_on) (get-seen_with values literals seen k d fit below)
    ∙ or_assoc (get_or seen k false) (literal_in values (get_or literals k d)) later_on)

-- every literal has been seen exactly where each is true at some position
module _ (c : Circuit) (start : List Bool) (inputs : List (List Bool)) (literals : List ℕ) where
  abbrev in_the_end : List Bool
  in_the_end = seen_after c start inputs literals (replicate (length literals) false)

  fit : length (replicate (length literals) false) ≡ length literals
  fit = length-replicate (length literals) false

  one : (k d : ℕ) → k < length literals → get_or in_the_end k false ≡ list_any (λ p. literal_at c p (get_or literals k d)) (simulated c start inputs)
  one k d below =
      get-seen_after c start inputs literals (replicate (length literals) false) k d fit below
      ∙ ap (λ b. b || list_any (λ p. literal_at c p (get_or literals k d)) (simulated c start inputs)) (get_or-replicate (length literals) k false false below)

  pub seen-told : list_all (λ b. b) in_the_end ≡ true → All (λ literal. Any (λ p. IsTrue (literal_at c p literal)) (simulated c start inputs)) literals
  seen-told e = λ k d below.
      Any-from_list_any (λ p. literal_at c p (get_or literals k d)) (simulated c start inputs)
      (sym (one k d below) ∙ AllPass-from_list_all (λ b. b) in_the_end e k false (omega (arith, length-seen_after c start inputs literals (replicate (length literals) false) fit)))

  pub seen-from : All (λ literal. Any (λ p. IsTrue (literal_at c p literal)) (simulated c start inputs)) literals → list_all (λ b. b) in_the_end ≡ true
  seen-from h =
      list_all-from_AllPass (λ b. b) in_the_end
      (λ k d below.
      let inside : k < length literals = omega (arith, length-seen_after c start inputs literals (replicate (length literals) false) fit) in
      get_or_default in_the_end k d false below ∙ (one k 0 inside ∙ list_any-from_Any (λ p. literal_at c p (get_or literals k 0)) (simulated c start inputs) (h k 0 inside)))

-- ---- fair lassos

length-agreeing : (latches : List Latch) (values : List Bool) → AllZip (λ latch value. AgreesWith latch.reset value) latches values → length values ≡ length latches
length-agreeing [] [] h = refl
length-agreeing [] (b ∷ values) h = absurd h
length-agreeing (latch ∷ latches) [] h = absurd h
length-agreeing (latch ∷ latches) (b ∷ values) h = ap suc (length-agreeing latches values h.1)

pub length-initial : (c : Circuit) (start : List Bool) → IsInitial c start → length start ≡ length c.latches
length-initial c start initial = length-agreeing c.latches start initial

initial-run : (c : Circuit) (start : List Bool) (inputs : List (List Bool)) → IsInitial c start → IsRun c (simulated c start inputs) → IsInitialRun c (simulated c start inputs)
unfolding simulated
initial-run c start [] initial run = tt
initial-run c start (now ∷ later) initial run = (initial, run)

initial-run_parts : (c : Circuit) (start : List Bool) (inputs : List (List Bool)) → 0 < length inputs → IsInitialRun c (simulated c start inputs) → IsInitial c start × IsRun c (simulated c start inputs)
unfolding simulated
initial-run_parts c start [] some h = absurd (omega arith)
initial-run_parts c start (now ∷ later) some h = (h.0, h.1)

module _ (c : Circuit) (start : List Bool) (inputs : List (List Bool)) (from : ℕ) (inside : from < length inputs) where
  abbrev run : List Position
  run = simulated c start inputs

  abbrev position_at : ℕ → Position
  position_at n = position_of (state_at c start inputs n) (get_or inputs n [])

  last-is : slice_get run (length run - 1) ≡ Some (position_at (length inputs - 1))
  last-is = ap (λ n. slice_get run (n - 1)) (length-simulated c start inputs) ∙ get-simulated c (length inputs - 1) start inputs (omega arith)

  -- the last position's successor is the state after all inputs
  successor-last : successor c (position_at (length inputs - 1)) ≡ state_after c (state_at c start inputs from) (drop from inputs)
  successor-last =
      sym (state_at-next c (length inputs - 1) start inputs (omega arith))
      ∙ (ap (λ xs. state_after c start xs) (take_all (suc (length inputs - 1)) inputs (omega arith))
      ∙ state_after-split c from start inputs)

  closes-told : state_after c (state_at c start inputs from) (drop from inputs) ≡ state_at c start inputs from → ClosesAt c run from
  closes-told e = record {
    first = position_at from;
    last = position_at (length inputs - 1);
    is_first = get-simulated c from start inputs inside;
    is_last = last-is;
    closes = successor-last ∙ e;
  }

  closes-from : ClosesAt c run from → state_after c (state_at c start inputs from) (drop from inputs) ≡ state_at c start inputs from
  closes-from h =
      let first = same_Some (position_at from) h.first (sym (get-simulated c from start inputs inside) ∙ h.is_first) in
      let last = same_Some (position_at (length inputs - 1)) h.last (sym last-is ∙ h.is_last) in
      sym successor-last ∙ (ap (λ p. successor c p) last ∙ (h.closes ∙ ap (λ p. p.latches) (sym first)))

  pub fair-told : (j : ℕ) → j < length c.justice → IsInitial c start → IsFollowed c start inputs from (fair_literals c j) → IsFairLasso c j run from
  fair-told j property initial h = record {
    property = property;
    initial =
        initial-run c start inputs initial
        (IsRun-told c start inputs (length-initial c start initial)
        (follows-split c from start inputs ∙ and_from (follows c start (take from inputs)) (follows c (state_at c start inputs from) (drop from inputs)) h.stem h.loop));
    inside = omega (arith, length-simulated c start inputs);
    closes = closes-told h.closes;
    fair =
        subst (λ ps. MeetsFairness c j ps) (sym (drop-simulated c from start inputs))
        (seen-told c (state_at c start inputs from) (drop from inputs) (fair_literals c j) h.seen);
  }

  pub fair-from : (j : ℕ) → IsFairLasso c j run from → IsInitial c start × IsFollowed c start inputs from (fair_literals c j)
  fair-from j h =
      let parts = initial-run_parts c start inputs (omega arith) h.initial in
      let both = and_parts (follows c start (take from inputs)) (follows c (state_at c start inputs from) (drop from inputs)) (sym (follows-split c from start inputs) ∙ IsRun-from c start inputs parts.1) in
      let followed : IsFollowed c start inputs from (fair_literals c j) = record {
        stem = both.0;
        loop = both.1;
        closes = closes-from h.closes;
        seen =
            seen-from c (state_at c start inputs from) (drop from inputs) (fair_literals c j)
            (subst (λ ps. MeetsFairness c j ps) (drop-simulated c from start inputs) h.fair);
      } in
      (parts.0, followed)

-- what a lasso that is fair shows at once
pub fair-inside : (c : Circuit) (start : List Bool) (inputs : List (List Bool)) (from j : ℕ) → IsFairLasso c j (simulated c start inputs) from → from < length inputs
fair-inside c start inputs from j h = let inside = h.inside in omega (arith, length-simulated c start inputs)

pub fair-exactly : (c : Circuit) (start : List Bool) (inputs : List (List Bool)) (from j : ℕ) (literals : List ℕ) (answer : Bool) → j < length c.justice → from < length inputs → IsInitial c start → literals ≡ fair_literals c j → (IsTrue answer ↔ IsFollowed c start inputs from literals) → IsTrue answer ↔ IsFairLasso c j (simulated c start inputs) from
fair-exactly c start inputs from j literals answer property inside initial e h = (
  λ yes. fair-told c start inputs from inside j property initial (subst (λ ls. IsFollowed c start inputs from ls) e (h.0 yes)),
  λ fair. h.1 (subst (λ ls. IsFollowed c start inputs from ls) (sym e) (fair-from c start inputs from inside j fair).1),
)
