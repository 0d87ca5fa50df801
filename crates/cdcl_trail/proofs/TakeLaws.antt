-- Laws of taking over clauses.
use Rattle.std.proofs.Common.{◌≡◌, ℕ, zero, suc, ◌+◌, ◌-◌, ◌<◌, ◌≤◌, true, not, ◌||◌, List, [], ◌∷◌, ◌++◌, length, map, take, Option, Some, None, refl, ap, sym, subst, ◌∙◌, inl, inr, arith}
use Rattle.std.specs.Prelude.{slice_get, Result, Ok, Err}
use Rattle.std.specs.Option.{IfSome}
use Rattle.std.specs.Result.{IfOk}
use Rattle.std.proofs.Math.ListN.{set, length-set}
use Rattle.std.proofs.lemmas.Bool.{false≢true, and_from}
use Rattle.std.proofs.lemmas.List.{append-nil, append_assoc}
use Rattle.std.proofs.lemmas.Option.{none-some, same_Some, slice_get_within}
use Rattle.clause_arena.specs.Lending.{lent}
use Rattle.proof_semantics.specs.declared.literals.Lit.{Lit}
use Rattle.packed_literals.proofs.ListLaws.{get_push, below_push, get_set, get_set_other, place_either, length_last}
use Rattle.cdcl_trail.specs.Trails.{Step, up_to_level}
use Rattle.cdcl_trail.specs.Propagation.{is_fixed, is_falsified, is_unit, is_complete, Propagates, IsConflict}
use Rattle.cdcl_trail.specs.Guards.{IsGuarded, AreGuarded, AreSure, IsFront, KeepsGuards}
use Rattle.cdcl_trail.specs.Looking.{IsOpenTo}
use Rattle.cdcl_trail.specs.Storing.{held, IsStored, IsAsBefore, IsRewatched, IsPairAt, has_more_singles, Covers, KeepsCover}
use Rattle.cdcl_trail.specs.TracksOf.{HasReached, Sound, AreLowered, IsLowered, IsTaking, IsLowering}
use Rattle.cdcl_trail.specs.Renaming.{ArePaired}
use Rattle.cdcl_trail.specs.Watched.{Extends, AreWatchedWell, HasTwo, IsWatchedAt}
use Rattle.cdcl_trail.specs.declared.pairs.Pair.{Pair}
use Rattle.cdcl_trail.specs.declared.tracks.Reached.{Reached}
use Rattle.cdcl_trail.specs.declared.watching.Watching.{Watching}
use Rattle.cdcl_trail.proofs.GuardLaws.{guarded_fewer, guarded_late, front_same, pair_settles, true_settles, keeps_same, take_whole}
use Rattle.cdcl_trail.proofs.FixedLaws.{cut_front, covers_front}
use Rattle.cdcl_trail.proofs.SoundLaws.{sound_settled, sure_rewatched}
use Rattle.cdcl_trail.proofs.PassLaws.{answered_some, held_at}
use Rattle.cdcl_trail.proofs.LoopLaws.{held_same, rewatched_same, guarded_front, sure_front, front_length, below_next, get_past}

-- The clauses one after the other.

take_front_of : (xs ys : List (List Lit)) → take (length xs) (xs ++ ys) ≡ xs
take_front_of [] [] = refl
take_front_of [] (y ∷ ys) = refl
take_front_of (x ∷ xs) ys = ap (λ zs. x ∷ zs) (take_front_of xs ys)

turn : (n : ℕ) → suc n + 1 ≡ suc (n + 1)
turn n = omega arith

take_one_more : (xs : List (List Lit)) (n : ℕ) (x : List Lit) → slice_get xs n ≡ Some x → take (n + 1) xs ≡ take n xs ++ x ∷ []
take_one_more [] n x e = absurd (none-some x e)
take_one_more (y ∷ xs) zero x e = ap (λ z. z ∷ []) (same_Some y x e)
take_one_more (y ∷ xs) (suc n) x e = ap (λ k. take k (y ∷ xs)) (turn n) ∙ ap (λ ys. y ∷ ys) (take_one_more xs n x e)

take_rest : (xs : List (List Lit)) (n : ℕ) → Extends (take n xs) xs
take_rest xs zero = (xs, refl)
take_rest [] (suc n) = ([], refl)
take_rest (x ∷ xs) (suc n) = let later = take_rest xs n in (later.0, ap (λ ys. x ∷ ys) later.1)

pub taking_start : (steps : List Step) (clauses taken : List (List Lit)) (place : ℕ) → Extends taken clauses → place ≡ length taken → IsTaking steps taken clauses steps taken place
taking_start steps clauses taken place ext at = record {
  same = refl;
  grown = ([], sym (append-nil taken));
  fronts = sym (ap (λ n. take n clauses) at ∙ ap (take (length taken)) ext.1 ∙ take_front_of taken ext.0);
}

pub taking_next : (earlier : List Step) (first clauses : List (List Lit)) (s t : List Step) (taken more : List (List Lit)) (place : ℕ) (clause : List Lit) → IsTaking earlier first clauses s taken place
    → slice_get clauses place ≡ Some clause → t ≡ s → more ≡ taken ++ clause ∷ [] → IsTaking earlier first clauses t more (place + 1)
taking_next earlier first clauses s t taken more place clause v at same came = record {
  same = same ∙ v.same;
  fronts = came ∙ ap (λ xs. xs ++ clause ∷ []) v.fronts ∙ sym (take_one_more clauses place clause at);
  grown = (v.grown.0 ++ clause ∷ [], came ∙ ap (λ xs. xs ++ clause ∷ []) v.grown.1 ∙ append_assoc first v.grown.0 (clause ∷ []));
}

pub extends_same : (first taken later : List (List Lit)) → Extends first taken → later ≡ taken → Extends first later
extends_same first taken later grown same = (grown.0, same ∙ grown.1)

pub taking_extends : (clauses taken later : List (List Lit)) (place : ℕ) → taken ≡ take place clauses → later ≡ taken → Extends later clauses
taking_extends clauses taken later place v e = subst (λ xs. Extends xs clauses) (sym (e ∙ v)) (take_rest clauses place)

-- One clause more.

length_mapped : {A B : Type 0} (f : A → B) (xs : List A) → length (map f xs) ≡ length xs
length_mapped f [] = refl
length_mapped f (x ∷ xs) = ap suc (length_mapped f xs)

guarded_taken : (g bound : ℕ) (front steps : List Step) (pairs : List (Option Pair)) (found : Option Pair) → IsFront front steps → g ≤ bound → IfSome found (IsOpenTo bound steps)
    → AreGuarded g front pairs → AreGuarded g front (pairs ++ found ∷ [])
guarded_taken g bound front steps pairs None f under late all place pair e =
    elim (get_push pairs None place (Some pair) e) [
      | inl before ↦ all place pair before
      | inr last ↦ absurd (none-some pair (sym last.1))
    ]
guarded_taken g bound front steps pairs (Some p) f under late all place pair e =
    elim (get_push pairs (Some p) place (Some pair) e) [
      | inl before ↦ all place pair before
      | inr last ↦
          subst (λ (x : Pair). IsGuarded (take g front) front x.first x.second) (same_Some p pair (sym last.1))
          (guarded_late front steps g bound p.first p.second f under late.0 late.1)
    ]

length_held : (w : Watching) → length (held w) ≡ length w.places.items
length_held w = length_mapped (lent w.arena) w.places.items

-- each clause without two different literals is held
singles_held : (w : Watching) → IsStored w → (j place : ℕ) → slice_get w.singles.items j ≡ Some place → place < length (held w)
singles_held w stored j place e =
    let within = slice_get_within w.pairs.items place None (stored.unpaired j place e) in
    omega (arith, within, stored.beside, length_held w)

early_single : (singles : List ℕ) (number : ℕ) (found : Option Pair) (j place : ℕ) → j < length singles → slice_get (has_more_singles singles number found) j ≡ Some place → slice_get singles j ≡ Some place
early_single singles number None j place under e = sym (below_push singles number j under) ∙ e
early_single singles number (Some pair) j place under e = e

sure_taken : (n : ℕ) (steps : List Step) (singles : List ℕ) (number : ℕ) (found : Option Pair) (clauses : List (List Lit)) (clause : List Lit) → n ≤ length singles
    → ((j place : ℕ) → slice_get singles j ≡ Some place → place < length clauses) → AreSure n steps singles clauses
    → AreSure n steps (has_more_singles singles number found) (clauses ++ clause ∷ [])
sure_taken n steps singles number found clauses clause counted within all j place c under e is =
    let single = early_single singles number found j place (omega (arith, under, counted)) e in
    all j place c under single (sym (below_push clauses clause place (within j place single)) ∙ is)

more_singles : (n : ℕ) (singles : List ℕ) (number : ℕ) (found : Option Pair) → n ≤ length singles → n ≤ length (has_more_singles singles number found)
more_singles n singles number None fits = let long = length_last singles number in omega (arith, fits, long)
more_singles n singles number (Some pair) fits = fits

pub reached_taken : (p q : Reached) (front steps : List Step) (w u : Watching) (clause : List Lit) (found : Option Pair) (bound number : ℕ) → IsFront front steps
    → held u ≡ held w ++ clause ∷ [] → u.pairs.items ≡ w.pairs.items ++ found ∷ [] → u.singles.items ≡ has_more_singles w.singles.items number found
    → IfSome found (IsOpenTo bound steps) → IsStored w → p.steps ≤ q.steps → p.steps ≤ bound → p.singles ≡ q.singles → HasReached q front w → HasReached p front u
reached_taken p q front steps w u clause found bound number f is pairs singles late stored fewer under same h = record {
  guarded = subst (λ xs. AreGuarded p.steps front xs) (sym pairs) (guarded_taken p.steps bound front steps w.pairs.items found f under late (guarded_fewer q.steps p.steps front w.pairs.items fewer h.guarded));
  sure =
      subst (λ xs. AreSure p.singles front xs (held u)) (sym singles)
      (subst (λ cs. AreSure p.singles front (has_more_singles w.singles.items number found) cs) (sym is)
      (subst (λ n. AreSure n front (has_more_singles w.singles.items number found) (held w ++ clause ∷ [])) (sym same)
      (sure_taken q.singles front w.singles.items number found (held w) clause h.counted (singles_held w stored) h.sure)));
  within = omega (arith, fewer, h.within);
  counted =
      subst (λ xs. p.singles ≤ length xs) (sym singles) (more_singles p.singles w.singles.items number found (omega (arith, same, h.counted)));
}

pub sound_taken : (steps : List Step) (w u : Watching) (r p : Reached) (saved lowered : List Reached) (clause : List Lit) (found : Option Pair) (bound number : ℕ) → IsStored u → KeepsCover w u
    → held u ≡ held w ++ clause ∷ [] → u.pairs.items ≡ w.pairs.items ++ found ∷ [] → u.singles.items ≡ has_more_singles w.singles.items number found
    → IfSome found (IsOpenTo bound steps) → p.steps ≤ r.steps → p.steps ≤ bound → p.singles ≡ r.singles → AreLowered saved bound lowered → Sound steps w r saved
    → Sound steps u p lowered
sound_taken steps w u r p saved lowered clause found bound number stored cover is pairs singles late fewer under same low s = record {
  stored = stored;
  covers = cover (is_fixed steps) s.covers;
  present = reached_taken p r steps steps w u clause found bound number (front_same steps) is pairs singles late s.stored fewer under same s.present;
  depth = low.as_many ∙ s.depth;
  levels = λ n q e.
      let here = low.lowered n q e in
      reached_taken q here.0 (up_to_level n steps) steps w u clause found bound number (cut_front n steps) is pairs singles late s.stored here.2 here.3 here.4 (s.levels n here.0 here.1);
}

-- At the end.

all_settled : (clauses : List (List Lit)) (steps : List Step)
    → ((n : ℕ) (clause : List Lit) → slice_get clauses n ≡ Some clause → not (is_falsified steps clause || is_unit steps clause) ≡ true) → is_complete clauses steps ≡ true
all_settled [] steps each = refl
all_settled (c ∷ clauses) steps each = and_from _ _ (each 0 c refl) (all_settled clauses steps (λ n clause e. each (suc n) clause e))

get_within : {A : Type 0} (xs : List A) (n : ℕ) → n < length xs → (x : A) × (slice_get xs n ≡ Some x)
get_within [] n under = absurd (omega arith)
get_within (x ∷ xs) zero under = (x, refl)
get_within (x ∷ xs) (suc n) under = get_within xs n (omega arith)

pair_or_none : (w : Watching) (n : ℕ) (o : Option Pair) (steps : List Step) (clause : List Lit) → IsStored w → AreGuarded (length steps) steps w.pairs.items
    → AreSure (length w.singles.items) steps w.singles.items (held w) → slice_get w.pairs.items n ≡ Some o → slice_get (held w) n ≡ Some clause
    → not (is_falsified steps clause || is_unit steps clause) ≡ true
pair_or_none w n None steps clause stored guarded sure e is =
    let listed = stored.listed n e in
    true_settles steps clause (sure listed.0 n clause (slice_get_within w.singles.items listed.0 n listed.1) listed.1 is)
pair_or_none w n (Some pair) steps clause stored guarded sure e is =
    pair_settles steps clause pair (stored.paired n pair clause e is) (guarded n pair e)

pub complete_at_end : (w : Watching) (steps : List Step) → IsStored w → AreGuarded (length steps) steps w.pairs.items
    → AreSure (length w.singles.items) steps w.singles.items (held w) → is_complete (held w) steps ≡ true
complete_at_end w steps stored guarded sure =
    all_settled (held w) steps (λ n clause e.
    let within = slice_get_within (held w) n clause e in
    let found = get_within w.pairs.items n (omega (arith, within, stored.beside, length_held w)) in
    pair_or_none w n found.0 steps clause stored guarded sure found.1 e)

-- Places that come down.

apart_less : (place n : ℕ) → (place ≡ n → ⊥) → n < place + 1 → n < place
apart_less place n apart less = elim (below_next n place less) [ inl under ↦ under | inr same ↦ absurd (apart (sym same)) ]

pub lowering_start : (saved : List Reached) (bound : ℕ) → IsLowering saved bound saved 0
lowering_start saved bound = record { as_many = refl; before = λ n r under. absurd (omega (arith, under)); behind = λ n past. refl }

pub lowering_next : (earlier now : List Reached) (bound place : ℕ) (old new : Reached) → IsLowering earlier bound now place → slice_get now place ≡ Some old
    → new.steps ≤ old.steps → new.steps ≤ bound → new.singles ≡ old.singles → IsLowering earlier bound (set now place new) (place + 1)
lowering_next earlier now bound place old new v at fewer under same = record {
  as_many = length-set now place new ∙ v.as_many;
  before = λ n r less e. elim (place_either place n) [
    | inl here ↦
        let is : new ≡ r = same_Some new r (sym (get_set now place new old at) ∙ ap (slice_get (set now place new)) here ∙ e) in
        subst (λ x. IsLowered earlier n bound x) is
        (old, ap (slice_get earlier) (sym here) ∙ sym (v.behind place (omega arith)) ∙ at, fewer, under, same)
    | inr apart ↦ v.before n r (omega (arith, less, apart_less place n apart less)) (sym (get_set_other now place n new apart) ∙ e)
  ];
  behind = λ n past. get_set_other now place n new (λ e. omega (arith, e, past)) ∙ v.behind n (omega (arith, past));
}

pub lowering_end : (earlier now : List Reached) (bound place : ℕ) → IsLowering earlier bound now place → slice_get now place ≡ None → AreLowered earlier bound now
lowering_end earlier now bound place v e = record {
  as_many = v.as_many;
  lowered = λ n r at. v.before n r (let within = slice_get_within now n r at in let past = get_past now place e in omega (arith, within, past)) at;
}

-- A clause that was refused.

pub held_before : (w u : Watching) → IsAsBefore w u → held u ≡ held w
held_before w u same = ap (λ xs. map (lent xs) u.places.items) same.arena ∙ ap (λ xs. map (lent w.arena) xs) same.places

reached_before : (q : Reached) (steps : List Step) (w u : Watching) → IsAsBefore w u → HasReached q steps w → HasReached q steps u
reached_before q steps w u same h = record {
  guarded = subst (λ xs. AreGuarded q.steps steps xs) (sym same.pairs) h.guarded;
  sure = subst (λ xs. AreSure q.singles steps xs (held u)) (sym same.singles) (subst (λ cs. AreSure q.singles steps w.singles.items cs) (sym (held_before w u same)) h.sure);
  within = h.within;
  counted = subst (λ xs. q.singles ≤ length xs) (sym same.singles) h.counted;
}

pub sound_before : (steps : List Step) (w u : Watching) (r : Reached) (saved : List Reached) → IsStored u → KeepsCover w u → IsAsBefore w u → Sound steps w r saved → Sound steps u r saved
sound_before steps w u r saved stored cover same s = record {
  stored = stored;
  covers = cover (is_fixed steps) s.covers;
  present = reached_before r steps w u same s.present;
  depth = s.depth;
  levels = λ n q e. reached_before q (up_to_level n steps) w u same (s.levels n q e);
}

-- Settling.

pub sound_singles : (s m : List Step) (w : Watching) (r : Reached) (n : ℕ) (saved : List Reached) → Propagates (held w) s m
    → (AreSure r.singles s w.singles.items (held w) → AreSure n m w.singles.items (held w)) → (r.singles ≤ length w.singles.items → n ≤ length w.singles.items)
    → Sound s w r saved → Sound m w (record { steps = r.steps; singles = n }) saved
sound_singles s m w r n saved p sure counted sound =
    let front : IsFront s m = (p.added, p.behind) in
    sound_settled s m (held w) w w r (record { steps = r.steps; singles = n }) saved p (rewatched_same w sound.stored) (covers_front s m w front sound.covers) (keeps_same s w.pairs.items)
    (record {
      guarded = guarded_front r.steps s m w.pairs.items front sound.present.within sound.present.guarded;
      sure = sure sound.present.sure;
      within = let longer = front_length s m front in omega (arith, longer, sound.present.within);
      counted = counted sound.present.counted;
    }) sound

pub sound_walk : (m l : List Step) (w u : Watching) (r : Reached) (k : ℕ) (saved : List Reached) → Propagates (held w) m l → IsRewatched w u → Covers (is_fixed l) u
    → KeepsGuards m w.pairs.items u.pairs.items → k ≤ length l → AreGuarded k l u.pairs.items → Sound m w r saved → Sound l u (record { steps = k; singles = r.singles }) saved
sound_walk m l w u r k saved p same covers keeps within guarded sound =
    sound_settled m l (held w) w u r (record { steps = k; singles = r.singles }) saved p same covers keeps
    (record {
      guarded = guarded;
      sure = sure_rewatched r.singles l w u same (sure_front r.singles m l w.singles.items (held w) (p.added, p.behind) sound.present.sure);
      within = within;
      counted = subst (λ v. r.singles ≤ length v.items) (sym same.singles) sound.present.counted;
    }) sound

pub complete_after : (l : List Step) (u : Watching) (q : Reached) (saved : List Reached) → Sound l u q saved → q.steps ≡ length l → length u.singles.items ≤ q.singles → is_complete (held u) l ≡ true
complete_after l u q saved sound whole all =
    complete_at_end u l sound.stored (subst (λ n. AreGuarded n l u.pairs.items) whole sound.present.guarded)
    (λ j place clause under single is. sound.present.sure j place clause (omega (arith, under, all)) single is)

pub complete_told : {E : Type 0} (res : Result (Option ℕ) E) (l : List Step) (u : Watching) (q : Reached) (saved : List Reached) → Sound l u q saved → length u.singles.items ≤ q.singles
    → IfOk res (λ found. found ≡ None → q.steps ≡ length l) → IfOk res (λ found. IfSome found (IsConflict (held u) l))
    → IfOk res (λ found. (found ≡ None → is_complete (held u) l ≡ true) × (is_complete (held u) l ≡ true → found ≡ None))
complete_told (Ok None) l u q saved sound all none conflict = (λ _. complete_after l u q saved sound (none refl) all, λ _. refl)
complete_told (Ok (Some n)) l u q saved sound all none conflict = answered_some (held u) l n conflict
complete_told (Err e) l u q saved sound all none conflict = none

pub conflict_along : {E : Type 0} (res : Result (Option ℕ) E) (l : List Step) (w u : Watching) → IsRewatched w u → IfOk res (λ found. IfSome found (IsConflict (held w) l))
    → IfOk res (λ found. IfSome found (IsConflict (held u) l))
conflict_along res l w u same told = subst (λ cs. IfOk res (λ found. IfSome found (IsConflict cs l))) (sym (held_same w u same)) told

pub watched_told : {E : Type 0} (res : Result (Option ℕ) E) (l : List Step) (u : Watching) (q : Reached) (saved : List Reached) → Sound l u q saved
    → IfOk res (λ found. found ≡ None → q.steps ≡ length l)
    → IfOk res (λ found. found ≡ None → AreWatchedWell (record { steps = l; taken = held u; watched = u.pairs.items }))
watched_told (Ok found) l u q saved sound none = λ e place pair at.
    subst (λ xs. IsGuarded xs l pair.first pair.second) (take_whole l) (subst (λ n. AreGuarded n l u.pairs.items) (none e) sound.present.guarded place pair at)
watched_told (Err x) l u q saved sound none = none

-- Watched literals.

two_none : (w : Watching) (n : ℕ) (clause : List Lit) (o : Option Pair) → IsStored w → slice_get (held w) n ≡ Some clause → HasTwo clause → slice_get w.pairs.items n ≡ Some o
    → (pair : Pair) × IsPairAt w n pair
two_none w n clause None stored at two e = absurd (false≢true (sym two.4 ∙ stored.single n clause e at two.0 two.1 two.2 two.3))
two_none w n clause (Some pair) stored at two e = (pair, e)

pub two_paired : (w : Watching) (n : ℕ) (clause : List Lit) → IsStored w → slice_get (held w) n ≡ Some clause → HasTwo clause → (pair : Pair) × IsPairAt w n pair
two_paired w n clause stored at two =
    let within = slice_get_within (held w) n clause at in
    let found = get_within w.pairs.items n (omega (arith, within, stored.beside, length_held w)) in
    two_none w n clause found.0 stored at two found.1

pub watched_at : (w : Watching) (steps : List Step) (number : ℕ) (pair : Pair) → IsStored w → IsPairAt w (number - 1) pair
    → IsWatchedAt (record { steps = steps; taken = held w; watched = w.pairs.items }) number pair.first pair.second
watched_at w steps number pair stored at = record {
  pair = at;
  inside = λ clause held_is. stored.paired (number - 1) pair clause at (held_at (held w) number clause held_is);
}

-- each pair is one of the clause beside it
pub stored_paired : (w : Watching) (steps : List Step) → IsStored w → ArePaired (record { steps = steps; taken = held w; watched = w.pairs.items })
stored_paired w steps stored place pair e =
    let within = slice_get_within w.pairs.items place (Some pair) e in
    let found = get_within (held w) place (omega (arith, within, stored.beside, length_held w)) in
    (found.0, found.1, stored.paired place pair found.0 e found.1)
