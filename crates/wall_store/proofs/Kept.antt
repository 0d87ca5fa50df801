-- Each event leaves a board.
use Rattle.std.proofs.Common.{◌≡◌, ℕ, ◌+◌, ◌<◌, ◌≤◌, ◌⊎◌, inl, inr, min, true, List, [], ◌∷◌, ◌++◌, map, length, drop, get_or, replicate, slice_set, refl, sym, ap, ◌∙◌, subst, arith, append-nil, append_assoc}
use Rattle.std.specs.Prelude.{Option, Some, None}
use Rattle.std.specs.List.{All, AllPairs}
use Rattle.std.proofs.lemmas.List.{length-set, length-append, length-replicate}
use Rattle.std.proofs.lemmas.Bool.{cases_eq, eq-eqb, ne_eqb}
use Rattle.std.proofs.Math.Nat.{le-min, min-le_right}
use Rattle.std.proofs.lemmas.List.Elements.{All-nil, All-cons, All-set, All-replicate}
use Rattle.aig_semantics.specs.Circuits.{Circuit}
use Rattle.fair_semantics.specs.Entries.{Entry, used_entries}
use Rattle.fair_semantics.specs.Skeletons.{excludes}
use Rattle.fair_semantics.specs.Validity.{IsValid, AreValidBehind}
use Rattle.cnf_unroll.specs.Laws.{AreOver}
use Rattle.entry.specs.declared.origins.Origin.{Origin}
use Rattle.entry.specs.declared.origins.Origin.TheVariants.{Given, Worker}
use Rattle.entry.specs.declared.origins.Work.{Work}
use Rattle.entry.specs.Laws.{IsGoodList}
use Rattle.entry.specs.CheckedEntries.{CheckedEntry, HoldsWhereUsesStand, HoldsBehind, ExcludesFrom, StandIn, StandOn, ClosedUsesStand, RefutationsStay}
use Rattle.wall_store.specs.declared.outcomes.Outcome.{Outcome}
use Rattle.wall_store.specs.declared.outcomes.Served.{Served}
use Rattle.wall_store.specs.declared.outcomes.Posted.{Posted}
use Rattle.wall_store.specs.declared.outcomes.Posted.TheVariants as posts
use Rattle.wall_store.specs.declared.outcomes.Finished.{Finished}
use Rattle.wall_store.specs.declared.outcomes.Finished.TheVariants as ends
use Rattle.wall_store.specs.Boards.{BoardState, IsBoard, IsFind, IsFound, IsSound, IsSoundList, IsTrueOf, FromWorker, Allow, most_entries, plain, properties_of, outcome_of, first_board}
use Rattle.wall_store.specs.Events.{shown_to, with_post, with_outcome, served_after, IsPosted, IsPostOf, MayPost, list_of}
use Rattle.wall_store.specs.Laws.{SeenUsesStand}
use Rattle.wall_store.proofs.Behind.{each_push, outcomes_stay}
use Rattle.wall_store.proofs.Serving.{properties_stay, outcome_after}
use Rattle.std.specs.Arc.{arc_value}
use Rattle.std.specs.declared.sync.Arc.{Arc}
use Rattle.entry.specs.CheckedEntries.{viewed}
use Rattle.wall_store.specs.Events.{seen_by}
use Rattle.wall_store.specs.Scanning.{all_settled, IsScanned, OfWork, IsRefused}
use Rattle.wall_store.proofs.Excluding.{plain-append, plain-length, plain-split, posted_right, room_or_refused, viewed-plain}

-- ---- look

pub shown_keeps : (b : BoardState) (w : ℕ) → IsBoard b → IsBoard (shown_to b w)
shown_keeps b w board =
    record {
      ascend = board.ascend;
      properties = board.properties;
      some_workers = board.some_workers;
      few_workers = board.few_workers;
      given = board.given;
      within = board.within;
      limit = board.limit;
      sound = board.sound;
      found = board.found;
      outcomes = board.outcomes;
      each_seen = length-set b.seen w (length b.entries) ∙ board.each_seen;
      seen = All-set (λ n. n ≤ length b.entries) b.seen w (length b.entries) (omega arith) board.seen;
    }

-- ---- post

find-of : (b : BoardState) (w : ℕ) (e : CheckedEntry) (work : Work) → w < b.workers → IsPostOf b w e work → Allow b.entries work.skeleton
    → HoldsBehind (plain b.entries) e → e.origin ≡ Worker work → IsFind b.circuit (properties_of b.served) b.workers b.entries e work
find-of b w e work below post allowed holds origin =
    let apart : excludes (plain b.entries ++ e.entry ∷ []) (length (plain b.entries)) work.skeleton ≡ true =
    subst (λ (o : Origin). ExcludesFrom o (plain b.entries ++ e.entry ∷ []) (length (plain b.entries))) origin (holds.apart [])
    in
    record {
      author = (let author = post.author in omega (arith, author, below));
      skeleton = post.skeleton;
      allowed = allowed;
      excluded = subst (λ (n : ℕ). excludes (plain b.entries ++ e.entry ∷ []) n work.skeleton ≡ true) (plain-length b.entries) apart;
    }

appended_keeps : (b : BoardState) (w : ℕ) (e : CheckedEntry) (work : Work) (n : ℕ) → IsBoard b → w < b.workers → HoldsWhereUsesStand e
    → RefutationsStay b.circuit → IsPostOf b w e work → e.origin ≡ Worker work → IsPosted b work.skeleton (posts.Appended n)
    → IsBoard (with_post b e (posts.Appended n))
appended_keeps b w e work n board below stands stay post origin answer =
    let holds : HoldsBehind (plain b.entries) e = stands (plain b.entries) post.uses in
    let find = find-of b w e work below post answer.1.0 holds origin in
    let room = answer.0.room in
    let grown : length (b.entries ++ e ∷ []) ≡ length b.entries + 1 = length-append b.entries (e ∷ []) in
    record {
      ascend = board.ascend;
      properties = board.properties;
      some_workers = board.some_workers;
      few_workers = board.few_workers;
      given = (let given = board.given in omega (arith, given, grown));
      within = omega (arith, room, grown);
      limit = board.limit;
      sound = each_push (IsSound b.circuit) b.entries e board.sound (record { circuit = post.circuit; holds = holds });
      found = each_push (IsFound b) b.entries e board.found
          (λ behind. subst (λ (o : Origin). FromWorker o (IsFind b.circuit (properties_of b.served) b.workers b.entries e)) (sym origin) find);
      outcomes = λ j o has. outcomes_stay b.circuit stay b.entries (e ∷ []) j o (board.outcomes j o has);
      each_seen = board.each_seen;
      seen = λ k d inside. (let most = board.seen k d inside in omega (arith, most, grown));
    }

posted-from : (b : BoardState) (w : ℕ) (e : CheckedEntry) (origin : Origin) (r : Posted) → IsBoard b → w < b.workers → HoldsWhereUsesStand e
    → RefutationsStay b.circuit → FromWorker origin (IsPostOf b w e) → e.origin ≡ origin → FromWorker origin (λ work. IsPosted b work.skeleton r)
    → IsBoard (with_post b e r)
posted-from b w e Given r board below stands stay may same answer = absurd may
posted-from b w e (Worker work) posts.Closed board below stands stay may same answer = board
posted-from b w e (Worker work) posts.Full board below stands stay may same answer = board
posted-from b w e (Worker work) (posts.Stale n) board below stands stay may same answer = board
posted-from b w e (Worker work) (posts.Appended n) board below stands stay may same answer =
    appended_keeps b w e work n board below stands stay may same answer

pub posted_keeps : (b : BoardState) (w : ℕ) (e : CheckedEntry) (r : Posted) → IsBoard b → w < b.workers → HoldsWhereUsesStand e
    → RefutationsStay b.circuit → MayPost b w e → FromWorker e.origin (λ work. IsPosted b work.skeleton r)
    → IsBoard (shown_to (with_post b e r) w)
posted_keeps b w e r board below stands stay may answer =
    shown_keeps (with_post b e r) w (posted-from b w e e.origin r board below stands stay may refl answer)

-- ---- finish

won_keeps : (b : BoardState) (j : ℕ) (o : Outcome) → IsBoard b → IsTrueOf b.circuit b.entries j o → IsBoard (record b { served = with_outcome b.served j o })
won_keeps b j o board true_of =
    let same : properties_of b.served ≡ properties_of (with_outcome b.served j o) = sym (properties_stay b.served j o) in
    record {
      ascend = subst (λ (is : List ℕ). AllPairs (λ i k. i < k) is) same board.ascend;
      properties = subst (λ (is : List ℕ). All (λ i. i < length b.circuit.justice) is) same board.properties;
      some_workers = board.some_workers;
      few_workers = board.few_workers;
      given = board.given;
      within = board.within;
      limit = board.limit;
      sound = board.sound;
      found = λ before after e split behind.
          subst (λ (is : List ℕ). FromWorker e.origin (IsFind b.circuit is b.workers before e)) same (board.found before after e split behind);
      outcomes = λ i p has.
          elim (outcome_after b.served j o i p has) [
            | inl new ↦
                subst (λ (k : ℕ). IsTrueOf b.circuit b.entries k p) (sym new.0)
                (subst (λ (q : Outcome). IsTrueOf b.circuit b.entries j q) (sym new.1) true_of)
            | inr old ↦ board.outcomes i p old
          ];
      each_seen = board.each_seen;
      seen = board.seen;
    }

pub finished_keeps : (b : BoardState) (j : ℕ) (o : Outcome) (r : Finished) → IsBoard b → IsTrueOf b.circuit b.entries j o
    → IsBoard (record b { served = served_after b.served j o r })
finished_keeps b j o ends.Won board true_of = won_keeps b j o board true_of
finished_keeps b j o ends.Closed board true_of = board

-- ---- the first board

abbrev fresh : ℕ → Served
fresh j = record { property = j; outcome = None }

properties-fresh : (js : List ℕ) → properties_of (map fresh js) ≡ js
properties-fresh [] = refl
properties-fresh (j ∷ js) = ap (λ (is : List ℕ). j ∷ is) (properties-fresh js)

outcome-fresh : (js : List ℕ) (j : ℕ) → outcome_of (map fresh js) j ≡ None
outcome-fresh [] j = refl
outcome-fresh (i ∷ js) j =
    elim (cases_eq i j) [
      | inl same ↦ rw (eq-eqb i j same) refl
      | inr apart ↦ rw (ne_eqb i j apart) (outcome-fresh js j)
    ]

no-outcome : (o : Outcome) (x : Option Outcome) → x ≡ None → x ≡ Some o → ⊥
no-outcome o x none some = (let clash : None ≡ Some o = sym none ∙ some in cc)

pub first_keeps : (c : Circuit) (properties : List ℕ) (workers more : ℕ) (given : List CheckedEntry) → AllPairs (λ i j. i < j) properties
    → All (λ j. j < length c.justice) properties → 1 ≤ workers → workers ≤ 64 → length given ≤ most_entries → IsSoundList c given
    → IsBoard (first_board c properties workers more given)
first_keeps c properties workers more given ascend within some few most sound =
    let same : properties ≡ properties_of (map fresh properties) = sym (properties-fresh properties) in
    record {
      ascend = subst (λ (is : List ℕ). AllPairs (λ i k. i < k) is) same ascend;
      properties = subst (λ (is : List ℕ). All (λ i. i < length c.justice) is) same within;
      some_workers = some;
      few_workers = few;
      given = omega arith;
      within = (let floor : length given ≤ min (length given + more) most_entries = le-min (omega arith) most in floor);
      limit = min-le_right (length given + more) most_entries;
      sound = sound;
      found = λ before after e split behind.
          absurd (let whole : length given ≡ length before + length (e ∷ after) = ap (λ (es : List CheckedEntry). length es) split ∙ length-append before (e ∷ after) in
          omega (arith, whole, behind));
      outcomes = λ j o has. absurd (no-outcome o (outcome_of (map fresh properties) j) (outcome-fresh properties j) has);
      each_seen = length-replicate workers (length given);
      seen = All-replicate (λ n. n ≤ length given) workers (length given) (omega arith);
    }

-- the parts of a new board
pub first_same : (c d : Circuit) (properties : List ℕ) (workers more limit count : ℕ) (given entries : List CheckedEntry) (served : List Served)
    (seen : List ℕ) → d ≡ c → served ≡ map fresh properties → limit ≡ min (length given + more) most_entries → count ≡ length given
    → entries ≡ given → seen ≡ replicate workers count
    → first_board c properties workers more given
    ≡ record { circuit = d; served = served; workers = workers; limit = limit; given = count; entries = entries; seen = seen }
first_same c d properties workers more limit count given entries served seen circuit_is served_is limit_is count_is entries_is seen_is =
    let circuit_back = sym circuit_is in
    let served_back = sym served_is in
    let limit_back = sym limit_is in
    let count_back = sym count_is in
    let entries_back = sym entries_is in
    let seen_back : replicate workers (length given) ≡ seen = ap (λ (n : ℕ). replicate workers n) count_back ∙ sym seen_is in
    λ i. record {
      circuit = circuit_back i;
      served = served_back i;
      workers = workers;
      limit = limit_back i;
      given = count_back i;
      entries = entries_back i;
      seen = seen_back i;
    }

-- the parts of a board after a post
pub after_same : (b : BoardState) (w n : ℕ) (es fs : List CheckedEntry) → es ≡ fs → n ≡ length es
    → shown_to (record b { entries = fs }) w ≡ record b { entries = es; seen = slice_set b.seen w n }
after_same b w n es fs same count =
    let back : fs ≡ es = sym same in
    let count_back : length fs ≡ n = sym (count ∙ ap (λ (xs : List CheckedEntry). length xs) same) in
    λ i. record b { entries = back i; seen = slice_set b.seen w (count_back i) }

-- ---- a post, by what was scanned

scanned-origin : (b : BoardState) (w : ℕ) (e : CheckedEntry) (origin : Origin) (r : Posted) → IsBoard b → w < b.workers
    → FromWorker origin (IsPostOf b w e)
    → OfWork origin (λ work. IsScanned (all_settled b.served) b.limit (plain b.entries) work.skeleton (seen_by b w) r)
    → FromWorker origin (λ work. IsPosted b work.skeleton r)
scanned-origin b w e Given r board below may h = absurd may
scanned-origin b w e (Worker work) r board below may h =
    let each = board.each_seen in
    let within : seen_by b w ≤ length b.entries = board.seen w 0 (omega (arith, below, each)) in
    posted_right b (seen_by b w) work.skeleton r board may.allowed within h

pub scanned_posted : (b : BoardState) (w : ℕ) (e : CheckedEntry) (r : Posted) → IsBoard b → w < b.workers → MayPost b w e
    → OfWork e.origin (λ work. IsScanned (all_settled b.served) b.limit (plain b.entries) work.skeleton (seen_by b w) r)
    → FromWorker e.origin (λ work. IsPosted b work.skeleton r)
scanned_posted b w e r board below may h = scanned-origin b w e e.origin r board below may h

scanned-room : (b : BoardState) (w : ℕ) (e : CheckedEntry) (origin : Origin) (r : Posted) (room count : ℕ)
    → FromWorker origin (IsPostOf b w e) → count ≡ length b.entries → b.limit ≤ room
    → OfWork origin (λ work. IsScanned (all_settled b.served) b.limit (plain b.entries) work.skeleton (seen_by b w) r)
    → (count < room) ⊎ IsRefused r
scanned-room b w e Given r room count may same within h = absurd may
scanned-room b w e (Worker work) r room count may same within h =
    room_or_refused (all_settled b.served) b.limit room count (plain b.entries) work.skeleton (seen_by b w) r
    (same ∙ sym (plain-length b.entries)) within h

pub scanned_room : (b : BoardState) (w : ℕ) (e : CheckedEntry) (r : Posted) (room count : ℕ) → MayPost b w e → count ≡ length b.entries
    → b.limit ≤ room → OfWork e.origin (λ work. IsScanned (all_settled b.served) b.limit (plain b.entries) work.skeleton (seen_by b w) r)
    → (count < room) ⊎ IsRefused r
scanned_room b w e r room count may same within h = scanned-room b w e e.origin r room count may same within h

-- the same of lists that are lent
pub scanned_of : {Z : Type 0} (e f : CheckedEntry) (served s : List Served) (limit : ℕ) (shared t : List (Arc CheckedEntry Z)) (low m : ℕ)
    (r : Posted) → f ≡ e → s ≡ served → t ≡ shared → m ≡ low
    → OfWork f.origin (λ work. IsScanned (all_settled s) limit (viewed t) work.skeleton m r)
    → OfWork e.origin (λ work. IsScanned (all_settled served) limit (plain (map (λ (x : Arc CheckedEntry Z). arc_value {X = CheckedEntry} x) shared)) work.skeleton low r)
scanned_of {Z} e f served s limit shared t low m r entry_is served_is shared_is low_is h =
    let entries_is : viewed t ≡ plain (map (λ (x : Arc CheckedEntry Z). arc_value {X = CheckedEntry} x) shared) =
    ap (λ (xs : List (Arc CheckedEntry Z)). viewed xs) shared_is ∙ viewed-plain shared
    in
    subst (λ (g : CheckedEntry). OfWork g.origin (λ work. IsScanned (all_settled served) limit (plain (map (λ (x : Arc CheckedEntry Z). arc_value {X = CheckedEntry} x) shared)) work.skeleton low r)) entry_is
    (subst (λ (x : List Served). OfWork f.origin (λ work. IsScanned (all_settled x) limit (plain (map (λ (x : Arc CheckedEntry Z). arc_value {X = CheckedEntry} x) shared)) work.skeleton low r)) served_is
    (subst (λ (n : ℕ). OfWork f.origin (λ work. IsScanned (all_settled s) limit (plain (map (λ (x : Arc CheckedEntry Z). arc_value {X = CheckedEntry} x) shared)) work.skeleton n r)) low_is
    (subst (λ (es : List Entry). OfWork f.origin (λ work. IsScanned (all_settled s) limit es work.skeleton m r)) entries_is h)))

-- ---- laws

valid-behind : (c : Circuit) (front rest : List CheckedEntry)
    → ((mid after : List CheckedEntry) (e : CheckedEntry) → rest ≡ mid ++ e ∷ after → IsSound c (front ++ mid) e)
    → AreValidBehind c (plain front) (plain rest)
valid-behind c front [] h = tt
valid-behind c front (e ∷ rest) h =
    let sound : IsSound c (front ++ []) e = h [] rest e refl in
    let here : IsSound c front e = subst (λ (es : List CheckedEntry). IsSound c es e) (append-nil front) sound in
    let valid : IsValid c (plain front) e.entry = subst (λ (d : Circuit). IsValid d (plain front) e.entry) here.circuit here.holds.valid in
    let behind : AreValidBehind c (plain (front ++ e ∷ [])) (plain rest) =
    valid-behind c (front ++ e ∷ []) rest (λ mid after f split.
    subst (λ (es : List CheckedEntry). IsSound c es f) (sym (append_assoc front (e ∷ []) mid)) (h (e ∷ mid) after f (ap (λ (es : List CheckedEntry). e ∷ es) split)))
    in
    (valid, subst (λ (es : List Entry). AreValidBehind c es (plain rest)) (plain-append front (e ∷ [])) behind)

over-behind : (c : Circuit) (front rest : List CheckedEntry)
    → ((mid after : List CheckedEntry) (e : CheckedEntry) → rest ≡ mid ++ e ∷ after → IsSound c (front ++ mid) e)
    → All (λ (e : Entry). AreOver (length c.latches) e.clauses) (plain rest)
over-behind c front [] h = All-nil (λ (e : Entry). AreOver (length c.latches) e.clauses)
over-behind c front (e ∷ rest) h =
    let sound : IsSound c (front ++ []) e = h [] rest e refl in
    let over : AreOver (length c.latches) e.entry.clauses = subst (λ (d : Circuit). AreOver (length d.latches) e.entry.clauses) sound.circuit sound.holds.proved.over in
    All-cons (λ (f : Entry). AreOver (length c.latches) f.clauses) e.entry (plain rest) over
    (over-behind c (front ++ e ∷ []) rest (λ mid after f split.
    subst (λ (es : List CheckedEntry). IsSound c es f) (sym (append_assoc front (e ∷ []) mid)) (h (e ∷ mid) after f (ap (λ (es : List CheckedEntry). e ∷ es) split))))

pub good_entries : (b : BoardState) → IsBoard b → IsGoodList b.circuit (plain b.entries)
good_entries b board =
    record {
      valid = valid-behind b.circuit [] b.entries board.sound;
      over = over-behind b.circuit [] b.entries board.sound;
    }

pub seen_stand : (b : BoardState) → StandOn → ClosedUsesStand → (w : ℕ) → SeenUsesStand b w
seen_stand b on closed_stand w uses closed =
    let seen = list_of b w in
    let n = get_or b.seen w 0 in
    subst (λ (es : List Entry). StandIn es (used_entries (plain seen) uses)) (plain-split b.entries n)
    (on (plain seen) (plain (drop n b.entries)) (used_entries (plain seen) uses) (closed_stand (plain seen) uses closed))
