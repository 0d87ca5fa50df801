-- Passes that stay who they are.
use Rattle.std.proofs.Common.{◌≡◌, ℕ, zero, suc, ◌+◌, ◌<◌, ◌≤◌, Bool, true, false, List, [], ◌∷◌, ◌++◌, length, map, take, drop, refl, sym, ap, ◌∙◌, subst, arith, ext_get_or}
use Rattle.std.specs.List.{Any, Contains}
use Rattle.std.proofs.Math.ListN.{get_or, set}
use Rattle.std.proofs.Math.Seq.{map-set_same}
use Rattle.std.proofs.lemmas.List.{get_or-map, get_or_default, length-map, append-nil, drop_all, take_all}
use Rattle.std.proofs.lemmas.List.Elements.{All-nil, All-cons, All-set}
use Rattle.aig_semantics.specs.Circuits.{Circuit}
use Rattle.fair_semantics.specs.Entries.{Numbered}
use Rattle.fair_semantics.specs.Skeletons.{IsSkeleton}
use Rattle.entry.specs.declared.origins.Origin.{Origin}
use Rattle.entry.specs.CheckedEntries.{CheckedEntry, StandIn}
use Rattle.fair_semantics.specs.declared.skeletons.Skeleton.{Skeleton}
use Rattle.fair_semantics.specs.Entries.{Entry}
use Rattle.entry.specs.Proved.{IsGoodRefutation}
use Rattle.entry.specs.declared.refutations.Refutation.{Refutation}
use Rattle.wall_store.specs.declared.outcomes.Outcome.TheVariants.{Holds}
use Rattle.wall_store.specs.Boards.{FromWorker, Allow, plain, IsTrueOf}
use Rattle.wall_ledger.specs.Passes.{PassState, LedgerState, MayPassPost, IsPassPost, new_pass, new_passes}
use Rattle.wall_ledger.specs.Turns.{AreAll, AreOf, IsBegun}
use Rattle.ledger_tests.specs.Passes.{model, properties, target, IsFindOf, IsOf, StayPasses, numbers, count_up}
use Rattle.ledger_tests.proofs.Modelling.{is_skeleton}

pub of_served : (two : Bool) (k : ℕ) → Any (λ (j : ℕ). IsSkeleton (model two) j (target k)) (properties two)
of_served false k = (0, 0, (omega arith), refl, is_skeleton false k)
of_served true k = (0, 0, (omega arith), refl, is_skeleton true k)

pub may_post : (two : Bool) (k : ℕ) (l : LedgerState) (p : PassState) (e : CheckedEntry) → IsOf two l
    → IsFindOf (model two) p.number p.turns k e → Allow p.list (target k) → MayPassPost l p e
may_post two k l p e of found allowed =
    let here : Any (λ (j : ℕ). IsSkeleton l.circuit j (target k)) l.properties =
    subst (λ (js : List ℕ). Any (λ (j : ℕ). IsSkeleton l.circuit j (target k)) js) (sym of.properties)
    (subst (λ (c : Circuit). Any (λ (j : ℕ). IsSkeleton c j (target k)) (properties two)) (sym of.circuit) (of_served two k))
    in
    subst (λ (o : Origin). FromWorker o (IsPassPost l p e)) (sym found.origin)
    (record {
      circuit = found.circuit ∙ sym of.circuit;
      author = refl;
      turn = refl;
      uses = subst (λ (used : List Numbered). StandIn (plain p.list) used) (sym found.used) (λ i d inside. absurd (omega (arith, inside)));
      skeleton = here;
      allowed = allowed;
    })

-- ---- passes by their numbers

number_at : (ps : List PassState) (n more k : ℕ) (d : PassState) → numbers ps ≡ count_up n more → k < length ps
    → (get_or ps k d).number ≡ get_or (count_up n more) k 0
number_at ps n more k d same below =
    sym (get_or-map (λ (p : PassState). p.number) ps k d 0 below) ∙ ap (λ (ns : List ℕ). get_or ns k 0) same

counted : (n more k : ℕ) → k < more → get_or (count_up n more) k 0 ≡ n + k
counted n zero k below = absurd (omega (arith, below))
counted n (suc more) zero below = omega arith
counted n (suc more) (suc k) below =
    let rest : get_or (count_up (n + 1) more) k 0 ≡ (n + 1) + k = counted (n + 1) more k (omega (arith, below)) in
    let turned : (n + 1) + k ≡ n + suc k = omega arith in
    rest ∙ turned

count_length : (n more : ℕ) → length (count_up n more) ≡ more
count_length n zero = refl
count_length n (suc more) = ap suc (count_length (n + 1) more)

pub all_by_numbers : (l : LedgerState) (ps : List PassState) → numbers ps ≡ count_up 0 l.workers → AreAll l ps
all_by_numbers l ps same = λ n below.
    let count : length ps ≡ l.workers =
    sym (length-map ps (λ (p : PassState). p.number)) ∙ ap length same ∙ count_length 0 l.workers in
    let inside : n < length ps = omega (arith, below, count) in
    let turned : 0 + n ≡ n = omega arith in
    let q = get_or ps n (new_pass l 0) in (
      n,
      q,
      inside,
      get_or_default ps n q (new_pass l 0) inside,
      number_at ps 0 l.workers n (new_pass l 0) same inside ∙ counted 0 l.workers n below ∙ turned,
    )

pub set_numbers : (ps : List PassState) (i : ℕ) (q d : PassState) → q.number ≡ (get_or ps i d).number → numbers (set ps i q) ≡ numbers ps
set_numbers ps i q d number = map-set_same (λ (p : PassState). p.number) ps i q d number

pub set_own : (l : LedgerState) (ps : List PassState) (i : ℕ) (q : PassState) → q.home ≡ l.home → AreOf l ps → AreOf l (set ps i q)
set_own l ps i q home own = All-set (λ (p : PassState). p.home ≡ l.home) ps i q home own

-- ---- passes that stay

-- a list that is written whole
pub written_back : (n : ℕ) (new old : List PassState) → length old ≡ n → length new ≡ n → take n (new ++ drop (length new) old) ≡ new
written_back n new old was is =
    ap (λ t. take n (new ++ t)) (drop_all (length new) old (omega (arith, was, is)))
    ∙ (ap (λ t. take n t) (append-nil new) ∙ take_all n new (omega (arith, is)))

pub stay_own : (l : LedgerState) (before after : List PassState) → StayPasses before after → AreOf l before → AreOf l after
stay_own l before after stay own = λ k d below.
    let inside : k < length before = omega (arith, below, stay.0) in
    (stay.1 k d inside).home ∙ own k d inside

pub stay_numbers : (l : LedgerState) (before after : List PassState) → StayPasses before after → numbers after ≡ numbers before
stay_numbers l before after stay =
    let d : PassState = new_pass l 0 in
    let many : length (numbers after) ≡ length after = length-map after (λ (p : PassState). p.number) in
    let few : length (numbers before) ≡ length before = length-map before (λ (p : PassState). p.number) in
    ext_get_or 0 (numbers after) (numbers before) (many ∙ stay.0 ∙ sym few)
    (λ i below.
    let inside : i < length after = omega (arith, below, many) in
    let first : i < length before = omega (arith, inside, stay.0) in
    get_or-map (λ (p : PassState). p.number) after i d 0 inside ∙ (stay.1 i d first).number
    ∙ sym (get_or-map (λ (p : PassState). p.number) before i d 0 first))

-- ---- new passes

pub own_new : (l : LedgerState) (n more : ℕ) → AreOf l (new_passes l n more)
own_new l n zero = All-nil (λ (p : PassState). p.home ≡ l.home)
own_new l n (suc more) = All-cons (λ (p : PassState). p.home ≡ l.home) (new_pass l n) (new_passes l (n + 1) more) refl (own_new l (n + 1) more)

pub numbers_new : (l : LedgerState) (n more : ℕ) → numbers (new_passes l n more) ≡ count_up n more
numbers_new l n zero = refl
numbers_new l n (suc more) = ap (λ (ns : List ℕ). n ∷ ns) (numbers_new l (n + 1) more)

pub begun_own : {c : Circuit} {js : List ℕ} {w more : ℕ} {es : List CheckedEntry} {l : LedgerState} {ps : List PassState}
    → IsBegun c js w more es l ps → AreOf l ps
begun_own {w = w} {l = l} b = subst (λ (qs : List PassState). AreOf l qs) (sym b.passes) (own_new l 0 w)

pub begun_numbers : {c : Circuit} {js : List ℕ} {w more : ℕ} {es : List CheckedEntry} {l : LedgerState} {ps : List PassState}
    → IsBegun c js w more es l ps → numbers ps ≡ count_up 0 l.workers
begun_numbers {w = w} {l = l} b =
    ap numbers b.passes ∙ numbers_new l 0 w ∙ ap (λ (n : ℕ). count_up 0 n) (sym b.workers)

-- ---- posts, from what calls tell

pub may_post_found : (two : Bool) (k : ℕ) (l : LedgerState) (p : PassState) (e : CheckedEntry) (d : Circuit) (n t : ℕ) (list : List CheckedEntry)
    (skeleton : Skeleton) → IsOf two l → d ≡ model two → n ≡ p.number → t ≡ p.turns → IsFindOf d n t k e → list ≡ p.list
    → skeleton ≡ target k → Allow list skeleton → MayPassPost l p e
may_post_found two k l p e d n t list skeleton of same number turn found seen aimed allowed =
    may_post two k l p e of
    (subst (λ (c : Circuit). IsFindOf c p.number p.turns k e) same
    (subst (λ (m : ℕ). IsFindOf d m p.turns k e) number (subst (λ (m : ℕ). IsFindOf d n m k e) turn found)))
    (subst (λ (s : Skeleton). Allow p.list s) aimed (subst (λ (es : List CheckedEntry). Allow es skeleton) seen allowed))

pub true_over : (l : LedgerState) (p : PassState) (j : ℕ) (d : Circuit) (entries : List Entry) (r : Refutation) → d ≡ l.circuit
    → entries ≡ plain p.list → IsGoodRefutation d entries j r.uses r.proof → IsTrueOf l.circuit p.list j (Holds r)
true_over l p j d entries r same seen good =
    subst (λ (es : List Entry). IsGoodRefutation l.circuit es j r.uses r.proof) seen
    (subst (λ (c : Circuit). IsGoodRefutation c entries j r.uses r.proof) same good)

pub true_of : (two : Bool) (l : LedgerState) (p : PassState) (j : ℕ) (d : Circuit) (entries : List Entry) (r : Refutation) → IsOf two l
    → d ≡ model two → entries ≡ plain p.list → IsGoodRefutation d entries j r.uses r.proof → IsTrueOf l.circuit p.list j (Holds r)
true_of two l p j d entries r of same seen good = true_over l p j d entries r (same ∙ sym of.circuit) seen good

pub among : (two : Bool) (j : ℕ) → j < length (properties two) → Contains (properties two) j
among false zero below = (0, (omega arith), refl)
among false (suc j) below = absurd (omega (arith, below))
among true zero below = (0, (omega arith), refl)
among true (suc zero) below = (1, (omega arith), refl)
among true (suc (suc j)) below = absurd (omega (arith, below))

pub served : (two : Bool) (l : LedgerState) (j : ℕ) → IsOf two l → j < length (properties two) → Contains l.properties j
served two l j of below =
    subst (λ (js : List ℕ). Contains js j) (sym of.properties) (among two j below)
