-- Workers on threads: what each of them begins with and comes to, and what the board of their ledger is then.
use Rattle.std.proofs.Common.{◌≡◌, ℕ, zero, suc, ◌+◌, ◌-◌, ◌*◌, ◌<◌, ◌≤◌, min, Bool, true, false, cond, List, [], ◌∷◌, ◌++◌, map, Some, None, ◌⊎◌, inl, inr, length, get_or, take, drop, refl, sym, ap, ◌∙◌, subst, arith}
use Rattle.std.specs.Prelude.{Contains, Option}
use Rattle.std.specs.List.{All, remove}
use Rattle.std.proofs.lemmas.Bool.{false≢true, false_from_ne_true, cases_lt, eq-eqb, ne_eqb}
use Rattle.std.proofs.lemmas.List.{get_or-map, get_or_default, length-map, length-append, append-nil, append_assoc, map-append, drop-append-le, drop_all, take_all, take-append-le}
use Rattle.std.proofs.lemmas.List.Elements.{All-nil, All-cons, filter-append}
use Rattle.wall_ledger.proofs.Events.{some_same}
use Rattle.aig_semantics.specs.Circuits.{Circuit}
use Rattle.edge.specs.Units.{Spendings}
use Rattle.entry.specs.declared.origins.Origin.{Origin}
use Rattle.entry.specs.declared.origins.Origin.TheVariants.{Given, Worker as FoundBy}
use Rattle.entry.specs.CheckedEntries.{CheckedEntry}
use Rattle.skeleton.specs.Finding.{IsAllowed}
use Rattle.wall_store.specs.Boards.{BoardState, FromWorker, AscendBy, Ascend, IsFind, is_by, found_by, turn_of, most_entries, plain, properties_of}
use Rattle.wall_store.specs.Events.{IsSettled}
use Rattle.wall_store.proofs.Ascending.{none_found, ascend_empty, ascend_later, found_others}
use Rattle.wall_ledger.specs.Passes.{Marked, PassState, LedgerState, GoesOn, OwnTurns, blank, shown_of, new_pass, new_passes}
use Rattle.wall_ledger.specs.Turns.{IsBegun, IsClosed, AreAll, AreOf}
use Rattle.fair_workers.specs.declared.ending.WorkerEnd.{WorkerEnd}
use Rattle.search_reports.specs.declared.limits.Limits.{Limits}
use Rattle.fair_workers.specs.declared.runners.Runner.{Runner}
use Rattle.fair_workers.specs.declared.working.Phase.{Phase}
use Rattle.fair_workers.specs.declared.working.Phase.TheVariants as phases
use Rattle.fair_workers.specs.declared.working.Worker.{Worker}
use Rattle.fair_workers.specs.Runs.{Task, AreLimits, AreServed, ServesOne, IsByRoundWorker, IsFoundWithin, IsBoardOf, IsFull, IsInBudget, last_turns, most_turns, round_workers}
use Rattle.shared_lists.specs.Knowing.{Known, AreSettled}
use Rattle.fair_workers.specs.Working.{left_to, left_at_first, searches_left_to, search_steps, steps_through, is_running, first_left, Begins, IsIn, IsNumbered, IsOfKind, IsStuck, IsWorker, Turns}
use Rattle.fair_workers.specs.Ends.{Tells, IsDone, AreDone, IsEndNumbered, done_in, end_as}
use Rattle.shared_lists.specs.Holding.{is_shown, known_by, StaysHeld}
use Rattle.fair_workers.specs.OnThreads.{fresh_meter, steps_within, Goes, HasTurned, IsReady, IsThrough, MayRun, HasRun, HaveRun, HasEnded, IsBegunFor}
use Rattle.fair_workers.proofs.Causes.{steps-least}
use Rattle.fair_workers.specs.declared.lasso_search.LassoSearch.{LassoSearch}
use Rattle.fair_workers.proofs.WorkerKinds.{numbered-on, ends-kind, ends-numbered}
use Rattle.fair_workers.proofs.Together.{within-on, first-worker, first-within, most-least, kind-told}
use Rattle.shared_lists.proofs.HeldPasses.{marks-tell}
use Rattle.fair_round.proofs.Counting.{steps-kept, steps-over, steps-last}

-- ---- one worker

-- with a pass that is ready a worker begins
ready-worker : (limits : Limits) (properties : List ℕ) (l : LedgerState) (p : PassState) (w : Worker) → IsReady limits properties l p
    → Begins limits l.properties p.number w → IsWorker (known_by l p) w
ready-worker limits properties l p w is begins =
    first-worker limits p.number (known_by l p) w is.within.depth is.served begins is.pass.limit is.turns (ap length is.list)

-- the steps that its searches may take
ready-steps : (limits : Limits) (properties : List ℕ) (l : LedgerState) (p : PassState) (w : Worker) → IsReady limits properties l p
    → Begins limits l.properties p.number w → w.meter ≡ fresh_meter limits
    → steps_through w (searches_left_to (known_by l p) w) (search_steps l.circuit l.properties) ≤ steps_within limits l
ready-steps limits properties l p w is begins meter =
    first-within (known_by l p) w limits.skeletons (let same = ap length is.list in let grows = is.grows in omega (arith, same, grows)) begins.begins
    (ap (λ (s : Spendings). s.steps) meter)

pub goes-first : (limits : Limits) (properties : List ℕ) (l : LedgerState) (p : PassState) (w : Worker) → IsReady limits properties l p
    → w.meter ≡ fresh_meter limits → Begins limits properties p.number w → Goes limits l p w
goes-first limits properties l p w is meter begun =
    let begins : Begins limits l.properties p.number w = subst (λ (js : List ℕ). Begins limits js p.number w) (sym is.same) begun in
    record {
      pass = is.pass;
      worker = ready-worker limits properties l p w is begins;
      kind = begins.kind;
      counted = record { conflicts = ap (λ (s : Spendings). s.conflict_limit) meter; steps = ap (λ (s : Spendings). s.step_limit) meter };
      steps = ready-steps limits properties l p w is begins meter;
    }

-- a turn keeps the bound on steps
turn-steps : (k l : Known) (w v : Worker) (most : ℕ) → Turns 0 k w l v → steps_through w (searches_left_to k w) (search_steps k.circuit k.properties) ≤ most
    → steps_through v (searches_left_to l v) (search_steps k.circuit k.properties) ≤ most
turn-steps k l w v most turn before =
    steps-kept v.meter.steps w.meter.steps (searches_left_to l v) (searches_left_to k w) (search_steps k.circuit k.properties) most
    (steps-over v.meter.steps (searches_left_to l v) (search_steps k.circuit k.properties)
    (steps_through w (searches_left_to k w) (search_steps k.circuit k.properties)) turn.steps)
    before

pub goes-on : (limits : Limits) (l m : LedgerState) (p q : PassState) (w v : Worker) → Goes limits l p w → StaysHeld l p m q
    → Turns 0 (known_by l p) w (known_by m q) v → Goes limits m q v
goes-on limits l m p q w v g stays turn = record {
  pass = stays.pass;
  worker = turn.worker;
  kind = subst (λ (n : ℕ). IsNumbered limits n v.lasso_search) (sym stays.number) (numbered-on limits p.number w.lasso_search v.lasso_search turn.kind g.kind);
  counted = within-on limits w.meter v.meter turn.limits g.counted;
  steps =
      subst (λ (n : LedgerState). steps_through v (searches_left_to (known_by m q) v) (search_steps n.circuit n.properties) ≤ steps_within limits n)
      (sym stays.ledger)
      (turn-steps (known_by l p) (known_by m q) w v (steps_within limits l) turn g.steps);
}

few-turns : (turns ahead most : ℕ) → turns + ahead ≤ most → turns ≤ most
few-turns turns ahead most h = omega (arith, h)

-- the phase of a worker that has ended tells the same of any property
tells-any : (i j : ℕ) (k : Known) (meter : Spendings) (p : Phase) → is_running p ≡ false → IsIn i k meter p → IsIn j k meter p
tells-any i j k meter phases.Asks ended h = absurd (false≢true (sym ended))
tells-any i j k meter phases.Looks ended h = absurd (false≢true (sym ended))
tells-any i j k meter phases.Searches ended h = absurd (false≢true (sym ended))
tells-any i j k meter (phases.AsksLast from) ended h = absurd (false≢true (sym ended))
tells-any i j k meter phases.LooksLast ended h = absurd (false≢true (sym ended))
tells-any i j k meter phases.SearchesLast ended h = absurd (false≢true (sym ended))
tells-any i j k meter (phases.AsksDeeper after) ended h = absurd (false≢true (sym ended))
tells-any i j k meter (phases.Deepens after) ended h = absurd (false≢true (sym ended))
tells-any i j k meter phases.Closed ended h = h
tells-any i j k meter phases.Full ended h = h
tells-any i j k meter phases.Spent ended h = h
tells-any i j k meter phases.Deep ended h = h
tells-any i j k meter phases.Refused ended h = h

-- how many turns a worker has taken that found entries; a lasso worker found none
turns-by-kind : (k : Known) (w : Worker) (o : Option LassoSearch) → k.turns + left_to k w ≤ first_left k o → IsOfKind w.property k w.meter w.phase o
    → HasTurned k (done_in o)
turns-by-kind k w None within kind = few-turns k.turns (left_to k w) (left_at_first k) within
turns-by-kind k w (Some s) within kind = kind.0.list

turned-few : (k : Known) (done : Option ℕ) (most : ℕ) → left_at_first k ≤ most → HasTurned k done → (k.turns ≤ most) ⊎ (length k.list ≡ k.given)
turned-few k None most least turned = inl (both k.turns (left_at_first k) most turned least)
  where
    both : (t m n : ℕ) → t ≤ m → m ≤ n → t ≤ n
    both t m n a b = omega (arith, a, b)
turned-few k (Some done) most least turned = inr turned

-- a worker that is no lasso worker by its number, or has seen the given entries alone
turned-kind : (limits : Limits) (n : ℕ) (k : Known) (done : Option ℕ) → HasTurned k done → IsEndNumbered limits n done
    → (n < round_workers limits) ⊎ (length k.list ≡ k.given)
turned-kind limits n k None turned number = inl number
turned-kind limits n k (Some done) turned number = inr turned

-- a worker that has taken its turns
pub goes-through : (limits : Limits) (l m : LedgerState) (q : PassState) (v : Worker) (e : WorkerEnd) → m ≡ l → Goes limits m q v
    → is_running v.phase ≡ false → e ≡ end_as v → IsInBudget e.spent → IsThrough limits l q e
goes-through limits l m q v e ledger g over same within =
    subst (λ (n : LedgerState). IsThrough limits n q e) ledger
    (subst (IsThrough limits m q) (sym same) (record {
      pass = g.pass;
      turns = turns-by-kind (known_by m q) v v.lasso_search g.worker.turns g.worker.kind;
      kind = ends-kind limits q.number v.property (known_by m q) v.meter v.phase v.lasso_search over g.kind g.worker.kind;
      numbered = ends-numbered limits q.number v.lasso_search g.kind;
      over = over;
      tells = tells-any v.property 0 (known_by m q) v.meter v.phase over g.worker.phase;
      counted = g.counted;
      within = subst (λ (f : WorkerEnd). IsInBudget f.spent) same within;
      steps = steps-last v.meter.steps (searches_left_to (known_by m q) v) (search_steps m.circuit m.properties) (steps_within limits m) g.steps;
    }))

-- ---- new passes

new-size : (l : LedgerState) (n w : ℕ) → length (new_passes l n w) ≡ w
new-size l n zero = refl
new-size l n (suc w) = ap suc (new-size l (n + 1) w)

new-at : (l : LedgerState) (n w k : ℕ) (d : PassState) → k < w → get_or (new_passes l n w) k d ≡ new_pass l (n + k)
new-at l n zero k d below = absurd (omega arith)
new-at l n (suc w) zero d below = ap (new_pass l) (let e : n ≡ n + 0 = omega arith in e)
new-at l n (suc w) (suc k) d below = new-at l (n + 1) w k d (omega arith) ∙ ap (new_pass l) (let e : (n + 1) + k ≡ n + suc k = omega arith in e)

pub begun-size : (task : Task) (l : LedgerState) (ps : List PassState)
    → IsBegun task.circuit task.properties task.limits.workers task.limits.skeletons task.given l ps → length ps ≡ task.limits.workers
begun-size task l ps is = ap length is.passes ∙ new-size l 0 task.limits.workers

marked-new : (js : List ℕ) → map (λ (m : Marked). m.property) (map (λ (j : ℕ). record { property = j; mark = blank }) js) ≡ js
marked-new [] = refl
marked-new (j ∷ js) = ap (λ (is : List ℕ). j ∷ is) (marked-new js)

ready-new : (task : Task) (l : LedgerState) (ps : List PassState) (n : ℕ) → AreServed task.circuit task.properties → AreLimits task.limits
    → ServesOne task.limits task.properties → n < task.limits.workers
    → IsBegun task.circuit task.properties task.limits.workers task.limits.skeletons task.given l ps
    → IsReady task.limits task.properties l (new_pass l n)
ready-new task l ps n served limits one below is = record {
  pass = record {
    home = refl;
    circuit = ap (λ (b : BoardState). b.circuit) is.first ∙ sym is.circuit;
    marks = marked-new l.properties;
    limit = short l.limit (length task.given + task.limits.skeletons) is.limit;
  };
  same = is.properties;
  within = limits;
  one = one;
  number = below;
  served = subst (λ (c : Circuit). AreServed c l.properties) (sym is.circuit)
      (subst (λ (js : List ℕ). AreServed task.circuit js) (sym is.properties) served);
  list = refl;
  turns = refl;
  grows = grown l.limit (length l.given) (length task.given) task.limits.skeletons is.limit (ap length is.given);
}
  where
    short : (limit most : ℕ) → limit ≡ min most most_entries → limit ≤ most_entries
    short limit most e = grind (arith)

    grown : (limit given first more : ℕ) → limit ≡ min (first + more) most_entries → given ≡ first → limit ≤ given + more
    grown limit given first more e same = grind (arith)

-- ---- runners

passes-at : (runners : List Runner) (ps : List PassState) (k : ℕ) (d : Runner) (p : PassState) → map (λ r. r.pass) runners ≡ map Some ps → k < length runners
    → (get_or runners k d).pass ≡ Some (get_or ps k p)
passes-at runners ps k d p e below =
    let size : length runners ≡ length ps = sym (length-map runners (λ (r : Runner). r.pass)) ∙ ap length e ∙ length-map ps (λ (q : PassState). Some q) in
    sym (get_or-map (λ (r : Runner). r.pass) runners k d (Some p) below) ∙ ap (λ xs. get_or xs k (Some p)) e
    ∙ get_or-map (λ (q : PassState). Some q) ps k p (Some p) (omega (arith, below, size))

ends-at : (runners : List Runner) (es : List WorkerEnd) (k : ℕ) (d : Runner) (e : WorkerEnd) → map Some es ≡ map (λ r. r.end) runners → k < length runners
    → (get_or runners k d).end ≡ Some (get_or es k e)
ends-at runners es k d e same below =
    let size : length runners ≡ length es = sym (length-map runners (λ (r : Runner). r.end)) ∙ sym (ap length same) ∙ length-map es (λ (q : WorkerEnd). Some q) in
    sym (get_or-map (λ (r : Runner). r.end) runners k d (Some e) below) ∙ ap (λ xs. get_or xs k (Some e)) (sym same)
    ∙ get_or-map (λ (q : WorkerEnd). Some q) es k e (Some e) (omega (arith, below, size))

pub runners-size : (task : Task) (l : LedgerState) (runners : List Runner) → IsBegunFor task l runners → length runners ≡ task.limits.workers
runners-size task l runners is =
    sym (length-map runners (λ (r : Runner). r.pass)) ∙ ap length is.passes ∙ length-map (new_passes l 0 task.limits.workers) (λ (q : PassState). Some q)
    ∙ new-size l 0 task.limits.workers

new-held : (task : Task) (l : LedgerState) (runners : List Runner) (k : ℕ) (d : Runner) → IsBegunFor task l runners → k < length runners
    → (get_or runners k d).pass ≡ Some (new_pass l k)
new-held task l runners k d is below =
    passes-at runners (new_passes l 0 task.limits.workers) k d (new_pass l k) is.passes below
    ∙ ap (λ (q : PassState). Some q)
    (new-at l 0 task.limits.workers k (new_pass l k) (omega (arith, below, runners-size task l runners is))
    ∙ ap (new_pass l) (let z : 0 + k ≡ k = omega arith in z))

pub may-run-all : (task : Task) (l : LedgerState) (runners : List Runner) → IsBegunFor task l runners → All (MayRun task.limits task.properties l) runners
may-run-all task l runners is = λ k d below. (
  new_pass l k,
  new-held task l runners k d is below,
  ready-new task l (new_passes l 0 task.limits.workers) k is.served is.limits is.one (let size = runners-size task l runners is in omega (arith, below, size))
      is.ledger,
)

pub have-ended : (limits : Limits) (l : LedgerState) (before after : List Runner) → HaveRun limits l before after → All HasEnded after
have-ended limits l before after h = λ k d below.
    let run : HasRun limits l (get_or before k d) (get_or after k d) = h.1 k d (omega (arith, below, h.0)) in
    ((run.pass, run.held), (run.end, run.kept))

pub begun-for : (task : Task) (l : LedgerState) (ps : List PassState) (runners : List Runner) → AreLimits task.limits
    → ServesOne task.limits task.properties → AreServed task.circuit task.properties
    → IsBegun task.circuit task.properties task.limits.workers task.limits.skeletons task.given l ps → map (λ r. r.pass) runners ≡ map Some ps
    → IsBegunFor task l runners
begun-for task l ps runners limits one served is same = record {
  limits = limits;
  one = one;
  served = served;
  ledger = subst (λ (qs : List PassState). IsBegun task.circuit task.properties task.limits.workers task.limits.skeletons task.given l qs) is.passes is;
  passes = same ∙ ap (λ (qs : List PassState). map Some qs) is.passes;
}

-- ---- one list that empties, and one that fills

first-and : {X : Type 0} (xs : List X) (x : X) → 0 < length xs → x ≡ get_or xs 0 x → x ∷ remove xs 0 ≡ xs
first-and [] x below at = absurd (omega arith)
first-and (y ∷ xs) x below at = ap (λ z. z ∷ xs) at

pub moved-on : {X Y Z : Type 0} (f : X → Y) (g : Z → Y) (done : List Z) (rest : List X) (z : Z) (x : X) → g z ≡ f x → 0 < length rest
    → x ≡ get_or rest 0 x → map g (done ++ z ∷ []) ++ map f (remove rest 0) ≡ map g done ++ map f rest
moved-on f g done rest z x same below at =
    ap (λ ys. ys ++ map f (remove rest 0)) (map-append g done (z ∷ [])) ∙ append_assoc (map g done) (g z ∷ []) (map f (remove rest 0))
    ∙ ap (λ y. map g done ++ y ∷ map f (remove rest 0)) same ∙ ap (λ xs. map g done ++ map f xs) (first-and rest x below at)

pub all-rest : {X : Type 0} (P : X → Type 0) (xs : List X) → All P xs → All P (remove xs 0)
all-rest P [] a = λ k d below. absurd (omega arith)
all-rest P (x ∷ xs) a = λ k d below. a (suc k) d (omega arith)

pub none-left : {X : Type 0} (xs : List X) → length xs ≡ 0 → xs ≡ []
none-left [] e = refl
none-left (x ∷ xs) e = absurd (omega (arith, e))

-- ---- what comes back

-- passes and ends of workers that are through, in the order of their numbers
pub record AreBack (task : Task) (l : LedgerState) (ps : List PassState) (es : List WorkerEnd) : Type 0 where
  passes : length ps ≡ task.limits.workers
  ends : length es ≡ task.limits.workers
  through : (k : ℕ) (p : PassState) (e : WorkerEnd) → k < task.limits.workers → IsThrough task.limits l (get_or ps k p) (get_or es k e)
  own : (k : ℕ) (p : PassState) → k < task.limits.workers → OwnTurns (get_or ps k p)
  number : (k : ℕ) (p : PassState) → k < task.limits.workers → (get_or ps k p).number ≡ k

abbrev blank-runner : Runner
blank-runner = record { pass = None; end = None }

abbrev no-end : Limits → WorkerEnd
no-end limits = record { spent = fresh_meter limits; phase = phases.Refused; done = None }

pub back-of : (task : Task) (l : LedgerState) (before after : List Runner) (ps : List PassState) (es : List WorkerEnd) → IsBegunFor task l before
    → HaveRun task.limits l before after → map Some ps ≡ map (λ r. r.pass) after → map Some es ≡ map (λ r. r.end) after → AreBack task l ps es
back-of task l before after ps es is h passes ends =
    let count : length before ≡ task.limits.workers = runners-size task l before is in
    let run : (k : ℕ) → k < task.limits.workers → HasRun task.limits l (get_or before k blank-runner) (get_or after k blank-runner) =
    λ k below. h.1 k blank-runner (omega (arith, below, count))
    in
    let pass-is : (k : ℕ) (p : PassState) (below : k < task.limits.workers) → (run k below).pass ≡ get_or ps k p = λ k p below.
    some_same (run k below).pass (get_or ps k p)
    (sym (run k below).held ∙ passes-at after ps k blank-runner p (sym passes) (omega (arith, below, count, h.0)))
    in
    let end-is : (k : ℕ) (e : WorkerEnd) (below : k < task.limits.workers) → (run k below).end ≡ get_or es k e = λ k e below.
    some_same (run k below).end (get_or es k e)
    (sym (run k below).kept ∙ ends-at after es k blank-runner e ends (omega (arith, below, count, h.0)))
    in
    record {
      passes = sym (length-map ps (λ (q : PassState). Some q)) ∙ ap length passes ∙ length-map after (λ (r : Runner). r.pass) ∙ h.0 ∙ count;
      ends = sym (length-map es (λ (q : WorkerEnd). Some q)) ∙ ap length ends ∙ length-map after (λ (r : Runner). r.end) ∙ h.0 ∙ count;
      through = λ k p e below.
          subst (λ (q : PassState). IsThrough task.limits l q (get_or es k e)) (pass-is k p below)
          (subst (λ (f : WorkerEnd). IsThrough task.limits l (run k below).pass f) (end-is k e below) (run k below).through);
      own = λ k p below. subst OwnTurns (pass-is k p below) (run k below).own;
      number = λ k p below.
          sym (ap (λ (q : PassState). q.number) (pass-is k p below))
          ∙ (run k below).number (new_pass l k) (new-held task l before k blank-runner is (omega (arith, below, count)));
    }

pub all-back : (task : Task) (l : LedgerState) (ps : List PassState) (es : List WorkerEnd) → AreBack task l ps es → l.workers ≡ task.limits.workers
    → AreAll l ps
all-back task l ps es back workers = λ n below.
    let inside : n < task.limits.workers = omega (arith, below, workers) in
    let p : PassState = get_or ps n (new_pass l n) in
    (n, p, omega (arith, inside, back.passes), sym (get_or_default ps n (new_pass l n) p (omega (arith, inside, back.passes))), back.number n (new_pass l n) inside)

pub of-back : (task : Task) (l : LedgerState) (ps : List PassState) (es : List WorkerEnd) → AreBack task l ps es → AreOf l ps
of-back task l ps es back = λ k d below. (back.through k d (no-end task.limits) (omega (arith, below, back.passes))).pass.home

-- ---- lists of entries

-- what is so of each entry, wherever it stands
all-splits : (Q : CheckedEntry → Type 0) (rest : List CheckedEntry)
    → ((mid after : List CheckedEntry) (e : CheckedEntry) → rest ≡ mid ++ e ∷ after → Q e) → All Q rest
all-splits Q [] h = All-nil Q
all-splits Q (e ∷ rest) h =
    All-cons Q e rest (h [] rest e refl)
    (all-splits Q rest (λ mid after f split. h (e ∷ mid) after f (ap (λ (es : List CheckedEntry). e ∷ es) split)))

first-kept : (Q : CheckedEntry → Type 0) (b : Bool) (e : CheckedEntry) (rest : List CheckedEntry) → b ≡ true → All Q (cond b (e ∷ rest) rest) → Q e
first-kept Q true e rest is a = a 0 e (omega arith)
first-kept Q false e rest is a = absurd (false≢true is)

rest-kept : (Q : CheckedEntry → Type 0) (b : Bool) (e : CheckedEntry) (rest : List CheckedEntry) → All Q (cond b (e ∷ rest) rest) → All Q rest
rest-kept Q true e rest a = λ k d below. a (suc k) d (omega arith)
rest-kept Q false e rest a = a

-- what is so of the entries of a worker is so of each of them
in-found : (Q : CheckedEntry → Type 0) (n : ℕ) (before after : List CheckedEntry) (e : CheckedEntry) → is_by n e.origin ≡ true
    → All Q (found_by n (before ++ e ∷ after)) → Q e
in-found Q n [] after e mine a = first-kept Q (is_by n e.origin) e (found_by n after) mine a
in-found Q n (x ∷ before) after e mine a =
    in-found Q n before after e mine (rest-kept Q (is_by n x.origin) x (found_by n (before ++ e ∷ after)) a)

-- ---- the last board

module _ (task : Task) (l : LedgerState) (qs ps : List PassState) (es : List WorkerEnd) (b : BoardState)
    (is : IsBegun task.circuit task.properties task.limits.workers task.limits.skeletons task.given l qs)
    (origins : All (λ e. e.origin ≡ Given) task.given) (back : AreBack task l ps es) (closed : IsClosed l ps b) where
  abbrev rest : List CheckedEntry
  rest = closed.board.front.0

  entries-are : b.entries ≡ l.given ++ rest
  entries-are = closed.board.front.1

  workers-are : b.workers ≡ task.limits.workers
  workers-are = closed.board.workers ∙ is.workers

  abbrev pass-of : ℕ → PassState
  pass-of n = get_or ps n (new_pass l n)

  goes : (n : ℕ) → n < task.limits.workers → GoesOn (pass-of n) b
  goes n below = closed.known n (new_pass l n) (omega (arith, below, back.passes))

  own-found : (n : ℕ) → n < task.limits.workers → found_by n b.entries ≡ found_by n (pass-of n).list
  own-found n below =
      subst (λ (m : ℕ). found_by m b.entries ≡ found_by m (pass-of n).list) (back.number n (new_pass l n) below) (goes n below).own

  own-ascend : (n : ℕ) → n < task.limits.workers → Ascend n (pass-of n).list (pass-of n).turns
  own-ascend n below =
      subst (λ (m : ℕ). Ascend m (pass-of n).list (pass-of n).turns) (back.number n (new_pass l n) below) (back.own n (new_pass l n) below)

  -- how many turns a worker of the ledger has at most
  abbrev most-here : ℕ
  most-here = ((l.limit - length l.given) + length l.properties) * 3 + last_turns l.properties + 3

  least-here : most-here ≤ most_turns task
  least-here =
      subst (λ (js : List ℕ). most-here ≤ 3 * (task.limits.skeletons + 1 + length js) + last_turns js) is.properties
      (most-least l.limit (length l.given) (length task.given) task.limits.skeletons (length l.properties) (last_turns l.properties) is.limit (ap length is.given))

  few : (n : ℕ) → n < task.limits.workers → ((pass-of n).turns ≤ most_turns task) ⊎ (length (pass-of n).list ≡ length l.given)
  few n below =
      turned-few (known_by l (pass-of n)) (get_or es n (no-end task.limits)).done (most_turns task) least-here
      (back.through n (new_pass l n) (no-end task.limits) below).turns

  -- a pass that has the given entries alone found none
  none-own : (n : ℕ) → n < task.limits.workers → length (pass-of n).list ≡ length l.given → found_by n b.entries ≡ []
  none-own n below same =
      let on : GoesOn (pass-of n) b = goes n below in
      let front : (pass-of n).list ≡ l.given =
      sym (take_all (length (pass-of n).list) (pass-of n).list (omega arith))
      ∙ sym (take-append-le (length (pass-of n).list) (pass-of n).list on.list.0 (omega arith)) ∙ ap (take (length (pass-of n).list)) (sym on.list.1 ∙ entries-are)
      ∙ ap (λ (m : ℕ). take m (l.given ++ rest)) same ∙ take-append-le (length l.given) l.given rest (omega arith) ∙ take_all (length l.given) l.given (omega arith)
      in
      own-found n below ∙ ap (found_by n) front ∙ none_found n l.given (subst (All (λ (e : CheckedEntry). e.origin ≡ Given)) (sym is.given) origins)

  -- where an entry stands that was found
  found-at : (mid after : List CheckedEntry) (e : CheckedEntry) → rest ≡ mid ++ e ∷ after
      → FromWorker e.origin (IsFind b.circuit (properties_of b.served) b.workers (l.given ++ mid) e)
  found-at mid after e split =
      closed.board.board.found (l.given ++ mid) after e
      (entries-are ∙ ap (λ xs. l.given ++ xs) split ∙ sym (append_assoc l.given mid (e ∷ after)))
      (let given = closed.board.given in omega (arith, given, length-append l.given mid))

  -- which is by no worker that has seen the given entries alone
  not-found : (n : ℕ) (mid after : List CheckedEntry) (e : CheckedEntry) → n < task.limits.workers → length (pass-of n).list ≡ length l.given
      → is_by n e.origin ≡ true → b.entries ≡ (l.given ++ mid) ++ e ∷ after → ⊥
  not-found n mid after e below given mine whole =
      in-found (λ z. ⊥) n (l.given ++ mid) after e mine
      (subst (λ (xs : List CheckedEntry). All (λ z. ⊥) (found_by n xs)) whole
      (subst (λ (xs : List CheckedEntry). All (λ z. ⊥) xs) (sym (none-own n below given)) (All-nil (λ z. ⊥))))

  within-by : (mid after : List CheckedEntry) (e : CheckedEntry) (origin : Origin) → rest ≡ mid ++ e ∷ after → e.origin ≡ origin
      → FromWorker origin (IsFind b.circuit (properties_of b.served) b.workers (l.given ++ mid) e)
      → FromWorker origin (λ work. work.turn < most_turns task)
  within-by mid after e Given split from find = absurd find
  within-by mid after e (FoundBy work) split from find =
      let n : ℕ = work.author in
      let below : n < task.limits.workers = (let author = find.author in omega (arith, author, workers-are)) in
      let mine : is_by n e.origin ≡ true = ap (is_by n) from ∙ eq-eqb n n refl in
      let all : All (λ z. turn_of z.origin < (pass-of n).turns) (found_by n b.entries) =
      subst (All (λ z. turn_of z.origin < (pass-of n).turns)) (sym (own-found n below)) (own-ascend n below).1
      in
      let whole : b.entries ≡ (l.given ++ mid) ++ e ∷ after = entries-are ∙ ap (λ xs. l.given ++ xs) split ∙ sym (append_assoc l.given mid (e ∷ after)) in
      let turn : turn_of e.origin < (pass-of n).turns =
      in-found (λ z. turn_of z.origin < (pass-of n).turns) n (l.given ++ mid) after e mine
      (subst (λ (xs : List CheckedEntry). All (λ z. turn_of z.origin < (pass-of n).turns) (found_by n xs)) whole all)
      in
      let same : turn_of e.origin ≡ work.turn = ap turn_of from in
      elim (few n below) [
        | inl most ↦ omega (arith, turn, same, most)
        | inr given ↦ absurd (not-found n mid after e below given mine whole)
      ]

  found-within : All (IsFoundWithin (most_turns task)) rest
  found-within = all-splits (IsFoundWithin (most_turns task)) rest (λ mid after e split. within-by mid after e e.origin split refl (found-at mid after e split))

  author-by : (mid after : List CheckedEntry) (e : CheckedEntry) (origin : Origin) → rest ≡ mid ++ e ∷ after → e.origin ≡ origin
      → FromWorker origin (IsFind b.circuit (properties_of b.served) b.workers (l.given ++ mid) e)
      → FromWorker origin (λ work. work.author < round_workers task.limits)
  author-by mid after e Given split from find = absurd find
  author-by mid after e (FoundBy work) split from find =
      let n : ℕ = work.author in
      let below : n < task.limits.workers = (let author = find.author in omega (arith, author, workers-are)) in
      let mine : is_by n e.origin ≡ true = ap (is_by n) from ∙ eq-eqb n n refl in
      let whole : b.entries ≡ (l.given ++ mid) ++ e ∷ after = entries-are ∙ ap (λ xs. l.given ++ xs) split ∙ sym (append_assoc l.given mid (e ∷ after)) in
      let h : IsThrough task.limits l (pass-of n) (get_or es n (no-end task.limits)) = back.through n (new_pass l n) (no-end task.limits) below in
      let number : IsEndNumbered task.limits n (get_or es n (no-end task.limits)).done =
      subst (λ (m : ℕ). IsEndNumbered task.limits m (get_or es n (no-end task.limits)).done) (back.number n (new_pass l n) below) h.numbered
      in
      elim (turned-kind task.limits n (known_by l (pass-of n)) (get_or es n (no-end task.limits)).done h.turns number) [
        | inl round ↦ round
        | inr given ↦ absurd (not-found n mid after e below given mine whole)
      ]

  authors-rest : All (IsByRoundWorker task.limits) rest
  authors-rest = all-splits (IsByRoundWorker task.limits) rest (λ mid after e split. author-by mid after e e.origin split refl (found-at mid after e split))

  found-rest : (w : ℕ) → found_by w b.entries ≡ found_by w rest
  found-rest w =
      ap (found_by w) entries-are ∙ filter-append (λ (z : CheckedEntry). is_by w z.origin) l.given rest
      ∙ ap (λ xs. xs ++ found_by w rest) (none_found w l.given (subst (All (λ (e : CheckedEntry). e.origin ≡ Given)) (sym is.given) origins))

  not-by : (w most : ℕ) (mid : List CheckedEntry) (e : CheckedEntry) (origin : Origin) → most ≤ w
      → FromWorker origin (IsFind b.circuit (properties_of b.served) most mid e) → is_by w origin ≡ false
  not-by w most mid e Given past find = refl
  not-by w most mid e (FoundBy work) past find = ne_eqb work.author w (λ same. (let author = find.author in omega (arith, author, past, same)))

  own-rest : (w : ℕ) → AscendBy w rest
  own-rest w =
      elim (cases_lt w task.limits.workers) [
        | inl below ↦
            (ascend_later w (pass-of w).list rest (pass-of w).turns (pass-of w).turns (sym (found-rest w) ∙ own-found w below) (omega arith) (own-ascend w below)).0
        | inr past ↦
            (ascend_empty w rest 0 (found_others w [] rest
            (all-splits (λ e. is_by w e.origin ≡ false) rest
            (λ mid after e split. not-by w b.workers (l.given ++ mid) e e.origin (omega (arith, past, workers-are)) (found-at mid after e split))))).0
      ]

  rest-is : drop (length task.given) b.entries ≡ rest
  rest-is =
      ap (drop (length task.given)) (entries-are ∙ ap (λ xs. xs ++ rest) is.given) ∙ drop-append-le (length task.given) task.given rest (omega arith)
      ∙ ap (λ xs. xs ++ rest) (drop_all (length task.given) task.given (omega arith))

  board-back : IsBoardOf task b
  board-back = record {
    board = closed.board.board;
    circuit = closed.board.circuit ∙ is.circuit;
    properties = closed.board.properties ∙ is.properties;
    workers = workers-are;
    limit = closed.board.limit ∙ is.limit;
    given = closed.board.given ∙ ap length is.given;
    entries = (rest, entries-are ∙ ap (λ xs. xs ++ rest) is.given, found-within);
    own = λ w. subst (AscendBy w) (sym rest-is) (own-rest w);
    authors = subst (All (IsByRoundWorker task.limits)) (sym rest-is) authors-rest;
  }

  -- a pass whose list is as long as it may become has the board's
  whole-list : (p : PassState) → GoesOn p b → length p.list ≡ l.limit → b.entries ≡ p.list
  whole-list p on full =
      let none : length on.list.0 ≡ 0 =
      (let grown = ap length on.list.1 in let within = closed.board.board.within in let limit = closed.board.limit in
      omega (arith, grown, length-append p.list on.list.0, within, limit, full))
      in
      on.list.1 ∙ ap (λ xs. p.list ++ xs) (none-left on.list.0 none) ∙ append-nil p.list

  full-by : (p : PassState) → GoesOn p b → IsStuck (known_by l p) → IsFull b
  full-by p on h =
      let whole : b.entries ≡ p.list = whole-list p on h.full in
      record {
        full = ap length whole ∙ h.full ∙ sym closed.board.limit;
        allows = λ i is_open.
            (let left = h.allows i (subst (λ (js : List ℕ). Contains js i) closed.board.properties is_open.0)
            (false_from_ne_true (is_shown (shown_of p.marks i)) (λ shows. marks-tell p.marks b.served i on.marks shows is_open.1))
            in (
              left.0,
              subst (λ (c : Circuit). IsAllowed c i (plain b.entries) left.0) (sym closed.board.circuit)
                  (subst (λ (xs : List CheckedEntry). IsAllowed l.circuit i (plain xs) left.0) (sym whole) left.1),
            ));
      }

  settled-by : (p : PassState) → GoesOn p b → AreSettled (known_by l p) → IsSettled b.served
  settled-by p on h = λ i is_open.
      marks-tell p.marks b.served i on.marks (h i (subst (λ (js : List ℕ). Contains js i) closed.board.properties is_open.0)) is_open.1

  tells-by : (p : PassState) (spent : Spendings) (q : Phase) → GoesOn p b → is_running q ≡ false → IsIn 0 (known_by l p) spent q → Tells b spent q
  tells-by p spent phases.Asks on over h = absurd (false≢true (sym over))
  tells-by p spent phases.Looks on over h = absurd (false≢true (sym over))
  tells-by p spent phases.Searches on over h = absurd (false≢true (sym over))
  tells-by p spent (phases.AsksLast from) on over h = absurd (false≢true (sym over))
  tells-by p spent phases.LooksLast on over h = absurd (false≢true (sym over))
  tells-by p spent phases.SearchesLast on over h = absurd (false≢true (sym over))
  tells-by p spent (phases.AsksDeeper after) on over h = absurd (false≢true (sym over))
  tells-by p spent (phases.Deepens after) on over h = absurd (false≢true (sym over))
  tells-by p spent phases.Closed on over h = settled-by p on h
  tells-by p spent phases.Full on over h = full-by p on h
  tells-by p spent phases.Spent on over h = h
  tells-by p spent phases.Deep on over h = tt
  tells-by p spent phases.Refused on over h = tt

  done-back : (e : WorkerEnd) (k : ℕ) → k < task.limits.workers → IsThrough task.limits l (pass-of k) e → IsDone task b e
  done-back e k below h = record {
    spent = record {
      limits = h.counted;
      within = h.within;
      most = steps-least task l.circuit l.properties e.spent.steps is.circuit is.properties h.steps;
    };
    tells = tells-by (pass-of k) e.spent e.phase (goes k below) h.over h.tells;
    kind = kind-told task l.circuit l.properties e.spent e.phase e.done is.circuit is.properties h.kind;
  }

  pub all-done : AreDone task b es
  all-done = record {
    board = board-back;
    count = back.ends;
    each = λ k d below.
        let inside : k < task.limits.workers = omega (arith, below, back.ends) in
        done-back (get_or es k d) k inside (back.through k (new_pass l k) d inside);
    numbered = λ k d below.
        let inside : k < task.limits.workers = omega (arith, below, back.ends) in
        subst (λ (n : ℕ). IsEndNumbered task.limits n (get_or es k d).done) (back.number k (new_pass l k) inside)
        (back.through k (new_pass l k) d inside).numbered;
  }
