-- What workers tell that are done with a board: an answer, or the cause of a report.
use Rattle.std.proofs.Common.{◌≡◌, ℕ, zero, suc, ◌+◌, ◌-◌, ◌*◌, ◌<◌, ◌≤◌, min, Bool, true, false, ◌||◌, List, [], ◌∷◌, ◌++◌, ◌⊎◌, inl, inr, Some, None, map, length, get_or, take, drop, refl, sym, ap, ◌∙◌, subst, arith}
use Rattle.std.specs.Prelude.{Option}
use Rattle.std.specs.List.{All}
use Rattle.std.proofs.lemmas.Bool.{false≢true}
use Rattle.std.proofs.lemmas.List.{length-map}
use Rattle.std.proofs.lemmas.List.Elements.{All-nil, All-map, All-head, All-tail, All-cons}
use Rattle.aig_semantics.specs.Circuits.{Circuit}
use Rattle.edge.specs.Units.{Spendings}
use Rattle.edge.specs.Ends.{IsSpent}
use Rattle.wall_store.specs.Boards.{BoardState}
use Rattle.wall_store.specs.Events.{IsOpen, IsSettled}
use Rattle.fair_workers.specs.declared.ending.WorkerEnd.{WorkerEnd}
use Rattle.search_reports.specs.declared.limits.Report.{Report}
use Rattle.fair_workers.specs.declared.working.Phase.{Phase}
use Rattle.fair_workers.specs.declared.working.Phase.TheVariants as phases
use Rattle.search_reports.specs.declared.limits.Limits.{Limits}
use Rattle.fair_workers.specs.Runs.{Task, IsSpentOn, AreSpentOn, AreDepths, AreAllSpent, AreLassosSpent, IsDepthOf, IsLassoSpent, IsFull, IsAnswer, IsReport, most_steps, round_workers}
use Rattle.fair_workers.specs.Working.{is_deep, is_refused, search_steps}
use Rattle.fair_workers.specs.Ends.{Tells, IsDone, AreDone, EndsDeep, IsEndNumbered, IsEndOfKind, any_refused, depths_of, with_done}

-- ---- the cause of a report

-- what a worker has spent that ended, by its kind
abbrev IsSpentBy : ℕ → Spendings → Option ℕ → Type 0
IsSpentBy depth spent None = IsSpent spent
IsSpentBy depth spent (Some done) = IsLassoSpent depth spent done

round-cause : (b : BoardState) (spent : Spendings) (p : Phase) (j : ℕ) → IsOpen b.served j → is_refused p ≡ false → is_deep p ≡ false → Tells b spent p
    → IsFull b ⊎ IsSpent spent
round-cause b spent phases.Asks j is_open kept plain h = absurd h
round-cause b spent phases.Looks j is_open kept plain h = absurd h
round-cause b spent phases.Searches j is_open kept plain h = absurd h
round-cause b spent (phases.AsksLast from) j is_open kept plain h = absurd h
round-cause b spent phases.LooksLast j is_open kept plain h = absurd h
round-cause b spent phases.SearchesLast j is_open kept plain h = absurd h
round-cause b spent (phases.AsksDeeper after) j is_open kept plain h = absurd h
round-cause b spent (phases.Deepens after) j is_open kept plain h = absurd h
round-cause b spent phases.Closed j is_open kept plain h = absurd (h j is_open)
round-cause b spent phases.Full j is_open kept plain h = inl h
round-cause b spent phases.Spent j is_open kept plain h = inr h
round-cause b spent phases.Deep j is_open kept plain h = absurd (false≢true (sym plain))
round-cause b spent phases.Refused j is_open kept plain h = absurd (false≢true (sym kept))

lasso-cause : (b : BoardState) (depth : ℕ) (spent : Spendings) (done : ℕ) (p : Phase) (j : ℕ) → IsOpen b.served j → is_refused p ≡ false
    → EndsDeep depth spent done p → Tells b spent p → IsLassoSpent depth spent done
lasso-cause b depth spent done phases.Asks j is_open kept deep h = absurd deep
lasso-cause b depth spent done phases.Looks j is_open kept deep h = absurd deep
lasso-cause b depth spent done phases.Searches j is_open kept deep h = absurd deep
lasso-cause b depth spent done (phases.AsksLast from) j is_open kept deep h = absurd deep
lasso-cause b depth spent done phases.LooksLast j is_open kept deep h = absurd deep
lasso-cause b depth spent done phases.SearchesLast j is_open kept deep h = absurd deep
lasso-cause b depth spent done (phases.AsksDeeper after) j is_open kept deep h = absurd deep
lasso-cause b depth spent done (phases.Deepens after) j is_open kept deep h = absurd deep
lasso-cause b depth spent done phases.Closed j is_open kept deep h = absurd (h j is_open)
lasso-cause b depth spent done phases.Full j is_open kept deep h = absurd deep
lasso-cause b depth spent done phases.Spent j is_open kept deep h = absurd deep
lasso-cause b depth spent done phases.Deep j is_open kept deep h = deep
lasso-cause b depth spent done phases.Refused j is_open kept deep h = absurd (false≢true (sym kept))

cause-by : (task : Task) (b : BoardState) (spent : Spendings) (p : Phase) (done : Option ℕ) (j : ℕ) → IsOpen b.served j → is_refused p ≡ false
    → IsEndOfKind task.limits task.circuit task.properties spent p done → Tells b spent p → IsFull b ⊎ IsSpentBy task.limits.depth spent done
cause-by task b spent p None j is_open kept kind h = round-cause b spent p j is_open kept kind h
cause-by task b spent p (Some done) j is_open kept kind h = inr (lasso-cause b task.limits.depth spent done p j is_open kept kind.2 h)

or-false : (a b : Bool) → (a || b) ≡ false → (a ≡ false) × (b ≡ false)
or-false true b h = absurd (false≢true (sym h))
or-false false b h = (refl, h)

cause-of : (task : Task) (b : BoardState) (ends : List WorkerEnd) (j : ℕ) → IsOpen b.served j → any_refused ends ≡ false
    → All (IsDone task b) ends → IsFull b ⊎ All (λ e. IsSpentBy task.limits.depth e.spent e.done) ends
cause-of task b [] j is_open kept each = inr (All-nil (λ e. IsSpentBy task.limits.depth e.spent e.done))
cause-of task b (e ∷ ends) j is_open kept each =
    let kepts = or-false (is_refused e.phase) (any_refused ends) kept in
    let mine : IsDone task b e = All-head (IsDone task b) e ends each in
    elim (cause-by task b e.spent e.phase e.done j is_open kepts.0 mine.kind mine.tells) [
      | inl full ↦ inl full
      | inr spent ↦
          elim (cause-of task b ends j is_open kepts.1 (All-tail (IsDone task b) e ends each)) [
            | inl full ↦ inl full
            | inr rest ↦ inr (All-cons (λ (u : WorkerEnd). IsSpentBy task.limits.depth u.spent u.done) e ends spent rest)
          ]
    ]

-- ---- the first ends are of workers with rounds, the others of lasso workers

-- at a place from which on there are lasso workers
abbrev IsPlaced : ℕ → ℕ → Option ℕ → Type 0
IsPlaced first k None = k < first
IsPlaced first k (Some done) = first ≤ k

abbrev AreInOrder : ℕ → List WorkerEnd → Type 0
AreInOrder first ends = (k : ℕ) (d : WorkerEnd) → k < length ends → IsPlaced first k (get_or ends k d).done

placed-of : (limits : Limits) (k : ℕ) (done : Option ℕ) → IsEndNumbered limits k done → IsPlaced (round_workers limits) k done
placed-of limits k None h = h
placed-of limits k (Some done) h = h

later-placed : (first k : ℕ) (done : Option ℕ) → IsPlaced (suc first) (suc k) done → IsPlaced first k done
later-placed first k None h = omega (arith, h)
later-placed first k (Some done) h = omega (arith, h)

later-lasso : (k : ℕ) (done : Option ℕ) → IsPlaced 0 (suc k) done → IsPlaced 0 k done
later-lasso k None h = absurd (omega (arith, h))
later-lasso k (Some done) h = omega arith

rest-placed : (first : ℕ) (e : WorkerEnd) (ends : List WorkerEnd) → AreInOrder (suc first) (e ∷ ends) → AreInOrder first ends
rest-placed first e ends h = λ k d below. later-placed first k (get_or ends k d).done (h (suc k) d (omega (arith, below)))

rest-lassos : (e : WorkerEnd) (ends : List WorkerEnd) → AreInOrder 0 (e ∷ ends) → AreInOrder 0 ends
rest-lassos e ends h = λ k d below. later-lasso k (get_or ends k d).done (h (suc k) d (omega (arith, below)))

-- a lasso worker's end
placed-lasso : (done : Option ℕ) → IsPlaced 0 0 done → (n : ℕ) × (done ≡ Some n)
placed-lasso None h = absurd (omega (arith, h))
placed-lasso (Some n) h = (n, refl)

-- another one's
placed-round : (first : ℕ) (done : Option ℕ) → IsPlaced (suc first) 0 done → done ≡ None
placed-round first None h = refl
placed-round first (Some n) h = absurd (omega (arith, h))

all-lassos : (depth : ℕ) (ends : List WorkerEnd) → AreInOrder 0 ends → All (λ e. IsSpentBy depth e.spent e.done) ends
    → AreLassosSpent depth (map (λ e. e.spent) ends) (depths_of ends)
all-lassos depth [] order all = tt
all-lassos depth (e ∷ ends) order all =
    let mine = placed-lasso e.done (order 0 e (omega arith)) in
    let here : IsLassoSpent depth e.spent mine.0 =
    subst (λ (o : Option ℕ). IsSpentBy depth e.spent o) mine.1 (All-head (λ (u : WorkerEnd). IsSpentBy depth u.spent u.done) e ends all)
    in
    let rest : AreLassosSpent depth (map (λ (u : WorkerEnd). u.spent) ends) (depths_of ends) =
    all-lassos depth ends (rest-lassos e ends order) (All-tail (λ (u : WorkerEnd). IsSpentBy depth u.spent u.done) e ends all)
    in
    subst (λ (o : Option ℕ). AreLassosSpent depth (e.spent ∷ map (λ (u : WorkerEnd). u.spent) ends) (with_done o (depths_of ends))) (sym mine.1) (here, rest)

-- what is spent, and what is done, of the first ones and the others
split-cause : (depth first : ℕ) (ends : List WorkerEnd) → AreInOrder first ends → All (λ e. IsSpentBy depth e.spent e.done) ends
    → All IsSpent (take first (map (λ e. e.spent) ends)) × AreLassosSpent depth (drop first (map (λ e. e.spent) ends)) (depths_of ends)
split-cause depth zero ends order all = (All-nil IsSpent, all-lassos depth ends order all)
split-cause depth (suc first) [] order all = (All-nil IsSpent, tt)
split-cause depth (suc first) (e ∷ ends) order all =
    let mine : e.done ≡ None = placed-round first e.done (order 0 e (omega arith)) in
    let here : IsSpent e.spent =
    subst (λ (o : Option ℕ). IsSpentBy depth e.spent o) mine (All-head (λ (u : WorkerEnd). IsSpentBy depth u.spent u.done) e ends all)
    in
    let rest = split-cause depth first ends (rest-placed first e ends order) (All-tail (λ (u : WorkerEnd). IsSpentBy depth u.spent u.done) e ends all) in (
      All-cons IsSpent e.spent (take first (map (λ (u : WorkerEnd). u.spent) ends)) here rest.0,
      subst (λ (o : Option ℕ). AreLassosSpent depth (drop first (map (λ (u : WorkerEnd). u.spent) ends)) (with_done o (depths_of ends))) (sym mine) rest.1,
    )

-- how many lasso workers there are
count-lassos : (first : ℕ) (ends : List WorkerEnd) → AreInOrder first ends → first ≤ length ends → length (depths_of ends) + first ≡ length ends
count-lassos zero [] order few = refl
count-lassos zero (e ∷ ends) order few =
    let mine = placed-lasso e.done (order 0 e (omega arith)) in
    let rest : length (depths_of ends) + 0 ≡ length ends = count-lassos zero ends (rest-lassos e ends order) (omega arith) in
    ap (λ (o : Option ℕ). length (with_done o (depths_of ends)) + 0) mine.1 ∙ one-more (length (depths_of ends)) (length ends) rest
  where
    one-more : (m n : ℕ) → m + 0 ≡ n → suc m + 0 ≡ suc n
    one-more m n e = omega (arith, e)
count-lassos (suc first) [] order few = absurd (omega (arith, few))
count-lassos (suc first) (e ∷ ends) order few =
    let mine : e.done ≡ None = placed-round first e.done (order 0 e (omega arith)) in
    let rest : length (depths_of ends) + first ≡ length ends = count-lassos first ends (rest-placed first e ends order) (omega (arith, few)) in
    ap (λ (o : Option ℕ). length (with_done o (depths_of ends)) + suc first) mine ∙ one-more (length (depths_of ends)) first (length ends) rest
  where
    one-more : (m first n : ℕ) → m + first ≡ n → m + suc first ≡ suc n
    one-more m first n e = omega (arith, e)

-- the next one
pub depths-more : (ends : List WorkerEnd) (k : ℕ) (d : WorkerEnd) → k < length ends
    → depths_of (take (k + 1) ends) ≡ depths_of (take k ends) ++ with_done (get_or ends k d).done []
depths-more ends k d below = ap (λ (n : ℕ). depths_of (take n ends)) (let e : k + 1 ≡ suc k = omega arith in e) ∙ next ends k d below
  where
    with-more : (done : Option ℕ) (all front back : List ℕ) → all ≡ front ++ back → with_done done all ≡ with_done done front ++ back
    with-more None all front back same = same
    with-more (Some n) all front back same = ap (λ (ds : List ℕ). n ∷ ds) same

    next : (ends : List WorkerEnd) (k : ℕ) (d : WorkerEnd) → k < length ends
        → depths_of (take (suc k) ends) ≡ depths_of (take k ends) ++ with_done (get_or ends k d).done []
    next [] k d below = absurd (omega (arith, below))
    next (e ∷ ends) zero d below = refl
    next (e ∷ ends) (suc k) d below =
        with-more e.done (depths_of (take (suc k) ends)) (depths_of (take k ends)) (with_done (get_or ends k d).done []) (next ends k d (omega (arith, below)))

-- what they have done
all-done : (task : Task) (b : BoardState) (ends : List WorkerEnd) → All (IsDone task b) ends → All (IsDepthOf task) (depths_of ends)
all-done task b [] each = All-nil (IsDepthOf task)
all-done task b (e ∷ ends) each =
    with-one task e.spent e.phase e.done (depths_of ends) (All-head (IsDone task b) e ends each).kind
    (all-done task b ends (All-tail (IsDone task b) e ends each))
  where
    with-one : (task : Task) (spent : Spendings) (p : Phase) (done : Option ℕ) (depths : List ℕ) → IsEndOfKind task.limits task.circuit task.properties spent p done
        → All (IsDepthOf task) depths → All (IsDepthOf task) (with_done done depths)
    with-one task spent p None depths kind rest = rest
    with-one task spent p (Some n) depths kind rest = All-cons (IsDepthOf task) n depths (record { within = kind.0; none = kind.1 }) rest

order-of : (task : Task) (b : BoardState) (ends : List WorkerEnd) → AreDone task b ends → AreInOrder (round_workers task.limits) ends
order-of task b ends is = λ k d below. placed-of task.limits k (get_or ends k d).done (is.numbered k d below)

depths-told : (task : Task) (b : BoardState) (ends : List WorkerEnd) (depths : List ℕ) → AreDone task b ends → depths ≡ depths_of ends → AreDepths task depths
depths-told task b ends depths is same = record {
  count = ap length same
      ∙ how-many (length (depths_of ends)) (length ends) task.limits.workers task.limits.lassos is.count
      (count-lassos (round_workers task.limits) ends (order-of task b ends is) (few-rounds (length ends) task.limits.workers task.limits.lassos is.count));
  each = subst (All (IsDepthOf task)) (sym same) (all-done task b ends is.each);
}
  where
    few-rounds : (ends workers lassos : ℕ) → ends ≡ workers → workers - min lassos (workers - 1) ≤ ends
    few-rounds ends workers lassos e = grind (arith)

    how-many : (depths ends workers lassos : ℕ) → ends ≡ workers → depths + (workers - min lassos (workers - 1)) ≡ ends → depths ≡ min lassos (workers - 1)
    how-many depths ends workers lassos e h = grind (arith)

cause-told : (task : Task) (b : BoardState) (ends : List WorkerEnd) (spent : List Spendings) (depths : List ℕ) → AreDone task b ends
    → spent ≡ map (λ e. e.spent) ends → depths ≡ depths_of ends
    → IsFull b ⊎ All (λ e. IsSpentBy task.limits.depth e.spent e.done) ends → IsFull b ⊎ AreAllSpent task.limits spent depths
cause-told task b ends spent depths is same deep (inl full) = inl full
cause-told task b ends spent depths is same deep (inr all) =
    let first : ℕ = round_workers task.limits in
    let split = split-cause task.limits.depth first ends (order-of task b ends is) all in
    inr (record {
      rounds = subst (λ (xs : List Spendings). All IsSpent (take first xs)) (sym same) split.0;
      lassos = subst (λ (ds : List ℕ). AreLassosSpent task.limits.depth (drop first spent) ds) (sym deep)
          (subst (λ (xs : List Spendings). AreLassosSpent task.limits.depth (drop first xs) (depths_of ends)) (sym same) split.1);
    })

-- ---- what was spent

-- a worker's steps, in the words of its task
pub steps-least : (task : Task) (c : Circuit) (properties : List ℕ) (steps : ℕ) → c ≡ task.circuit → properties ≡ task.properties
    → steps ≤ (task.limits.skeletons + length properties) * search_steps c properties → steps ≤ most_steps task
steps-least task c properties steps circuit same h =
    subst (λ (js : List ℕ). steps ≤ (task.limits.skeletons + length js) * search_steps task.circuit js) same
    (subst (λ (d : Circuit). steps ≤ (task.limits.skeletons + length properties) * search_steps d properties) circuit h)

spent-of : (task : Task) (b : BoardState) (ends : List WorkerEnd) (spent : List Spendings) → AreDone task b ends
    → spent ≡ map (λ e. e.spent) ends → AreSpentOn task spent
spent-of task b ends spent is same =
    let all : All (λ (e : WorkerEnd). IsSpentOn task e.spent) ends = λ k d below. (is.each k d below).spent in
    record {
      count = ap length same ∙ length-map ends (λ (e : WorkerEnd). e.spent) ∙ is.count;
      each = subst (All (IsSpentOn task)) (sym same) (All-map (IsSpentOn task) (λ (e : WorkerEnd). e.spent) ends all);
    }

-- ---- what is told

pub answer-of : (task : Task) (r : Report) (ends : List WorkerEnd) → AreDone task r.board ends → IsSettled r.board.served
    → r.workers ≡ map (λ e. e.spent) ends → r.depths ≡ depths_of ends → r.depth ≡ task.limits.depth → IsAnswer task r
answer-of task r ends is settled same done deep = record {
  answered = record { board = is.board; settled = settled };
  spent = spent-of task r.board ends r.workers is same;
  depths = depths-told task r.board ends r.depths is done;
  depth = deep;
}

pub report-of : (task : Task) (r : Report) (ends : List WorkerEnd) → AreDone task r.board ends → any_refused ends ≡ false
    → (j : ℕ) × IsOpen r.board.served j → r.workers ≡ map (λ e. e.spent) ends → r.depths ≡ depths_of ends → r.depth ≡ task.limits.depth → IsReport task r
report-of task r ends is kept unanswered same done deep = record {
  board = is.board;
  unanswered = unanswered;
  spent = spent-of task r.board ends r.workers is same;
  depths = depths-told task r.board ends r.depths is done;
  depth = deep;
  cause = cause-told task r.board ends r.workers r.depths is same done (cause-of task r.board ends unanswered.0 unanswered.1 kept is.each);
}
