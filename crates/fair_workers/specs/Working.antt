-- Scaffolding of inner functions. A worker, and what a turn comes to, by what it knows of the list that it shares.
use Rattle.std.specs.Prelude.{◌≡◌, ℕ, ◌+◌, ◌-◌, ◌*◌, ◌<◌, ◌≤◌, ◌==◌, ◌||◌, ◌&&◌, not, nat_le, nat_lt, Bool, true, false, List, ◌∷◌, [], length, slice_index_or, Contains, Option, Some, None, Result, IfOk, IfSome, if◌then◌else◌}
use Rattle.aig_semantics.specs.declared.traces.Lasso.{Lasso}
use Rattle.aig_semantics.specs.Circuits.{Circuit}
use Rattle.aig_semantics.specs.Stimuli.{IsFairLassoOf}
use Rattle.edge.specs.Units.{Spendings}
use Rattle.edge.specs.Ends.{CountsConflicts, IsSpent}
use Rattle.edge.specs.declared.solve_end.SolveEnd.{SolveEnd}
use Rattle.entry.specs.CheckedEntries.{GoesOnFrom}
use Rattle.fair_semantics.specs.Entries.{Entry}
use Rattle.fair_semantics.specs.declared.skeletons.Skeleton.{Skeleton}
use Rattle.skeleton.specs.Finding.{Asking, IsAllowed}
use Rattle.wall_store.specs.declared.outcomes.Posted.{Posted}
use Rattle.wall_store.specs.declared.outcomes.Posted.TheVariants as posts
use Rattle.wall_store.specs.Boards.{most_entries, plain}
use Rattle.fair_round.specs.Spending.{path_steps}
use Rattle.lasso_bmc.specs.declared.deepening.Deepening.{Deepening}
use Rattle.lasso_bmc.specs.Growing.{positions_in, IsGrown}
use Rattle.lasso_bmc.specs.Searching.{HasNoneWithin}
use Rattle.fair_workers.specs.declared.lasso_search.LassoSearch.{LassoSearch}
use Rattle.search_reports.specs.declared.limits.Limits.{Limits}
use Rattle.fair_workers.specs.declared.working.Phase.{Phase}
use Rattle.fair_workers.specs.declared.working.Phase.TheVariants as phases
use Rattle.fair_workers.specs.declared.working.Worker.{Worker}
use Rattle.fair_workers.specs.Runs.{AreServed, IsLassoSpent, last_turns, most_depth, most_lasso_turns, most_situations, round_workers}
use Rattle.shared_lists.specs.Knowing.{Known, AreSettled}

-- ---- phases

-- the worker has not ended
abbrev pub is_running : Phase → Bool
is_running phases.Asks = true
is_running phases.Looks = true
is_running phases.Searches = true
is_running (phases.AsksLast from) = true
is_running phases.LooksLast = true
is_running phases.SearchesLast = true
is_running (phases.AsksDeeper after) = true
is_running (phases.Deepens after) = true
is_running phases.Closed = false
is_running phases.Full = false
is_running phases.Spent = false
is_running phases.Deep = false
is_running phases.Refused = false

-- the worker has ended, since memory was refused
abbrev pub is_refused : Phase → Bool
is_refused phases.Asks = false
is_refused phases.Looks = false
is_refused phases.Searches = false
is_refused (phases.AsksLast from) = false
is_refused phases.LooksLast = false
is_refused phases.SearchesLast = false
is_refused (phases.AsksDeeper after) = false
is_refused (phases.Deepens after) = false
is_refused phases.Closed = false
is_refused phases.Full = false
is_refused phases.Spent = false
is_refused phases.Deep = false
is_refused phases.Refused = true

-- the worker is in a phase of lasso workers alone
abbrev pub is_deep : Phase → Bool
is_deep phases.Asks = false
is_deep phases.Looks = false
is_deep phases.Searches = false
is_deep (phases.AsksLast from) = false
is_deep phases.LooksLast = false
is_deep phases.SearchesLast = false
is_deep (phases.AsksDeeper after) = true
is_deep (phases.Deepens after) = true
is_deep phases.Closed = false
is_deep phases.Full = false
is_deep phases.Spent = false
is_deep phases.Deep = true
is_deep phases.Refused = false

-- the worker has not ended, and is in no phase of lasso workers
abbrev pub is_round : Phase → Bool
is_round phases.Asks = true
is_round phases.Looks = true
is_round phases.Searches = true
is_round (phases.AsksLast from) = true
is_round phases.LooksLast = true
is_round phases.SearchesLast = true
is_round (phases.AsksDeeper after) = false
is_round (phases.Deepens after) = false
is_round phases.Closed = false
is_round phases.Full = false
is_round phases.Spent = false
is_round phases.Deep = false
is_round phases.Refused = false

-- where a lasso worker goes on behind its question
abbrev pub phase_told : ℕ → Option ℕ → Phase
phase_told after None = phases.Closed
phase_told after (Some j) = phases.Deepens after

-- where it goes on behind a search that found nothing, where so many are left
abbrev pub phase_deeper : ℕ → Phase
phase_deeper after = if after == 0 then phases.Deep else phases.AsksDeeper (after - 1)

-- where a post leads to
abbrev pub phase_after : Posted → Phase
phase_after (posts.Appended n) = phases.Asks
phase_after (posts.Stale n) = phases.Asks
phase_after posts.Full = phases.AsksLast 0
phase_after posts.Closed = phases.Closed

-- where it leads to that an outcome was handed in: to the end, where no other property is served
abbrev pub phase_finished : List ℕ → Phase → Phase
phase_finished properties next = if length properties == 1 then phases.Closed else next

-- where it leads to that a full list allows a skeleton of property j: to the properties behind it, where there are some
abbrev pub phase_passed : List ℕ → ℕ → Phase
phase_passed properties j =
    if nat_lt j (slice_index_or properties (length properties - 1) 0) then phases.AsksLast (j + 1) else phases.Full

-- ---- workers

-- The worker serves property j from now on; of its rounds it keeps those of that property.
abbrev pub serving : ℕ → Phase → Worker → Worker
serving j phase w = record {
  property = j;
  rounds = if w.property == j then w.rounds else None;
  lasso_search = w.lasso_search;
  meter = w.meter;
  phase = phase;
}

-- the worker behind the answer to its question for an open property
abbrev pub asked : Option ℕ → Worker → Worker
asked None w = record w { phase = phases.Closed }
asked (Some j) w = serving j phases.Looks w

-- the same of a full list: it ends where it went through all that are open
abbrev pub asked_last : ℕ → Option ℕ → Worker → Worker
asked_last from None w = record w { phase = phases.Closed }
asked_last from (Some j) w = if nat_lt j from then record w { phase = phases.Full } else serving j phases.LooksLast w

-- ---- how much is left

-- how many of these numbers pass the test
abbrev pub count : (ℕ → Bool) → List ℕ → ℕ
count test [] = 0
count test (j ∷ js) = (if test j then 1 else 0) + count test js

-- Whether property i is ahead of a worker that serves property j: it has no outcome, or it is j; of a full list only those
-- that the worker did not go through.
abbrev pub is_ahead : (ℕ → Bool) → ℕ → Phase → ℕ → Bool
is_ahead settled j phases.Asks i = not (settled i)
is_ahead settled j phases.Looks i = (i == j) || not (settled i)
is_ahead settled j phases.Searches i = (i == j) || not (settled i)
is_ahead settled j (phases.AsksLast from) i = nat_le from i && not (settled i)
is_ahead settled j phases.LooksLast i = (i == j) || (nat_lt j i && not (settled i))
is_ahead settled j phases.SearchesLast i = (i == j) || (nat_lt j i && not (settled i))
is_ahead settled j (phases.AsksDeeper after) i = false
is_ahead settled j (phases.Deepens after) i = false
is_ahead settled j phases.Closed i = false
is_ahead settled j phases.Full i = false
is_ahead settled j phases.Spent i = false
is_ahead settled j phases.Deep i = false
is_ahead settled j phases.Refused i = false

-- How many turns are left in a phase at most, where the list may grow by so many entries, so many properties are ahead, and
-- so many turns come last.
abbrev pub left : ℕ → ℕ → ℕ → Phase → ℕ
left room ahead last phases.Asks = (room + ahead) * 3 + last + 3
left room ahead last phases.Looks = (room + ahead) * 3 + last + 2
left room ahead last phases.Searches = (room + ahead) * 3 + last + 1
left room ahead last (phases.AsksLast from) = (ahead * 3 + last - 1) + 1
left room ahead last phases.LooksLast = ahead * 3 + last - 1
left room ahead last phases.SearchesLast = ahead * 3 + last - 2
left room ahead last (phases.AsksDeeper after) = after * 2 + 3
left room ahead last (phases.Deepens after) = after * 2 + 2
left room ahead last phases.Closed = 0
left room ahead last phases.Full = 0
left room ahead last phases.Spent = 0
left room ahead last phases.Deep = 0
left room ahead last phases.Refused = 0

-- how many searches are left at most
abbrev pub searches_left : ℕ → ℕ → Phase → ℕ
searches_left room ahead phases.Asks = room + ahead
searches_left room ahead phases.Looks = room + ahead
searches_left room ahead phases.Searches = room + ahead
searches_left room ahead (phases.AsksLast from) = 0
searches_left room ahead phases.LooksLast = 0
searches_left room ahead phases.SearchesLast = 0
searches_left room ahead (phases.AsksDeeper after) = 0
searches_left room ahead (phases.Deepens after) = 0
searches_left room ahead phases.Closed = 0
searches_left room ahead phases.Full = 0
searches_left room ahead phases.Spent = 0
searches_left room ahead phases.Deep = 0
searches_left room ahead phases.Refused = 0

-- how many searches the turn of a phase makes
abbrev pub searches_in : Phase → ℕ
searches_in phases.Asks = 0
searches_in phases.Looks = 0
searches_in phases.Searches = 1
searches_in (phases.AsksLast from) = 0
searches_in phases.LooksLast = 0
searches_in phases.SearchesLast = 0
searches_in (phases.AsksDeeper after) = 0
searches_in (phases.Deepens after) = 0
searches_in phases.Closed = 0
searches_in phases.Full = 0
searches_in phases.Spent = 0
searches_in phases.Deep = 0
searches_in phases.Refused = 0

-- by how many entries the list may become longer than what the worker has seen
abbrev pub room_of : Known → ℕ
room_of k = k.limit - length k.list

-- how many properties are ahead of a worker that serves property j, in a phase
abbrev pub ahead_of : Known → ℕ → Phase → ℕ
ahead_of k j p = count (is_ahead k.settled j p) k.properties

abbrev pub left_in : Known → ℕ → Phase → ℕ
left_in k j p = left (room_of k) (ahead_of k j p) (last_turns k.properties) p

abbrev pub searches_left_in : Known → ℕ → Phase → ℕ
searches_left_in k j p = searches_left (room_of k) (ahead_of k j p) p

abbrev pub left_to : Known → Worker → ℕ
left_to k w = left_in k w.property w.phase

abbrev pub searches_left_to : Known → Worker → ℕ
searches_left_to k w = searches_left_in k w.property w.phase

-- how many turns are left at first to a worker that has seen the entries with which the list began
abbrev pub left_at_first : Known → ℕ
left_at_first k = left (k.limit - k.given) (length k.properties) (last_turns k.properties) phases.Asks

-- how many turns are left at first to a worker, which may be a lasso worker
abbrev pub first_left : Known → Option LassoSearch → ℕ
first_left k None = left_at_first k
first_left k (Some s) = most_lasso_turns s.depth

-- how many steps one search takes at most, whichever of the properties it serves
abbrev pub search_steps : Circuit → List ℕ → ℕ
search_steps c properties = (most_situations c properties + 1) * path_steps (length c.latches)

-- how many steps a worker has taken, and may take in so many searches
abbrev pub steps_through : Worker → ℕ → ℕ → ℕ
steps_through w searches cost = w.meter.steps + searches * cost

-- ---- what is known

-- the list is full
abbrev pub IsAtLimit : Known → Type 0
IsAtLimit k = length k.list ≡ k.limit

-- the entries allow a skeleton of property j
abbrev pub IsAllowing : Known → ℕ → Type 0
IsAllowing k j = (s : Skeleton) × IsAllowed k.circuit j (plain k.list) s

-- of each open property below this number
abbrev pub AllowBelow : ℕ → Known → Type 0
AllowBelow least k = (i : ℕ) → Contains k.properties i → i < least → k.settled i ≡ false → IsAllowing k i

-- The list is full, and allows a skeleton of each open property.
pub record IsStuck (k : Known) : Type 0 where
  pub full : IsAtLimit k
  pub allows : (i : ℕ) → Contains k.properties i → k.settled i ≡ false → IsAllowing k i

-- The list is full, and the worker went through the properties below this number.
pub record IsPast (least : ℕ) (k : Known) : Type 0 where
  pub full : IsAtLimit k
  pub below : AllowBelow least k

-- The same of a worker that serves property j.
pub record ServesLast (j : ℕ) (k : Known) : Type 0 where
  pub served : Contains k.properties j
  pub past : IsPast j k

-- what is known in a phase
abbrev pub IsIn : ℕ → Known → Spendings → Phase → Type 0
IsIn j k meter phases.Asks = Unit {0}
IsIn j k meter phases.Looks = Contains k.properties j
IsIn j k meter phases.Searches = Contains k.properties j
IsIn j k meter (phases.AsksLast from) = IsPast from k
IsIn j k meter phases.LooksLast = ServesLast j k
IsIn j k meter phases.SearchesLast = ServesLast j k
IsIn j k meter (phases.AsksDeeper after) = Unit {0}
IsIn j k meter (phases.Deepens after) = Unit {0}
IsIn j k meter phases.Closed = AreSettled k
IsIn j k meter phases.Full = IsStuck k
IsIn j k meter phases.Spent = IsSpent meter
IsIn j k meter phases.Deep = Unit {0}
IsIn j k meter phases.Refused = Unit {0}

-- ---- lasso workers

-- What a lasso worker for property j has done is within its depth, and no fair lasso has at most so many positions.
pub record IsSearchOf (c : Circuit) (j : ℕ) (s : LassoSearch) : Type 0 where
  pub short : s.depth ≤ most_depth
  pub within : s.done ≤ s.depth
  pub none : HasNoneWithin c j s.done

-- a solver that has the clauses of so many positions
pub record IsUpTo (c : Circuit) (j done : ℕ) (d : Deepening) : Type 0 where
  pub grown : IsGrown c j d
  pub positions : positions_in d ≡ done

-- There is one, or nothing is done.
abbrev pub HasSolver : Circuit → ℕ → ℕ → Option Deepening → Type 0
HasSolver c j done None = done ≡ 0
HasSolver c j done (Some d) = IsUpTo c j done d

-- So many searches are left behind the next one; the first of all is simulation.
pub record IsBefore (c : Circuit) (j after : ℕ) (s : LassoSearch) : Type 0 where
  pub solver : HasSolver c j s.done s.solver
  pub most : s.done + after ≤ s.depth
  pub least : s.depth ≤ s.done + after + 1

-- So many are left behind one that found nothing.
pub record IsBehind (c : Circuit) (j after : ℕ) (s : LassoSearch) : Type 0 where
  pub solver : HasSolver c j s.done s.solver
  pub all : s.done + after ≡ s.depth

-- what is so where no lasso was found
abbrev pub UnlessFound : Type 0 → Option Lasso → Type 0
UnlessFound P (Some lasso) = Unit {0}
UnlessFound P None = P

-- What a question for one position more leaves of a search, by its answer: a fair lasso; or there is none, one position more
-- is done, and the solver has its clauses.
pub record HasDeepened (c : Circuit) (j : ℕ) (s t : LassoSearch) (answer : Result (Option Lasso) SolveEnd) : Type 0 where
  pub depth : t.depth ≡ s.depth
  pub search : IsSearchOf c j t
  pub lasso : IfOk answer (λ found. IfSome found (IsFairLassoOf c j))
  pub done : IfOk answer (UnlessFound (t.done ≡ s.done + 1))
  pub solver : IfOk answer (UnlessFound (HasSolver c j t.done t.solver))

-- A lasso worker serves the only property, and has seen the given entries alone.
pub record Seeks (k : Known) (j : ℕ) (s : LassoSearch) : Type 0 where
  pub only : k.properties ≡ j ∷ []
  pub list : length k.list ≡ k.given
  pub search : IsSearchOf k.circuit j s

-- what is known of a lasso worker in a phase
abbrev pub IsDeepIn : Circuit → ℕ → Spendings → LassoSearch → Phase → Type 0
IsDeepIn c j meter s phases.Asks = ⊥
IsDeepIn c j meter s phases.Looks = ⊥
IsDeepIn c j meter s phases.Searches = ⊥
IsDeepIn c j meter s (phases.AsksLast from) = ⊥
IsDeepIn c j meter s phases.LooksLast = ⊥
IsDeepIn c j meter s phases.SearchesLast = ⊥
IsDeepIn c j meter s (phases.AsksDeeper after) = IsBefore c j after s
IsDeepIn c j meter s (phases.Deepens after) = IsBefore c j after s
IsDeepIn c j meter s phases.Closed = Unit {0}
IsDeepIn c j meter s phases.Full = ⊥
IsDeepIn c j meter s phases.Spent = ⊥
IsDeepIn c j meter s phases.Deep = IsLassoSpent s.depth meter s.done
IsDeepIn c j meter s phases.Refused = Unit {0}

-- of which kind a worker is that serves property j, and what that tells
abbrev pub IsOfKind : ℕ → Known → Spendings → Phase → Option LassoSearch → Type 0
IsOfKind j k meter p None = is_deep p ≡ false
IsOfKind j k meter p (Some s) = Seeks k j s × IsDeepIn k.circuit j meter s p

-- a worker stays of its kind, with its depth
abbrev pub StaysOfKind : Option LassoSearch → Option LassoSearch → Type 0
StaysOfKind None None = Unit {0}
StaysOfKind None (Some t) = ⊥
StaysOfKind (Some s) None = ⊥
StaysOfKind (Some s) (Some t) = t.depth ≡ s.depth

-- worker n of these limits is of that kind
abbrev pub IsNumbered : Limits → ℕ → Option LassoSearch → Type 0
IsNumbered limits n None = n < round_workers limits
IsNumbered limits n (Some s) = (round_workers limits ≤ n) × (s.depth ≡ limits.depth)

-- how a worker of that kind begins that serves property j: a lasso worker with the only one
abbrev pub BeginsAs : List ℕ → ℕ → Phase → Option LassoSearch → Type 0
BeginsAs properties j p None = p ≡ phases.Asks
BeginsAs properties j p (Some s) =
    (p ≡ phases.AsksDeeper s.depth) × (s.done ≡ 0) × (s.solver ≡ None) × (properties ≡ j ∷ [])

-- worker n of these limits before its first turn
pub record Begins (limits : Limits) (properties : List ℕ) (n : ℕ) (w : Worker) : Type 0 where
  pub rounds : w.rounds ≡ None
  pub kind : IsNumbered limits n w.lasso_search
  pub begins : BeginsAs properties w.property w.phase w.lasso_search

-- the limits are as before
pub record KeepsLimits (old new : Spendings) : Type 0 where
  pub conflicts : new.conflict_limit ≡ old.conflict_limit
  pub steps : new.step_limit ≡ old.step_limit

-- what a worker keeps from round to round is of this circuit and property, and what was seen goes on from it
pub record AreRoundsOf (c : Circuit) (j : ℕ) (seen : List Entry) (r : Asking) : Type 0 where
  pub circuit : r.circuit ≡ c
  pub property : r.property ≡ j
  pub on : GoesOnFrom r.seen seen

-- A worker that knows this. Its rounds are of the property that it serves, or served last. With each turn less is left, so
-- there are no more turns than at first.
pub record IsWorker (k : Known) (w : Worker) : Type 0 where
  pub served : AreServed k.circuit k.properties
  pub rounds : IfSome w.rounds (AreRoundsOf k.circuit w.property (plain k.list))
  pub phase : IsIn w.property k w.meter w.phase
  pub short : k.limit ≤ most_entries
  pub kind : IsOfKind w.property k w.meter w.phase w.lasso_search
  pub turns : k.turns + left_to k w ≤ first_left k w.lasso_search

-- A turn of a worker, between what it knew and what it then knows; or the rest of one, behind so many searches.
pub record Turns (searches : ℕ) (k : Known) (w : Worker) (l : Known) (v : Worker) : Type 0 where
  pub worker : IsWorker l v
  pub kind : StaysOfKind w.lasso_search v.lasso_search
  pub limits : KeepsLimits w.meter v.meter
  pub less : left_to l v < left_to k w
  pub steps :
      steps_through v (searches_left_to l v + searches) (search_steps k.circuit k.properties)
      ≤ steps_through w (searches_left_to k w) (search_steps k.circuit k.properties)

-- A lasso worker behind a search, of which nothing is known of its solver.
pub record IsSought (k : Known) (after : ℕ) (w : Worker) : Type 0 where
  pub served : AreServed k.circuit k.properties
  pub rounds : IfSome w.rounds (AreRoundsOf k.circuit w.property (plain k.list))
  pub phase : w.phase ≡ phases.Deepens after
  pub short : k.limit ≤ most_entries
  pub turns : k.turns + left_to k w ≤ first_left k w.lasso_search
  pub search : LassoSearch
  pub has : w.lasso_search ≡ Some search
  pub seeks : Seeks k w.property search

-- A search of a lasso worker, which changed its solver, what it has done and its meter alone.
pub record SeeksOn (k : Known) (after : ℕ) (w v : Worker) : Type 0 where
  pub sought : IsSought k after v
  pub phase : v.phase ≡ w.phase
  pub kind : StaysOfKind w.lasso_search v.lasso_search
  pub counted : CountsConflicts w.meter v.meter

-- The worker thought over what it has seen, in so many searches, which changed its rounds and its meter alone.
pub record Thinks (searches : ℕ) (k : Known) (w v : Worker) : Type 0 where
  pub property : v.property ≡ w.property
  pub phase : v.phase ≡ w.phase
  pub lasso_search : v.lasso_search ≡ w.lasso_search
  pub rounds : IfSome v.rounds (AreRoundsOf k.circuit v.property (plain k.list))
  pub limits : KeepsLimits w.meter v.meter
  pub steps : v.meter.steps ≤ steps_through w searches (search_steps k.circuit k.properties)
