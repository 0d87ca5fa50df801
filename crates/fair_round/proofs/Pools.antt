-- Initial runs, and their first positions.
use Rattle.std.proofs.Common.{◌≡◌, ℕ, zero, suc, ◌+◌, ◌<◌, Bool, List, [], ◌∷◌, ◌++◌, map, length, get_or, take, sym, ap, ◌∙◌, subst, arith}
use Rattle.std.specs.List.{All}
use Rattle.std.proofs.lemmas.List.{get_or-map, get_or_default}
use Rattle.std.proofs.lemmas.List.Elements.{All-get_or}
use Rattle.aig_semantics.specs.declared.traces.Position.{Position}
use Rattle.aig_semantics.specs.Circuits.{Circuit}
use Rattle.aig_semantics.specs.Runs.{successor, MeetsConstraints}
use Rattle.fair_semantics.specs.declared.skeletons.Situation.{Situation}
use Rattle.fair_semantics.specs.Skeletons.{IsSituation}
use Rattle.lasso_join.specs.Fitting.{LeadsTo, IsStemTo}
use Rattle.lasso_join.proofs.Ways.{leads-none, leads-on, leads-through}
use Rattle.fair_round.specs.Walks.{AreWalked, states, successors}
use Rattle.fair_round.specs.Pools.{IsReachedRun}

-- ---- the first positions of a run

behind : (c : Circuit) (s t : List Bool) (p : Position) (run : List Position) → LeadsTo c s t (p ∷ run) → LeadsTo c (successor c p) t run
behind c s t p run h = record { is_run = h.is_run.2; starts = h.is_run.1; ends = h.ends }

leads-to-place : (c : Circuit) (s t : List Bool) (run : List Position) (k : ℕ) → k < length run → LeadsTo c s t run
    → LeadsTo c s (get_or (map (λ p. p.latches) run) k []) (take k run)
leads-to-place c s t [] k inside h = absurd (omega arith)
leads-to-place c s t (p ∷ run) zero inside h = subst (λ u. LeadsTo c s u []) (sym h.starts) (leads-none c s)
leads-to-place c s t (p ∷ run) (suc k) inside h =
    let later : LeadsTo c (successor c p) (get_or (map (λ p. p.latches) run) k []) (take k run) =
    leads-to-place c (successor c p) t run k (omega arith) (behind c s t p run h)
    in
    subst (λ u. LeadsTo c u (get_or (map (λ p. p.latches) run) k []) (p ∷ take k run)) h.starts
    (leads-on c p (get_or (map (λ p. p.latches) run) k []) (take k run) h.is_run.0 later)

-- the positions before one of a run are a way to its state
pub way-to-place : (c : Circuit) (run : List Position) (k : ℕ) → k < length run → IsReachedRun c run
    → IsStemTo c (get_or (map (λ p. p.latches) run) k []) (take k run)
way-to-place c run k inside (t, stem) = record {
  start = stem.start;
  is_initial = stem.is_initial;
  leads = leads-to-place c stem.start t run k inside stem.leads;
}

possible-at : (c : Circuit) (s t : List Bool) (run : List Position) (k : ℕ) (d : Position) → k < length run → LeadsTo c s t run
    → MeetsConstraints c (get_or run k d)
possible-at c s t [] k d inside h = absurd (omega arith)
possible-at c s t (p ∷ run) zero d inside h = h.is_run.0
possible-at c s t (p ∷ run) (suc k) d inside h = possible-at c (successor c p) t run k d (omega arith) (behind c s t p run h)

-- a state of a run has a value for each latch
pub place-size : (c : Circuit) (run : List Position) (k : ℕ) (s : List Bool) → k < length run → s ≡ get_or (map (λ p. p.latches) run) k []
    → IsReachedRun c run → length s ≡ length c.latches
place-size c run k s inside at (t, stem) =
    let d : Position = record { latches = []; inputs = [] } in
    ap length at ∙ ap length (get_or-map (λ (p : Position). p.latches) run k d [] inside)
    ∙ (possible-at c stem.start t run k d inside stem.leads).position.latches

-- ---- runs that go on

-- one piece more behind a situation
pub run-on : (c : Circuit) (s : Situation) (u : List Bool) (run piece : List Position) → IsSituation c s
    → IsStemTo c s.position.latches run → LeadsTo c s.successor u piece → IsStemTo c u ((run ++ s.position ∷ []) ++ piece)
run-on c s u run piece is stem leads =
    let one : LeadsTo c s.position.latches s.successor (s.position ∷ []) =
    subst (λ v. LeadsTo c s.position.latches v (s.position ∷ [])) (sym is.next)
    (leads-on c s.position (successor c s.position) [] is.possible (leads-none c (successor c s.position)))
    in
    record {
      start = stem.start;
      is_initial = stem.is_initial;
      leads = leads-through c stem.start s.successor u (run ++ s.position ∷ []) piece
          (leads-through c stem.start s.position.latches s.successor run (s.position ∷ []) stem.leads one) leads;
    }

-- the same along pieces that were walked
pub run-on-piece : (c : Circuit) (situations : List Situation) (pieces : List (List Position)) (k : ℕ) (d : Situation) (e run : List Position)
    → All (IsSituation c) situations → k < length pieces → length pieces < length situations → AreWalked c situations (length pieces) pieces
    → IsStemTo c (get_or (states situations) k []) run
    → IsStemTo c (get_or (states situations) (k + 1) []) ((run ++ (get_or situations k d).position ∷ []) ++ get_or pieces k e)
run-on-piece c situations pieces k d e run all inside some walked stem =
    let s : Situation = get_or situations k d in
    let below : k < length situations = omega (arith, inside, some) in
    let state : get_or (states situations) k [] ≡ s.position.latches = get_or-map (λ (s : Situation). s.position.latches) situations k d [] below in
    let next : get_or (successors situations) k [] ≡ s.successor = get_or-map (λ (s : Situation). s.successor) situations k d [] below in
    let piece : get_or pieces k [] ≡ get_or pieces k e = get_or_default pieces k [] e inside in
    run-on c s (get_or (states situations) (k + 1) []) run (get_or pieces k e) (All-get_or (IsSituation c) situations k d below all)
    (subst (λ t. IsStemTo c t run) state stem)
    (subst (λ (xs : List Position). LeadsTo c s.successor (get_or (states situations) (k + 1) []) xs) piece
    (subst (λ t. LeadsTo c t (get_or (states situations) (k + 1) []) (get_or pieces k [])) next (walked.lead k inside)))

-- and the last position
pub run-ends : (c : Circuit) (situations : List Situation) (k : ℕ) (d : Situation) (run : List Position) → All (IsSituation c) situations
    → k < length situations → IsStemTo c (get_or (states situations) k []) run → IsReachedRun c (run ++ (get_or situations k d).position ∷ [])
run-ends c situations k d run all inside stem =
    let s : Situation = get_or situations k d in
    let is : IsSituation c s = All-get_or (IsSituation c) situations k d inside all in
    let state : get_or (states situations) k [] ≡ s.position.latches = get_or-map (λ (s : Situation). s.position.latches) situations k d [] inside in (
      successor c s.position,
      record {
        start = stem.start;
        is_initial = stem.is_initial;
        leads = leads-through c stem.start s.position.latches (successor c s.position) run (s.position ∷ [])
            (subst (λ t. LeadsTo c stem.start t run) state stem.leads)
            (leads-on c s.position (successor c s.position) [] is.possible (leads-none c (successor c s.position)));
      },
    )
