-- Rounds of runs: each begins in a state in which no earlier one began, or a part of the run is a lasso. The states of
-- the rounds so far are a test, and how many states pass it is counted.
use Rattle.std.proofs.Common.{◌≡◌, ℕ, zero, suc, ◌+◌, ◌-◌, ◌^◌, ◌<◌, ◌≤◌, Bool, true, false, ◌||◌, List, [], ◌∷◌, ◌++◌, length, refl, sym, ap, ◌∙◌, subst, inl, inr, Some, arith, append_assoc, length-append}
use Rattle.std.specs.Prelude.{slice_get, IsTrue}
use Rattle.std.specs.List.{Any}
use Rattle.std.proofs.Math.Seq.{drop-append_seam}
use Rattle.std.proofs.lemmas.Bool.{false≢true, cases_Bool, or_left, or_right}
use Rattle.std.proofs.lemmas.List.Elements.{All-weaker, Contains-append_left}
use Rattle.aig_semantics.specs.declared.traces.Position.{Position}
use Rattle.aig_semantics.specs.Circuits.{Circuit, fair_literals}
use Rattle.aig_semantics.specs.Runs.{literal_at, successor, StartsIn, IsRun, IsInitialRun, ClosesAt, MeetsFairness, IsFairLasso}
use Rattle.fair_semantics.specs.Rounds.{HasRounds, HasFewRounds}
use Rattle.fair_semantics.specs.Laws.{NoLassoMeansFewRounds}
use Rattle.fair_semantics.proofs.States.{count, count-less, count-most, same, same_is, same_itself}
use Rattle.fair_semantics.proofs.Runs.{run-of}

-- ---- parts of runs

starts_front : (s : List Bool) (xs ys : List Position) → StartsIn s (xs ++ ys) → StartsIn s xs
starts_front s [] ys h = tt
starts_front s (p ∷ xs) ys h = h

run_front : (c : Circuit) (xs ys : List Position) → IsRun c (xs ++ ys) → IsRun c xs
run_front c [] ys h = tt
run_front c (p ∷ xs) ys h = (h.0, starts_front (successor c p) xs ys h.1, run_front c xs ys h.2)

initial_front : (c : Circuit) (xs ys : List Position) → IsInitialRun c (xs ++ ys) → IsInitialRun c xs
initial_front c [] ys h = tt
initial_front c (p ∷ xs) ys h = (h.0, run_front c (p ∷ xs) ys h.1)

-- the last of some positions steps to the first of those behind
seam : (c : Circuit) (xs : List Position) (x q : Position) (ys : List Position) → IsRun c (xs ++ x ∷ q ∷ ys) → q.latches ≡ successor c x
seam c [] x q ys h = h.1
seam c (p ∷ xs) x q ys h = seam c xs x q ys h.2

slice_at : (xs : List Position) (x : Position) (ys : List Position) → slice_get (xs ++ x ∷ ys) (length xs) ≡ Some x
slice_at [] x ys = refl
slice_at (p ∷ xs) x ys = slice_at xs x ys

-- a list with a last element
record Ended (xs : List Position) : Type 0 where
  front : List Position
  last : Position
  split : xs ≡ front ++ last ∷ []

ended : (p : Position) (xs : List Position) → Ended (p ∷ xs)
ended p [] = record { front = []; last = p; split = refl }
ended p (q ∷ xs) =
    let more = ended q xs in
    record { front = p ∷ more.front; last = more.last; split = ap (λ (ys : List Position). p ∷ ys) more.split }

ended_behind : (front : List Position) (p : Position) (after : List Position) → Ended (front ++ p ∷ after)
ended_behind front p after =
    let more = ended p after in
    record {
      front = front ++ more.front;
      last = more.last;
      split = ap (λ (ys : List Position). front ++ ys) more.split ∙ sym (append_assoc front more.front (more.last ∷ []));
    }

-- a run that steps on to a state in which a position of it began closes there
closes : (c : Circuit) (before : List Position) (p : Position) (after : List Position) (q : Position) (ys : List Position)
    → IsRun c ((before ++ p ∷ after) ++ q ∷ ys) → q.latches ≡ p.latches → ClosesAt c (before ++ p ∷ after) (length before)
closes c before p after q ys run back =
    let run_of_all : List Position = before ++ p ∷ after in
    let e : Ended run_of_all = ended_behind before p after in
    let size : length run_of_all - 1 ≡ length e.front = (let n : length run_of_all ≡ length e.front + 1 = ap length e.split ∙ length-append e.front (e.last ∷ []) in omega (arith, n)) in
    let at_last : slice_get run_of_all (length run_of_all - 1) ≡ Some e.last =
    ap (slice_get run_of_all) size ∙ ap (λ (xs : List Position). slice_get xs (length e.front)) e.split ∙ slice_at e.front e.last [] in
    let whole : run_of_all ++ q ∷ ys ≡ e.front ++ e.last ∷ q ∷ ys =
    ap (λ (xs : List Position). xs ++ q ∷ ys) e.split ∙ append_assoc e.front (e.last ∷ []) (q ∷ ys) in
    record {
      first = p;
      last = e.last;
      is_first = slice_at before p after;
      is_last = at_last;
      closes = sym (seam c e.front e.last q ys (subst (IsRun c) whole run)) ∙ back;
    }

any_left : (P : Position → Type 0) (xs ys : List Position) → Any P xs → Any P (xs ++ ys)
any_left P xs ys (k, x, below, place, h) =
    let there = Contains-append_left xs ys x (k, below, place) in (there.0, x, there.1, there.2, h)

fair_left : (c : Circuit) (j : ℕ) (xs ys : List Position) → MeetsFairness c j xs → MeetsFairness c j (xs ++ ys)
fair_left c j xs ys h =
    All-weaker (λ literal. Any (λ p. IsTrue (literal_at c p literal)) xs) (λ literal. Any (λ p. IsTrue (literal_at c p literal)) (xs ++ ys))
    (λ literal a. any_left (λ p. IsTrue (literal_at c p literal)) xs ys a) (fair_literals c j) h

-- ---- the rounds so far

-- a position with this state, from which on the positions meet the fairness
record Began (c : Circuit) (j : ℕ) (done : List Position) (s : List Bool) : Type 0 where
  before : List Position
  first : Position
  after : List Position
  split : done ≡ before ++ first ∷ after
  state : first.latches ≡ s
  fair : MeetsFairness c j (first ∷ after)

began_more : (c : Circuit) (j : ℕ) (done more : List Position) (s : List Bool) → Began c j done s → Began c j (done ++ more) s
began_more c j done more s b = record {
  before = b.before;
  first = b.first;
  after = b.after ++ more;
  split = ap (λ (xs : List Position). xs ++ more) b.split ∙ append_assoc b.before (b.first ∷ b.after) more;
  state = b.state;
  fair = fair_left c j (b.first ∷ b.after) more b.fair;
}

began_here : (c : Circuit) (j : ℕ) (done : List Position) (q : Position) (qs : List Position) → MeetsFairness c j (q ∷ qs) → Began c j (done ++ q ∷ qs) q.latches
began_here c j done q qs fair = record { before = done; first = q; after = qs; split = refl; state = refl; fair = fair }

module _ (c : Circuit) (j : ℕ) (there : j < length c.justice) (none : (run : List Position) (from : ℕ) → IsFairLasso c j run from → ⊥) where
  abbrev AllBegan : (List Bool → Bool) → List Position → Type 0
  AllBegan test done = (s : List Bool) → test s ≡ true → Began c j done s

  -- a round in a state in which one began before
  again : (done : List Position) (q : Position) (ys : List Position) → IsInitialRun c (done ++ q ∷ ys) → Began c j done q.latches → ⊥
  again done q ys initial b =
      let run : List Position = b.before ++ b.first ∷ b.after in
      let whole : IsInitialRun c (run ++ q ∷ ys) = subst (λ (xs : List Position). IsInitialRun c (xs ++ q ∷ ys)) b.split initial in
      let inside : length b.before < length run = (let n = length-append b.before (b.first ∷ b.after) in omega (arith, n)) in
      none run (length b.before) (record {
        property = there;
        initial = initial_front c run (q ∷ ys) whole;
        inside = inside;
        closes = closes c b.before b.first b.after q ys (run-of c (run ++ q ∷ ys) whole) (sym b.state);
        fair = subst (MeetsFairness c j) (sym (drop-append_seam b.before (b.first ∷ b.after))) b.fair;
      })

  -- the states of a circuit's positions have a value for each latch
  sized : (done : List Position) (q : Position) (ys : List Position) → IsRun c (done ++ q ∷ ys) → length q.latches ≡ length c.latches
  sized [] q ys h = h.0.position.latches
  sized (p ∷ done) q ys h = sized done q ys h.2

  abbrev more_states : (List Bool → Bool) → List Bool → List Bool → Bool
  more_states test t s = test s || same t s

  began_next : (test : List Bool → Bool) (done : List Position) (q : Position) (qs : List Position) → MeetsFairness c j (q ∷ qs) → AllBegan test done
      → (s : List Bool) → (b : Bool) → test s ≡ b → more_states test q.latches s ≡ true → Began c j (done ++ q ∷ qs) s
  began_next test done q qs fair all s true is e = began_more c j done (q ∷ qs) s (all s is)
  began_next test done q qs fair all s false is e =
      let at : same q.latches s ≡ true = sym (ap (λ x. x || same q.latches s) is) ∙ e in
      subst (Began c j (done ++ q ∷ qs)) (same_is q.latches s at) (began_here c j done q qs fair)

  counted : (n : ℕ) (test : List Bool → Bool) (done rest : List Position) → AllBegan test done → IsInitialRun c (done ++ rest) → HasRounds c j n rest
      → count (length c.latches) test + n ≤ 2 ^ length c.latches
  counted zero test done rest all initial rounds = let h = count-most (length c.latches) test in omega (arith, h)
  counted (suc n) test done rest all initial (front, [], others, split, is, more) = absurd (let h : 0 < 0 = is.some in omega (arith, h))
  counted (suc n) test done rest all initial (front, q ∷ qs, others, split, is, more) =
      let whole : done ++ rest ≡ (done ++ front) ++ q ∷ (qs ++ others) =
      ap (λ (xs : List Position). done ++ xs) (split ∙ append_assoc front (q ∷ qs) others) ∙ sym (append_assoc done front (q ∷ (qs ++ others))) in
      let run : IsInitialRun c ((done ++ front) ++ q ∷ (qs ++ others)) = subst (IsInitialRun c) whole initial in
      let far : AllBegan test (done ++ front) = λ s e. began_more c j done front s (all s e) in
      let regrouped : (done ++ front) ++ q ∷ (qs ++ others) ≡ ((done ++ front) ++ q ∷ qs) ++ others = sym (append_assoc (done ++ front) (q ∷ qs) others) in
      elim (cases_Bool (test q.latches)) [
        | inl met ↦ absurd (again (done ++ front) q (qs ++ others) run (far q.latches met))
        | inr new ↦
            let next : List Bool → Bool = more_states test q.latches in
            let up : (s : List Bool) → test s ≡ true → next s ≡ true = λ s e. or_left (test s) (same q.latches s) e in
            let here : next q.latches ≡ true = or_right (test q.latches) (same q.latches q.latches) (same_itself q.latches) in
            let one = count-less (length c.latches) test next up q.latches (sized (done ++ front) q (qs ++ others) (run-of c ((done ++ front) ++ q ∷ (qs ++ others)) run)) new here in
            let others_fit = counted n next ((done ++ front) ++ q ∷ qs) others
            (λ s e. began_next test (done ++ front) q qs is.fair far s (test s) refl e)
            (subst (IsInitialRun c) regrouped run) more in
            omega (arith, one, others_fit)
      ]

  few : HasFewRounds c j
  few run n initial rounds =
      let h = counted n (λ s. false) [] run (λ s e. absurd (false≢true e)) initial rounds in omega (arith, h)

pub few_rounds : NoLassoMeansFewRounds
few_rounds c j there none = few c j there none
