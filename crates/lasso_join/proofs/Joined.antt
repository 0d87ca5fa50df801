-- A stem and the loop of a skeleton and its pieces are a fair lasso.
use Rattle.std.proofs.Common.{◌≡◌, ℕ, suc, ◌+◌, ◌-◌, ◌%◌, ◌<◌, Bool, List, [], ◌∷◌, ◌++◌, map, length, get_or, refl, sym, ap, ◌∙◌, subst, inl, inr, slice_get, IsTrue, All, Any, arith, add-one, length-append}
use Rattle.std.proofs.Math.Nat.{mod_self, mod-eq_of_lt, le-max_left}
use Rattle.std.proofs.Math.Seq.{drop-append_seam}
use Rattle.std.proofs.lemmas.Bool.{cases_lt}
use Rattle.std.proofs.lemmas.List.{get_or_default, get_or_past, map-append}
use Rattle.std.proofs.lemmas.List.Elements.{All-head, All-tail, All-cons, All-nil, All-weaker}
use Rattle.aig_semantics.specs.declared.traces.Position.{Position}
use Rattle.aig_semantics.specs.Circuits.{Circuit, fair_literals}
use Rattle.aig_semantics.specs.Stimuli.{simulated}
use Rattle.aig_semantics.specs.Runs.{literal_at, successor, IsFairLasso, MeetsFairness, ClosesAt}
use Rattle.fair_semantics.specs.declared.skeletons.Situation.{Situation}
use Rattle.fair_semantics.specs.declared.skeletons.Skeleton.{Skeleton}
use Rattle.fair_semantics.specs.Skeletons.{IsSituation, IsSkeleton, AreTrueInTurn}
use Rattle.circuit.proofs.Following.{simulated-inputs}
use Rattle.fair_semantics.proofs.Runs.{initial-run, get-seam}
use Rattle.lasso_join.specs.Fitting.{end_of, LeadsTo, Fit, state_at, loop_of}
use Rattle.lasso_join.proofs.Ways.{leads-none, leads-on, leads-through, last-at}

abbrev pub states : List Situation → List (List Bool)
states situations = map (λ s. s.position.latches) situations

abbrev pub successors : List Situation → List (List Bool)
successors situations = map (λ s. s.successor) situations

states-length : (situations : List Situation) → length (states situations) ≡ length situations
states-length [] = refl
states-length (s ∷ situations) = ap suc (states-length situations)

-- each piece leads to the state that stands behind it, the last one to `back`
abbrev pub PiecesLead : Circuit → List Bool → List Situation → List (List Position) → Type 0
PiecesLead c back situations pieces =
    (i : ℕ) → i < length pieces → LeadsTo c (get_or (successors situations) i []) (get_or (states situations) (suc i) back) (get_or pieces i [])

loop-leads : (c : Circuit) (back : List Bool) (situations : List Situation) (pieces : List (List Position))
    → All (IsSituation c) situations → length pieces ≡ length situations → PiecesLead c back situations pieces
    → LeadsTo c (get_or (states situations) 0 back) back (loop_of situations pieces)
loop-leads c back [] pieces all e h = leads-none c back
loop-leads c back (s ∷ situations) [] all e h = absurd (omega arith)
loop-leads c back (s ∷ situations) (piece ∷ pieces) all e h =
    let here = All-head (IsSituation c) s situations all in
    let next : List Bool = get_or (states situations) 0 back in
    let first : LeadsTo c (successor c s.position) next piece = subst (λ t. LeadsTo c t next piece) here.next (h 0 (omega arith)) in
    let rest = loop-leads c back situations pieces (All-tail (IsSituation c) s situations all) (omega arith) (λ i below. h (suc i) (omega arith)) in
    leads-on c s.position back (piece ++ loop_of situations pieces) here.possible
    (leads-through c (successor c s.position) next back piece (loop_of situations pieces) first rest)

-- the state that comes next, cyclically
next-state : (xs : List (List Bool)) (i : ℕ) → i < length xs → get_or xs ((i + 1) % length xs) [] ≡ get_or xs (suc i) (get_or xs 0 [])
next-state xs i inside =
    elim (cases_lt (suc i) (length xs)) [
      | inl more ↦
          let place : (i + 1) % length xs ≡ suc i = ap (λ k. k % length xs) (add-one i) ∙ mod-eq_of_lt more in
          ap (λ k. get_or xs k []) place ∙ get_or_default xs (suc i) [] (get_or xs 0 []) more
      | inr past ↦
          let size : i + 1 ≡ length xs = omega arith in
          let place : (i + 1) % length xs ≡ 0 = ap (λ k. k % length xs) size ∙ mod_self (length xs) in
          ap (λ k. get_or xs k []) place ∙ sym (get_or_past xs (suc i) (get_or xs 0 []) past)
    ]

pieces-lead : (c : Circuit) (stem : List Position) (skeleton : Skeleton) (pieces : List (List Position)) → Fit c stem skeleton pieces
    → PiecesLead c (state_at skeleton 0) skeleton.situations pieces
pieces-lead c stem skeleton pieces fit i below =
    let xs : List (List Bool) = states skeleton.situations in
    let size : length xs ≡ length pieces = states-length skeleton.situations ∙ sym fit.count in
    let inside : i < length xs = omega arith in
    let piece : List Position = get_or pieces i [] in
    let same : get_or xs ((i + 1) % length pieces) [] ≡ get_or xs (suc i) (get_or xs 0 []) =
    ap (λ n. get_or xs ((i + 1) % n) []) (sym size) ∙ next-state xs i inside
    in
    subst (λ t. LeadsTo c (get_or (successors skeleton.situations) i []) t piece) same (fit.pieces_lead i below)

-- ---- the whole

pub some-situation : (c : Circuit) (j : ℕ) (skeleton : Skeleton) → IsSkeleton c j skeleton → 0 < length skeleton.situations
some-situation c j skeleton is = omega (arith, is.size, le-max_left 1 (length (fair_literals c j)))

pub whole-leads : (c : Circuit) (j : ℕ) (stem : List Position) (skeleton : Skeleton) (pieces : List (List Position))
    → IsSkeleton c j skeleton → (fit : Fit c stem skeleton pieces)
    → LeadsTo c fit.stem_leads.start (state_at skeleton 0) (stem ++ loop_of skeleton.situations pieces)
whole-leads c j stem skeleton pieces is fit =
    let first : List Bool = state_at skeleton 0 in
    let xs : List (List Bool) = states skeleton.situations in
    let some : 0 < length xs = omega (arith, some-situation c j skeleton is, states-length skeleton.situations) in
    let round = loop-leads c first skeleton.situations pieces is.situations fit.count (pieces-lead c stem skeleton pieces fit) in
    leads-through c fit.stem_leads.start first first stem (loop_of skeleton.situations pieces) fit.stem_leads.leads
    (subst (λ s. LeadsTo c s first (loop_of skeleton.situations pieces)) (sym (get_or_default xs 0 [] first some)) round)

-- the latches of the first position, the stem's or the skeleton's
pub start-is : (c : Circuit) (stem : List Position) (skeleton : Skeleton) (pieces : List (List Position)) (fit : Fit c stem skeleton pieces)
    → get_or (map (λ p. p.latches) stem ++ states skeleton.situations) 0 [] ≡ fit.stem_leads.start
start-is c [] skeleton pieces fit = sym fit.stem_leads.leads.ends
start-is c (p ∷ stem) skeleton pieces fit = fit.stem_leads.leads.starts

-- ---- fairness

any-first : {X : Type 0} (P : X → Type 0) (x : X) (xs : List X) → P x → Any P (x ∷ xs)
any-first P x xs h = (0, x, omega arith, refl, h)

any-behind : {X : Type 0} (P : X → Type 0) (xs ys : List X) → Any P ys → Any P (xs ++ ys)
any-behind P [] ys h = h
any-behind P (x ∷ xs) ys h = let later = any-behind P xs ys h in (suc later.0, later.1, omega (arith, later.2), later.3, later.4)

fair-in-turn : (c : Circuit) (literals : List ℕ) (situations : List Situation) (pieces : List (List Position)) → AreTrueInTurn c literals situations
    → All (λ literal. Any (λ p. IsTrue (literal_at c p literal)) (loop_of situations pieces)) literals
fair-in-turn c [] situations pieces h = All-nil (λ literal. Any (λ p. IsTrue (literal_at c p literal)) (loop_of situations pieces))
fair-in-turn c (literal ∷ literals) [] pieces h = absurd h
fair-in-turn c (literal ∷ literals) (s ∷ situations) [] h =
    let True : ℕ → Position → Type 0 = λ l p. IsTrue (literal_at c p l) in
    let rest : List Position = loop_of situations [] in
    All-cons (λ l. Any (True l) (s.position ∷ rest)) literal literals (any-first (True literal) s.position rest h.0)
    (All-weaker _ _ (λ l later. any-behind (True l) (s.position ∷ []) rest later) literals (fair-in-turn c literals situations [] h.1))
fair-in-turn c (literal ∷ literals) (s ∷ situations) (piece ∷ pieces) h =
    let True : ℕ → Position → Type 0 = λ l p. IsTrue (literal_at c p l) in
    let rest : List Position = loop_of situations pieces in
    All-cons (λ l. Any (True l) (s.position ∷ piece ++ rest)) literal literals (any-first (True literal) s.position (piece ++ rest) h.0)
    (All-weaker _ _ (λ l later. any-behind (True l) (s.position ∷ piece) rest later) literals (fair-in-turn c literals situations pieces h.1))

-- ---- the lasso

-- the loop begins with the first position of the skeleton
loop-begins : (situations : List Situation) (pieces : List (List Position)) → 0 < length situations
    → (p : Position) × ((rest : List Position) × ((loop_of situations pieces ≡ p ∷ rest) × (get_or (states situations) 0 [] ≡ p.latches)))
loop-begins [] pieces some = absurd (omega arith)
loop-begins (s ∷ situations) [] some = (s.position, (loop_of situations [], (refl, refl)))
loop-begins (s ∷ situations) (piece ∷ pieces) some = (s.position, (piece ++ loop_of situations pieces, (refl, refl)))

closes-at : (c : Circuit) (start : List Bool) (stem loop rest : List Position) (p : Position) → loop ≡ p ∷ rest
    → end_of c start (stem ++ loop) ≡ p.latches → ClosesAt c (stem ++ loop) (length stem)
closes-at c start stem loop rest p begins ends =
    let whole : List Position = stem ++ loop in
    let size : suc (length whole - 1) ≡ length whole = omega (arith, length-append stem loop, ap length begins) in
    let last = last-at c start whole (length whole - 1) size in
    record {
      first = p;
      last = last.0;
      is_first = ap (λ xs. slice_get (stem ++ xs) (length stem)) begins ∙ get-seam stem p rest;
      is_last = last.1;
      closes = sym last.2 ∙ ends;
    }

pub fair-lasso : (c : Circuit) (j : ℕ) (stem : List Position) (skeleton : Skeleton) (pieces : List (List Position))
    → Fit c stem skeleton pieces → IsSkeleton c j skeleton → IsFairLasso c j (stem ++ loop_of skeleton.situations pieces) (length stem)
fair-lasso c j stem skeleton pieces fit is =
    let loop : List Position = loop_of skeleton.situations pieces in
    let start : List Bool = fit.stem_leads.start in
    let whole = whole-leads c j stem skeleton pieces is fit in
    let begins = loop-begins skeleton.situations pieces (some-situation c j skeleton is) in
    let same : loop ≡ begins.0 ∷ begins.1.0 = begins.1.1.0 in
    record {
      property = is.property;
      initial = initial-run c start (stem ++ loop) fit.stem_leads.is_initial whole.starts whole.is_run;
      inside = omega (arith, length-append stem loop, ap length same);
      closes = closes-at c start stem loop begins.1.0 begins.0 same (whole.ends ∙ begins.1.1.1);
      fair = subst (MeetsFairness c j) (sym (drop-append_seam stem loop)) (fair-in-turn c (fair_literals c j) skeleton.situations pieces is.fair);
    }

-- what start and inputs lay out
pub joined-run : (c : Circuit) (j : ℕ) (stem : List Position) (skeleton : Skeleton) (pieces : List (List Position))
    → Fit c stem skeleton pieces → IsSkeleton c j skeleton → (start : List Bool) (inputs : List (List Bool))
    → start ≡ get_or (map (λ p. p.latches) stem ++ states skeleton.situations) 0 []
    → inputs ≡ map (λ p. p.inputs) stem ++ map (λ p. p.inputs) (loop_of skeleton.situations pieces)
    → simulated c start inputs ≡ stem ++ loop_of skeleton.situations pieces
joined-run c j stem skeleton pieces fit is start inputs begins are =
    let run : List Position = stem ++ loop_of skeleton.situations pieces in
    let whole = whole-leads c j stem skeleton pieces is fit in
    let first : start ≡ fit.stem_leads.start = begins ∙ start-is c stem skeleton pieces fit in
    let all : inputs ≡ map (λ p. p.inputs) run = are ∙ sym (map-append (λ p. p.inputs) stem (loop_of skeleton.situations pieces)) in
    ap (λ s. simulated c s inputs) first ∙ ap (λ i. simulated c fit.stem_leads.start i) all
    ∙ simulated-inputs c fit.stem_leads.start run whole.is_run whole.starts

pub joined-fair : (c : Circuit) (stem : List Position) (skeleton : Skeleton) (pieces : List (List Position))
    → Fit c stem skeleton pieces → (start : List Bool) (inputs : List (List Bool)) (from : ℕ)
    → start ≡ get_or (map (λ p. p.latches) stem ++ states skeleton.situations) 0 []
    → inputs ≡ map (λ p. p.inputs) stem ++ map (λ p. p.inputs) (loop_of skeleton.situations pieces)
    → from ≡ length stem
    → (j : ℕ) → IsSkeleton c j skeleton → IsFairLasso c j (simulated c start inputs) from
joined-fair c stem skeleton pieces fit start inputs from begins are place j is =
    subst (λ k. IsFairLasso c j (simulated c start inputs) k) (sym place)
    (subst (λ run. IsFairLasso c j run (length stem)) (sym (joined-run c j stem skeleton pieces fit is start inputs begins are))
    (fair-lasso c j stem skeleton pieces fit is))
