-- The steps of the search for an order of the gates.
use Rattle.std.proofs.Common.{◌≡◌, ◌≢◌, ℕ, zero, suc, ◌+◌, ◌-◌, ◌<◌, ◌⊎◌, true, false, cond, List, [], ◌∷◌, ◌++◌, length, get_or, set, take, drop, Some, refl, sym, ap, ◌∙◌, subst, inl, inr, arith}
use Rattle.std.specs.List.{All, Contains, sum_by, count_by, slice_get}
use Rattle.std.proofs.lemmas.Bool.{cases_eq, cases_lt, false≢true}
use Rattle.std.proofs.lemmas.List.{length-set, length-map, length_push, get_or-set_same, get_or-set_other, get_or_past, get_or-map, get_or_append_left, get_or_push, map_push, drop-append-le, drop_at, take-append-drop, drop_more, drop_all}
use Rattle.std.proofs.lemmas.List.Elements.{All-push, Contains-append_left, Contains-push, Contains-push_cases, Contains-get_or}
use Rattle.std.proofs.lemmas.List.Quantifiers.{all_pairs_push}
use Rattle.std.proofs.lemmas.List.Sums.{sum_by-set}
use Rattle.std.proofs.lemmas.Option.{slice_get_within, get_or_from_slice_get}
use Rattle.aig_semantics.specs.declared.parts.Gate.{Gate}
use Rattle.aig_semantics.specs.Circuits.{Circuit, Reads, ReadsThrough, IsOnCycle}
use Rattle.aig_semantics.proofs.Lists.{AllDiffer, AllDiffer-left, All-left}
use Rattle.circuit.specs.declared.ordering.Progress.{Progress}
use Rattle.circuit.specs.declared.ordering.Progress.TheVariants.{NoGate, Waiting, Open, Done}
use Rattle.circuit.specs.declared.ordering.Next.TheVariants.{Begin, Cycle}
use Rattle.circuit.specs.Orders.{HasRightSide, variables_of, IsEvaluationOrder}
use Rattle.circuit.specs.Ordering.{progress_at, is_settled, AreSettled, IsNext, Tells, is_pending, IsSearch, is_waiting, KeepsBegun}

-- what is left to be done, in steps
abbrev pub steps_left : Progress → ℕ
steps_left NoGate = 0
steps_left (Waiting k) = 2
steps_left Open = 1
steps_left Done = 0

-- a search that has gone on from another
pub record IsGoingOn (c : Circuit) (before progress : List Progress) (path order : List Gate) : Type 0 where
  pub search : IsSearch c progress path order
  pub begun : KeepsBegun before progress

-- ---- progress at a variable

open-not_waiting : (p : Progress) (k : ℕ) → p ≡ Open → p ≡ Waiting k → ⊥
open-not_waiting p k e f = let g : Open ≡ Waiting k = sym e ∙ f in cc

settled-not_waiting : (p : Progress) (k : ℕ) → is_settled p ≡ true → p ≡ Waiting k → ⊥
settled-not_waiting p k e f = false≢true (sym (ap is_settled f) ∙ e)

settled-not_open : (p : Progress) → is_settled p ≡ true → p ≡ Open → ⊥
settled-not_open p e f = false≢true (sym (ap is_settled f) ∙ e)

-- a variable of which something is known has a place in the table
pub inside-table : (progress : List Progress) (v : ℕ) → (progress_at progress v ≡ NoGate → ⊥) → v < length progress
inside-table progress v known =
    elim (cases_lt v (length progress)) [
      | inl lt ↦ lt
      | inr ge ↦ absurd (known (get_or_past progress v NoGate ge))
    ]

inside-waiting : (progress : List Progress) (v k : ℕ) → progress_at progress v ≡ Waiting k → v < length progress
inside-waiting progress v k e = inside-table progress v (λ f. let g : NoGate ≡ Waiting k = sym f ∙ e in cc)

pub inside-open : (progress : List Progress) (v : ℕ) → progress_at progress v ≡ Open → v < length progress
inside-open progress v e = inside-table progress v (λ f. let g : NoGate ≡ Open = sym f ∙ e in cc)

-- what is told stays told when the path and the order change elsewhere
tells-again : (gates path path' order order' : List Gate) (v : ℕ) (p : Progress) → (p ≡ Open → Contains (variables_of path) v → Contains (variables_of path') v) → (Contains (variables_of order) v → Contains (variables_of order') v) → Tells gates path order v p → Tells gates path' order' v p
tells-again gates path path' order order' v NoGate f g t = t
tells-again gates path path' order order' v (Waiting k) f g t = t
tells-again gates path path' order order' v Open f g t = f refl t
tells-again gates path path' order order' v Done f g t = g t

variables_push : (gates : List Gate) (g : Gate) → variables_of (gates ++ g ∷ []) ≡ variables_of gates ++ g.var ∷ []
variables_push gates g = map_push (λ gate. gate.var) gates g

contains-pushed : (gates : List Gate) (g : Gate) → Contains (variables_of (gates ++ g ∷ [])) g.var
contains-pushed gates g = subst (λ vs. Contains vs g.var) (sym (variables_push gates g)) (Contains-push (variables_of gates) g.var)

contains-more : (gates : List Gate) (g : Gate) (v : ℕ) → Contains (variables_of gates) v → Contains (variables_of (gates ++ g ∷ [])) v
contains-more gates g v c = subst (λ vs. Contains vs v) (sym (variables_push gates g)) (Contains-append_left (variables_of gates) (g.var ∷ []) v c)

contains-cases : (gates : List Gate) (g : Gate) (v : ℕ) → Contains (variables_of (gates ++ g ∷ [])) v → Contains (variables_of gates) v ⊎ (g.var ≡ v)
contains-cases gates g v c = Contains-push_cases (variables_of gates) g.var v (subst (λ vs. Contains vs v) (variables_push gates g) c)

-- a sum over the table, after a change at one place
pub sum-changed : (f : Progress → ℕ) (progress : List Progress) (v : ℕ) (old new : Progress) → v < length progress → progress_at progress v ≡ old → sum_by f (set progress v new) + f old ≡ sum_by f progress + f new
sum-changed f progress v old new below e =
    ap (λ p. sum_by f (set progress v new) + f p) (sym e) ∙ sum_by-set f progress v new NoGate below

-- ---- one more gate on the path

module _ (c : Circuit) (progress : List Progress) (path order : List Gate) (s : IsSearch c progress path order) (k : ℕ) (h : Gate) (member : Contains c.gates h) (waits : progress_at progress h.var ≡ Waiting k) where
  abbrev begun_progress : List Progress
  begun_progress = set progress h.var Open

  inside : h.var < length progress
  inside = inside-waiting progress h.var k waits

  at-begun : (v : ℕ) → v ≡ h.var → progress_at begun_progress v ≡ Open
  at-begun v e = ap (λ u. progress_at begun_progress u) e ∙ get_or-set_same progress h.var Open NoGate inside

  at-other : (v : ℕ) → v ≢ h.var → progress_at begun_progress v ≡ progress_at progress v
  at-other v ne = get_or-set_other progress h.var v Open NoGate ne

  at-open : (v : ℕ) → progress_at progress v ≡ Open → progress_at begun_progress v ≡ Open
  at-open v e = at-other v (λ f. open-not_waiting (progress_at progress v) k e (ap (λ u. progress_at progress u) f ∙ waits)) ∙ e

  at-settled : (v : ℕ) → is_settled (progress_at progress v) ≡ true → is_settled (progress_at begun_progress v) ≡ true
  at-settled v e = ap is_settled (at-other v (λ f. settled-not_waiting (progress_at progress v) k e (ap (λ u. progress_at progress u) f ∙ waits))) ∙ e

  begun-tells : (v : ℕ) → Tells c.gates (path ++ h ∷ []) order v (progress_at begun_progress v)
  begun-tells v =
      elim (cases_eq v h.var) [
        | inl e ↦
            subst (λ p. Tells c.gates (path ++ h ∷ []) order v p) (sym (at-begun v e))
            (subst (λ u. Contains (variables_of (path ++ h ∷ [])) u) (sym e) (contains-pushed path h))
        | inr ne ↦
            subst (λ p. Tells c.gates (path ++ h ∷ []) order v p) (sym (at-other v ne))
            (tells-again c.gates path (path ++ h ∷ []) order order v (progress_at progress v) (λ _. contains-more path h v) (λ x. x) (s.tells v))
      ]

  begun-apart : AllDiffer (variables_of (path ++ h ∷ []))
  begun-apart =
      subst (λ vs. AllDiffer vs) (sym (variables_push path h))
      (all_pairs_push (λ v w. v ≢ w) (variables_of path) h.var s.path_apart
      (λ i d below e.
      let at : i < length path = omega (arith, length-map path (λ gate. gate.var)) in
      open-not_waiting (progress_at progress (get_or path i h).var) k (s.path_open i h at)
      (ap (λ u. progress_at progress u) (sym (get_or-map (λ gate. gate.var) path i h d at) ∙ e) ∙ waits)))

  begun-reads : ((j : ℕ) (d : Gate) → suc j ≡ length path → HasRightSide (get_or path j d) h.var) → (i : ℕ) (d : Gate) → suc i < length (path ++ h ∷ []) → HasRightSide (get_or (path ++ h ∷ []) i d) (get_or (path ++ h ∷ []) (suc i) d).var
  begun-reads reads i d below =
      let first : i < length path = omega (arith, length_push path h) in
      let e = get_or_append_left path (h ∷ []) d i first in
      subst (λ g. HasRightSide g (get_or (path ++ h ∷ []) (suc i) d).var) (sym e)
      (elim (cases_lt (suc i) (length path)) [
        | inl lt ↦ subst (λ g. HasRightSide (get_or path i d) g.var) (sym (get_or_append_left path (h ∷ []) d (suc i) lt)) (s.path_reads i d lt)
        | inr ge ↦
            let last : suc i ≡ length path = omega arith in
            subst (λ g. HasRightSide (get_or path i d) g.var) (sym (get_or_push path h d (suc i) (sym last))) (reads i d last)
      ])

  begun-counted : count_by is_pending begun_progress + length order ≡ length c.gates
  begun-counted =
      let all = s.counted in
      let same : count_by is_pending begun_progress + 1 ≡ count_by is_pending progress + 1 =
      sum-changed (λ p. cond (is_pending p) 1 0) progress h.var (Waiting k) Open inside waits
      in
      omega arith

  pub begins : ((j : ℕ) (d : Gate) → suc j ≡ length path → HasRightSide (get_or path j d) h.var) → IsSearch c begun_progress (path ++ h ∷ []) order
  begins reads = record {
    size = length-set progress h.var Open ∙ s.size;
    tells = begun-tells;
    path_members = All-push (λ gate. Contains c.gates gate) path h s.path_members member;
    path_open =
        All-push (λ gate. progress_at begun_progress gate.var ≡ Open) path h
        (λ i d below. at-open (get_or path i d).var (s.path_open i d below))
        (at-begun h.var refl);
    path_apart = begun-apart;
    path_reads = begun-reads reads;
    order_members = s.order_members;
    order_settled = λ i d below. (at-settled _ (s.order_settled i d below).0, at-settled _ (s.order_settled i d below).1);
    order_after = s.order_after;
    counted = begun-counted;
  }

  pub begun-keeps : (before : List Progress) → KeepsBegun before progress → KeepsBegun before begun_progress
  begun-keeps before keeps v e =
      elim (cases_eq v h.var) [
        | inl same ↦ ap is_waiting (at-begun v same)
        | inr ne ↦ ap is_waiting (at-other v ne) ∙ keeps v e
      ]

  pub begun-steps : sum_by steps_left begun_progress < sum_by steps_left progress
  begun-steps =
      let less : sum_by steps_left begun_progress + 2 ≡ sum_by steps_left progress + 1 =
      sum-changed steps_left progress h.var (Waiting k) Open inside waits
      in
      omega arith

-- ---- the last gate of the path into the order

module _ (c : Circuit) (progress : List Progress) (path order : List Gate) (g : Gate) (s : IsSearch c progress (path ++ g ∷ []) order) (settled : AreSettled progress g) where
  abbrev closed_progress : List Progress
  closed_progress = set progress g.var Done

  now_open : progress_at progress g.var ≡ Open
  now_open =
      let all = s.path_open (length path) g (omega (arith, length_push path g)) in
      subst (λ x. progress_at progress x.var ≡ Open) (get_or_push path g g (length path) refl) all

  closed_inside : g.var < length progress
  closed_inside = inside-open progress g.var now_open

  at-closed : (v : ℕ) → v ≡ g.var → progress_at closed_progress v ≡ Done
  at-closed v e = ap (λ u. progress_at closed_progress u) e ∙ get_or-set_same progress g.var Done NoGate closed_inside

  at-unclosed : (v : ℕ) → v ≢ g.var → progress_at closed_progress v ≡ progress_at progress v
  at-unclosed v ne = get_or-set_other progress g.var v Done NoGate ne

  settled-apart : (v : ℕ) → is_settled (progress_at progress v) ≡ true → v ≢ g.var
  settled-apart v e f = settled-not_open (progress_at progress v) e (ap (λ u. progress_at progress u) f ∙ now_open)

  still-settled : (v : ℕ) → is_settled (progress_at progress v) ≡ true → is_settled (progress_at closed_progress v) ≡ true
  still-settled v e = ap is_settled (at-unclosed v (settled-apart v e)) ∙ e

  -- a right side of the gate is settled
  right-settled : (w : ℕ) → HasRightSide g w → is_settled (progress_at progress w) ≡ true
  right-settled w side =
      elim side [
        | inl e ↦ ap (λ u. is_settled (progress_at progress u)) (sym e) ∙ settled.0
        | inr e ↦ ap (λ u. is_settled (progress_at progress u)) (sym e) ∙ settled.1
      ]

  -- a right side of a gate in the order is settled
  order-settled : (i : ℕ) (d : Gate) → i < length order → (w : ℕ) → HasRightSide (get_or order i d) w → is_settled (progress_at progress w) ≡ true
  order-settled i d below w side =
      elim side [
        | inl e ↦ ap (λ u. is_settled (progress_at progress u)) (sym e) ∙ (s.order_settled i d below).0
        | inr e ↦ ap (λ u. is_settled (progress_at progress u)) (sym e) ∙ (s.order_settled i d below).1
      ]

  path-apart : AllDiffer (variables_of path ++ g.var ∷ [])
  path-apart = subst (λ vs. AllDiffer vs) (variables_push path g) s.path_apart

  below-apart : (i : ℕ) (d : Gate) → i < length path → (get_or path i d).var ≢ g.var
  below-apart i d below e =
      let at : i < length (variables_of path) = omega (arith, length-map path (λ gate. gate.var)) in
      path-apart i (length (variables_of path)) 0 at (omega (arith, length_push (variables_of path) g.var))
      (get_or_append_left (variables_of path) (g.var ∷ []) 0 i at
      ∙ (get_or-map (λ gate. gate.var) path i d 0 below
      ∙ (e ∙ sym (get_or_push (variables_of path) g.var 0 (length (variables_of path)) refl))))

  closed-tells : (v : ℕ) → Tells c.gates path (order ++ g ∷ []) v (progress_at closed_progress v)
  closed-tells v =
      elim (cases_eq v g.var) [
        | inl e ↦
            subst (λ p. Tells c.gates path (order ++ g ∷ []) v p) (sym (at-closed v e))
            (subst (λ u. Contains (variables_of (order ++ g ∷ [])) u) (sym e) (contains-pushed order g))
        | inr ne ↦
            subst (λ p. Tells c.gates path (order ++ g ∷ []) v p) (sym (at-unclosed v ne))
            (tells-again c.gates (path ++ g ∷ []) path order (order ++ g ∷ []) v (progress_at progress v)
            (λ _ there. elim (contains-cases path g v there) [
              | inl a ↦ a
              | inr b ↦ absurd (ne (sym b))
            ])
            (contains-more order g v) (s.tells v))
      ]

  closed-after : (k : ℕ) (d : Gate) → k < length (order ++ g ∷ []) → (w : ℕ) → HasRightSide (get_or (order ++ g ∷ []) k d) w → Contains (variables_of (drop k (order ++ g ∷ []))) w → ⊥
  closed-after k d below w side there =
      elim (cases_lt k (length order)) [
        | inl lt ↦
            let side' = subst (λ x. HasRightSide x w) (get_or_append_left order (g ∷ []) d k lt) side in
            let there' = subst (λ gs. Contains (variables_of gs) w) (drop-append-le k order (g ∷ []) (omega arith)) there in
            elim (contains-cases (drop k order) g w there') [
              | inl a ↦ s.order_after k d lt w side' a
              | inr b ↦ settled-apart w (order-settled k d lt w side') (sym b)
            ]
        | inr ge ↦
            let last : length order ≡ k = omega (arith, length_push order g) in
            let side' = subst (λ x. HasRightSide x w) (get_or_push order g d k last) side in
            let there' : Contains (variables_of ([] ++ g ∷ [])) w = subst (λ gs. Contains (variables_of gs) w) (drop_at order (g ∷ []) k last) there in
            elim (contains-cases [] g w there') [
              | inl a ↦ let none : a.0 < 0 = a.1 in omega arith
              | inr b ↦ settled-apart w (right-settled w side') (sym b)
            ]
      ]

  closed-counted : count_by is_pending closed_progress + length (order ++ g ∷ []) ≡ length c.gates
  closed-counted =
      let all = s.counted in
      let less : count_by is_pending closed_progress + 1 ≡ count_by is_pending progress + 0 =
      sum-changed (λ p. cond (is_pending p) 1 0) progress g.var Open Done closed_inside now_open
      in
      omega (arith, length_push order g)

  pub closes : IsSearch c closed_progress path (order ++ g ∷ [])
  closes = record {
    size = length-set progress g.var Done ∙ s.size;
    tells = closed-tells;
    path_members = All-left (λ gate. Contains c.gates gate) path (g ∷ []) s.path_members;
    path_open =
        λ i d below.
        at-unclosed (get_or path i d).var (below-apart i d below)
        ∙ All-left (λ gate. progress_at progress gate.var ≡ Open) path (g ∷ []) s.path_open i d below;
    path_apart = AllDiffer-left (variables_of path) (g.var ∷ []) path-apart;
    path_reads =
        λ i d below.
        let first : i < length path = omega arith in
        subst (λ x. HasRightSide x (get_or path (suc i) d).var) (get_or_append_left path (g ∷ []) d i first)
        (subst (λ x. HasRightSide (get_or (path ++ g ∷ []) i d) x.var) (get_or_append_left path (g ∷ []) d (suc i) below)
        (s.path_reads i d (omega (arith, length_push path g))));
    order_members =
        All-push (λ gate. Contains c.gates gate) order g s.order_members
        (subst (λ x. Contains c.gates x) (get_or_push path g g (length path) refl) (s.path_members (length path) g (omega (arith, length_push path g))));
    order_settled =
        All-push (AreSettled closed_progress) order g
        (λ i d below. (still-settled _ (s.order_settled i d below).0, still-settled _ (s.order_settled i d below).1))
        (still-settled _ settled.0, still-settled _ settled.1);
    order_after = closed-after;
    counted = closed-counted;
  }

  pub closed-keeps : (before : List Progress) → KeepsBegun before progress → KeepsBegun before closed_progress
  closed-keeps before keeps v e =
      elim (cases_eq v g.var) [
        | inl same ↦ ap is_waiting (at-closed v same)
        | inr ne ↦ ap is_waiting (at-unclosed v ne) ∙ keeps v e
      ]

  pub closed-steps : sum_by steps_left closed_progress < sum_by steps_left progress
  closed-steps =
      let less : sum_by steps_left closed_progress + 1 ≡ sum_by steps_left progress + 0 =
      sum-changed steps_left progress g.var Open Done closed_inside now_open
      in
      omega arith

-- ---- a cycle

-- a gate reads each variable on its right sides
reads-of : (c : Circuit) (gate : Gate) (w : ℕ) → Contains c.gates gate → HasRightSide gate w → Reads c gate.var w
reads-of c gate w there side = (there.0, gate, there.1, there.2, (refl, side))

module _ (c : Circuit) (progress : List Progress) (path order : List Gate) (g : Gate) (s : IsSearch c progress (path ++ g ∷ []) order) (w : ℕ) (side : HasRightSide g w) where
  abbrev all_path : List Gate
  all_path = path ++ g ∷ []

  abbrev gate_at : ℕ → Gate
  gate_at i = get_or all_path i g

  last-gate : gate_at (length path) ≡ g
  last-gate = get_or_push path g g (length path) refl

  step-read : (i : ℕ) → suc i < length all_path → Reads c (gate_at i).var (gate_at (suc i)).var
  step-read i below = reads-of c (gate_at i) (gate_at (suc i)).var (s.path_members i g (omega arith)) (s.path_reads i g below)

  last-read : Reads c (gate_at (length path)).var w
  last-read =
      reads-of c (gate_at (length path)) w (s.path_members (length path) g (omega (arith, length_push path g)))
      (subst (λ x. HasRightSide x w) (sym last-gate) side)

  -- from a gate of the path along it, and then to w
  along : (n i : ℕ) → i + n ≡ length path → (between : List ℕ) × ReadsThrough c (gate_at i).var between w
  along zero i e = ([], subst (λ j. Reads c (gate_at j).var w) (let f : length path ≡ i = omega arith in f) last-read)
  along (suc n) i e =
      let rest = along n (suc i) (omega arith) in
      ((gate_at (suc i)).var ∷ rest.0, (step-read i (omega (arith, length_push path g)), rest.1))

  pub closes-cycle : progress_at progress w ≡ Open → IsOnCycle c w
  closes-cycle e =
      let there : Contains (variables_of all_path) w = subst (λ p. Tells c.gates all_path order w p) e (s.tells w) in
      let below : there.0 < length all_path = let l : there.0 < length (variables_of all_path) = there.1 in omega (arith, length-map all_path (λ gate. gate.var)) in
      let is : (gate_at there.0).var ≡ w = sym (get_or-map (λ gate. gate.var) all_path there.0 g w below) ∙ there.2 in
      let way = along (length path - there.0) there.0 (omega (arith, length_push path g)) in
      (way.0, subst (λ v. ReadsThrough c v way.0 w) is way.1)

-- ---- the steps, as the code takes them

-- a list that has a last element
pub last-split : {X : Type 0} (xs : List X) (x : X) → slice_get xs (length xs - 1) ≡ Some x → xs ≡ take (length xs - 1) xs ++ x ∷ []
last-split xs x e =
    let within = slice_get_within xs (length xs - 1) x e in
    sym (take-append-drop (length xs - 1) xs)
    ∙ ap (λ ys. take (length xs - 1) xs ++ ys)
    (drop_more xs (length xs - 1) x within
    ∙ (ap (λ y. y ∷ drop (length xs - 1 + 1) xs) (get_or_from_slice_get xs (length xs - 1) x x e)
    ∙ ap (λ ys. x ∷ ys) (drop_all (length xs - 1 + 1) xs (omega arith))))

module _ (c : Circuit) (before progress : List Progress) (path order : List Gate) (gate : Gate) (on : IsGoingOn c before progress path order) (last : slice_get path (length path - 1) ≡ Some gate) where
  abbrev front : List Gate
  front = take (length path - 1) path

  split_search : IsSearch c progress (front ++ gate ∷ []) order
  split_search = subst (λ p. IsSearch c progress p order) (last-split path gate last) on.search

  -- the gate that is begun
  pub number-below : (k : ℕ) → IsNext progress gate (Begin k) → k < length c.gates
  number-below k next = (subst (λ p. Tells c.gates path order next.0 p) next.2 (on.search.tells next.0)).0

  number-is : (k : ℕ) (d : Gate) (next : IsNext progress gate (Begin k)) → (get_or c.gates k d).var ≡ next.0
  number-is k d next =
      let told = subst (λ p. Tells c.gates path order next.0 p) next.2 (on.search.tells next.0) in
      sym (get_or-map (λ g. g.var) c.gates k d 0 told.0) ∙ told.1

  number-waits : (k : ℕ) (d : Gate) (next : IsNext progress gate (Begin k)) → progress_at progress (get_or c.gates k d).var ≡ Waiting k
  number-waits k d next = ap (λ u. progress_at progress u) (number-is k d next) ∙ next.2

  number-read : (k : ℕ) (d : Gate) (next : IsNext progress gate (Begin k)) → (j : ℕ) (e : Gate) → suc j ≡ length path → HasRightSide (get_or path j e) (get_or c.gates k d).var
  number-read k d next j e end =
      let at : get_or path j e ≡ gate =
      get_or_from_slice_get path j gate e (ap (λ n. slice_get path n) (let f : j ≡ length path - 1 = omega arith in f) ∙ last)
      in
      subst (λ x. HasRightSide x (get_or c.gates k d).var) (sym at)
      (subst (λ u. HasRightSide gate u) (sym (number-is k d next)) next.1)

  pub goes-on_begun : (k : ℕ) (d : Gate) → IsNext progress gate (Begin k) → (progress' : List Progress) (path' order' : List Gate) → progress' ≡ set progress (get_or c.gates k d).var Open → path' ≡ path ++ get_or c.gates k d ∷ [] → order' ≡ order → IsGoingOn c before progress' path' order'
  goes-on_begun k d next progress' path' order' e f h =
      let gate' : Gate = get_or c.gates k d in
      let member : Contains c.gates gate' = Contains-get_or c.gates k d (number-below k next) in
      let s = begins c progress path order on.search k gate' member (number-waits k d next) (number-read k d next) in
      record {
        search =
            subst (λ p. IsSearch c p path' order') (sym e)
            (subst (λ p. IsSearch c (set progress gate'.var Open) p order') (sym f)
            (subst (λ p. IsSearch c (set progress gate'.var Open) (path ++ gate' ∷ []) p) (sym h) s));
        begun = subst (λ p. KeepsBegun before p) (sym e) (begun-keeps c progress path order on.search k gate' member (number-waits k d next) before on.begun);
      }

  pub begun-nearer : (k : ℕ) (d : Gate) → IsNext progress gate (Begin k) → (progress' : List Progress) → progress' ≡ set progress (get_or c.gates k d).var Open → sum_by steps_left progress' < sum_by steps_left progress
  begun-nearer k d next progress' e =
      let gate' : Gate = get_or c.gates k d in
      let member : Contains c.gates gate' = Contains-get_or c.gates k d (number-below k next) in
      subst (λ p. sum_by steps_left p < sum_by steps_left progress) (sym e)
      (begun-steps c progress path order on.search k gate' member (number-waits k d next))

  pub goes-on_closed : AreSettled progress gate → (progress' : List Progress) (path' order' : List Gate) → progress' ≡ set progress gate.var Done → path' ≡ front → order' ≡ order ++ gate ∷ [] → IsGoingOn c before progress' path' order'
  goes-on_closed settled progress' path' order' e f h =
      let s = closes c progress front order gate split_search settled in
      record {
        search =
            subst (λ p. IsSearch c p path' order') (sym e)
            (subst (λ p. IsSearch c (set progress gate.var Done) p order') (sym f)
            (subst (λ p. IsSearch c (set progress gate.var Done) front p) (sym h) s));
        begun = subst (λ p. KeepsBegun before p) (sym e) (closed-keeps c progress front order gate split_search settled before on.begun);
      }

  pub closed-nearer : AreSettled progress gate → (progress' : List Progress) → progress' ≡ set progress gate.var Done → sum_by steps_left progress' < sum_by steps_left progress
  closed-nearer settled progress' e =
      subst (λ p. sum_by steps_left p < sum_by steps_left progress) (sym e) (closed-steps c progress front order gate split_search settled)

  pub goes-round : (w : ℕ) → IsNext progress gate (Cycle w) → IsOnCycle c w
  goes-round w next = closes-cycle c progress front order gate split_search w next.0 next.1

-- the first gate of a path
pub begins-first : (c : Circuit) (progress : List Progress) (path order : List Gate) (gate : Gate) (k : ℕ) → IsSearch c progress [] order → path ≡ [] → Contains c.gates gate → progress_at progress gate.var ≡ Waiting k → (progress' : List Progress) (path' order' : List Gate) → progress' ≡ set progress gate.var Open → path' ≡ path ++ gate ∷ [] → order' ≡ order → IsSearch c progress' path' order'
begins-first c progress path order gate k s none member waits progress' path' order' e f h =
    let begun = begins c progress [] order s k gate member waits (λ j d end. absurd (omega arith)) in
    subst (λ p. IsSearch c p path' order') (sym e)
    (subst (λ p. IsSearch c (set progress gate.var Open) p order') (sym (f ∙ ap (λ p. p ++ gate ∷ []) none))
    (subst (λ p. IsSearch c (set progress gate.var Open) (gate ∷ []) p) (sym h) begun))

-- ---- the end

not_waiting-done : (c : Circuit) (order : List Gate) (v : ℕ) (p : Progress) → Contains (variables_of c.gates) v → is_waiting p ≡ false → Tells c.gates [] order v p → Contains (variables_of order) v
not_waiting-done c order v NoGate there e t = absurd (t there)
not_waiting-done c order v (Waiting k) there e t = absurd (false≢true (sym e))
not_waiting-done c order v Open there e t = absurd (let none : t.0 < 0 = t.1 in omega arith)
not_waiting-done c order v Done there e t = t

pub is-order : (c : Circuit) (progress : List Progress) (order : List Gate) → IsSearch c progress [] order → All (λ gate. is_waiting (progress_at progress gate.var) ≡ false) c.gates → IsEvaluationOrder c.gates order
is-order c progress order s none = record {
  members = s.order_members;
  complete =
      λ k d below.
      let gate : Gate = get_or c.gates k d in
      let there : Contains (variables_of c.gates) gate.var = (k, omega (arith, length-map c.gates (λ g. g.var)), get_or-map (λ g. g.var) c.gates k d gate.var below) in
      not_waiting-done c order gate.var (progress_at progress gate.var) there (none k d below) (s.tells gate.var);
  after = s.order_after;
  count = let all = s.counted in omega arith;
}
