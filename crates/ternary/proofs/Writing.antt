-- The steps of writing a simulation.
use Rattle.std.proofs.Common.{◌≡◌, ℕ, suc, ◌+◌, ◌<◌, ◌≤◌, List, [], ◌∷◌, ◌++◌, map, length, get_or, drop, set, unwrap_or, replicate, refl, sym, ap, ◌∙◌, inl, inr, arith}
use Rattle.std.specs.List.{All}
use Rattle.std.proofs.lemmas.Bool.{cases_eq, eq-eqb, ne_eqb}
use Rattle.std.proofs.lemmas.List.{drop_more, drop_all, length-map, get_or-map, length-set, length-replicate, get_or-set_same, get_or-set_other}
use Rattle.std.proofs.lemmas.List.Elements.{All-head, All-tail}
use Rattle.aig_semantics.specs.Circuits.{Circuit, defined}
use Rattle.ternary.specs.declared.values.Value3.{Value3}
use Rattle.ternary.specs.declared.values.Value3.TheVariants.{Zero}
use Rattle.ternary.specs.Simulation.{beside3, given3}
use Rattle.ternary.proofs.Besides.{beside3-none}
use Rattle.aig_semantics.proofs.Lists.{AllDiffer, AllDiffer-tail, AllDiffer-left, All-left}
use Rattle.aig_semantics.proofs.Values.{given_variables, gate_variables}
use Rattle.circuit.proofs.Writing.{get_or-replicate_same}
use Rattle.ternary.specs.Writing.{with_values3}

-- one variable more
pub with_values3_more : {T : Type 0} (vs : List ℕ) (given out : List T) (i e : ℕ) (d : T) → i < length vs → length given ≡ length vs → with_values3 (drop i vs) (drop i given) out ≡ with_values3 (drop (i + 1) vs) (drop (i + 1) given) (set out (get_or vs i e) (get_or given i d))
unfolding with_values3
with_values3_more vs given out i e d below fit =
    let inside : i < length given = omega arith in
    ap (λ xs. with_values3 xs (drop i given) out) (drop_more vs i e below)
    ∙ ap (λ xs. with_values3 (get_or vs i e ∷ drop (i + 1) vs) xs out) (drop_more given i d inside)

pub with_values3_end : {T : Type 0} (vs : List ℕ) (given out : List T) (i : ℕ) → length vs ≤ i → with_values3 (drop i vs) given out ≡ out
unfolding with_values3
with_values3_end vs given out i all = ap (λ xs. with_values3 xs given out) (drop_all i vs all)

-- the same, where the variables are those of a list
pub with_values3_of_more : {X T : Type 0} (key : X → ℕ) (xs : List X) (given out : List T) (i : ℕ) (x : X) (d : T) → i < length xs → length given ≡ length xs → with_values3 (drop i (map key xs)) (drop i given) out ≡ with_values3 (drop (i + 1) (map key xs)) (drop (i + 1) given) (set out (key (get_or xs i x)) (get_or given i d))
with_values3_of_more key xs given out i x d below fit =
    with_values3_more (map key xs) given out i 0 d (omega (arith, length-map xs key)) (fit ∙ sym (length-map xs key))
    ∙ ap (λ v. with_values3 (drop (i + 1) (map key xs)) (drop (i + 1) given) (set out v (get_or given i d))) (get_or-map key xs i x 0 below)

pub with_values3_of_end : {X T : Type 0} (key : X → ℕ) (xs : List X) (given out : List T) (i : ℕ) → length xs ≤ i → with_values3 (drop i (map key xs)) given out ≡ out
with_values3_of_end key xs given out i all = with_values3_end (map key xs) given out i (omega (arith, length-map xs key))

-- the same, where what was read is known by its place
pub with_values3_read : {T : Type 0} (vs : List ℕ) (given out : List T) (i e : ℕ) (x : T) → i < length vs → length given ≡ length vs → x ≡ get_or given i x → with_values3 (drop i vs) (drop i given) out ≡ with_values3 (drop (i + 1) vs) (drop (i + 1) given) (set out (get_or vs i e) x)
with_values3_read vs given out i e x below fit is =
    with_values3_more vs given out i e x below fit
    ∙ ap (λ y. with_values3 (drop (i + 1) vs) (drop (i + 1) given) (set out (get_or vs i e) y)) (sym is)

pub with_values3_of_read : {X T : Type 0} (key : X → ℕ) (xs : List X) (given out : List T) (i : ℕ) (d : X) (x : T) → i < length xs → length given ≡ length xs → x ≡ get_or given i x → with_values3 (drop i (map key xs)) (drop i given) out ≡ with_values3 (drop (i + 1) (map key xs)) (drop (i + 1) given) (set out (key (get_or xs i d)) x)
with_values3_of_read key xs given out i d x below fit is =
    with_values3_of_more key xs given out i d x below fit
    ∙ ap (λ y. with_values3 (drop (i + 1) (map key xs)) (drop (i + 1) given) (set out (key (get_or xs i d)) y)) (sym is)

-- ---- what the list is in the end

pub length-with_values3 : (vs : List ℕ) (given out : List Value3) → length (with_values3 vs given out) ≡ length out
unfolding with_values3
length-with_values3 [] given out = refl
length-with_values3 (v ∷ vs) [] out = refl
length-with_values3 (v ∷ vs) (b ∷ given) out = length-with_values3 vs given (set out v b) ∙ length-set out v b

pub with_values3-append : (vs us : List ℕ) (given more out : List Value3) → length vs ≡ length given → with_values3 (vs ++ us) (given ++ more) out ≡ with_values3 us more (with_values3 vs given out)
unfolding with_values3
with_values3-append [] us [] more out fit = refl
with_values3-append [] us (b ∷ given) more out fit = absurd (omega arith)
with_values3-append (v ∷ vs) us [] more out fit = absurd (omega arith)
with_values3-append (v ∷ vs) us (b ∷ given) more out fit = with_values3-append vs us given more (set out v b) (omega arith)

-- where the variables differ, each has the value beside it, and the other places are as they were
pub get_or-with_values3 : (vs : List ℕ) (given out : List Value3) (v : ℕ) → AllDiffer vs → All (λ u. u < length out) vs → get_or (with_values3 vs given out) v Zero ≡ unwrap_or (beside3 vs given v) (get_or out v Zero)
unfolding with_values3 beside3
get_or-with_values3 [] given out v differ inside = refl
get_or-with_values3 (u ∷ us) [] out v differ inside = refl
get_or-with_values3 (u ∷ us) (b ∷ given) out v differ inside =
    let rest : All (λ w. w < length (set out u b)) us = λ k d below. rw length-set (All-tail (λ w. w < length out) u us inside k d below) in
    get_or-with_values3 us given (set out u b) v (AllDiffer-tail u us differ) rest
    ∙ elim (cases_eq u v) [
      | inl e ↦
          let gone = beside3-none us given v (λ c. differ 0 (suc c.0) v (omega arith) (let l : c.0 < length us = c.1 in omega arith) (e ∙ sym c.2)) in
          let at : get_or (set out u b) v Zero ≡ b =
          ap (λ w. get_or (set out u b) w Zero) (sym e) ∙ get_or-set_same out u b Zero (All-head (λ w. w < length out) u us inside)
          in
          rw (gone, eq-eqb u v e) at
      | inr ne ↦
          rw (ne_eqb u v ne)
          (ap (λ x. unwrap_or (beside3 us given v) x) (get_or-set_other out u v b Zero (λ e. ne (sym e))))
    ]

-- ---- inputs and latches

-- inputs and latches on a list of Zero values
abbrev pub given3_list : Circuit → List Value3 → List Value3 → List Value3
given3_list c latches inputs =
    with_values3 (map (λ latch. latch.var) c.latches) latches (with_values3 c.inputs inputs (replicate (c.max + 1) Zero))

module _ (c : Circuit) (latches inputs : List Value3) (in_range : All (λ v. (1 ≤ v) × (v ≤ c.max)) (defined c)) (once : AllDiffer (defined c)) (latches_fit : length latches ≡ length c.latches) (inputs_fit : length inputs ≡ length c.inputs) where
  pub length-given3_list : length (given3_list c latches inputs) ≡ c.max + 1
  length-given3_list =
      length-with_values3 (map (λ latch. latch.var) c.latches) latches (with_values3 c.inputs inputs (replicate (c.max + 1) Zero))
      ∙ (length-with_values3 c.inputs inputs (replicate (c.max + 1) Zero) ∙ length-replicate (c.max + 1) Zero)

  pub get_or-given3_list : (v : ℕ) → get_or (given3_list c latches inputs) v Zero ≡ unwrap_or (given3 c latches inputs v) Zero
  unfolding given3
  get_or-given3_list v =
      ap (λ xs. get_or xs v Zero) (sym (with_values3-append c.inputs (map (λ latch. latch.var) c.latches) inputs latches (replicate (c.max + 1) Zero) (sym inputs_fit)))
      ∙ (get_or-with_values3 (given_variables c) (inputs ++ latches) (replicate (c.max + 1) Zero) v
      (AllDiffer-left (given_variables c) (gate_variables c) once)
      (λ k d below.
      let range = All-left (λ u. (1 ≤ u) × (u ≤ c.max)) (given_variables c) (gate_variables c) in_range k d below in
      omega (arith, length-replicate (c.max + 1) Zero))
      ∙ ap (λ x. unwrap_or (beside3 (given_variables c) (inputs ++ latches) v) x) (get_or-replicate_same (c.max + 1) v Zero))
