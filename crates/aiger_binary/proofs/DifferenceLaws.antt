-- The laws of deltas, and of the sum of their groups.
use Rattle.std.proofs.Common.{◌≡◌, ℕ, ◌+◌, ◌-◌, ◌*◌, ◌/◌, ◌%◌, ◌≤◌, ◌<◌, ◌↔◌, Bool, true, false, not, ◌&&◌, cond, eqb, leb, ltb, List, [], ◌∷◌, Result, Ok, Err, refl, sym, ap, subst, ◌∙◌, arith, lit<, lit≤, inl, inr}
use Rattle.std.proofs.lemmas.Bool.{ne_eqb, leb-true, le-leb, lt-leb, lt-ltb, le-ltb, cases_lt}
use Rattle.std.proofs.Math.Nat.{le-div_iff_mul-le}
use Rattle.aig_semantics.specs.declared.limits.TheConstants.{MAX_NUMBER}
use Rattle.circuit.specs.declared.faults.ModelFault.{ModelFault}
use Rattle.circuit.specs.declared.faults.ModelFault.TheVariants.{Number, Range}
use Rattle.text_grammar.proofs.NumeralLaws.{both}
use Rattle.aiger_grammar.specs.Reading.{◌>>=◌, place}
use Rattle.aiger_grammar.specs.Deltas.{IsDelta, groups_at, delta_at, difference_at}
use Rattle.aiger_grammar.proofs.DeltaLaws.{reads_deltas}
use Rattle.aiger_sections.proofs.ReaderLaws.{Reads, bind_ok, same_ok}
use Rattle.aiger_binary.specs.Groups.{summed_at}
use Rattle.aiger_binary.proofs.GroupLoop.{step, step_at}

abbrev Read : Type 0
Read = Result (ℕ × List ℕ) ModelFault

abbrev failed : ModelFault → Read
failed fault = Err fault

-- a number that the other groups make
abbrev scaled : ℕ → ℕ → Read → Read
scaled so_far unit r = r >>= λ n rest. Ok (so_far + unit * n, rest)

scaled_more : (so_far unit group : ℕ) (r : Read) → scaled so_far unit (r >>= λ n rest. Ok (group + 128 * n, rest)) ≡ scaled (so_far + unit * group) (128 * unit) r
scaled_more so_far unit group (Ok y) = ap (λ n. Ok (n, y.1)) (unit_in so_far unit group y.0)
  where
    unit_in : (s u g x : ℕ) → s + u * (g + 128 * x) ≡ s + u * g + 128 * u * x
    unit_in s u g x = omega arith
scaled_more so_far unit group (Err fault) = refl

abbrev group_step : Bool → Bool → Bool → ModelFault → ℕ → List ℕ → Read → Read
group_step great unmarked empty fault byte bytes others = cond great (failed fault) (cond unmarked (cond empty (failed fault) (Ok (byte, bytes))) others)

group_at : (limit : ℕ) (later : Bool) (fault : ModelFault) (total byte : ℕ) (bytes : List ℕ) → groups_at limit later fault total (byte ∷ bytes)
    ≡ group_step (ltb limit (byte % 128)) (ltb byte 128) (later && eqb byte 0) fault byte bytes (groups_at ((limit - byte % 128) / 128) true fault total bytes >>= λ high rest. Ok (byte % 128 + 128 * high, rest))
unfolding groups_at
group_at limit later fault total byte bytes = refl

and_swap : (s t : Bool) → (s && t) ≡ (t && s)
and_swap true true = refl
and_swap true false = refl
and_swap false true = refl
and_swap false false = refl

-- what a group may be: the number stays within the limit
abbrev Within : ℕ → ℕ → ℕ → Type 0
Within limit unit so_far = (n : ℕ) → (n ≤ limit) ↔ (so_far + unit * n ≤ MAX_NUMBER)

within_more : (limit unit so_far group : ℕ) → Within limit unit so_far → group ≤ limit → Within ((limit - group) / 128) (128 * unit) (so_far + unit * group)
within_more limit unit so_far group within low = λ n.
    let whole = within (group + 128 * n) in
    let cut = le-div_iff_mul-le {k = 128} {x = n} {y = limit - group} (lit< tt) in (
      λ h. let a : n * 128 ≤ limit - group = cut.0 h in let b : so_far + unit * (group + 128 * n) ≤ MAX_NUMBER = whole.0 (omega arith) in there unit so_far group n b,
      λ h. cut.1 (let a : group + 128 * n ≤ limit = whole.1 (back unit so_far group n h) in omega arith),
    )
  where
    there : (u s g n : ℕ) → s + u * (g + 128 * n) ≤ MAX_NUMBER → s + u * g + 128 * u * n ≤ MAX_NUMBER
    there u s g n h = omega arith

    back : (u s g n : ℕ) → s + u * g + 128 * u * n ≤ MAX_NUMBER → s + u * (g + 128 * n) ≤ MAX_NUMBER
    back u s g n h = omega arith

last_group : (first unit so_far byte group : ℕ) (bytes : List ℕ) (empty : Bool) → group ≡ byte
    → cond empty (failed (Number first)) (Ok (so_far + unit * group, bytes)) ≡ scaled so_far unit (cond empty (failed (Number first)) (Ok (byte, bytes)))
last_group first unit so_far byte group bytes true same = refl
last_group first unit so_far byte group bytes false same = ap (λ x. Ok (so_far + unit * x, bytes)) same

great_group : (first total limit unit so_far byte : ℕ) (bytes : List ℕ) → Within limit unit so_far → limit < byte % 128
    → summed_at first total unit so_far (byte ∷ bytes) ≡ scaled so_far unit (groups_at limit (not (eqb unit 1)) (Number first) total (byte ∷ bytes))
great_group first total limit unit so_far byte bytes within great =
    let g = byte % 128 in
    let v = so_far + unit * g in
    let later = not (eqb unit 1) in
    let over : MAX_NUMBER < v = elim (cases_lt MAX_NUMBER v) [ inl lt ↦ lt | inr ge ↦ absurd (let low : g ≤ limit = (within g).1 ge in omega arith) ] in
    step_at first total unit so_far byte bytes
    ∙ ap (λ t. step t (leb 128 byte) (eqb byte 0 && not (eqb unit 1)) first v bytes (summed_at first total (128 * unit) v bytes)) (lt-ltb MAX_NUMBER v over)
    ∙ sym (ap (scaled so_far unit) (group_at limit later (Number first) total byte bytes
    ∙ ap (λ t. group_step t (ltb byte 128) (later && eqb byte 0) (Number first) byte bytes (groups_at ((limit - g) / 128) true (Number first) total bytes >>= λ high rest. Ok (g + 128 * high, rest))) (lt-ltb limit g great)))

-- a group within the limit, by both readers
mine_at : (first total limit unit so_far byte : ℕ) (bytes : List ℕ) (marked : Bool) → Within limit unit so_far → byte % 128 ≤ limit → leb 128 byte ≡ marked
    → summed_at first total unit so_far (byte ∷ bytes)
    ≡ step false marked (eqb byte 0 && not (eqb unit 1)) first (so_far + unit * (byte % 128)) bytes (summed_at first total (128 * unit) (so_far + unit * (byte % 128)) bytes)
mine_at first total limit unit so_far byte bytes marked within low is_marked =
    let v = so_far + unit * (byte % 128) in
    let others = summed_at first total (128 * unit) v bytes in
    step_at first total unit so_far byte bytes
    ∙ ap (λ t. step t (leb 128 byte) (eqb byte 0 && not (eqb unit 1)) first v bytes others) (le-ltb MAX_NUMBER v ((within (byte % 128)).0 low))
    ∙ ap (λ t. step false t (eqb byte 0 && not (eqb unit 1)) first v bytes others) is_marked

theirs_at : (total limit byte : ℕ) (later : Bool) (fault : ModelFault) (bytes : List ℕ) (unmarked : Bool) → byte % 128 ≤ limit → ltb byte 128 ≡ unmarked
    → groups_at limit later fault total (byte ∷ bytes)
    ≡ group_step false unmarked (later && eqb byte 0) fault byte bytes (groups_at ((limit - byte % 128) / 128) true fault total bytes >>= λ high rest. Ok (byte % 128 + 128 * high, rest))
theirs_at total limit byte later fault bytes unmarked low is_unmarked =
    let others : Read = groups_at ((limit - byte % 128) / 128) true fault total bytes >>= λ high rest. Ok (byte % 128 + 128 * high, rest) in
    group_at limit later fault total byte bytes
    ∙ ap (λ t. group_step t (ltb byte 128) (later && eqb byte 0) fault byte bytes others) (le-ltb limit (byte % 128) low)
    ∙ ap (λ t. group_step false t (later && eqb byte 0) fault byte bytes others) is_unmarked

ends_alike : (first total limit unit so_far byte : ℕ) (bytes : List ℕ) → Within limit unit so_far → byte % 128 ≤ limit → byte < 128
    → summed_at first total unit so_far (byte ∷ bytes) ≡ scaled so_far unit (groups_at limit (not (eqb unit 1)) (Number first) total (byte ∷ bytes))
ends_alike first total limit unit so_far byte bytes within low small =
    let later = not (eqb unit 1) in
    let g = byte % 128 in
    let same : g ≡ byte = omega arith in
    mine_at first total limit unit so_far byte bytes false within low (lt-leb 128 byte small)
    ∙ ap (λ t. cond t (failed (Number first)) (Ok (so_far + unit * g, bytes))) (and_swap (eqb byte 0) later)
    ∙ last_group first unit so_far byte g bytes (later && eqb byte 0) same
    ∙ sym (ap (scaled so_far unit) (theirs_at total limit byte later (Number first) bytes true low (lt-ltb byte 128 small)))

-- the sum of the groups is what they stand for
pub sums : (first total : ℕ) (bytes : List ℕ) (limit unit so_far : ℕ) → 1 ≤ unit → Within limit unit so_far
    → summed_at first total unit so_far bytes ≡ scaled so_far unit (groups_at limit (not (eqb unit 1)) (Number first) total bytes)
unfolding summed_at groups_at
sums first total [] limit unit so_far some within = refl
sums first total (byte ∷ bytes) limit unit so_far some within =
    let g = byte % 128 in
    elim (cases_lt limit g) [
      | inl great ↦ great_group first total limit unit so_far byte bytes within great
      | inr low ↦ elim (cases_lt byte 128) [
        | inl small ↦ ends_alike first total limit unit so_far byte bytes within low small
        | inr high ↦
            let v = so_far + unit * g in
            let next : ℕ = (limit - g) / 128 in
            mine_at first total limit unit so_far byte bytes true within low (le-leb 128 byte high)
            ∙ sums first total bytes next (128 * unit) v (omega arith) (within_more limit unit so_far g within low)
            ∙ ap (λ t. scaled v (128 * unit) (groups_at next (not t) (Number first) total bytes)) (ne_eqb (128 * unit) 1 (λ e. absurd (omega (arith, e))))
            ∙ sym (scaled_more so_far unit g (groups_at next true (Number first) total bytes))
            ∙ sym (ap (scaled so_far unit) (theirs_at total limit byte (not (eqb unit 1)) (Number first) bytes false low (le-ltb byte 128 high)))
      ]
    ]

scaled_one : (r : Read) → scaled 0 1 r ≡ r
scaled_one (Ok y) = ap (λ n. Ok (n, y.1)) (let e : 0 + 1 * y.0 ≡ y.0 = omega arith in e)
scaled_one (Err fault) = refl

pub sums_delta : (total : ℕ) (bytes : List ℕ) → delta_at total bytes ≡ summed_at (place total bytes) total 1 0 bytes
unfolding delta_at
sums_delta total bytes =
    sym (sums (place total bytes) total bytes MAX_NUMBER 1 0 (lit≤ tt) (λ n. (λ h. omega (arith, h), λ h. omega (arith, h))) ∙ scaled_one (groups_at MAX_NUMBER false (Number (place total bytes)) total bytes))

-- ---- a delta

abbrev pub Delta : ℕ → List ℕ → List ℕ → Type 0
Delta n bytes rest = (n ≤ MAX_NUMBER) × IsDelta n bytes rest

pub delta_reads : (total : ℕ) → Reads (delta_at total) Delta
delta_reads total = record { takes = λ n bytes rest e. (reads_deltas total n bytes rest).0 e; again = λ n bytes rest s. (reads_deltas total n bytes rest).1 s }

-- ---- a delta in its range

abbrev pub Difference : ℕ → ℕ → ℕ → List ℕ → List ℕ → Type 0
Difference least greatest n bytes rest = Delta n bytes rest × (least ≤ n) × (n ≤ greatest)

abbrev tested : ℕ → ℕ → ℕ → ℕ → List ℕ → Result (ℕ × List ℕ) ModelFault
tested least greatest at n rest = cond (leb least n && leb n greatest) (Ok (n, rest)) (failed (Range at))

tested_ok : (t : Bool) (at n : ℕ) (rest : List ℕ) (y : ℕ × List ℕ) → cond t (Ok (n, rest)) (failed (Range at)) ≡ Ok y → (t ≡ true) × ((n, rest) ≡ y)
tested_ok true at n rest y e = (refl, same_ok (n, rest) y e)
tested_ok false at n rest y e = absurd cc

difference_takes : (least greatest total n : ℕ) (bytes rest : List ℕ) → difference_at least greatest total bytes ≡ Ok (n, rest) → Difference least greatest n bytes rest
unfolding difference_at
difference_takes least greatest total n bytes rest e =
    let b = bind_ok (delta_at total bytes) (tested least greatest (place total bytes)) (n, rest) e in
    let t = tested_ok (leb least b.0 && leb b.0 greatest) (place total bytes) b.0 b.1 (n, rest) b.3 in
    let p = both (leb least b.0) (leb b.0 greatest) t.0 in
    let all : Difference least greatest b.0 bytes b.1 = ((delta_reads total).takes b.0 bytes b.1 b.2, leb-true _ _ p.0, leb-true _ _ p.1) in
    subst (λ y. Difference least greatest y.0 bytes y.1) t.1 all

difference_again : (least greatest total n : ℕ) (bytes rest : List ℕ) → Difference least greatest n bytes rest → difference_at least greatest total bytes ≡ Ok (n, rest)
unfolding difference_at
difference_again least greatest total n bytes rest s =
    ap (λ r. r >>= tested least greatest (place total bytes)) ((delta_reads total).again n bytes rest s.0)
    ∙ ap (λ t. cond (t && leb n greatest) (Ok (n, rest)) (failed (Range (place total bytes)))) (le-leb least n s.1)
    ∙ ap (λ t. cond t (Ok (n, rest)) (failed (Range (place total bytes)))) (le-leb n greatest s.2)

pub difference_reads : (least greatest total : ℕ) → Reads (difference_at least greatest total) (Difference least greatest)
difference_reads least greatest total = record {
  takes = λ n bytes rest e. difference_takes least greatest total n bytes rest e;
  again = λ n bytes rest s. difference_again least greatest total n bytes rest s;
}
