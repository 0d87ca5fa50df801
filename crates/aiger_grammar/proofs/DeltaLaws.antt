-- The laws of deltas.
use Rattle.std.proofs.Common.{◌≡◌, ℕ, zero, suc, ◌+◌, ◌-◌, ◌*◌, ◌/◌, ◌%◌, ◌≤◌, ◌<◌, Bool, true, false, ◌&&◌, cond, eqb, ltb, List, [], ◌∷◌, ◌++◌, Result, Ok, Err, refl, sym, ap, subst, ◌∙◌, inl, inr, arith, true≢false, lt_irrefl}
use Rattle.std.specs.List.{AllByRecursion}
use Rattle.std.proofs.lemmas.Bool.{ltb-true, lt-ltb, ltb-false, le-ltb, eqb-false, ne_eqb}
use Rattle.std.proofs.lemmas.List.Elements.{recursion_from_All}
use Rattle.aig_semantics.specs.declared.limits.TheConstants.{MAX_NUMBER}
use Rattle.circuit.specs.declared.faults.ModelFault.{ModelFault}
use Rattle.circuit.specs.declared.faults.ModelFault.TheVariants.{Number}
use Rattle.aiger_grammar.specs.Reading.{◌>>=◌, place}
use Rattle.aiger_grammar.specs.Deltas.{IsDelta, groups_at, delta_at, groups_text, delta_text, ReadsDeltas, HasOneDelta, HasOneSpelling}

abbrev Read : Type 0
Read = Result (ℕ × List ℕ) ModelFault

abbrev ok : ℕ × List ℕ → Read
ok x = Ok x

same_ok : (x y : ℕ × List ℕ) → ok x ≡ ok y → x ≡ y
same_ok x y e = cc

-- a number of at most limit stands there; it is not 0 where other groups stand in front
abbrev Fits : ℕ → Bool → ℕ → List ℕ → List ℕ → Type 0
Fits limit later n bytes rest = (n ≤ limit) × (later ≡ true → 1 ≤ n) × IsDelta n bytes rest

-- ---- what is read stands there

positive : (later : Bool) (b n : ℕ) → (later && eqb b 0) ≡ false → b ≡ n → later ≡ true → 1 ≤ n
positive true b n test same is = let ne = eqb-false b 0 test in omega (arith, ne, same)
positive false b n test same is = absurd (true≢false (sym is))

last_takes : (limit : ℕ) (later : Bool) (fault : ModelFault) (b : ℕ) (bytes : List ℕ) (n : ℕ) (rest : List ℕ) (test : Bool) → (later && eqb b 0) ≡ test → b < 128 → b % 128 ≤ limit
    → cond {A = Read} test (Err fault) (Ok (b, bytes)) ≡ Ok (n, rest) → Fits limit later n (b ∷ bytes) rest
last_takes limit later fault b bytes n rest true test small low e = absurd cc
last_takes limit later fault b bytes n rest false test small low e =
    let p = same_ok (b, bytes) (n, rest) e in
    let same : b ≡ n = ap (λ x. x.0) p in
    (omega (arith, same, small, low), positive later b n test same, inl (small, sym same, ap (λ x. x.1) p))

bind_read : (low : ℕ) (read : Read) (n : ℕ) (rest : List ℕ) → (read >>= λ high more. ok (low + 128 * high, more)) ≡ Ok (n, rest)
    → (high : ℕ) × (read ≡ Ok (high, rest)) × (n ≡ low + 128 * high)
bind_read low (Ok x) n rest e =
    let p = same_ok (low + 128 * x.0, x.1) (n, rest) e in
    (x.0, ap (λ r. Ok (x.0, r)) (ap (λ q. q.1) p), sym (ap (λ q. q.0) p))
bind_read low (Err fault) n rest e = absurd cc

-- the greatest number that may stand behind a group
abbrev left : ℕ → ℕ → ℕ
left limit b = (limit - b % 128) / 128

-- the step of the reading, by its two first tests
step : Bool → Bool → ℕ → Bool → ModelFault → ℕ → ℕ → List ℕ → Read
step great last limit later fault total b bytes =
    cond great (Err fault) (cond last (cond {A = Read} (later && eqb b 0) (Err fault) (Ok (b, bytes))) (groups_at (left limit b) true fault total bytes >>= λ high rest. ok (b % 128 + 128 * high, rest)))

step_takes : (great last : Bool) (limit : ℕ) (later : Bool) (fault : ModelFault) (total b : ℕ) (bytes : List ℕ) (n : ℕ) (rest : List ℕ)
    → ltb limit (b % 128) ≡ great → ltb b 128 ≡ last
    → ((high : ℕ) → groups_at (left limit b) true fault total bytes ≡ Ok (high, rest) → Fits (left limit b) true high bytes rest)
    → step great last limit later fault total b bytes ≡ Ok (n, rest) → Fits limit later n (b ∷ bytes) rest
unfolding step
step_takes true last limit later fault total b bytes n rest is_great is_last more e = absurd cc
step_takes false true limit later fault total b bytes n rest is_great is_last more e =
    last_takes limit later fault b bytes n rest (later && eqb b 0) refl (ltb-true b 128 is_last) (ltb-false limit (b % 128) is_great) e
step_takes false false limit later fault total b bytes n rest is_great is_last more e =
    let p = bind_read (b % 128) (groups_at (left limit b) true fault total bytes) n rest e in
    let high = more p.0 p.1 in
    let some : 1 ≤ p.0 = high.1 refl in
    let low : b % 128 ≤ limit = ltb-false limit (b % 128) is_great in
    let is : n ≡ b % 128 + 128 * p.0 = p.2 in
    let fits : p.0 ≤ left limit b = high.0 in
    (omega (arith, low, is, fits), λ _. omega (arith, is, some), inr (ltb-false b 128 is_last, p.0, some, is, high.2))

groups_take : (limit : ℕ) (later : Bool) (fault : ModelFault) (total : ℕ) (bytes : List ℕ) (n : ℕ) (rest : List ℕ)
    → groups_at limit later fault total bytes ≡ Ok (n, rest) → Fits limit later n bytes rest
unfolding groups_at step
groups_take limit later fault total [] n rest e = absurd cc
groups_take limit later fault total (b ∷ bytes) n rest e =
    step_takes (ltb limit (b % 128)) (ltb b 128) limit later fault total b bytes n rest refl refl
    (λ high h. groups_take (left limit b) true fault total bytes high rest h) e

-- ---- what stands there is read

not_zero : (later : Bool) (b : ℕ) → (later ≡ true → 1 ≤ b) → (later && eqb b 0) ≡ false
not_zero true b some = ne_eqb b 0 (let h = some refl in omega (arith, h))
not_zero false b some = refl

groups_again : (limit : ℕ) (later : Bool) (fault : ModelFault) (total : ℕ) (bytes : List ℕ) (n : ℕ) (rest : List ℕ)
    → Fits limit later n bytes rest → groups_at limit later fault total bytes ≡ Ok (n, rest)
unfolding groups_at step
groups_again limit later fault total [] n rest (low, some, s) = absurd s
groups_again limit later fault total (b ∷ bytes) n rest (low, some, inl s) =
    let small : b < 128 = s.0 in
    let is : n ≡ b = s.1 in
    let fits : b % 128 ≤ limit = omega (arith, low, is, small) in
    ap (λ t. step t (ltb b 128) limit later fault total b bytes) (le-ltb limit (b % 128) fits)
    ∙ ap (λ t. step false t limit later fault total b bytes) (lt-ltb b 128 small)
    ∙ ap (λ t. cond {A = Read} t (Err fault) (Ok (b, bytes))) (not_zero later b (λ l. let h = some l in omega (arith, h, is)))
    ∙ ap (λ r. ok (b, r)) s.2 ∙ ap (λ m. ok (m, rest)) (sym is)
groups_again limit later fault total (b ∷ bytes) n rest (low, some, inr s) =
    let big : 128 ≤ b = s.0 in
    let high = s.1 in
    let is : n ≡ b % 128 + 128 * high = s.3 in
    let fits : b % 128 ≤ limit = omega (arith, low, is) in
    let high_fits : high ≤ left limit b = omega (arith, low, is) in
    ap (λ t. step t (ltb b 128) limit later fault total b bytes) (le-ltb limit (b % 128) fits)
    ∙ ap (λ t. step false t limit later fault total b bytes) (le-ltb b 128 big)
    ∙ ap (λ r. r >>= λ h more. ok (b % 128 + 128 * h, more)) (groups_again (left limit b) true fault total bytes high rest (high_fits, λ _. s.2, s.4))
    ∙ ap (λ m. ok (m, rest)) (sym is)

pub reads_deltas : ReadsDeltas
unfolding delta_at
reads_deltas total n bytes rest = (
  λ e. let f = groups_take MAX_NUMBER false (Number (place total bytes)) total bytes n rest e in (f.0, f.2),
  λ s. groups_again MAX_NUMBER false (Number (place total bytes)) total bytes n rest (s.0, λ never. absurd (true≢false (sym never)), s.1),
)

-- ---- one number, one spelling

pub has_one_delta : HasOneDelta
has_one_delta m n [] rest more first second = absurd first
has_one_delta m n (b ∷ bytes) rest more (inl s) (inl t) = (s.1 ∙ sym t.1, sym s.2 ∙ t.2)
has_one_delta m n (b ∷ bytes) rest more (inl s) (inr t) = let x = s.0 in let y = t.0 in absurd (lt_irrefl b (omega (arith, x, y)))
has_one_delta m n (b ∷ bytes) rest more (inr s) (inl t) = let x = s.0 in let y = t.0 in absurd (lt_irrefl b (omega (arith, x, y)))
has_one_delta m n (b ∷ bytes) rest more (inr s) (inr t) =
    let p = has_one_delta s.1 t.1 bytes rest more s.4 t.4 in
    (s.3 ∙ ap (λ h. b % 128 + 128 * h) p.0 ∙ sym t.3, p.1)

-- the number has room in one group more than these
abbrev pub Small : ℕ → ℕ → Type 0
Small zero n = n < 128
Small (suc most) n = Small most (n / 128)

pub small_written : (most n : ℕ) → n < 128 → groups_text most n ≡ n ∷ []
unfolding groups_text
small_written zero n small = refl
small_written (suc most) n small = ap (λ t. cond t (n ∷ []) ((n % 128 + 128) ∷ groups_text most (n / 128))) (lt-ltb n 128 small)

pub great_written : (most n : ℕ) → 128 ≤ n → groups_text (suc most) n ≡ (n % 128 + 128) ∷ groups_text most (n / 128)
unfolding groups_text
great_written most n great = ap (λ t. cond t (n ∷ []) ((n % 128 + 128) ∷ groups_text most (n / 128))) (le-ltb n 128 great)

is_spelled : (most n : ℕ) (bytes rest : List ℕ) → Small most n → AllByRecursion (λ b. b < 256) bytes → IsDelta n bytes rest → bytes ≡ groups_text most n ++ rest
is_spelled most n [] rest small all s = absurd s
is_spelled most n (b ∷ bytes) rest small all (inl s) =
    let low : n < 128 = let x = s.0 in let is : n ≡ b = s.1 in omega (arith, x, is) in
    ap (λ x. x ∷ bytes) (sym s.1) ∙ ap (λ r. n ∷ r) s.2 ∙ ap (λ t. t ++ rest) (sym (small_written most n low))
is_spelled zero n (b ∷ bytes) rest small all (inr s) =
    let is : n ≡ b % 128 + 128 * s.1 = s.3 in let some : 1 ≤ s.1 = s.2 in absurd (lt_irrefl n (omega (arith, is, some, small)))
is_spelled (suc most) n (b ∷ bytes) rest small all (inr s) =
    let high = s.1 in
    let is : n ≡ b % 128 + 128 * high = s.3 in
    let some : 1 ≤ high = s.2 in
    let big : 128 ≤ b = s.0 in
    let byte : b < 256 = all.0 in
    let great : 128 ≤ n = omega (arith, is, some) in
    let upper : high ≡ n / 128 = omega (arith, is) in
    let lower : b ≡ n % 128 + 128 = omega (arith, is, big, byte) in
    let more = is_spelled most high bytes rest (subst (Small most) (sym upper) small) all.1 s.4 in
    ap (λ x. x ∷ bytes) lower
    ∙ ap (λ t. (n % 128 + 128) ∷ t) (more ∙ ap (λ h. groups_text most h ++ rest) upper)
    ∙ ap (λ t. t ++ rest) (sym (great_written most n great))

step_spelled : (most n : ℕ) (rest : List ℕ) (last : Bool) → ltb n 128 ≡ last → IsDelta (n / 128) (groups_text most (n / 128) ++ rest) rest
    → IsDelta n (cond last (n ∷ []) ((n % 128 + 128) ∷ groups_text most (n / 128)) ++ rest) rest
step_spelled most n rest true is more = inl (ltb-true n 128 is, refl, refl)
step_spelled most n rest false is more =
    let great : 128 ≤ n = ltb-false n 128 is in
    inr (omega arith, n / 128, omega (arith, great), omega arith, more)

pub spelled_stands : (most n : ℕ) (rest : List ℕ) → Small most n → IsDelta n (groups_text most n ++ rest) rest
unfolding groups_text
spelled_stands zero n rest small = inl (small, refl, refl)
spelled_stands (suc most) n rest small = step_spelled most n rest (ltb n 128) refl (spelled_stands most (n / 128) rest small)

pub number_small : (n : ℕ) → n ≤ MAX_NUMBER → Small 4 n
number_small n low = omega (arith, low)

pub delta_stands : (n : ℕ) (rest : List ℕ) → n ≤ MAX_NUMBER → IsDelta n (delta_text n ++ rest) rest
delta_stands n rest low = spelled_stands 4 n rest (number_small n low)

pub has_one_spelling : HasOneSpelling
has_one_spelling n bytes rest low all = (
  is_spelled 4 n bytes rest (number_small n low) (recursion_from_All (λ b. b < 256) bytes all),
  λ e. subst (λ t. IsDelta n t rest) (sym e) (delta_stands n rest low),
)
