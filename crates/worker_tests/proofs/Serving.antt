-- Properties that are put together in ascending order may be served.
use Rattle.std.proofs.Common.{ℕ, ◌+◌, ◌<◌, ◌≤◌, List, [], ◌∷◌, ◌++◌, length, get_or, arith}
use Rattle.std.proofs.lemmas.List.{length-append}
use Rattle.std.proofs.lemmas.List.Elements.{All-nil, All-push, All-weaker}
use Rattle.std.proofs.lemmas.List.Quantifiers.{all_pairs_push}
use Rattle.aig_semantics.specs.Circuits.{Circuit}
use Rattle.fair_workers.specs.Runs.{AreServed, most_properties}
use Rattle.worker_tests.specs.Serving.{AreFirst}

pub first-none : AreFirst 0 []
first-none = record { ascend = λ i j d before inside. absurd (omega arith); below = All-nil (λ i. i < 0); few = omega arith }

pub first-more : (n : ℕ) (js : List ℕ) → AreFirst n js → AreFirst (n + 1) js
first-more n js h = record {
  ascend = h.ascend;
  below = All-weaker (λ i. i < n) (λ i. i < n + 1) (λ i less. omega (arith, less)) js h.below;
  few = (let few = h.few in omega (arith, few));
}

pub first-push : (n : ℕ) (js : List ℕ) → AreFirst n js → AreFirst (n + 1) (js ++ n ∷ [])
first-push n js h = record {
  ascend = all_pairs_push (λ i j. i < j) js n h.ascend h.below;
  below = All-push (λ i. i < n + 1) js n (All-weaker (λ i. i < n) (λ i. i < n + 1) (λ i less. omega (arith, less)) js h.below) (omega arith);
  few = (let few = h.few in omega (arith, few, length-append js (n ∷ [])));
}

pub served-first : (c : Circuit) (n : ℕ) (js : List ℕ) → AreFirst n js → n ≤ length c.justice → n ≤ 64 → AreServed c js
served-first c n js h there few = record {
  ascend = h.ascend;
  inside = All-weaker (λ i. i < n) (λ i. i < length c.justice) (λ i less. omega (arith, less, there)) js h.below;
  few = (let short = h.few in omega (arith, short, few));
}
