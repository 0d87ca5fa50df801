-- The places of entries among those that are kept, as they are counted; and what becomes of uses by them.
use Rattle.std.proofs.Common.{◌≡◌, ◌⊎◌, ℕ, zero, suc, ◌+◌, ◌<◌, ◌≤◌, Bool, true, false, cond, List, [], ◌∷◌, ◌++◌, length, take, drop, get_or, length-append, length-take-le, take-append-drop, refl, sym, ap, ap₂, ◌∙◌, inl, inr, arith, All}
use Rattle.std.specs.Prelude.{if◌then◌else◌}
use Rattle.std.specs.List.{filter}
use Rattle.std.proofs.lemmas.List.{take_more, append-nil}
use Rattle.std.proofs.lemmas.List.Elements.{filter-append, All-head, All-tail}
use Rattle.fair_semantics.specs.declared.entries.Use.{Use}
use Rattle.certificate_texts.specs.declared.certificates.Written.{Written}
use Rattle.cert_tools.specs.declared.reaching.Node.{Node}
use Rattle.cert_tools.specs.declared.reaching.Numbers.{Numbers}
use Rattle.cert_tools.specs.Reaching.{is_in}
use Rattle.cert_tools.specs.Trimmed.{Numbered, numbered_from, place_among, renumbered}
use Rattle.cert_tools.specs.TrimmingEntries.{entry_node, entry_nodes, needed_entries, place_in, ArePlaces, at_places}
use Rattle.cert_tools.proofs.KeptLaws.{In}
use Rattle.cert_tools.proofs.Places.{AllBelow, NoneBelow, place_between}

-- ---- entries with their numbers

numbered_append : (n : ℕ) (xs ys : List Written) → numbered_from n (xs ++ ys) ≡ numbered_from n xs ++ numbered_from (n + length xs) ys
numbered_append n [] ys = (let same : n ≡ n + 0 = omega arith in ap (λ k. numbered_from k ys) same)
numbered_append n (x ∷ xs) ys =
    (let same : (n + 1) + length xs ≡ n + suc (length xs) = omega arith in
    ap (λ (es : List Numbered). (n, x) ∷ es) (numbered_append (n + 1) xs ys ∙ ap (λ k. numbered_from (n + 1) xs ++ numbered_from k ys) same))

numbered_low : (n : ℕ) (es : List Written) (x : Numbered) → In x (numbered_from n es) → x.0 < n + length es
numbered_low n [] x at = absurd at
numbered_low n (e ∷ es) x (inl same) = (let number : x.0 ≡ n = ap (λ (y : Numbered). y.0) same in omega (arith, number))
numbered_low n (e ∷ es) x (inr at) = (let more = numbered_low (n + 1) es x at in omega (arith, more))

numbered_high : (n : ℕ) (es : List Written) (x : Numbered) → In x (numbered_from n es) → n ≤ x.0
numbered_high n [] x at = absurd at
numbered_high n (e ∷ es) x (inl same) = (let number : x.0 ≡ n = ap (λ (y : Numbered). y.0) same in omega (arith, number))
numbered_high n (e ∷ es) x (inr at) = (let more = numbered_high (n + 1) es x at in omega (arith, more))

in_filter : (p : Numbered → Bool) (xs : List Numbered) (x : Numbered) → In x (filter p xs) → In x xs
in_filter p [] x at = absurd at
in_filter p (y ∷ ys) x at = by (p y) (in_filter p ys x) at
  where
    by : (b : Bool) → (In x (filter p ys) → In x ys) → In x (cond b (y ∷ filter p ys) (filter p ys)) → In x (y ∷ ys)
    by true more (inl same) = inl same
    by true more (inr at) = inr (more at)
    by false more at = inr (more at)

-- the number that is tested
abbrev Test : Numbers → Numbered → Bool
Test numbers e = is_in numbers e.0

-- the entries that are kept, up to a place and from it on
split_needed : (numbers : Numbers) (es : List Written) (k : ℕ) → k ≤ length es
    → needed_entries numbers es ≡ needed_entries numbers (take k es) ++ filter (Test numbers) (numbered_from k (drop k es))
split_needed numbers es k within =
    let long = length-take-le k es within in
    let size : 0 + length (take k es) ≡ k = omega (arith, long) in
    ap (λ xs. filter (Test numbers) (numbered_from 0 xs)) (sym (take-append-drop k es))
    ∙ ap (filter (Test numbers)) (numbered_append 0 (take k es) (drop k es))
    ∙ filter-append (Test numbers) (numbered_from 0 (take k es)) (numbered_from (0 + length (take k es)) (drop k es))
    ∙ ap (λ j. needed_entries numbers (take k es) ++ filter (Test numbers) (numbered_from j (drop k es))) size

-- as many as are kept of those before it
pub place_counted : (numbers : Numbers) (es : List Written) (k : ℕ) → k ≤ length es → place_among (needed_entries numbers es) k ≡ length (needed_entries numbers (take k es))
unfolding AllBelow NoneBelow
place_counted numbers es k within =
    let front : List Numbered = needed_entries numbers (take k es) in
    let back : List Numbered = filter (Test numbers) (numbered_from k (drop k es)) in
    let size = length-take-le k es within in
    let below : AllBelow k front = λ e at. (let low = numbered_low 0 (take k es) e (in_filter (Test numbers) (numbered_from 0 (take k es)) e at) in omega (arith, low, size)) in
    let above : NoneBelow k back = λ e at. numbered_high k (drop k es) e (in_filter (Test numbers) (numbered_from k (drop k es)) e at) in
    ap (λ ks. place_among ks k) (split_needed numbers es k within) ∙ place_between k front back below above

needed_more : (numbers : Numbers) (es : List Written) (k : ℕ) (d : Written) → k < length es
    → needed_entries numbers (take (k + 1) es) ≡ needed_entries numbers (take k es) ++ filter (Test numbers) ((k, get_or es k d) ∷ [])
needed_more numbers es k d below =
    let long = length-take-le k es (omega (arith, below)) in
    let size : 0 + length (take k es) ≡ k = omega (arith, long) in
    ap (λ xs. filter (Test numbers) (numbered_from 0 xs)) (take_more es k d below)
    ∙ ap (filter (Test numbers)) (numbered_append 0 (take k es) (get_or es k d ∷ []))
    ∙ filter-append (Test numbers) (numbered_from 0 (take k es)) (numbered_from (0 + length (take k es)) (get_or es k d ∷ []))
    ∙ ap (λ j. needed_entries numbers (take k es) ++ filter (Test numbers) (numbered_from j (get_or es k d ∷ []))) size

pub needed_there : (numbers : Numbers) (es : List Written) (k : ℕ) (d : Written) → k < length es → is_in numbers k ≡ true
    → needed_entries numbers (take (k + 1) es) ≡ needed_entries numbers (take k es) ++ (k, get_or es k d) ∷ []
needed_there numbers es k d below is =
    needed_more numbers es k d below ∙ ap (λ b. needed_entries numbers (take k es) ++ cond b ((k, get_or es k d) ∷ []) []) is

pub needed_not : (numbers : Numbers) (es : List Written) (k : ℕ) (d : Written) → k < length es → is_in numbers k ≡ false
    → needed_entries numbers (take (k + 1) es) ≡ needed_entries numbers (take k es)
needed_not numbers es k d below is =
    needed_more numbers es k d below ∙ ap (λ b. needed_entries numbers (take k es) ++ cond b ((k, get_or es k d) ∷ []) []) is ∙ append-nil (needed_entries numbers (take k es))

-- one place on
pub counted_next : (numbers : Numbers) (es : List Written) (k : ℕ) (d : Written) (place next : ℕ) → k < length es → place ≡ length (needed_entries numbers (take k es))
    → next ≡ (if is_in numbers k then place + 1 else place) → next ≡ length (needed_entries numbers (take (k + 1) es))
counted_next numbers es k d place next below so_far is = by (is_in numbers k) refl is
  where
    by : (b : Bool) → is_in numbers k ≡ b → next ≡ (if b then place + 1 else place) → next ≡ length (needed_entries numbers (take (k + 1) es))
    by true there one =
        (let more = ap length (needed_there numbers es k d below there) in
        let size = length-append (needed_entries numbers (take k es)) ((k, get_or es k d) ∷ []) in omega (arith, one, so_far, more, size))
    by false there one = one ∙ so_far ∙ ap length (sym (needed_not numbers es k d below there))

-- ---- the list of places

pub place_front : (places : List ℕ) (place k : ℕ) → k < length places → place_in (places ++ place ∷ []) k ≡ place_in places k
place_front [] place k below = absurd (omega (arith, below))
place_front (p ∷ places) place zero below = refl
place_front (p ∷ places) place (suc k) below = place_front places place k (omega (arith, below))

pub place_last : (places : List ℕ) (place : ℕ) → place_in (places ++ place ∷ []) (length places) ≡ place
place_last [] place = refl
place_last (p ∷ places) place = place_last places place

-- the places of the first entries
pub record AreFirstPlaces (numbers : Numbers) (es : List Written) (k : ℕ) (places : List ℕ) (place : ℕ) : Type 0 where
  pub size : length places ≡ k
  pub each : (j : ℕ) → j < k → place_in places j ≡ place_among (needed_entries numbers es) j
  pub counted : place ≡ length (needed_entries numbers (take k es))
  pub few : place ≤ k

pub first_places : (numbers : Numbers) (es : List Written) → AreFirstPlaces numbers es 0 [] 0
first_places numbers es = record { size = refl; each = λ j below. absurd (omega (arith, below)); counted = refl; few = omega arith }

few_next : (b : Bool) (place next k : ℕ) → place ≤ k → next ≡ (if b then place + 1 else place) → next ≤ k + 1
few_next true place next k few is = omega (arith, few, is)
few_next false place next k few is = omega (arith, few, is)

pub places_next : (numbers : Numbers) (es : List Written) (k : ℕ) (d : Written) (places : List ℕ) (place next : ℕ) → k < length es → AreFirstPlaces numbers es k places place
    → next ≡ (if is_in numbers k then place + 1 else place) → AreFirstPlaces numbers es (k + 1) (places ++ place ∷ []) next
places_next numbers es k d places place next below so_far is = record {
  size = (let more = length-append places (place ∷ []) in let size = so_far.size in omega (arith, more, size));
  each = each;
  counted = counted_next numbers es k d place next below so_far.counted is;
  few = few_next (is_in numbers k) place next k so_far.few is;
}
  where
    here : place_in (places ++ place ∷ []) k ≡ place_among (needed_entries numbers es) k
    here = ap (place_in (places ++ place ∷ [])) (sym so_far.size) ∙ place_last places place ∙ so_far.counted ∙ sym (place_counted numbers es k (omega (arith, below)))

    by : (j : ℕ) → (j < k) ⊎ (j ≡ k) → place_in (places ++ place ∷ []) j ≡ place_among (needed_entries numbers es) j
    by j (inl less) = place_front places place j (let size = so_far.size in omega (arith, less, size)) ∙ so_far.each j less
    by j (inr same) = ap (place_in (places ++ place ∷ [])) same ∙ here ∙ ap (place_among (needed_entries numbers es)) (sym same)

    either : (j k : ℕ) → j < k + 1 → (j < k) ⊎ (j ≡ k)
    either zero zero h = inr refl
    either zero (suc k) h = inl (omega arith)
    either (suc j) zero h = absurd (omega (arith, h))
    either (suc j) (suc k) h = elim (either j k (omega (arith, h))) [ inl less ↦ inl (omega (arith, less)) | inr same ↦ inr (ap suc same) ]

    each : (j : ℕ) → j < k + 1 → place_in (places ++ place ∷ []) j ≡ place_among (needed_entries numbers es) j
    each j h = by j (either j k h)

pub places_done : (numbers : Numbers) (es : List Written) (k : ℕ) (places : List ℕ) (place : ℕ) → length es ≤ k → AreFirstPlaces numbers es k places place
    → ArePlaces (needed_entries numbers es) (length es) places
places_done numbers es k places place past so_far j below = so_far.each j (omega (arith, below, past))

-- the same uses
pub at_their_places : (kept : List Numbered) (count : ℕ) (places : List ℕ) (uses : List Use) → ArePlaces kept count places → All (λ u. u.entry < count) uses
    → at_places places uses ≡ renumbered kept uses
at_their_places kept count places [] are low = refl
at_their_places kept count places (u ∷ uses) are low =
    ap₂ (λ (n : ℕ) (us : List Use). record { entry = n; side = u.side } ∷ us) (are u.entry (All-head (λ (v : Use). v.entry < count) u uses low))
    (at_their_places kept count places uses are (All-tail (λ (v : Use). v.entry < count) u uses low))

-- ---- nodes

nodes_append : (n : ℕ) (es : List Written) (e : Written) → entry_nodes n (es ++ e ∷ []) ≡ entry_nodes n es ++ entry_node (n + length es) e ∷ []
nodes_append n [] e = (let same : n ≡ n + 0 = omega arith in ap (λ k. entry_node k e ∷ []) same)
nodes_append n (x ∷ es) e =
    (let same : (n + 1) + length es ≡ n + suc (length es) = omega arith in
    ap (λ (ns : List Node). entry_node n x ∷ ns) (nodes_append (n + 1) es e ∙ ap (λ k. entry_nodes (n + 1) es ++ entry_node k e ∷ []) same))

pub entry_more : (es : List Written) (k : ℕ) (d : Written) → k < length es → entry_nodes 0 (take (k + 1) es) ≡ entry_nodes 0 (take k es) ++ entry_node k (get_or es k d) ∷ []
entry_more es k d below =
    let long = length-take-le k es (omega (arith, below)) in
    let size : 0 + length (take k es) ≡ k = omega (arith, long) in
    ap (entry_nodes 0) (take_more es k d below) ∙ nodes_append 0 (take k es) (get_or es k d) ∙ ap (λ j. entry_nodes 0 (take k es) ++ entry_node j (get_or es k d) ∷ []) size
