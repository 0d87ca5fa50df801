-- Closed uses stand alone: their entries have the same sets over each other as in the list, and allow the same.
use Rattle.std.proofs.Common.{◌≡◌, ℕ, zero, suc, ◌+◌, ◌<◌, Bool, true, false, ◌&&◌, List, [], ◌∷◌, length, get_or, refl, sym, ap, ap₂, ◌∙◌, subst, inr, arith}
use Rattle.std.proofs.Math.Path.{fun_ext}
use Rattle.std.specs.List.{All, list_all}
use Rattle.std.proofs.lemmas.Bool.{and_parts, and_from}
use Rattle.std.proofs.lemmas.List.Elements.{All-head, All-tail, Contains-get_or}
use Rattle.fair_semantics.specs.declared.entries.Use.{Use}
use Rattle.fair_semantics.specs.Entries.{Entry, Numbered, numbered_from, numbered, used_entries, entry_at, sets_of, IsSigned, Uses, AreClosed}
use Rattle.fair_semantics.specs.Allowing.{allows_by, all_allow, allow}
use Rattle.fair_semantics.specs.Laws.{StandAlone}
use Rattle.fair_semantics.proofs.Sets.{set_over-agree, alone, IsClosedUse}

-- ---- a test of each numbered entry

pub numbered-at : (p : Numbered → Bool) (m : ℕ) (entries : List Entry) (k i : ℕ) → k < length entries → m + k ≡ i
    → list_all p (numbered_from m entries) ≡ true → p (record { number = i; entry = entry_at entries k }) ≡ true
numbered-at p m [] k i below place h = absurd (omega arith)
numbered-at p m (e ∷ entries) zero i below place h =
    let same : m ≡ i = omega arith in
    subst (λ n. p (record { number = n; entry = e }) ≡ true) same (and_parts _ _ h).0
numbered-at p m (e ∷ entries) (suc k) i below place h =
    numbered-at p (m + 1) entries k i (omega arith) (omega arith) (and_parts _ _ h).1

pub numbered-all : (p : Numbered → Bool) (m : ℕ) (entries : List Entry)
    → ((k i : ℕ) → k < length entries → m + k ≡ i → p (record { number = i; entry = entry_at entries k }) ≡ true)
    → list_all p (numbered_from m entries) ≡ true
numbered-all p m [] h = refl
numbered-all p m (e ∷ entries) h =
    and_from _ _ (h 0 m (omega arith) (omega arith))
    (numbered-all p (m + 1) entries (λ k i below place. h (suc k) i (omega arith) (omega arith)))

-- ---- what used entries allow

pub all_allow-agree : (known other : ℕ → List Bool → Bool) (before : List Entry) (uses : List Use) (states : List (List Bool))
    → All (λ u. known u.entry ≡ other u.entry) uses
    → all_allow known (used_entries before uses) states ≡ all_allow other (used_entries before uses) states
all_allow-agree known other before [] states h = refl
all_allow-agree known other before (u ∷ uses) states h =
    let P : Use → Type 0 = λ v. known v.entry ≡ other v.entry in
    ap₂ (λ a b. a && b)
    (ap (λ set. allows_by (entry_at before u.entry).kind set states) (All-head P u uses h))
    (all_allow-agree known other before uses states (All-tail P u uses h))

pub all_allow-each : (sets : ℕ → List Bool → Bool) (before : List Entry) (uses : List Use) (states : List (List Bool))
    → All (λ u. allows_by (entry_at before u.entry).kind (sets u.entry) states ≡ true) uses
    → all_allow sets (used_entries before uses) states ≡ true
all_allow-each sets before [] states h = refl
all_allow-each sets before (u ∷ uses) states h =
    let P : Use → Type 0 = λ v. allows_by (entry_at before v.entry).kind (sets v.entry) states ≡ true in
    and_from _ _ (All-head P u uses h) (all_allow-each sets before uses states (All-tail P u uses h))

-- ---- closed uses

pub Uses-each : (uses : List Use) → All (λ u. Uses uses u.entry) uses
Uses-each uses k d inside =
    let h = Contains-get_or uses k d inside in
    (h.0, get_or uses k d, h.1, h.2, refl)

closed_uses : (before : List Entry) (uses : List Use) → AreClosed before uses → All (IsClosedUse before uses) uses
closed_uses before uses h = λ k d inside. (h.present k d inside, h.closed k d inside)

sets-alone : (before : List Entry) (uses : List Use) → AreClosed before uses → (n : ℕ) → Uses uses n → (s : List Bool)
    → sets_of (used_entries before uses) n s ≡ sets_of (numbered before) n s
sets-alone before uses h n used s =
    alone before uses uses (λ m t. false) s h.ascend (closed_uses before uses h) (λ m there. inr there) n used

pub uses_stand_alone : (before : List Entry) (uses : List Use) → AreClosed before uses → StandAlone before uses
uses_stand_alone before uses h =
    let same = sets-alone before uses h in
    let known : ℕ → List Bool → Bool = sets_of (used_entries before uses) in
    let other : ℕ → List Bool → Bool = sets_of (numbered before) in
    let each : All (λ u. known u.entry ≡ other u.entry) uses = λ k d inside. fun_ext (same _ (Uses-each uses k d inside)) in
    record {
      sets = same;
      allowed = λ states. all_allow-agree known other before uses states each;
      entry = λ e own s.
          let named : All (λ u. IsSigned u → known u.entry s ≡ other u.entry s) uses =
          λ k d inside signed. same _ (Uses-each uses k d inside) s
          in
          set_over-agree known other e s (subst (λ us. All (λ u. IsSigned u → known u.entry s ≡ other u.entry s) us) (sym own) named);
    }

pub uses_allow : (entries : List Entry) (uses : List Use) (states : List (List Bool))
    → AreClosed entries uses → allow (numbered entries) states ≡ true → allow (used_entries entries uses) states ≡ true
uses_allow entries uses states h all =
    let sets : ℕ → List Bool → Bool = sets_of (numbered entries) in
    let test : Numbered → Bool = λ e. allows_by e.entry.kind (sets e.number) states in
    let each : All (λ u. allows_by (entry_at entries u.entry).kind (sets u.entry) states ≡ true) uses =
    λ k d inside. numbered-at test 0 entries (get_or uses k d).entry (get_or uses k d).entry (h.present k d inside) (omega arith) all
    in
    (uses_stand_alone entries uses h).allowed states ∙ all_allow-each sets entries uses states each
