-- All entries of a good list, as uses without sides.
use Rattle.std.proofs.Common.{◌≡◌, ℕ, zero, suc, ◌+◌, ◌<◌, List, [], ◌∷◌, ◌++◌, length, get_or, take, refl, sym, ap, subst, ◌∙◌, arith, add-zero, append_assoc}
use Rattle.std.proofs.Math.Seq.{get_or-append_seam}
use Rattle.std.proofs.lemmas.List.{length-append, length-take-le}
use Rattle.std.specs.List.{All}
use Rattle.aig_semantics.specs.Circuits.{Circuit}
use Rattle.fair_semantics.specs.declared.entries.Kind.TheVariants.{Reach}
use Rattle.fair_semantics.specs.declared.entries.Side.TheVariants.{Any}
use Rattle.fair_semantics.specs.declared.entries.Use.{Use}
use Rattle.fair_semantics.specs.Entries.{Entry, numbered_from, numbered, entry_at, used_entries, IsSigned, Uses, AreClosed}
use Rattle.fair_semantics.specs.Validity.{IsValid}
use Rattle.cnf_unroll.specs.Laws.{AreReadable}
use Rattle.entry.specs.Laws.{IsGoodList}
use Rattle.entry.proofs.Readable.{uses_readable}
use Rattle.fair_semantics.proofs.Lists.{valid-at}
use Rattle.skeleton.specs.Reading.{uses_from}

-- ---- the uses, one by one

pub uses_count : (n : ℕ) (entries : List Entry) → length (uses_from n entries) ≡ length entries
uses_count n [] = refl
uses_count n (e ∷ entries) = ap suc (uses_count (n + 1) entries)

use_at : (n : ℕ) (entries : List Entry) (k : ℕ) (d : Use) → k < length entries
    → get_or (uses_from n entries) k d ≡ record { entry = n + k; side = Any }
use_at n [] k d below = absurd (omega arith)
use_at n (e ∷ entries) zero d below = ap (λ m. record { entry = m; side = Any }) (sym (add-zero n))
use_at n (e ∷ entries) (suc k) d below =
    let same : n + 1 + k ≡ n + suc k = omega arith in
    use_at (n + 1) entries k d (omega arith) ∙ ap (λ m. record { entry = m; side = Any }) same

pub use_here : (entries : List Entry) (k : ℕ) (d : Use) → k < length entries
    → get_or (uses_from 0 entries) k d ≡ record { entry = k; side = Any }
use_here entries k d below =
    let same : 0 + k ≡ k = omega arith in
    use_at 0 entries k d below ∙ ap (λ m. record { entry = m; side = Any }) same

-- ---- they name the entries of the list

used_from : (before entries : List Entry) → used_entries (before ++ entries) (uses_from (length before) entries) ≡ numbered_from (length before) entries
used_from before [] = refl
used_from before (e ∷ entries) =
    let all = before ++ e ∷ entries in
    let here : entry_at all (length before) ≡ e = get_or-append_seam before e entries (record { kind = Reach; clauses = []; uses = [] }) in
    let more = used_from (before ++ e ∷ []) entries in
    let long : length (before ++ e ∷ []) ≡ length before + 1 = length-append before (e ∷ []) in
    let goal : used_entries all (uses_from (length before + 1) entries) ≡ numbered_from (length before + 1) entries =
    subst (λ n. used_entries all (uses_from n entries) ≡ numbered_from n entries) long
    (subst (λ es. used_entries es (uses_from (length (before ++ e ∷ [])) entries) ≡ numbered_from (length (before ++ e ∷ [])) entries) (append_assoc before (e ∷ []) entries) more)
    in
    ap (λ x. record { number = length before; entry = x } ∷ used_entries all (uses_from (length before + 1) entries)) here
    ∙ ap (λ rest. record { number = length before; entry = e } ∷ rest) goal

pub used_all : (entries : List Entry) → used_entries entries (uses_from 0 entries) ≡ numbered entries
used_all entries = used_from [] entries

-- ---- they are closed

unsigned_all : (n : ℕ) (entries : List Entry) → All (λ u. IsSigned u → ⊥) (uses_from n entries)
unsigned_all n entries k d below signed =
    let at = use_at n entries k d (omega (arith, uses_count n entries)) in
    signed (ap (λ u. u.side) at)

in_all : (entries : List Entry) (m : ℕ) → m < length entries → Uses (uses_from 0 entries) m
in_all entries m below = (
  m,
  record { entry = m; side = Any },
  omega (arith, uses_count 0 entries),
  use_here entries m (record { entry = m; side = Any }) below,
  refl,
)

pub closed_all : (c : Circuit) (entries : List Entry) → IsGoodList c entries → AreClosed entries (uses_from 0 entries)
closed_all c entries good =
    let count = uses_count 0 entries in
    let number : (k : ℕ) (d : Use) → k < length (uses_from 0 entries) → (get_or (uses_from 0 entries) k d).entry ≡ k =
    λ k d below. ap (λ u. u.entry) (use_here entries k d (omega (arith, count)))
    in
    record {
      ascend = λ i j d lt below. (let a = number i d (omega arith) in let b = number j d below in omega arith);
      present = λ k d below. (let a = number k d below in omega (arith, count));
      walls = λ k d below signed. absurd (unsigned_all 0 entries k d below signed);
      closed = λ k d below i f within signed.
          let a = number k d below in
          let there : k < length entries = omega (arith, count) in
          let valid : IsValid c (take k entries) (entry_at entries k) = valid-at c entries k good.valid there in
          let same : (entry_at entries (get_or (uses_from 0 entries) k d).entry).uses ≡ (entry_at entries k).uses = ap (λ m. (entry_at entries m).uses) a in
          let within_k : i < length (entry_at entries k).uses = subst (λ us. i < length us) same within in
          let e : get_or (entry_at entries (get_or (uses_from 0 entries) k d).entry).uses i f ≡ get_or (entry_at entries k).uses i f = ap (λ us. get_or us i f) same in
          let earlier = valid.uses.present i f within_k in
          let number_of : (get_or (entry_at entries (get_or (uses_from 0 entries) k d).entry).uses i f).entry ≡ (get_or (entry_at entries k).uses i f).entry = ap (λ u. u.entry) e in
          let shorter : length (take k entries) ≡ k = length-take-le k entries (omega arith) in (
            omega (arith, earlier, shorter, number_of, a),
            in_all entries _ (omega (arith, earlier, shorter, number_of, a, there)),
          );
    }

pub unsigned : (entries : List Entry) → All (λ u. IsSigned u → ⊥) (uses_from 0 entries)
unsigned entries = unsigned_all 0 entries

pub readable_all : (c : Circuit) (entries : List Entry) → IsGoodList c entries → AreReadable (length c.latches) [] [] (numbered entries)
readable_all c entries good =
    subst (λ us. AreReadable (length c.latches) [] [] us) (used_all entries)
    (uses_readable c entries (uses_from 0 entries) good (closed_all c entries good))
