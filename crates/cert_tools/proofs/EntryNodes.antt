-- What trimming keeps of the entries of a good certificate, by their nodes.
use Rattle.std.proofs.Common.{◌≡◌, ℕ, zero, suc, ◌+◌, ◌<◌, true, List, [], ◌∷◌, refl, sym, ap, ◌∙◌, subst, arith, Some, All, Contains}
use Rattle.std.specs.Prelude.{◌↔◌, slice_get}
use Rattle.std.specs.List.{Any}
use Rattle.std.proofs.lemmas.List.{length-map, get_or-map}
use Rattle.std.proofs.lemmas.List.Elements.{All-map, All-weaker}
use Rattle.aig_semantics.specs.Circuits.{Circuit}
use Rattle.fair_semantics.specs.declared.entries.Use.{Use}
use Rattle.fair_semantics.specs.Entries.{Entry}
use Rattle.certificate_texts.specs.declared.certificates.Written.{Written}
use Rattle.certificate_texts.specs.declared.certificates.Certificate.{Certificate}
use Rattle.certificate.specs.Certificates.{AreProvedBehind}
use Rattle.cert_tools.specs.declared.reaching.Node.{Node}
use Rattle.cert_tools.specs.declared.reaching.Numbers.{Numbers}
use Rattle.cert_tools.specs.Kept.{Keeps, Reaches}
use Rattle.cert_tools.specs.Reaching.{is_in, Links, LeadDown, IsReachedFrom}
use Rattle.cert_tools.specs.Trimmed.{Numbered, numbered_from, UsesEntry, IsReachedEntry}
use Rattle.cert_tools.specs.TrimmingEntries.{numbers_of, entry_node, entry_nodes, needed_entries}
use Rattle.cert_tools.proofs.TrimmingLaws.{reach_so, filter_keeps}
use Rattle.cert_tools.proofs.TrimmedAgain.{written_below}

-- ---- uses are of entries before

down_more : (n : ℕ) (es : List Written) → ((i : ℕ) (e : Written) → slice_get es i ≡ Some e → All (λ u. u.entry < n + i) e.uses) → LeadDown n (entry_nodes n es)
down_more n [] low = tt
down_more n (e ∷ es) low = (
  omega arith,
  All-map (λ w. w < n) (λ (u : Use). u.entry) e.uses (All-weaker (λ (u : Use). u.entry < n + 0) (λ (u : Use). u.entry < n) (λ u h. omega (arith, h)) e.uses (low 0 e refl)),
  down_more (n + 1) es (λ i x at. All-weaker (λ (u : Use). u.entry < n + suc i) (λ (u : Use). u.entry < (n + 1) + i) (λ u h. omega (arith, h)) x.uses (low (suc i) x at)),
)

pub entries_down : (c : Circuit) (es : List Written) (all : List Entry) → AreProvedBehind c [] es all → LeadDown 0 (entry_nodes 0 es)
entries_down c es all proved = down_more 0 es (λ i e at. written_below c [] es all i e proved at)

-- ---- nodes lead as uses do

used_number : (uses : List Use) (w : ℕ) → Any (λ u. u.entry ≡ w) uses → Contains (numbers_of uses) w
used_number uses w (k, u, inside, is, same) =
    (k, (let fits = length-map uses (λ (x : Use). x.entry) in omega (arith, inside, fits)), get_or-map (λ (x : Use). x.entry) uses k u w inside ∙ ap (λ (x : Use). x.entry) is ∙ same)

number_used : (uses : List Use) (w : ℕ) → Contains (numbers_of uses) w → Any (λ u. u.entry ≡ w) uses
number_used [] w (k, inside, is) = absurd (omega (arith, inside))
number_used (u ∷ uses) w (zero, inside, is) = (0, u, omega arith, refl, is)
number_used (u ∷ uses) w (suc k, inside, is) = let (j, x, within, place, same) = number_used uses w (k, omega (arith, inside), is) in (suc j, x, omega (arith, within), place, same)

uses_link : (n : ℕ) (es : List Written) (i w : ℕ) (e : Written) → slice_get es i ≡ Some e → Any (λ u. u.entry ≡ w) e.uses → Links (entry_nodes n es) (n + i) w
uses_link n [] i w e at any = absurd (cc at)
uses_link n (x ∷ es) zero w e at any =
    let same : x ≡ e = cc at in
    (0, entry_node n x, omega arith, refl, ((let number : n ≡ n + 0 = omega arith in number), used_number x.uses w (subst (λ (y : Written). Any (λ u. u.entry ≡ w) y.uses) (sym same) any)))
uses_link n (x ∷ es) (suc i) w e at any =
    let next : (n + 1) + i ≡ n + suc i = omega arith in
    let (k, node, inside, is, h) = subst (λ v. Links (entry_nodes (n + 1) es) v w) next (uses_link (n + 1) es i w e at any) in
    (suc k, node, omega (arith, inside), is, h)

link_uses : (n : ℕ) (es : List Written) (v w : ℕ) → Links (entry_nodes n es) v w → (i : ℕ) × (v ≡ n + i) × (e : Written) × (slice_get es i ≡ Some e) × Any (λ u. u.entry ≡ w) e.uses
link_uses n [] v w (k, node, inside, is, h) = absurd (omega (arith, inside))
link_uses n (x ∷ es) v w (zero, node, inside, is, (number, at)) =
    let here : n ≡ v = ap (λ (y : Node). y.number) is ∙ number in
    (0, omega (arith, here), x, refl, number_used x.uses w (subst (λ (y : Node). Contains y.further w) (sym is) at))
link_uses n (x ∷ es) v w (suc k, node, inside, is, h) =
    let (i, number, e, at, any) = link_uses (n + 1) es v w (k, node, omega (arith, inside), is, h) in (suc i, omega (arith, number), e, at, any)

as_link : (es : List Written) (v w : ℕ) → UsesEntry es v w → Links (entry_nodes 0 es) v w
as_link es v w (e, at, any) = (let number : 0 + v ≡ v = omega arith in subst (λ n. Links (entry_nodes 0 es) n w) number (uses_link 0 es v w e at any))

as_use_of : (es : List Written) (v w : ℕ) → Links (entry_nodes 0 es) v w → UsesEntry es v w
as_use_of es v w link =
    let (i, number, e, at, any) = link_uses 0 es v w link in
    let same : v ≡ i = omega (arith, number) in
    (e, ap (slice_get es) same ∙ at, any)

-- ---- what is kept

needed_is_reached : (certificate : Certificate) (numbers : Numbers) → ((n : ℕ) → (is_in numbers n ≡ true) ↔ IsReachedFrom (entry_nodes 0 certificate.entries) (numbers_of certificate.uses) n)
    → (x : Numbered) → (is_in numbers x.0 ≡ true) ↔ IsReachedEntry certificate x
needed_is_reached certificate numbers exact x = (
  λ e. there ((exact x.0).0 e),
  λ h. (exact x.0).1 (back h),
)
  where
    there : IsReachedFrom (entry_nodes 0 certificate.entries) (numbers_of certificate.uses) x.0 → IsReachedEntry certificate x
    there (k, v, inside, is, r) =
        let (j, u, within, place, same) = number_used certificate.uses v (k, inside, is) in (
          j,
          u,
          within,
          place,
          subst (λ n. Reaches (UsesEntry certificate.entries) n x.0) (sym same)
              (reach_so (Links (entry_nodes 0 certificate.entries)) (UsesEntry certificate.entries) (λ a b. as_use_of certificate.entries a b) v x.0 r),
        )

    back : IsReachedEntry certificate x → IsReachedFrom (entry_nodes 0 certificate.entries) (numbers_of certificate.uses) x.0
    back (k, u, inside, is, r) =
        let (j, within, place) = used_number certificate.uses u.entry (k, u, inside, is, refl) in
        (j, u.entry, within, place, reach_so (UsesEntry certificate.entries) (Links (entry_nodes 0 certificate.entries)) (λ a b. as_link certificate.entries a b) u.entry x.0 r)

pub needed_are_kept : (certificate : Certificate) (numbers : Numbers) → ((n : ℕ) → (is_in numbers n ≡ true) ↔ IsReachedFrom (entry_nodes 0 certificate.entries) (numbers_of certificate.uses) n)
    → Keeps (IsReachedEntry certificate) (numbered_from 0 certificate.entries) (needed_entries numbers certificate.entries)
needed_are_kept certificate numbers exact =
    filter_keeps (IsReachedEntry certificate) (λ x. is_in numbers x.0) (needed_is_reached certificate numbers exact) (numbered_from 0 certificate.entries)
