-- A trimmed certificate is its own trimming.
use Rattle.std.proofs.Common.{◌≡◌, ℕ, zero, suc, ◌+◌, ◌<◌, ◌≤◌, List, [], ◌∷◌, ◌++◌, map, length, get_or, refl, sym, ap, ap₂, ◌∙◌, subst, inl, inr, arith, append_assoc, length-append, Option, Some, Result, Ok, All}
use Rattle.std.specs.Prelude.{slice_get, nat_lt}
use Rattle.std.specs.List.{Any, AllZip}
use Rattle.std.proofs.lemmas.Option.{slice_get_within}
use Rattle.std.proofs.lemmas.List.{length-map, get_or-map, append-nil}
use Rattle.std.proofs.lemmas.List.Elements.{All-head, All-tail, All-contains, All-weaker}
use Rattle.aig_semantics.specs.Circuits.{Circuit}
use Rattle.proof_semantics.specs.declared.literals.Lit.{Lit}
use Rattle.fair_semantics.specs.declared.entries.Use.{Use}
use Rattle.fair_semantics.specs.Entries.{Entry, entry_at, used_entries}
use Rattle.cnf_unroll.specs.Obligations.{obligation_clauses, skeleton_clauses}
use Rattle.certificate_lines.specs.declared.words.Version.TheVariants.{Two}
use Rattle.entry.specs.declared.faults.EntryFault.{EntryFault}
use Rattle.entry.specs.Proved.{obligation_of}
use Rattle.certificate_texts.specs.declared.certificates.Written.{Written}
use Rattle.certificate_texts.specs.declared.certificates.Certificate.{Certificate}
use Rattle.certificate.specs.Certificates.{entry_with, AreProvedBehind, IsGoodCertificate}
use Rattle.fair_semantics.proofs.Sets.{entry_at-place}
use Rattle.cert_tools.specs.Kept.{Keeps, Reaches}
use Rattle.cert_tools.specs.TrimmedProofs.{IsTrimmedProof, AreTrimmedProofs}
use Rattle.cert_tools.specs.Trimmed.{Numbered, numbered_from, UsesEntry, IsReachedEntry, place_among, renumbered, IsTrimmedEntry, IsTrimmedCertificate}
use Rattle.cert_tools.proofs.KeptLaws.{In, in_right, kept_is, kept_in, keeps_all, zip_length, leads_so}
use Rattle.cert_tools.proofs.Places.{place_first, one_below, none_counted, AllBelow, NoneBelow, place_between}
use Rattle.cert_tools.proofs.SameClauses.{obligation_same, skeleton_same}
use Rattle.cert_tools.proofs.TrimmedGood.{trimmed_again}
use Rattle.cert_tools.proofs.GoodTrimmed.{filter_length, many_entries, built_of, refuting_counted}
use Rattle.cert_tools.proofs.TrimmedCertificates.{Counts, one, as_use, as_entry, AllCounted, Built, used_as, all_counted, uses_counted, entry_counts, refuting_counts, above_head, below_more, below_later}

-- ---- numbers of all entries

numbered_none : (n : ℕ) (es : List Written) → NoneBelow n (numbered_from n es)
unfolding NoneBelow
numbered_none n [] x at = absurd at
numbered_none n (e ∷ es) x (inl same) = (let h : x.0 ≡ n = ap (λ (y : Numbered). y.0) same in omega (arith, h))
numbered_none n (e ∷ es) x (inr at) = (let h = numbered_none (n + 1) es x at in omega (arith, h))

place_all : (n m : ℕ) (es : List Written) → m ≤ length es → place_among (numbered_from n es) (n + m) ≡ m
place_all n zero es within = ap (place_among (numbered_from n es)) (let same : n + 0 ≡ n = omega arith in same) ∙ none_counted n (numbered_from n es) (numbered_none n es)
place_all n (suc m) [] within = absurd (omega (arith, within))
place_all n (suc m) (e ∷ es) within =
    let next : n + suc m ≡ (n + 1) + m = omega arith in
    let here = one_below n (n + suc m) (omega arith) in
    let first = place_first (n, e) (numbered_from (n + 1) es) (n + suc m) in
    let more : place_among (numbered_from (n + 1) es) (n + suc m) ≡ m = ap (place_among (numbered_from (n + 1) es)) next ∙ place_all (n + 1) m es (omega (arith, within)) in
    omega (arith, here, first, more)

uses_stay : (es : List Written) (uses : List Use) → All (λ u. u.entry ≤ length es) uses → renumbered (numbered_from 0 es) uses ≡ uses
uses_stay es [] all = refl
uses_stay es (u ∷ uses) all =
    let U : Use → Type 0 = λ v. v.entry ≤ length es in
    ap₂ (λ (n : ℕ) (us : List Use). record { entry = n; side = u.side } ∷ us) (ap (place_among (numbered_from 0 es)) (let same : u.entry ≡ 0 + u.entry = omega arith in same) ∙ place_all 0 u.entry es (All-head U u uses all)) (uses_stay es uses (All-tail U u uses all))

renumbered_within : (kept : List Numbered) (uses : List Use) (most : ℕ) → length kept ≡ most → All (λ u. u.entry ≤ most) (renumbered kept uses)
renumbered_within kept [] most size k d below = absurd (omega (arith, below))
renumbered_within kept (u ∷ uses) most size zero d below = (let h = filter_length (λ e. nat_lt e.0 u.entry) kept in omega (arith, h, size))
renumbered_within kept (u ∷ uses) most size (suc k) d below = renumbered_within kept uses most size k d (omega (arith, below))

-- ---- one list of entries

pub ok_same : (a b : List (List Lit)) → ◌≡◌ {A = List (Result (List Lit) EntryFault)} (map Ok a) (map Ok b) → a ≡ b
ok_same [] [] e = refl
ok_same [] (y ∷ b) e = absurd (cc e)
ok_same (x ∷ a) [] e = absurd (cc e)
ok_same (x ∷ a) (y ∷ b) e = ap₂ (λ (k : List Lit) (ks : List (List Lit)). k ∷ ks) (cc e) (ok_same a b (cc e))

pub proved_one : (c : Circuit) (before : List Entry) (es : List Written) (all other : List Entry) → AreProvedBehind c before es all → AreProvedBehind c before es other → all ≡ other
proved_one c before [] all other a b = a ∙ sym b
proved_one c before (e ∷ es) all other (k, are, first, more) (l, too, second, others) =
    let same : k ≡ l = ok_same k l (sym are ∙ too) in
    proved_one c (before ++ entry_with e k ∷ []) es all other more (subst (λ ks. AreProvedBehind c (before ++ entry_with e ks ∷ []) es other) (sym same) others)

-- ---- proofs

proofs_same : (f g : ℕ → List (List Lit)) → ((i : ℕ) → f i ≡ g i) → (i : ℕ) (proofs kept : List (List (List ℕ))) → AreTrimmedProofs f i proofs kept → AreTrimmedProofs g i proofs kept
proofs_same f g each i [] kept h = h
proofs_same f g each i (proof ∷ proofs) [] h = h
proofs_same f g each i (proof ∷ proofs) (k ∷ kept) h =
    (subst (λ given. IsTrimmedProof given proof k) (each i) h.0, proofs_same f g each (suc i) proofs kept h.1)

proofs_again : (f : ℕ → List (List Lit)) (i : ℕ) (proofs kept : List (List (List ℕ))) → AreTrimmedProofs f i proofs kept → AreTrimmedProofs f i kept kept
proofs_again f i [] kept none = subst (λ ks. AreTrimmedProofs f i ks ks) (sym none) refl
proofs_again f i (proof ∷ proofs) [] h = absurd h
proofs_again f i (proof ∷ proofs) (k ∷ kept) h = (trimmed_again (f i) proof k h.0, proofs_again f (suc i) proofs kept h.1)

-- ---- written entries and what they say

pub written_below : (c : Circuit) (before : List Entry) (es : List Written) (all : List Entry) (i : ℕ) (e : Written) → AreProvedBehind c before es all → slice_get es i ≡ Some e
    → All (λ u. u.entry < length before + i) e.uses
written_below c before [] all i e proved at = absurd (cc at)
written_below c before (x ∷ es) all zero e (clauses, are, first, others) at =
    let same : x ≡ e = cc at in
    subst (λ (y : Written). All (λ u. u.entry < length before + 0) y.uses) same
    (All-weaker (λ u. u.entry < length before) (λ u. u.entry < length before + 0) (λ u h. omega (arith, h)) x.uses first.closed.present)
written_below c before (x ∷ es) all (suc i) e (clauses, are, first, others) at =
    let size = length-append before (entry_with x clauses ∷ []) in
    All-weaker (λ u. u.entry < length (before ++ entry_with x clauses ∷ []) + i) (λ u. u.entry < length before + suc i) (λ u h. omega (arith, h, size)) e.uses
    (written_below c (before ++ entry_with x clauses ∷ []) es all i e others at)

pub behind_there : (c : Circuit) (before : List Entry) (es : List Written) (all : List Entry) → AreProvedBehind c before es all → (more : List Entry) × (all ≡ before ++ more)
behind_there c before [] all is = ([], is ∙ sym (append-nil before))
behind_there c before (e ∷ es) all (clauses, are, first, others) =
    let (more, split) = behind_there c (before ++ entry_with e clauses ∷ []) es all others in
    (entry_with e clauses ∷ more, split ∙ append_assoc before (entry_with e clauses ∷ []) more)

entry_is : (c : Circuit) (before : List Entry) (es : List Written) (all : List Entry) (i : ℕ) (e : Written) → AreProvedBehind c before es all → slice_get es i ≡ Some e
    → (clauses : List (List Lit)) × (entry_at all (length before + i) ≡ entry_with e clauses)
entry_is c before [] all i e proved at = absurd (cc at)
entry_is c before (x ∷ es) all zero e (clauses, are, first, others) at =
    let same : x ≡ e = cc at in
    let (more, split) = behind_there c (before ++ entry_with x clauses ∷ []) es all others in
    let number : length before + 0 ≡ length before = omega arith in (
      clauses,
      ap (entry_at all) number ∙ ap (λ es2. entry_at es2 (length before)) (split ∙ append_assoc before (entry_with x clauses ∷ []) more) ∙ entry_at-place before (entry_with x clauses) more
          ∙ ap (λ (y : Written). entry_with y clauses) same,
    )
entry_is c before (x ∷ es) all (suc i) e (clauses, are, first, others) at =
    let size = length-append before (entry_with x clauses ∷ []) in
    let number : length before + suc i ≡ length (before ++ entry_with x clauses ∷ []) + i = omega (arith, size) in
    let (ks, is) = entry_is c (before ++ entry_with x clauses ∷ []) es all i e others at in
    (ks, ap (entry_at all) number ∙ is)

numbered_get : (n : ℕ) (es : List Written) (i : ℕ) (e : Written) → In (n + i, e) (numbered_from n es) → slice_get es i ≡ Some e
unfolding NoneBelow
numbered_get n [] i e at = absurd at
numbered_get n (x ∷ es) zero e (inl same) = ap (λ (y : Numbered). Some y.1) (sym same)
numbered_get n (x ∷ es) (suc i) e (inl same) = absurd (let h : n + suc i ≡ n = ap (λ (y : Numbered). y.0) same in omega (arith, h))
numbered_get n (x ∷ es) zero e (inr at) = absurd (let h = numbered_none (n + 1) es (n + 0, e) at in omega (arith, h))
numbered_get n (x ∷ es) (suc i) e (inr at) =
    let next : n + suc i ≡ (n + 1) + i = omega arith in numbered_get (n + 1) es i e (subst (λ k. In (k, e) (numbered_from (n + 1) es)) next at)

zip_at : (P : Numbered → Written → Type 0) (ks : List Numbered) (ts : List Written) (i : ℕ) (k : Numbered) → AllZip P ks ts → slice_get ks i ≡ Some k
    → (t : Written) × (slice_get ts i ≡ Some t) × P k t
zip_at P [] ts i k zip at = absurd (cc at)
zip_at P (x ∷ ks) [] i k zip at = absurd zip
zip_at P (x ∷ ks) (t ∷ ts) zero k zip at = let same : x ≡ k = cc at in (t, refl, subst (λ (y : Numbered). P y t) same zip.0)
zip_at P (x ∷ ks) (t ∷ ts) (suc i) k zip at = zip_at P ks ts i k zip.1 at

-- ---- trimmed again

module _ (c : Circuit) (whole trimmed : Certificate) (kept : List Numbered) (reached : Keeps (IsReachedEntry whole) (numbered_from 0 whole.entries) kept)
    (all : List Entry) (proved : AreProvedBehind c [] whole.entries all) (zip : AllZip (IsTrimmedEntry c all kept) kept trimmed.entries)
    (uses : trimmed.uses ≡ renumbered kept whole.uses) (count : length all ≡ length whole.entries) (low_uses : All (λ u. u.entry < length all) whole.uses) (built : Built c whole kept reached all [] trimmed.entries) where
  abbrev r : ℕ → ℕ
  r n = place_among kept n

  abbrev C : ℕ → Type 0
  C n = Counts c whole kept reached n

  abbrev mine : List Numbered
  mine = numbered_from 0 trimmed.entries

  size : length kept ≡ length trimmed.entries
  size = zip_length (IsTrimmedEntry c all kept) kept trimmed.entries zip

  kept_slice : (n : ℕ) (es : List Written) (ks : List Numbered) (x : Numbered) → Keeps (IsReachedEntry whole) (numbered_from n es) ks → In x ks → slice_get ks (place_among ks x.0) ≡ Some x
  unfolding NoneBelow
  kept_slice n [] ks x none at = absurd (subst (In x) none at)
  kept_slice n (e ∷ es) ks x (inr (gone, keeps)) at = kept_slice (n + 1) es ks x keeps at
  kept_slice n (e ∷ es) ks x (inl (p, (rest, is, keeps))) at =
      subst (λ ls. slice_get ls (place_among ls x.0) ≡ Some x) (sym is) (elim (subst (In x) is at) [
        | inl same ↦ (
            let number : x.0 ≡ n = ap (λ (y : Numbered). y.0) same in
            let place : place_among ((n, e) ∷ rest) x.0 ≡ 0 = ap (place_among ((n, e) ∷ rest)) number ∙ none_counted n ((n, e) ∷ rest) (above_head c whole kept reached n e es rest keeps) in
            ap (slice_get ((n, e) ∷ rest)) place ∙ ap (λ (y : Numbered). Some y) (sym same))
        | inr later_one ↦ (
            let above = numbered_none (n + 1) es x (kept_in (IsReachedEntry whole) (numbered_from (n + 1) es) rest x keeps later_one) in
            let here = one_below n x.0 (omega (arith, above)) in
            let first = place_first (n, e) rest x.0 in
            let place : place_among ((n, e) ∷ rest) x.0 ≡ suc (place_among rest x.0) = omega (arith, here, first) in
            ap (slice_get ((n, e) ∷ rest)) place ∙ kept_slice (n + 1) es rest x keeps later_one)
      ])

  -- each place is that of an entry that is kept
  kept_place : (from back : List Numbered) (n : ℕ) (es : List Written) → kept ≡ from ++ back → AllBelow n from → Keeps (IsReachedEntry whole) (numbered_from n es) back → (p : ℕ) → p < length back
      → (m : ℕ) × (e : Written) × In (m, e) kept × (r m ≡ length from + p)
  kept_place from back n [] split below none p inside = absurd (let h = ap length none in omega (arith, inside, h))
  kept_place from back n (e ∷ es) split below (inr (gone, keeps)) p inside = kept_place from back (n + 1) es split (below_later c whole kept reached n (n + 1) from below refl) keeps p inside
  kept_place from back n (e ∷ es) split below (inl (q, (rest, is, keeps))) zero inside =
      let whole_split : kept ≡ from ++ (n, e) ∷ rest = split ∙ ap (λ (ks : List Numbered). from ++ ks) is in
      let place : r n ≡ length from = ap (λ ks. place_among ks n) whole_split ∙ place_between n from ((n, e) ∷ rest) below (above_head c whole kept reached n e es rest keeps) in
      (n, e, subst (In (n, e)) (sym whole_split) (in_right (n, e) from ((n, e) ∷ rest) (inl refl)), omega (arith, place))
  kept_place from back n (e ∷ es) split below (inl (q, (rest, is, keeps))) (suc p) inside =
      let more = length-append from ((n, e) ∷ []) in
      let fits = ap length is in
      let (m, x, at, place) = kept_place (from ++ (n, e) ∷ []) rest (n + 1) es (split ∙ ap (λ (ks : List Numbered). from ++ ks) is ∙ sym (append_assoc from ((n, e) ∷ []) rest))
      (below_more c whole kept reached n (n + 1) from (n, e) below refl refl) keeps p (omega (arith, inside, fits)) in
      (m, x, at, omega (arith, place, more))

  -- an entry that is kept is one of the whole certificate
  kept_get : (m : ℕ) (e : Written) → In (m, e) kept → slice_get whole.entries m ≡ Some e
  kept_get m e at =
      let number : m ≡ 0 + m = omega arith in
      numbered_get 0 whole.entries m e (subst (λ k. In (k, e) (numbered_from 0 whole.entries)) number (kept_in (IsReachedEntry whole) (numbered_from 0 whole.entries) kept (m, e) reached at))

  step_as : (v w : ℕ) → C v → UsesEntry whole.entries v w → C w × UsesEntry trimmed.entries (r v) (r w)
  unfolding Counts
  step_as v w (first, at) (e, place, (k, u, inside, is, same)) =
      let same_entry : first ≡ e = some_same (sym (kept_get v first at) ∙ place) in
      let here : In (v, e) kept = subst (λ (x : Written). In (v, x) kept) same_entry at in
      let low = written_below c [] whole.entries all v e proved place in
      let within = slice_get_within whole.entries v e place in
      let below : u.entry < length whole.entries = (let h = All-contains (λ (x : Use). x.entry < 0 + v) e.uses u low (k, inside, is) in omega (arith, h, within)) in
      let counts : C u.entry = entry_counts c whole kept reached v e place here u (k, inside, is) below in
      let (t, t_at, to) = zip_at (IsTrimmedEntry c all kept) kept trimmed.entries (r v) (v, e) zip (kept_slice 0 whole.entries kept (v, e) reached here) in
      let renamed : Use → Use = λ x. record { entry = r x.entry; side = x.side } in
      let fits = length-map e.uses renamed in
      let any : Any (λ x. x.entry ≡ r w) (renumbered kept e.uses) = (k, renamed u, omega (arith, inside, fits), get_or-map renamed e.uses k u (renamed u) inside ∙ ap renamed is, ap r same) in
      (subst C same counts, (t, t_at, subst (λ us. Any (λ x. x.entry ≡ r w) us) (sym to.uses) any))
    where
      some_same : {x y : Written} → ◌≡◌ {A = Option Written} (Some x) (Some y) → x ≡ y
      some_same e = cc e

  reached_again : (x : Numbered) → In x mine → IsReachedEntry trimmed x
  unfolding Counts AllBelow
  reached_again x at =
      let inside : x.0 < length kept = (let h = numbered_low 0 trimmed.entries x at in let s = size in omega (arith, h, s)) in
      let (m, e, here, place) = kept_place [] kept 0 whole.entries refl (λ y never. absurd never) reached x.0 inside in
      let (k, u, within, is, (through, leads)) = kept_is (IsReachedEntry whole) (numbered_from 0 whole.entries) kept (m, e) reached here in
      let low : u.entry < length whole.entries = (let h = All-contains (λ (v : Use). v.entry < length all) whole.uses u low_uses (k, within, is) in omega (arith, h, count)) in
      let refuting : C u.entry = refuting_counts c whole kept reached u (k, within, is) low in
      let lead = leads_so (UsesEntry whole.entries) (UsesEntry trimmed.entries) r C step_as u.entry through m refuting leads in
      let renamed : Use → Use = λ y. record { entry = r y.entry; side = y.side } in
      let fits = length-map whole.uses renamed in
      let number : r m ≡ x.0 = omega (arith, place) in
      let any : Any (λ v. Reaches (UsesEntry trimmed.entries) v.entry x.0) (renumbered kept whole.uses) =
      (k, renamed u, omega (arith, within, fits), get_or-map renamed whole.uses k u (renamed u) within ∙ ap renamed is, subst (Reaches (UsesEntry trimmed.entries) (r u.entry)) number lead.1) in
      subst (λ us. Any (λ v. Reaches (UsesEntry trimmed.entries) v.entry x.0) us) (sym uses) any
    where
      numbered_low : (n : ℕ) (es : List Written) (y : Numbered) → In y (numbered_from n es) → y.0 < n + length es
      numbered_low n [] y never = absurd never
      numbered_low n (e ∷ es) y (inl same) = (let h : y.0 ≡ n = ap (λ (z : Numbered). z.0) same in omega (arith, h))
      numbered_low n (e ∷ es) y (inr more) = (let h = numbered_low (n + 1) es y more in omega (arith, h))

  -- ---- obligations

  uses_low : (x : Entry) (e : Written) (clauses : List (List Lit)) → x ≡ entry_with e clauses → All (λ u. u.entry < length all) e.uses → All (λ u. u.entry < length all) x.uses
  uses_low x e clauses is low = subst (λ (y : Entry). All (λ u. u.entry < length all) y.uses) (sym is) low

  same_obligation : (m : ℕ) → C m → m < length all → All (λ u. u.entry < length all) (entry_at all m).uses → (i : ℕ)
      → obligation_of c all (entry_at all m) i ≡ obligation_of c built.entries (entry_at built.entries (r m)) i
  same_obligation m counts within low i =
      let x : Entry = entry_at all m in
      let counted : AllCounted c whole kept reached x.uses = built.earlier.uses m counts within in
      let named : All (λ u. AllCounted c whole kept reached (entry_at all u.entry).uses) x.uses = λ k d inside. built.earlier.uses (get_or x.uses k d).entry (counted k d inside) (low k d inside) in
      let image : entry_at built.entries (r m) ≡ as_entry c whole kept reached x = (built.corresponds.at m counts within).1 in
      let others = used_as c whole kept reached all built.entries kept x.uses built.corresponds counted low in
      sym (ap (λ (y : Entry). obligation_of c built.entries y i) image
      ∙ ap (λ us. obligation_clauses c us (map (as_use c whole kept reached) x.uses) x.clauses i) others
      ∙ obligation_same C r (one c whole kept reached) c (used_entries all x.uses) x.uses x.clauses i (all_counted c whole kept reached all x.uses counted named)
      (uses_counted c whole kept reached x.uses counted))

  entry_again : (n k : ℕ) (e t : Written) → In (n, e) kept → r n ≡ k → IsTrimmedEntry c all kept (n, e) t → IsTrimmedEntry c built.entries mine (k, t) t
  unfolding Counts
  entry_again n k e t here place to =
      let at : slice_get whole.entries n ≡ Some e = kept_get n e here in
      let within : n < length all = (let h = slice_get_within whole.entries n e at in omega (arith, h, count)) in
      let (clauses, found) = entry_is c [] whole.entries all n e proved at in
      let number : n ≡ 0 + n = omega arith in
      let is : entry_at all n ≡ entry_with e clauses = ap (entry_at all) number ∙ found in
      let low_written : All (λ u. u.entry < length all) e.uses =
      All-weaker (λ u. u.entry < 0 + n) (λ u. u.entry < length all) (λ u h. omega (arith, h, within)) e.uses (written_below c [] whole.entries all n e proved at) in
      let low = uses_low (entry_at all n) e clauses is low_written in
      record {
        kind = refl;
        clauses = refl;
        uses = sym (uses_stay trimmed.entries t.uses (subst (λ us. All (λ u. u.entry ≤ length trimmed.entries) us) (sym to.uses) (renumbered_within kept e.uses (length trimmed.entries) size)));
        proofs = proofs_same (obligation_of c all (entry_at all n)) (obligation_of c built.entries (entry_at built.entries k))
            (λ i. same_obligation n (e, here) within low i ∙ ap (λ j. obligation_of c built.entries (entry_at built.entries j) i) place) 0 t.proofs t.proofs
            (proofs_again (obligation_of c all (entry_at all n)) 0 e.proofs t.proofs to.proofs);
      }

  entries_again : (from back : List Numbered) (n : ℕ) (es ts : List Written) → kept ≡ from ++ back → AllBelow n from → Keeps (IsReachedEntry whole) (numbered_from n es) back
      → AllZip (IsTrimmedEntry c all kept) back ts → AllZip (IsTrimmedEntry c built.entries mine) (numbered_from (length from) ts) ts
  entries_again from back n [] [] split below none some = tt
  entries_again from back n [] (t ∷ ts) split below none some =
      let wrong : AllZip (IsTrimmedEntry c all kept) [] (t ∷ ts) = subst (λ ks. AllZip (IsTrimmedEntry c all kept) ks (t ∷ ts)) none some in absurd wrong
  entries_again from back n (e ∷ es) ts split below (inr (gone, keeps)) some = entries_again from back (n + 1) es ts split (below_later c whole kept reached n (n + 1) from below refl) keeps some
  entries_again from back n (e ∷ es) [] split below (inl (q, (rest, is, keeps))) some =
      let wrong : AllZip (IsTrimmedEntry c all kept) ((n, e) ∷ rest) [] = subst (λ ks. AllZip (IsTrimmedEntry c all kept) ks []) is some in absurd wrong
  entries_again from back n (e ∷ es) (t ∷ ts) split below (inl (q, (rest, is, keeps))) some =
      let whole_split : kept ≡ from ++ (n, e) ∷ rest = split ∙ ap (λ (ks : List Numbered). from ++ ks) is in
      let both : AllZip (IsTrimmedEntry c all kept) ((n, e) ∷ rest) (t ∷ ts) = subst (λ ks. AllZip (IsTrimmedEntry c all kept) ks (t ∷ ts)) is some in
      let place : r n ≡ length from = ap (λ ks. place_among ks n) whole_split ∙ place_between n from ((n, e) ∷ rest) below (above_head c whole kept reached n e es rest keeps) in
      let more : AllZip (IsTrimmedEntry c built.entries mine) (numbered_from (length (from ++ (n, e) ∷ [])) ts) ts =
      entries_again (from ++ (n, e) ∷ []) rest (n + 1) es ts (whole_split ∙ sym (append_assoc from ((n, e) ∷ []) rest)) (below_more c whole kept reached n (n + 1) from (n, e) below refl refl) keeps both.1 in (
        entry_again n (length from) e t (subst (In (n, e)) (sym whole_split) (in_right (n, e) from ((n, e) ∷ rest) (inl refl))) place both.0,
        subst (λ k. AllZip (IsTrimmedEntry c built.entries mine) (numbered_from k ts) ts) (length-append from ((n, e) ∷ [])) more,
      )

  -- ---- the refutation

  same_skeleton : (n : ℕ) → AllCounted c whole kept reached whole.uses → skeleton_clauses c n (used_entries all whole.uses) ≡ skeleton_clauses c n (used_entries built.entries (renumbered kept whole.uses))
  same_skeleton n counted =
      let named : All (λ u. AllCounted c whole kept reached (entry_at all u.entry).uses) whole.uses = λ k d inside. built.earlier.uses (get_or whole.uses k d).entry (counted k d inside) (low_uses k d inside) in
      sym (ap (skeleton_clauses c n) (used_as c whole kept reached all built.entries kept whole.uses built.corresponds counted low_uses)
      ∙ skeleton_same C r (one c whole kept reached) c n (used_entries all whole.uses) (all_counted c whole kept reached all whole.uses counted named))

  pub again : (n : ℕ) → trimmed.version ≡ Two → AllCounted c whole kept reached whole.uses → IsTrimmedProof (skeleton_clauses c n (used_entries all whole.uses)) whole.proof trimmed.proof
      → IsTrimmedCertificate c n built.entries trimmed trimmed
  unfolding AllBelow
  again n version counted proof = record {
    version = version;
    kept = mine;
    reached = keeps_all (IsReachedEntry trimmed) mine reached_again;
    entries = entries_again [] kept 0 whole.entries trimmed.entries refl (λ y never. absurd never) reached zip;
    uses = sym (uses_stay trimmed.entries trimmed.uses (subst (λ us. All (λ u. u.entry ≤ length trimmed.entries) us) (sym uses) (renumbered_within kept whole.uses (length trimmed.entries) size)));
    proof = subst (λ us. IsTrimmedProof (skeleton_clauses c n (used_entries built.entries us)) trimmed.proof trimmed.proof) (sym uses)
        (subst (λ given. IsTrimmedProof given trimmed.proof trimmed.proof) (same_skeleton n counted)
        (trimmed_again (skeleton_clauses c n (used_entries all whole.uses)) whole.proof trimmed.proof proof));
  }

-- ---- the law

pub trimmed_is_itself : (c : Circuit) (n : ℕ) (whole trimmed : Certificate) (good : IsGoodCertificate c n whole) → IsTrimmedCertificate c n good.entries whole trimmed
    → (other : List Entry) → AreProvedBehind c [] trimmed.entries other → IsTrimmedCertificate c n other trimmed trimmed
trimmed_is_itself c n whole trimmed good h other proved =
    let built : Built c whole h.kept h.reached good.entries [] trimmed.entries = built_of c n whole trimmed good h in
    let refuted = good.refuted in
    subst (λ es. IsTrimmedCertificate c n es trimmed trimmed) (proved_one c [] trimmed.entries built.entries other built.proved proved)
    (again c whole trimmed h.kept h.reached good.entries good.proved h.entries h.uses (many_entries c n whole good) refuted.closed.present built n h.version (refuting_counted c n whole trimmed good h) h.proof)
