-- A trimmed certificate is good.
use Rattle.std.proofs.Common.{◌≡◌, ◌⊎◌, ℕ, zero, suc, ◌+◌, ◌<◌, ◌≤◌, List, [], ◌∷◌, ◌++◌, map, length, get_or, refl, sym, ap, ap₂, ◌∙◌, subst, inl, inr, arith, append_assoc, length-append, Some, All, Contains}
use Rattle.std.specs.Prelude.{slice_get, slice_index_or}
use Rattle.std.specs.List.{AllZip}
use Rattle.std.proofs.lemmas.Bool.{cases_order}
use Rattle.std.proofs.lemmas.List.{length-map, get_or-map, append-nil}
use Rattle.std.proofs.lemmas.List.Elements.{All-head, All-tail, All-map, All-contains, recursion_from_All}
use Rattle.std.proofs.lemmas.Option.{slice_get_within}
use Rattle.aig_semantics.specs.Circuits.{Circuit}
use Rattle.proof_semantics.specs.declared.literals.Lit.{Lit}
use Rattle.proof_semantics.specs.Proofs.{Refutes}
use Rattle.fair_semantics.specs.declared.entries.Kind.TheVariants.{Reach, Wall}
use Rattle.fair_semantics.specs.declared.entries.Use.{Use}
use Rattle.fair_semantics.specs.Entries.{Entry, Numbered as NumberedEntry, entry_at, used_entries, IsSigned, Uses, NamesUsed, AreClosed}
use Rattle.cnf_unroll.specs.Obligations.{obligation_clauses}
use Rattle.entry.specs.Proved.{obligation_of, IsProved}
use Rattle.certificate_texts.specs.declared.certificates.Written.{Written}
use Rattle.certificate_texts.specs.declared.certificates.Certificate.{Certificate}
use Rattle.certificate.specs.Certificates.{entry_with, AreClausesOf, AreProvedBehind}
use Rattle.fair_semantics.proofs.Sets.{entry_at-place}
use Rattle.cert_tools.specs.Kept.{Keeps}
use Rattle.cert_tools.specs.TrimmedProofs.{IsTrimmedProof, AreTrimmedProofs}
use Rattle.cert_tools.specs.Trimmed.{Numbered, numbered_from, UsesEntry, IsReachedEntry, place_among, renumbered, IsTrimmedEntry}
use Rattle.cert_tools.proofs.KeptLaws.{In, in_right, kept_has, kept_is, kept_in, reaches_more}
use Rattle.cert_tools.proofs.Places.{place_less, place_same, AllBelow, NoneBelow, place_between}
use Rattle.cert_tools.proofs.SameClauses.{use_as, entry_as, numbered_as, UsesCount, AllCount, obligation_same}
use Rattle.cert_tools.proofs.TrimmedGood.{trimmed_refutes}

-- ---- lists

pub in_cases : {X : Type 0} (x : X) (xs ys : List X) → In x (xs ++ ys) → In x xs ⊎ In x ys
in_cases x [] ys at = inr at
in_cases x (y ∷ xs) ys (inl same) = inl (inl same)
in_cases x (y ∷ xs) ys (inr at) = elim (in_cases x xs ys at) [ inl front ↦ inl (inr front) | inr back ↦ inr back ]

pub in_left : {X : Type 0} (x : X) (xs ys : List X) → In x xs → In x (xs ++ ys)
in_left x [] ys at = absurd at
in_left x (y ∷ xs) ys (inl same) = inl same
in_left x (y ∷ xs) ys (inr at) = inr (in_left x xs ys at)

-- the entry at a place that is within the first of two lists
pub at_front : (xs ys : List Entry) (n : ℕ) → n < length xs → entry_at (xs ++ ys) n ≡ entry_at xs n
at_front [] ys n below = absurd (omega (arith, below))
at_front (x ∷ xs) ys zero below = refl
at_front (x ∷ xs) ys (suc n) below = at_front xs ys n (omega (arith, below))

numbered_high : (n : ℕ) (es : List Written) (k : ℕ) (e : Written) → In (k, e) (numbered_from n es) → n ≤ k
numbered_high n [] k e at = absurd at
numbered_high n (x ∷ es) k e (inl same) = let number : k ≡ n = ap (λ (y : Numbered). y.0) same in omega (arith, number)
numbered_high n (x ∷ es) k e (inr at) = let more = numbered_high (n + 1) es k e at in omega (arith, more)

pub numbered_at : (n : ℕ) (es : List Written) (i : ℕ) (e : Written) → slice_get es i ≡ Some e → In (n + i, e) (numbered_from n es)
numbered_at n [] i e at = absurd (cc at)
numbered_at n (x ∷ es) zero e at =
    let number : n + 0 ≡ n = omega arith in
    let same : x ≡ e = cc at in
    inl (ap₂ (λ (k : ℕ) (y : Written). (k, y)) number (sym same))
numbered_at n (x ∷ es) (suc i) e at =
    let number : n + suc i ≡ (n + 1) + i = omega arith in
    inr (subst (λ k. In (k, e) (numbered_from (n + 1) es)) (sym number) (numbered_at (n + 1) es i e at))

pub there : (es : List Written) (i : ℕ) → i < length es → (e : Written) × (slice_get es i ≡ Some e)
there [] i below = absurd (omega (arith, below))
there (x ∷ es) zero below = (x, refl)
there (x ∷ es) (suc i) below = there es i (omega (arith, below))

-- ---- the entries that are kept

module _ (c : Circuit) (whole : Certificate) (kept : List Numbered) (reached : Keeps (IsReachedEntry whole) (numbered_from 0 whole.entries) kept) where
  abbrev r : ℕ → ℕ
  r n = place_among kept n

  -- an entry with this number is kept
  unfoldable pub Counts : ℕ → Type 0
  Counts n = (e : Written) × In (n, e) kept

  pub one : (m n : ℕ) → Counts m → Counts n → r m ≡ r n → m ≡ n
  unfolding Counts
  one m n (v, at) (w, other) same = place_same kept m n v w at other same

  pub less : (m n : ℕ) → Counts m → m < n → r m < r n
  unfolding Counts
  less m n (v, at) h = place_less kept m n v h at

  -- an entry that is reached is kept
  pub reached_counts : (n : ℕ) → n < length whole.entries → ((e : Written) → IsReachedEntry whole (n, e)) → Counts n
  unfolding Counts
  reached_counts n below is =
      let (e, at) = there whole.entries n below in
      let number : 0 + n ≡ n = omega arith in
      let found : In (n, e) (numbered_from 0 whole.entries) = subst (λ k. In (k, e) (numbered_from 0 whole.entries)) number (numbered_at 0 whole.entries n e at) in
      (e, kept_has (IsReachedEntry whole) (numbered_from 0 whole.entries) kept (n, e) reached found (is e))

  -- the uses of the refutation are of entries that are kept
  pub refuting_counts : (u : Use) → Contains whole.uses u → u.entry < length whole.entries → Counts u.entry
  refuting_counts u (k, inside, place) below = reached_counts u.entry below (λ e. (k, u, inside, place, ([], refl)))

  -- and so are those of an entry that is kept
  pub entry_counts : (n : ℕ) (e : Written) (at : slice_get whole.entries n ≡ Some e) → In (n, e) kept → (u : Use) → Contains e.uses u → u.entry < length whole.entries → Counts u.entry
  entry_counts n e at inside u (k, within, place) below =
      let (i, v, first, same, reaches) = kept_is (IsReachedEntry whole) (numbered_from 0 whole.entries) kept (n, e) reached inside in
      reached_counts u.entry below (λ w. (i, v, first, same, reaches_more (UsesEntry whole.entries) v.entry n u.entry reaches (e, at, (k, u, within, place, refl))))

  -- ---- uses

  abbrev pub as_use : Use → Use
  as_use = use_as Counts r one

  abbrev pub as_entry : Entry → Entry
  as_entry = entry_as Counts r one

  -- the entries before and those that are made of the ones that are kept
  pub record Corresponds (before front : List Entry) (from : List Numbered) : Type 0 where
    pub count : length front ≡ length from
    pub at : (n : ℕ) → Counts n → n < length before → (r n < length front) × (entry_at front (r n) ≡ as_entry (entry_at before n))

  pub all_of_uses : (P : Use → Type 0) (uses : List Use) → ((u : Use) → Contains uses u → P u) → All P uses
  all_of_uses P uses h = λ k d below. h (get_or uses k d) (k, below, got uses k d below)
    where
      got : (xs : List Use) (k : ℕ) (d : Use) → k < length xs → get_or xs k (get_or xs k d) ≡ get_or xs k d
      got [] k d below = absurd (omega (arith, below))
      got (x ∷ xs) zero d below = refl
      got (x ∷ xs) (suc k) d below = got xs k d (omega (arith, below))

  abbrev pub AllCounted : List Use → Type 0
  AllCounted uses = All (λ u. Counts u.entry) uses

  pub used_as : (before front : List Entry) (from : List Numbered) (uses : List Use) → Corresponds before front from → AllCounted uses → All (λ u. u.entry < length before) uses
      → used_entries front (map as_use uses) ≡ map (numbered_as Counts r one) (used_entries before uses)
  used_as before front from [] corr count below = refl
  used_as before front from (u ∷ uses) corr count below =
      let C : Use → Type 0 = λ v. Counts v.entry in
      let B : Use → Type 0 = λ v. v.entry < length before in
      let here = corr.at u.entry (All-head C u uses count) (All-head B u uses below) in
      ap₂ (λ (e : Entry) (us : List NumberedEntry). record { number = r u.entry; entry = e } ∷ us) here.1
      (used_as before front from uses corr (All-tail C u uses count) (All-tail B u uses below))

  pub any_as : (uses : List Use) (n : ℕ) → Uses uses n → Uses (map as_use uses) (r n)
  any_as uses n (k, u, below, place, same) =
      (k, as_use u, (let size = length-map uses as_use in omega (arith, below, size)), get_or-map as_use uses k u (as_use u) below ∙ ap as_use place, ap r same)

  -- the uses of what an entry that is kept names are kept too
  pub record Closes (before : List Entry) (uses : List Use) : Type 0 where
    pub closed : AreClosed before uses
    pub counted : AllCounted uses
    pub named : All (λ u. AllCounted (entry_at before u.entry).uses) uses

  pub uses_counted : (uses : List Use) → AllCounted uses → UsesCount Counts r one uses
  uses_counted uses h = recursion_from_All (λ u. Counts u.entry) uses h

  pub all_counted : (before : List Entry) (uses : List Use) → AllCounted uses → All (λ u. AllCounted (entry_at before u.entry).uses) uses → AllCount Counts r one (used_entries before uses)
  all_counted before [] count named = tt
  all_counted before (u ∷ uses) count named =
      let C : Use → Type 0 = λ v. Counts v.entry in
      let N : Use → Type 0 = λ v. AllCounted (entry_at before v.entry).uses in
      ((All-head C u uses count, uses_counted (entry_at before u.entry).uses (All-head N u uses named)), all_counted before uses (All-tail C u uses count) (All-tail N u uses named))

  pub closed_as : (before front : List Entry) (from : List Numbered) (uses : List Use) → Corresponds before front from → Closes before uses → AreClosed front (map as_use uses)
  closed_as before front from uses corr h =
      let below : All (λ u. u.entry < length before) uses = h.closed.present in
      let size = length-map uses as_use in
      record {
        ascend = λ i j d less_than inside.
            let u : Use = get_or uses i d in
            let v : Use = get_or uses j d in
            let within : j < length uses = omega (arith, inside, size) in
            let first : get_or (map as_use uses) i d ≡ as_use u = get_or-map as_use uses i d d (omega (arith, less_than, within)) in
            let second : get_or (map as_use uses) j d ≡ as_use v = get_or-map as_use uses j d d within in
            subst (λ (x : Use). x.entry < (get_or (map as_use uses) j d).entry) (sym first)
            (subst (λ (x : Use). r u.entry < x.entry) (sym second) (less u.entry v.entry (h.counted i d (omega (arith, less_than, within))) (h.closed.ascend i j d less_than within)));
        present = All-map (λ (u : Use). u.entry < length front) as_use uses (λ k d inside. (corr.at (get_or uses k d).entry (h.counted k d inside) (below k d inside)).0);
        walls = All-map (λ (u : Use). IsSigned u → (entry_at front u.entry).kind ≡ Wall) as_use uses
            (λ k d inside signed. ap (λ (e : Entry). e.kind) (corr.at (get_or uses k d).entry (h.counted k d inside) (below k d inside)).1 ∙ h.closed.walls k d inside signed);
        closed = All-map (λ (u : Use). NamesUsed (map as_use uses) u.entry (entry_at front u.entry)) as_use uses
            (λ k d inside.
            let u : Use = get_or uses k d in
            let e : Entry = entry_at before u.entry in
            let is : entry_at front (r u.entry) ≡ as_entry e = (corr.at u.entry (h.counted k d inside) (below k d inside)).1 in
            subst (NamesUsed (map as_use uses) (r u.entry)) (sym is)
            (All-map (λ (v : Use). IsSigned v → (v.entry < r u.entry) × Uses (map as_use uses) v.entry) as_use e.uses
            (λ l f within signed.
            let v : Use = get_or e.uses l f in
            let has = h.closed.closed k d inside l f within signed in
            (less v.entry u.entry (h.named k d inside l f within) has.0, any_as uses v.entry has.1))));
      }

  -- ---- an entry

  -- what is so of an entry, proved behind these, that is kept
  record Stands (all before : List Entry) (e : Entry) (proofs : List (List (List ℕ))) : Type 0 where
    proved : IsProved c before e proofs
    closes : Closes before e.uses
    alike : used_entries all e.uses ≡ used_entries before e.uses

  proofs_count : (obligation : ℕ → List (List Lit)) (i : ℕ) (proofs kept_proofs : List (List (List ℕ))) → AreTrimmedProofs obligation i proofs kept_proofs → length kept_proofs ≡ length proofs
  proofs_count obligation i [] kept_proofs none = ap length none
  proofs_count obligation i (proof ∷ proofs) [] none = absurd none
  proofs_count obligation i (proof ∷ proofs) (kept_one ∷ more) (first, others) = ap suc (proofs_count obligation (suc i) proofs more others)

  proof_at : (obligation : ℕ → List (List Lit)) (i : ℕ) (proofs kept_proofs : List (List (List ℕ))) → AreTrimmedProofs obligation i proofs kept_proofs
      → (k : ℕ) → k < length proofs → IsTrimmedProof (obligation (i + k)) (slice_index_or proofs k []) (slice_index_or kept_proofs k [])
  proof_at obligation i [] kept_proofs none k below = absurd (omega (arith, below))
  proof_at obligation i (proof ∷ proofs) [] none k below = absurd none
  proof_at obligation i (proof ∷ proofs) (kept_one ∷ more) (first, others) zero below =
      let same : i ≡ i + 0 = omega arith in subst (λ n. IsTrimmedProof (obligation n) proof kept_one) same first
  proof_at obligation i (proof ∷ proofs) (kept_one ∷ more) (first, others) (suc k) below =
      let same : suc i + k ≡ i + suc k = omega arith in
      subst (λ n. IsTrimmedProof (obligation n) (slice_index_or proofs k []) (slice_index_or more k [])) same (proof_at obligation (suc i) proofs more others k (omega (arith, below)))

  proved_as : (all before front : List Entry) (from : List Numbered) (e : Entry) (proofs kept_proofs : List (List (List ℕ))) → Corresponds before front from → Stands all before e proofs
      → AreTrimmedProofs (obligation_of c all e) 0 proofs kept_proofs → IsProved c front (as_entry e) kept_proofs
  proved_as all before front from e proofs kept_proofs corr stands trimmed =
      let old = stands.proved in
      let uses : used_entries front (map as_use e.uses) ≡ map (numbered_as Counts r one) (used_entries before e.uses) =
      used_as before front from e.uses corr stands.closes.counted old.closed.present in
      let same : (i : ℕ) → obligation_of c front (as_entry e) i ≡ obligation_of c all e i =
      λ i.
      ap (λ us. obligation_clauses c us (map as_use e.uses) e.clauses i) uses
      ∙ obligation_same Counts r one c (used_entries before e.uses) e.uses e.clauses i (all_counted before e.uses stands.closes.counted stands.closes.named) (uses_counted e.uses stands.closes.counted)
      ∙ ap (λ us. obligation_clauses c us e.uses e.clauses i) (sym stands.alike) in
      let here : (i : ℕ) → obligation_of c before e i ≡ obligation_of c all e i = λ i. ap (λ us. obligation_clauses c us e.uses e.clauses i) (sym stands.alike) in
      let count = proofs_count (obligation_of c all e) 0 proofs kept_proofs trimmed in
      record {
        closed = closed_as before front from e.uses corr stands.closes;
        over = old.over;
        reach = λ is_reach.
            let base = old.reach is_reach in
            record {
              uses = All-map (λ (u : Use). (entry_at front u.entry).kind ≡ Reach) as_use e.uses
                  (λ k d inside. ap (λ (x : Entry). x.kind) (corr.at (get_or e.uses k d).entry (stands.closes.counted k d inside) (old.closed.present k d inside)).1 ∙ base.uses k d inside);
              clauses = base.clauses;
            };
        each = record {
          count = count ∙ old.each.count;
          refute = λ i below.
              let inside : i < length proofs = (let size = old.each.count in omega (arith, below, size)) in
              let number : 0 + i ≡ i = omega arith in
              subst (λ given. Refutes given (slice_index_or kept_proofs i [])) (sym (same i))
              (trimmed_refutes (obligation_of c all e i) (slice_index_or proofs i []) (slice_index_or kept_proofs i [])
              (subst (λ given. Refutes given (slice_index_or proofs i [])) (here i) (old.each.refute i below))
              (subst (λ n. IsTrimmedProof (obligation_of c all e n) (slice_index_or proofs i []) (slice_index_or kept_proofs i [])) number
              (proof_at (obligation_of c all e) 0 proofs kept_proofs trimmed i inside)));
        };
      }

  -- ---- all entries

  -- the entries of the whole certificate, proved one behind the other, as they stand from this one on
  pub used_alike : (all before more : List Entry) (uses : List Use) → all ≡ before ++ more → All (λ u. u.entry < length before) uses → used_entries all uses ≡ used_entries before uses
  used_alike all before more [] split below = refl
  used_alike all before more (u ∷ uses) split below =
      let B : Use → Type 0 = λ v. v.entry < length before in
      ap₂ (λ (e : Entry) (us : List NumberedEntry). record { number = u.entry; entry = e } ∷ us)
      (ap (λ es. entry_at es u.entry) split ∙ at_front before more u.entry (All-head B u uses below))
      (used_alike all before more uses split (All-tail B u uses below))

  pub behind_is : (before : List Entry) (es : List Written) (all : List Entry) → AreProvedBehind c before es all → (more : List Entry) × (all ≡ before ++ more)
  behind_is before [] all same = ([], same ∙ nothing before)
    where
      nothing : (xs : List Entry) → xs ≡ xs ++ []
      nothing [] = refl
      nothing (x ∷ xs) = ap (λ (ys : List Entry). x ∷ ys) (nothing xs)
  behind_is before (e ∷ es) all (clauses, are, first, others) =
      let (more, split) = behind_is (before ++ entry_with e clauses ∷ []) es all others in
      (entry_with e clauses ∷ more, split ∙ append_assoc before (entry_with e clauses ∷ []) more)

  -- the uses of an entry before this one, that is kept, are of entries that are kept
  pub record Earlier (before : List Entry) : Type 0 where
    pub uses : (n : ℕ) → Counts n → n < length before → AllCounted (entry_at before n).uses

  -- an entry behind the others
  with_image : (before front : List Entry) (from : List Numbered) (n : ℕ) (e : Written) (x y : Entry) → n ≡ length before → Corresponds before front from → (Counts n → r n ≡ length front) → y ≡ as_entry x
      → Corresponds (before ++ x ∷ []) (front ++ y ∷ []) (from ++ (n, e) ∷ [])
  with_image before front from n e x y number corr place is = record {
    count = (let a = length-append front (y ∷ []) in let b = length-append from ((n, e) ∷ []) in let k = corr.count in omega (arith, a, b, k));
    at = λ m counts below. elim (cases_order m n) [
      | inl same ↦ (
          let here : r m ≡ length front = ap r same ∙ place (subst Counts same counts) in (
            (let a = length-append front (y ∷ []) in omega (arith, a, here)),
            ap (entry_at (front ++ y ∷ [])) here ∙ entry_at-place front y [] ∙ is
                ∙ ap as_entry (sym (entry_at-place before x [])) ∙ ap (λ k. as_entry (entry_at (before ++ x ∷ []) k)) (sym (same ∙ number)),
          ))
      | inr other ↦ elim other [
        | inl less_than ↦ (
            let within : m < length before = omega (arith, less_than, number) in
            let old = corr.at m counts within in (
              (let a = length-append front (y ∷ []) in let h = old.0 in omega (arith, a, h)),
              at_front front (y ∷ []) (r m) old.0 ∙ old.1 ∙ ap as_entry (sym (at_front before (x ∷ []) m within)),
            ))
        | inr greater ↦ absurd (let a = length-append before (x ∷ []) in omega (arith, a, below, greater, number))
      ]
    ];
  }

  without_image : (before front : List Entry) (from : List Numbered) (n : ℕ) (x : Entry) → n ≡ length before → Corresponds before front from → (Counts n → ⊥) → Corresponds (before ++ x ∷ []) front from
  without_image before front from n x number corr none = record {
    count = corr.count;
    at = λ m counts below. elim (cases_order m n) [
      | inl same ↦ absurd (none (subst Counts same counts))
      | inr other ↦ elim other [
        | inl less_than ↦ (
            let within : m < length before = omega (arith, less_than, number) in
            let old = corr.at m counts within in
            (old.0, old.1 ∙ ap as_entry (sym (at_front before (x ∷ []) m within))))
        | inr greater ↦ absurd (let a = length-append before (x ∷ []) in omega (arith, a, below, greater, number))
      ]
    ];
  }

  with_earlier : (before : List Entry) (n : ℕ) (x : Entry) → n ≡ length before → Earlier before → (Counts n → AllCounted x.uses) → Earlier (before ++ x ∷ [])
  with_earlier before n x number earlier here = record {
    uses = λ m counts below. elim (cases_order m n) [
      | inl same ↦ subst (λ (e : Entry). AllCounted e.uses) (sym (ap (entry_at (before ++ x ∷ [])) (same ∙ number) ∙ entry_at-place before x [])) (here (subst Counts same counts))
      | inr other ↦ elim other [
        | inl less_than ↦ (
            let within : m < length before = omega (arith, less_than, number) in
            subst (λ (e : Entry). AllCounted e.uses) (sym (at_front before (x ∷ []) m within)) (earlier.uses m counts within))
        | inr greater ↦ absurd (let a = length-append before (x ∷ []) in omega (arith, a, below, greater, number))
      ]
    ];
  }

  pub record Built (all front : List Entry) (ts : List Written) : Type 0 where
    pub entries : List Entry
    pub proved : AreProvedBehind c front ts entries
    pub corresponds : Corresponds all entries kept
    pub earlier : Earlier all

  -- how far the entries have come: these stand before, and these were kept of them
  pub record Stage (before front : List Entry) (from back : List Numbered) (done es : List Written) : Type 0 where
    pub split : kept ≡ from ++ back
    pub whole_split : whole.entries ≡ done ++ es
    pub number : length done ≡ length before
    pub corresponds : Corresponds before front from
    pub earlier : Earlier before
    pub below : AllBelow (length before) from

  slice_at_seam : (xs : List Written) (x : Written) (ys : List Written) → slice_get (xs ++ x ∷ ys) (length xs) ≡ Some x
  slice_at_seam [] x ys = refl
  slice_at_seam (y ∷ xs) x ys = slice_at_seam xs x ys

  none_here : (n : ℕ) (from back : List Numbered) (es : List Written) → kept ≡ from ++ back → AllBelow n from → Keeps (IsReachedEntry whole) (numbered_from (n + 1) es) back → Counts n → ⊥
  unfolding Counts AllBelow
  none_here n from back es split below keeps (w, at) = elim (in_cases (n, w) from back (subst (In (n, w)) split at)) [
    | inl front ↦ (let h = below (n, w) front in omega (arith, h))
    | inr behind ↦ (let h = numbered_high (n + 1) es n w (kept_in (IsReachedEntry whole) (numbered_from (n + 1) es) back (n, w) keeps behind) in omega (arith, h))
  ]

  pub above_head : (n : ℕ) (e : Written) (es : List Written) (rest : List Numbered) → Keeps (IsReachedEntry whole) (numbered_from (n + 1) es) rest → NoneBelow n ((n, e) ∷ rest)
  unfolding NoneBelow
  above_head n e es rest keeps x at = elim at [
    | inl same ↦ (let h : x.0 ≡ n = ap (λ (y : Numbered). y.0) same in omega (arith, h))
    | inr behind ↦ (let h = numbered_high (n + 1) es x.0 x.1 (kept_in (IsReachedEntry whole) (numbered_from (n + 1) es) rest x keeps behind) in omega (arith, h))
  ]

  pub below_more : (n m : ℕ) (from : List Numbered) (e : Numbered) → AllBelow n from → e.0 ≡ n → m ≡ n + 1 → AllBelow m (from ++ e ∷ [])
  unfolding AllBelow
  below_more n m from e below number next x at = elim (in_cases x from (e ∷ []) at) [
    | inl front ↦ (let h = below x front in omega (arith, h, next))
    | inr last ↦ elim last [ inl same ↦ (let h : x.0 ≡ e.0 = ap (λ (y : Numbered). y.0) same in omega (arith, h, number, next)) | inr never ↦ absurd never ]
  ]

  pub below_later : (n m : ℕ) (from : List Numbered) → AllBelow n from → m ≡ n + 1 → AllBelow m from
  unfolding AllBelow
  below_later n m from below next x at = let h = below x at in omega (arith, h, next)

  trimmed_with : (clauses : List (List Lit)) (e t : Written) → t.kind ≡ e.kind → t.uses ≡ renumbered kept e.uses → entry_with t clauses ≡ as_entry (entry_with e clauses)
  trimmed_with clauses e t kind uses = ap₂ (λ k us. record { kind = k; clauses = clauses; uses = us }) kind uses

  -- the entry that is made of one that is kept, and the stage behind it
  record Step (all before front : List Entry) (from rest : List Numbered) (done : List Written) (e : Written) (es ts : List Written) (clauses : List (List Lit)) : Type 0 where
    first : Written
    others : List Written
    split : ts ≡ first ∷ others
    are : AreClausesOf c first.clauses clauses
    proved : IsProved c front (entry_with first clauses) first.proofs
    stage : Stage (before ++ entry_with e clauses ∷ []) (front ++ entry_with first clauses ∷ []) (from ++ (length before, e) ∷ []) rest (done ++ e ∷ []) es
    zip : AllZip (IsTrimmedEntry c all kept) rest others

  kept_step : (all before front : List Entry) (from rest : List Numbered) (done : List Written) (e : Written) (es ts : List Written)
      → Stage before front from ((length before, e) ∷ rest) done (e ∷ es) → Keeps (IsReachedEntry whole) (numbered_from (length before + 1) es) rest
      → (clauses : List (List Lit)) → AreClausesOf c e.clauses clauses → IsProved c before (entry_with e clauses) e.proofs → AreProvedBehind c (before ++ entry_with e clauses ∷ []) es all
      → AllZip (IsTrimmedEntry c all kept) ((length before, e) ∷ rest) ts → Step all before front from rest done e es ts clauses
  kept_step all before front from rest done e es [] stage keeps clauses are first others zip = absurd zip
  kept_step all before front from rest done e es (t ∷ ts) stage keeps clauses are first others (to, zip) =
      let n : ℕ = length before in
      let x : Entry = entry_with e clauses in
      let y : Entry = entry_with t clauses in
      let next : length (before ++ x ∷ []) ≡ n + 1 = length-append before (x ∷ []) in
      let image : y ≡ as_entry x = trimmed_with clauses e t to.kind to.uses in
      let (more, split_all) = behind_is (before ++ x ∷ []) es all others in
      let all_split : all ≡ before ++ x ∷ more = split_all ∙ append_assoc before (x ∷ []) more in
      let at_n : entry_at all n ≡ x = ap (λ es2. entry_at es2 n) all_split ∙ entry_at-place before x more in
      let inside : In (n, e) kept = subst (In (n, e)) (sym stage.split) (in_right (n, e) from ((n, e) ∷ rest) (inl refl)) in
      let place_n : slice_get whole.entries n ≡ Some e =
      ap (λ ws. slice_get ws n) stage.whole_split ∙ ap (slice_get (done ++ e ∷ es)) (sym stage.number) ∙ slice_at_seam done e es in
      let many : n < length whole.entries = slice_get_within whole.entries n e place_n in
      let counted : AllCounted e.uses =
      all_of_uses (λ u. Counts u.entry) e.uses (λ u among. entry_counts n e place_n inside u among
      (let below : u.entry < n = All-contains (λ (v : Use). v.entry < n) e.uses u first.closed.present among in omega (arith, below, many))) in
      let stands : Stands all before x e.proofs = record {
        proved = first;
        closes = record { closed = first.closed; counted = counted; named = λ k d within. stage.earlier.uses (get_or e.uses k d).entry (counted k d within) (first.closed.present k d within) };
        alike = used_alike all before (x ∷ more) e.uses all_split first.closed.present;
      } in
      let proofs : AreTrimmedProofs (obligation_of c all x) 0 e.proofs t.proofs = subst (λ (z : Entry). AreTrimmedProofs (obligation_of c all z) 0 e.proofs t.proofs) at_n to.proofs in
      let high : NoneBelow n ((n, e) ∷ rest) = above_head n e es rest keeps in
      let place : Counts n → r n ≡ length front =
      λ counts. ap (λ ks. place_among ks n) stage.split ∙ place_between n from ((n, e) ∷ rest) stage.below high ∙ sym stage.corresponds.count in
      record {
        first = t;
        others = ts;
        split = refl;
        are = subst (λ ls. AreClausesOf c ls clauses) (sym to.clauses) are;
        proved = subst (λ (z : Entry). IsProved c front z t.proofs) (sym image) (proved_as all before front from x e.proofs t.proofs stage.corresponds stands proofs);
        stage = record {
          split = stage.split ∙ sym (append_assoc from ((n, e) ∷ []) rest);
          whole_split = stage.whole_split ∙ sym (append_assoc done (e ∷ []) es);
          number = (let a = length-append done (e ∷ []) in let b = stage.number in omega (arith, a, b, next));
          corresponds = with_image before front from n e x y refl stage.corresponds place image;
          earlier = with_earlier before n x refl stage.earlier (λ counts. counted);
          below = below_more n (length (before ++ x ∷ [])) from (n, e) stage.below refl next;
        };
        zip = zip;
      }

  pub build : (all before front : List Entry) (from back : List Numbered) (done es ts : List Written) → Stage before front from back done es
      → Keeps (IsReachedEntry whole) (numbered_from (length before) es) back → AreProvedBehind c before es all → AllZip (IsTrimmedEntry c all kept) back ts → Built all front ts
  build all before front from back done [] [] stage keeps proved zip =
      let whole_front : kept ≡ from = stage.split ∙ ap (λ (ks : List Numbered). from ++ ks) keeps ∙ append-nil from in
      record {
        entries = front;
        proved = refl;
        corresponds = record {
          count = stage.corresponds.count ∙ ap length (sym whole_front);
          at = subst (λ es. (n : ℕ) → Counts n → n < length es → (r n < length front) × (entry_at front (r n) ≡ as_entry (entry_at es n))) (sym proved) stage.corresponds.at;
        };
        earlier = subst Earlier (sym proved) stage.earlier;
      }
  build all before front from back done [] (t ∷ ts) stage keeps proved zip =
      let wrong : AllZip (IsTrimmedEntry c all kept) [] (t ∷ ts) = subst (λ ks. AllZip (IsTrimmedEntry c all kept) ks (t ∷ ts)) keeps zip in absurd wrong
  build all before front from back done (e ∷ es) ts stage (inl (p, (rest, is, keeps))) (clauses, are, first, others) zip =
      let x : Entry = entry_with e clauses in
      let next : length before + 1 ≡ length (before ++ x ∷ []) = sym (length-append before (x ∷ [])) in
      let s = kept_step all before front from rest done e es ts (subst (λ ks. Stage before front from ks done (e ∷ es)) is stage) keeps clauses are first others
      (subst (λ ks. AllZip (IsTrimmedEntry c all kept) ks ts) is zip) in
      let built = build all (before ++ x ∷ []) (front ++ entry_with s.first clauses ∷ []) (from ++ (length before, e) ∷ []) rest (done ++ e ∷ []) es s.others s.stage
      (subst (λ k. Keeps (IsReachedEntry whole) (numbered_from k es) rest) next keeps) others s.zip in
      record {
        entries = built.entries;
        proved = subst (λ ws. AreProvedBehind c front ws built.entries) (sym s.split) (clauses, s.are, s.proved, built.proved);
        corresponds = built.corresponds;
        earlier = built.earlier;
      }
  build all before front from back done (e ∷ es) ts stage (inr (gone, keeps)) (clauses, are, first, others) zip =
      let x : Entry = entry_with e clauses in
      let next : length (before ++ x ∷ []) ≡ length before + 1 = length-append before (x ∷ []) in
      let none = none_here (length before) from back es stage.split stage.below keeps in
      build all (before ++ x ∷ []) front from back (done ++ e ∷ []) es ts
      (record {
        split = stage.split;
        whole_split = stage.whole_split ∙ sym (append_assoc done (e ∷ []) es);
        number = (let a = length-append done (e ∷ []) in let b = stage.number in omega (arith, a, b, next));
        corresponds = without_image before front from (length before) x refl stage.corresponds none;
        earlier = with_earlier before (length before) x refl stage.earlier (λ counts. absurd (none counts));
        below = below_later (length before) (length (before ++ x ∷ [])) from stage.below next;
      }) (subst (λ k. Keeps (IsReachedEntry whole) (numbered_from k es) back) (sym next) keeps) others zip
