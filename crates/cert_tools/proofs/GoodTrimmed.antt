-- What is trimmed of a good certificate is good.
use Rattle.std.proofs.Common.{◌≡◌, ℕ, suc, ◌+◌, ◌<◌, ◌≤◌, ◌^◌, Bool, true, false, cond, List, [], ◌∷◌, map, length, get_or, refl, sym, ap, ◌∙◌, subst, inl, inr, arith, All}
use Rattle.std.specs.Prelude.{nat_lt}
use Rattle.std.specs.List.{AllZip, filter}
use Rattle.std.proofs.lemmas.List.{length-map}
use Rattle.std.proofs.lemmas.List.Elements.{All-head, All-tail, All-cons, All-nil, All-map, All-contains}
use Rattle.aig_semantics.specs.Circuits.{Circuit}
use Rattle.proof_semantics.specs.declared.literals.Lit.{Lit}
use Rattle.proof_semantics.specs.Proofs.{Refutes}
use Rattle.fair_semantics.specs.declared.entries.Use.{Use}
use Rattle.fair_semantics.specs.Entries.{Entry, entry_at, used_entries, IsSigned, AreClosed}
use Rattle.cnf_unroll.specs.Obligations.{skeleton_clauses}
use Rattle.certificate_lines.specs.declared.words.Version.{Version}
use Rattle.certificate_lines.specs.declared.words.Version.TheVariants.{Two}
use Rattle.certificate_lines.specs.Fields.{IsNumber}
use Rattle.certificate_lines.specs.Uses.{MayStand, written}
use Rattle.entry.specs.Proved.{obligation_of}
use Rattle.certificate.specs.declared.limits.TheConstants.{MAX_ENTRIES}
use Rattle.certificate_texts.specs.declared.certificates.Written.{Written}
use Rattle.certificate_texts.specs.declared.certificates.Certificate.{Certificate}
use Rattle.certificate_texts.specs.Certificates.{CanBeWritten}
use Rattle.certificate.specs.Certificates.{IsGoodCertificate}
use Rattle.certificate.proofs.GoodRead.{all_proved}
use Rattle.cert_tools.specs.Kept.{Keeps}
use Rattle.cert_tools.specs.TrimmedProofs.{IsTrimmedProof, AreTrimmedProofs}
use Rattle.cert_tools.specs.Trimmed.{Numbered, numbered_from, IsReachedEntry, place_among, renumbered, IsTrimmedEntry, IsTrimmedCertificate}
use Rattle.cert_tools.proofs.KeptLaws.{In, kept_in, zip_length}
use Rattle.cert_tools.proofs.Places.{AllBelow}
use Rattle.cert_tools.proofs.SameClauses.{skeleton_same}
use Rattle.cert_tools.proofs.TrimmedGood.{trimmed_refutes}
use Rattle.cert_tools.proofs.TrimmedCertificates.{Counts, one, as_use, AllCounted, Corresponds, Earlier, Closes, Built, build, used_as, all_counted, closed_as, all_of_uses, refuting_counts}

keeps_length : {X : Type 0} (P : X → Type 0) (xs kept : List X) → Keeps P xs kept → length kept ≤ length xs
keeps_length P [] kept none = (let size = ap length none in omega (arith, size))
keeps_length P (x ∷ xs) kept (inl (p, (rest, is, keeps))) = (let size = ap length is in let more = keeps_length P xs rest keeps in omega (arith, size, more))
keeps_length P (x ∷ xs) kept (inr (none, keeps)) = (let more = keeps_length P xs kept keeps in omega (arith, more))

proof_length : (given : List (List Lit)) (lines kept : List (List ℕ)) → IsTrimmedProof given lines kept → length kept ≤ length lines
proof_length given lines kept (inl (empty, none)) = (let size = ap length none in omega (arith, size))
proof_length given lines kept (inr (full, last, first, keeps)) = keeps_length _ lines kept keeps

small_proof : (most : ℕ) (proof : List (List ℕ)) → IsNumber most → length proof ≤ most → IsNumber (length proof)
small_proof most proof small within = omega (arith, small, within)

proofs_small : (obligation : ℕ → List (List Lit)) (i : ℕ) (proofs kept : List (List (List ℕ))) → AreTrimmedProofs obligation i proofs kept → All (λ proof. IsNumber (length proof)) proofs
    → All (λ proof. IsNumber (length proof)) kept
proofs_small obligation i [] kept none small = subst (All (λ proof. IsNumber (length proof))) (sym none) (All-nil (λ proof. IsNumber (length proof)))
proofs_small obligation i (proof ∷ proofs) [] never small = absurd never
proofs_small obligation i (proof ∷ proofs) (kept ∷ more) (first, others) small =
    let N : List (List ℕ) → Type 0 = λ p. IsNumber (length p) in
    All-cons N kept more (small_proof (length proof) kept (All-head N proof proofs small) (proof_length (obligation i) proof kept first))
    (proofs_small obligation (suc i) proofs more others (All-tail N proof proofs small))

numbered_length : (n : ℕ) (es : List Written) → length (numbered_from n es) ≡ length es
numbered_length n [] = refl
numbered_length n (e ∷ es) = ap suc (numbered_length (n + 1) es)

numbered_all : (P : Written → Type 0) (n : ℕ) (es : List Written) (x : Numbered) → All P es → In x (numbered_from n es) → P x.1
numbered_all P n [] x all at = absurd at
numbered_all P n (e ∷ es) x all (inl same) = subst P (sym (ap (λ (y : Numbered). y.1) same)) (All-head P e es all)
numbered_all P n (e ∷ es) x all (inr at) = numbered_all P (n + 1) es x (All-tail P e es all) at

pub filter_length : (p : Numbered → Bool) (xs : List Numbered) → length (filter p xs) ≤ length xs
filter_length p [] = omega arith
filter_length p (x ∷ xs) = by (p x) (filter_length p xs)
  where
    by : (b : Bool) → length (filter p xs) ≤ length xs → length (cond b (x ∷ filter p xs) (filter p xs)) ≤ suc (length xs)
    by true more = omega (arith, more)
    by false more = omega (arith, more)

uses_stand : (kept : List Numbered) (uses : List Use) → length kept ≤ MAX_ENTRIES → All (MayStand Two) (map written (renumbered kept uses))
uses_stand kept uses few =
    let renamed : Use → Use = λ u. record { entry = place_among kept u.entry; side = u.side } in
    All-map (MayStand Two) written (map renamed uses) (All-map (λ (u : Use). MayStand Two (written u)) renamed uses
    (λ k d below.
    let most = filter_length (λ e. nat_lt e.0 (get_or uses k d).entry) kept in
    (let small : place_among kept (get_or uses k d).entry < 2 ^ 63 = omega (arith, most, few) in (small, tt))))

forms : (c : Circuit) (v : Version) (all : List Entry) (kept ks : List Numbered) (ts : List Written) → length kept ≤ MAX_ENTRIES → AllZip (IsTrimmedEntry c all kept) ks ts → ((x : Numbered) → In x ks → CanBeWritten v x.1)
    → All (CanBeWritten Two) ts
forms c v all kept [] [] few zip each = All-nil (CanBeWritten Two)
forms c v all kept [] (t ∷ ts) few zip each = absurd zip
forms c v all kept (k ∷ ks) [] few zip each = absurd zip
forms c v all kept (k ∷ ks) (t ∷ ts) few (to, zip) each =
    let old = each k (inl refl) in
    let clauses : length t.clauses ≡ length k.1.clauses = ap length to.clauses in
    let uses : length t.uses ≡ length k.1.uses = ap length to.uses ∙ length-map k.1.uses (λ (u : Use). record { entry = place_among kept u.entry; side = u.side }) in
    let sizes = old.sizes in
    let many_clauses : length t.clauses < 2 ^ 63 = (let h = sizes.0 in omega (arith, h, clauses)) in
    let many_uses : length t.uses < 2 ^ 63 = (let h = sizes.1 in omega (arith, h, uses)) in
    All-cons (CanBeWritten Two) t ts (record {
      sizes = (many_clauses, many_uses);
      uses = subst (λ us. All (MayStand Two) (map written us)) (sym to.uses) (uses_stand kept k.1.uses few);
      literals = subst (All (All IsNumber)) (sym to.clauses) old.literals;
      proofs = proofs_small (obligation_of c all (entry_at all k.0)) 0 k.1.proofs t.proofs to.proofs old.proofs;
    })
    (forms c v all kept ks ts few zip (λ x at. each x (inr at)))

pub many_entries : (c : Circuit) (n : ℕ) (whole : Certificate) (good : IsGoodCertificate c n whole) → length good.entries ≡ length whole.entries
many_entries c n whole good = (let count = all_proved c [] whole.entries good.entries good.proved in omega (arith, count))

-- the entries that are made of those that are kept
pub built_of : (c : Circuit) (n : ℕ) (whole trimmed : Certificate) (good : IsGoodCertificate c n whole) (h : IsTrimmedCertificate c n good.entries whole trimmed)
    → Built c whole h.kept h.reached good.entries [] trimmed.entries
unfolding AllBelow
built_of c n whole trimmed good h =
    let start_corresponds : Corresponds c whole h.kept h.reached [] [] [] = record { count = refl; at = λ m counts below. absurd (omega (arith, below)) } in
    let start_earlier : Earlier c whole h.kept h.reached [] = record { uses = λ m counts below. absurd (omega (arith, below)) } in
    build c whole h.kept h.reached good.entries [] [] [] h.kept [] whole.entries trimmed.entries
    (record { split = refl; whole_split = refl; number = refl; corresponds = start_corresponds; earlier = start_earlier; below = λ e at. absurd at })
    h.reached good.proved h.entries

pub refuting_counted : (c : Circuit) (n : ℕ) (whole trimmed : Certificate) (good : IsGoodCertificate c n whole) (h : IsTrimmedCertificate c n good.entries whole trimmed)
    → AllCounted c whole h.kept h.reached whole.uses
refuting_counted c n whole trimmed good h =
    let refuted = good.refuted in
    let below : All (λ u. u.entry < length good.entries) whole.uses = refuted.closed.present in
    let count = many_entries c n whole good in
    all_of_uses c whole h.kept h.reached (λ u. Counts c whole h.kept h.reached u.entry) whole.uses
    (λ u among. refuting_counts c whole h.kept h.reached u among (let b : u.entry < length good.entries = All-contains (λ (v : Use). v.entry < length good.entries) whole.uses u below among in omega (arith, b, count)))

pub trimmed_is_good : (c : Circuit) (n : ℕ) (whole trimmed : Certificate) (good : IsGoodCertificate c n whole) → IsTrimmedCertificate c n good.entries whole trimmed → IsGoodCertificate c n trimmed
trimmed_is_good c n whole trimmed good h =
    let kept : List Numbered = h.kept in
    let all : List Entry = good.entries in
    let count : length all ≡ length whole.entries = many_entries c n whole good in
    let fewer = keeps_length (IsReachedEntry whole) (numbered_from 0 whole.entries) kept h.reached in
    let size = numbered_length 0 whole.entries in
    let limit = good.few in
    let few : length kept ≤ MAX_ENTRIES = omega (arith, fewer, size, limit) in
    let as_many = zip_length (IsTrimmedEntry c all kept) kept trimmed.entries h.entries in
    let built = built_of c n whole trimmed good h in
    let refuted = good.refuted in
    let below : All (λ u. u.entry < length all) whole.uses = refuted.closed.present in
    let counted : AllCounted c whole kept h.reached whole.uses = refuting_counted c n whole trimmed good h in
    let closes : Closes c whole kept h.reached all whole.uses = record {
      closed = refuted.closed;
      counted = counted;
      named = λ k d inside. built.earlier.uses (get_or whole.uses k d).entry (counted k d inside) (below k d inside);
    } in
    let clauses : skeleton_clauses c n (used_entries built.entries (renumbered kept whole.uses)) ≡ skeleton_clauses c n (used_entries all whole.uses) =
    ap (skeleton_clauses c n) (used_as c whole kept h.reached all built.entries kept whole.uses built.corresponds counted below)
    ∙ skeleton_same (Counts c whole kept h.reached) (place_among kept) (one c whole kept h.reached) c n (used_entries all whole.uses) (all_counted c whole kept h.reached all whole.uses counted closes.named) in
    let old_sizes = good.sizes in
    let uses_size : length trimmed.uses ≡ length whole.uses = ap length h.uses ∙ length-map whole.uses (λ (u : Use). record { entry = place_among kept u.entry; side = u.side }) in
    let proof_size = proof_length (skeleton_clauses c n (used_entries good.entries whole.uses)) whole.proof trimmed.proof h.proof in
    let many_uses : length trimmed.uses < 2 ^ 63 = (let a = old_sizes.0 in omega (arith, a, uses_size)) in
    let many_lines : length trimmed.proof < 2 ^ 63 = (let a = old_sizes.1 in omega (arith, a, proof_size)) in
    let stand : All (MayStand Two) (map written trimmed.uses) = subst (λ us. All (MayStand Two) (map written us)) (sym h.uses) (uses_stand kept whole.uses few) in
    record {
      form = subst (λ v. All (CanBeWritten v) trimmed.entries) (sym h.version)
          (forms c whole.version all kept kept trimmed.entries few h.entries
          (λ x at. numbered_all (CanBeWritten whole.version) 0 whole.entries x good.form (kept_in (IsReachedEntry whole) (numbered_from 0 whole.entries) kept x h.reached at)));
      sizes = (many_uses, many_lines);
      signs = subst (λ v. All (MayStand v) (map written trimmed.uses)) (sym h.version) stand;
      few = omega (arith, few, as_many);
      entries = built.entries;
      proved = built.proved;
      refuted = record {
        closed = subst (AreClosed built.entries) (sym h.uses) (closed_as c whole kept h.reached all built.entries kept whole.uses built.corresponds closes);
        unsigned = subst (All (λ u. IsSigned u → ⊥)) (sym h.uses) (All-map (λ (u : Use). IsSigned u → ⊥) (as_use c whole kept h.reached) whole.uses refuted.unsigned);
        refutes = subst (λ us. Refutes (skeleton_clauses c n (used_entries built.entries us)) trimmed.proof) (sym h.uses)
            (subst (λ given. Refutes given trimmed.proof) (sym clauses) (trimmed_refutes (skeleton_clauses c n (used_entries all whole.uses)) whole.proof trimmed.proof refuted.refutes h.proof));
      };
    }
