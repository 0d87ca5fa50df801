-- An answer is trimmed to one thing.
use Rattle.std.proofs.Common.{◌≡◌, ℕ, suc, List, [], ◌∷◌, refl, sym, ap, ap₂, ◌∙◌, subst, inl, inr, Option, Some}
use Rattle.std.specs.List.{AllZip}
use Rattle.std.proofs.lemmas.Bool.{false≢true}
use Rattle.aig_semantics.specs.declared.traces.Stimulus.{Stimulus}
use Rattle.aig_semantics.specs.declared.traces.Lasso.{Lasso as LassoOf}
use Rattle.aig_semantics.specs.Circuits.{Circuit}
use Rattle.proof_semantics.specs.declared.literals.Lit.{Lit}
use Rattle.proof_semantics.specs.Lines.{Line, addition}
use Rattle.fair_semantics.specs.declared.entries.Kind.{Kind}
use Rattle.fair_semantics.specs.declared.entries.Use.{Use}
use Rattle.fair_semantics.specs.Entries.{Entry, entry_at, used_entries}
use Rattle.cnf_unroll.specs.Obligations.{skeleton_clauses}
use Rattle.entry.specs.Proved.{obligation_of}
use Rattle.certificate_lines.specs.declared.words.Version.{Version}
use Rattle.certificate.specs.declared.loaded.Loaded.TheVariants.{Lasso, Holds}
use Rattle.certificate_texts.specs.declared.certificates.Written.{Written}
use Rattle.certificate_texts.specs.declared.certificates.Certificate.{Certificate}
use Rattle.cert_tools.specs.Kept.{Keeps}
use Rattle.cert_tools.specs.TrimmedProofs.{IsFirstEmpty, IsReachedLine, IsTrimmedProof, AreTrimmedProofs}
use Rattle.cert_tools.specs.Trimmed.{Numbered, numbered_from, IsReachedEntry, renumbered, IsTrimmedEntry, IsTrimmedCertificate}
use Rattle.cert_tools.specs.Laws.{OneTrimmed}
use Rattle.cert_tools.proofs.TrimmedAgain.{proved_one}

keeps_one : {X : Type 0} (P : X → Type 0) (xs a b : List X) → Keeps P xs a → Keeps P xs b → a ≡ b
keeps_one P [] a b h k = h ∙ sym k
keeps_one P (x ∷ xs) a b (inl (p, (r, is, h))) (inl (q, (s, same, k))) = is ∙ ap (λ ys. x ∷ ys) (keeps_one P xs r s h k) ∙ sym same
keeps_one P (x ∷ xs) a b (inl (p, (r, is, h))) (inr (none, k)) = absurd (none p)
keeps_one P (x ∷ xs) a b (inr (none, h)) (inl (q, (s, same, k))) = absurd (none q)
keeps_one P (x ∷ xs) a b (inr (none, h)) (inr (other, k)) = keeps_one P xs a b h k

same_id : (a b : ℕ) (hints others : List Lit) → ◌≡◌ {A = Option Line} (Some (addition a [] hints)) (Some (addition b [] others)) → a ≡ b
same_id a b hints others e = cc e

first_one : (lines : List (List ℕ)) (a b : ℕ) → IsFirstEmpty lines a → IsFirstEmpty lines b → a ≡ b
first_one [] a b h k = absurd h
first_one (line ∷ lines) a b (inl (hints, adds)) (inl (others, too)) = same_id a b hints others (sym adds ∙ too)
first_one (line ∷ lines) a b (inl (hints, adds)) (inr (none, k)) = absurd (none a hints adds)
first_one (line ∷ lines) a b (inr (none, h)) (inl (hints, adds)) = absurd (none b hints adds)
first_one (line ∷ lines) a b (inr (none, h)) (inr (other, k)) = first_one lines a b h k

proof_one : (given : List (List Lit)) (lines a b : List (List ℕ)) → IsTrimmedProof given lines a → IsTrimmedProof given lines b → a ≡ b
proof_one given lines a b (inl (e, none)) (inl (f, other)) = none ∙ sym other
proof_one given lines a b (inl (e, none)) (inr (full, last, first, keeps)) = absurd (false≢true (sym full ∙ e))
proof_one given lines a b (inr (full, last, first, keeps)) (inl (e, none)) = absurd (false≢true (sym full ∙ e))
proof_one given lines a b (inr (full, last, first, keeps)) (inr (also, l, f, k)) =
    keeps_one (IsReachedLine lines last) lines a b keeps (subst (λ m. Keeps (IsReachedLine lines m) lines b) (first_one lines l last f first) k)

proofs_one : (obligation : ℕ → List (List Lit)) (i : ℕ) (proofs a b : List (List (List ℕ))) → AreTrimmedProofs obligation i proofs a → AreTrimmedProofs obligation i proofs b → a ≡ b
proofs_one obligation i [] a b h k = h ∙ sym k
proofs_one obligation i (p ∷ proofs) [] b h k = absurd h
proofs_one obligation i (p ∷ proofs) (x ∷ a) [] h k = absurd k
proofs_one obligation i (p ∷ proofs) (x ∷ a) (y ∷ b) (h, hs) (k, ks) =
    ap₂ (λ (z : List (List ℕ)) (zs : List (List (List ℕ))). z ∷ zs) (proof_one (obligation i) p x y h k) (proofs_one obligation (suc i) proofs a b hs ks)

same_written : (s t : Written) → s.kind ≡ t.kind → s.clauses ≡ t.clauses → s.uses ≡ t.uses → s.proofs ≡ t.proofs → s ≡ t
same_written s t kind clauses uses proofs =
    ap (λ (k : Kind). record { kind = k; clauses = s.clauses; uses = s.uses; proofs = s.proofs }) kind
    ∙ ap (λ (cs : List (List ℕ)). record { kind = t.kind; clauses = cs; uses = s.uses; proofs = s.proofs }) clauses
    ∙ ap (λ (us : List Use). record { kind = t.kind; clauses = t.clauses; uses = us; proofs = s.proofs }) uses
    ∙ ap (λ (ps : List (List (List ℕ))). record { kind = t.kind; clauses = t.clauses; uses = t.uses; proofs = ps }) proofs

entry_one : (c : Circuit) (all : List Entry) (kept : List Numbered) (from : Numbered) (s t : Written) → IsTrimmedEntry c all kept from s → IsTrimmedEntry c all kept from t → s ≡ t
entry_one c all kept from s t h k = same_written s t (h.kind ∙ sym k.kind) (h.clauses ∙ sym k.clauses) (h.uses ∙ sym k.uses) (proofs_one (obligation_of c all (entry_at all from.0)) 0 from.1.proofs s.proofs t.proofs h.proofs k.proofs)

zip_one : (R : Numbered → Written → Type 0) → ((from : Numbered) (s t : Written) → R from s → R from t → s ≡ t) → (ks : List Numbered) (a b : List Written) → AllZip R ks a → AllZip R ks b → a ≡ b
zip_one R one [] [] [] h k = refl
zip_one R one [] [] (t ∷ b) h k = absurd k
zip_one R one [] (s ∷ a) b h k = absurd h
zip_one R one (x ∷ ks) [] b h k = absurd h
zip_one R one (x ∷ ks) (s ∷ a) [] h k = absurd k
zip_one R one (x ∷ ks) (s ∷ a) (t ∷ b) (h, hs) (k, more) = ap₂ (λ (z : Written) (zs : List Written). z ∷ zs) (one x s t h k) (zip_one R one ks a b hs more)

same_certificate : (a b : Certificate) → a.version ≡ b.version → a.entries ≡ b.entries → a.uses ≡ b.uses → a.proof ≡ b.proof → a ≡ b
same_certificate a b version entries uses proof =
    ap (λ (v : Version). record { version = v; entries = a.entries; uses = a.uses; proof = a.proof }) version
    ∙ ap (λ (es : List Written). record { version = b.version; entries = es; uses = a.uses; proof = a.proof }) entries
    ∙ ap (λ (us : List Use). record { version = b.version; entries = b.entries; uses = us; proof = a.proof }) uses
    ∙ ap (λ (p : List (List ℕ)). record { version = b.version; entries = b.entries; uses = b.uses; proof = p }) proof

certificate_one : (c : Circuit) (n : ℕ) (all : List Entry) (whole a b : Certificate) → IsTrimmedCertificate c n all whole a → IsTrimmedCertificate c n all whole b → a ≡ b
certificate_one c n all whole a b h k =
    let same : k.kept ≡ h.kept = keeps_one (IsReachedEntry whole) (numbered_from 0 whole.entries) k.kept h.kept k.reached h.reached in
    let entries : AllZip (IsTrimmedEntry c all h.kept) h.kept b.entries = subst (λ ks. AllZip (IsTrimmedEntry c all ks) ks b.entries) same k.entries in
    same_certificate a b (h.version ∙ sym k.version) (zip_one (IsTrimmedEntry c all h.kept) (λ from s t p q. entry_one c all h.kept from s t p q) h.kept a.entries b.entries h.entries entries)
    (h.uses ∙ ap (λ ks. renumbered ks whole.uses) (sym same) ∙ sym k.uses) (proof_one (skeleton_clauses c n (used_entries all whole.uses)) whole.proof a.proof b.proof h.proof k.proof)

same_lasso : (n : ℕ) (lasso : LassoOf) (m : ℕ) (kept : Stimulus) (same : LassoOf) → m ≡ n → same ≡ lasso → kept ≡ record { latches = lasso.start; inputs = lasso.inputs }
    → Lasso m kept same ≡ Lasso n (record { latches = lasso.start; inputs = lasso.inputs }) lasso
same_lasso n lasso m kept same number is of = cc (number, is, of)

same_holds : (n m k : ℕ) (a b : Certificate) → m ≡ n → k ≡ n → a ≡ b → Holds m a ≡ Holds k b
same_holds n m k a b number other same = cc (number, other, same)

pub trimmed_one : (c : Circuit) → OneTrimmed c
trimmed_one c (Lasso n stimulus lasso) (Lasso m kept same) (Lasso k more too) (number, is, of) (other, also, by) =
    same_lasso n lasso m kept same number is of ∙ sym (same_lasso n lasso k more too other also by)
trimmed_one c (Holds n whole) (Holds m a) (Holds k b) (number, all, proved, h) (other, others, too, g) =
    same_holds n m k a b number other
    (certificate_one c n all whole a b h (subst (λ es. IsTrimmedCertificate c n es whole b) (proved_one c [] whole.entries others all too proved) g))
trimmed_one c (Lasso n stimulus lasso) (Holds m a) other h k = absurd h
trimmed_one c (Lasso n stimulus lasso) (Lasso m kept same) (Holds k b) h g = absurd g
trimmed_one c (Holds n whole) (Lasso m kept same) other h k = absurd h
trimmed_one c (Holds n whole) (Holds m a) (Lasso k more too) h g = absurd g
