-- The obligations of an entry of a good certificate: its proofs refute them, and all of them have an empty clause or none.
use Rattle.std.proofs.Common.{◌≡◌, ℕ, zero, suc, ◌+◌, ◌<◌, ◌≤◌, ◌^◌, Bool, true, false, ◌||◌, List, [], ◌∷◌, ◌++◌, length, take, get_or, take_all, length-append, append_assoc, refl, sym, ap, ap₂, ◌∙◌, subst, arith, All, Option, Some, None, Result, Ok}
use Rattle.std.specs.Prelude.{◌↔◌, slice_get, slice_index_or}
use Rattle.std.specs.List.{AllZip}
use Rattle.std.proofs.lemmas.Option.{slice_get_within}
use Rattle.std.proofs.lemmas.List.Elements.{All-head, All-tail, All-weaker}
use Rattle.aig_semantics.specs.Circuits.{Circuit}
use Rattle.proof_semantics.specs.declared.literals.Lit.{Lit}
use Rattle.proof_semantics.specs.Proofs.{is_empty, Refutes}
use Rattle.fair_semantics.specs.declared.entries.Kind.{Kind}
use Rattle.fair_semantics.specs.declared.entries.Kind.TheVariants.{Reach, Wall}
use Rattle.fair_semantics.specs.declared.entries.Use.{Use}
use Rattle.fair_semantics.specs.Entries.{Entry, entry_at, used_entries, Numbered as NumberedEntry}
use Rattle.cnf_unroll.specs.Obligations.{obligation_clauses, skeleton_clauses}
use Rattle.entry.specs.declared.faults.EntryFault.{EntryFault}
use Rattle.entry.specs.Clauses.{latch_literal, with_literal, clause_behind, clause_of}
use Rattle.entry.specs.Proved.{obligation_of, IsProved}
use Rattle.certificate_lines.specs.declared.words.Version.TheVariants.{Two}
use Rattle.certificate_texts.specs.declared.certificates.Written.{Written}
use Rattle.certificate_texts.specs.declared.certificates.Certificate.{Certificate}
use Rattle.certificate.specs.Certificates.{AreClausesOf, entry_with, AreProvedBehind, IsGoodCertificate}
use Rattle.certificate.proofs.GoodRead.{all_proved}
use Rattle.fair_semantics.proofs.Sets.{entry_at-place}
use Rattle.cert_tools.specs.declared.reaching.Numbers.{Numbers}
use Rattle.cert_tools.specs.Reaching.{is_in, IsReachedFrom}
use Rattle.cert_tools.specs.Empty.{has_empty, entry_empties, uses_empty}
use Rattle.cert_tools.specs.TrimmedProofs.{IsTrimmedProof, AreTrimmedProofs}
use Rattle.cert_tools.specs.TrimmingProofs.{AreRefuted}
use Rattle.cert_tools.specs.Trimmed.{Numbered, IsTrimmedEntry, IsTrimmedCertificate}
use Rattle.cert_tools.specs.TrimmingEntries.{numbers_of, entry_nodes, needed_entries, ArePlaces, at_places, no_literals, spells_empty, if_given, written_empties, any_empties, IsEntryOf, GetsEntry}
use Rattle.cert_tools.proofs.TrimmedCertificates.{at_front, there}
use Rattle.cert_tools.proofs.TrimmedAgain.{written_below, behind_there}
use Rattle.cert_tools.proofs.EmptyClauses.{obligation_empty, skeleton_empty}
use Rattle.cert_tools.proofs.EntryNodes.{needed_are_kept}
use Rattle.cert_tools.proofs.EntryPlaces.{at_their_places, needed_there, needed_not}

abbrev Clauses : Type 0
Clauses = List (List Lit)

-- ---- an entry of the certificate, proved behind those before it

pub record Stands (c : Circuit) (all : List Entry) (n : ℕ) (e : Written) : Type 0 where
  pub clauses : Clauses
  pub are : AreClausesOf c e.clauses clauses
  pub is : entry_at all n ≡ entry_with e clauses
  pub before : List Entry
  pub more : List Entry
  pub split : all ≡ before ++ more
  pub proved : IsProved c before (entry_with e clauses) e.proofs

stands_behind : (c : Circuit) (before : List Entry) (es : List Written) (all : List Entry) (i : ℕ) (e : Written) → AreProvedBehind c before es all → slice_get es i ≡ Some e
    → Stands c all (length before + i) e
stands_behind c before [] all i e proved at = absurd (cc at)
stands_behind c before (x ∷ es) all zero e (clauses, are, first, others) at =
    let same : x ≡ e = cc at in
    let (more, split) = behind_there c (before ++ entry_with x clauses ∷ []) es all others in
    let whole : all ≡ before ++ entry_with x clauses ∷ more = split ∙ append_assoc before (entry_with x clauses ∷ []) more in
    let number : length before + 0 ≡ length before = omega arith in
    subst (λ (y : Written). Stands c all (length before + 0) y) same
    (record {
      clauses = clauses;
      are = are;
      is = ap (entry_at all) number ∙ ap (λ es2. entry_at es2 (length before)) whole ∙ entry_at-place before (entry_with x clauses) more;
      before = before;
      more = entry_with x clauses ∷ more;
      split = whole;
      proved = first;
    })
stands_behind c before (x ∷ es) all (suc i) e (clauses, are, first, others) at =
    let size = length-append before (entry_with x clauses ∷ []) in
    let number : length (before ++ entry_with x clauses ∷ []) + i ≡ length before + suc i = omega (arith, size) in
    subst (λ n. Stands c all n e) number (stands_behind c (before ++ entry_with x clauses ∷ []) es all i e others at)

pub stands : (c : Circuit) (es : List Written) (all : List Entry) (k : ℕ) (e : Written) → IsEntryOf c es all k e → Stands c all k e
stands c es all k e (proved, at) = (let number : 0 + k ≡ k = omega arith in subst (λ n. Stands c all n e) number (stands_behind c [] es all k e proved at))

-- the entries that are used stand before it
alike : (before more : List Entry) (uses : List Use) → All (λ u. u.entry < length before) uses → used_entries (before ++ more) uses ≡ used_entries before uses
alike before more [] low = refl
alike before more (u ∷ uses) low =
    ap₂ (λ (e : Entry) (us : List NumberedEntry). record { number = u.entry; entry = e } ∷ us)
    (at_front before more u.entry (All-head (λ (v : Use). v.entry < length before) u uses low))
    (alike before more uses (All-tail (λ (v : Use). v.entry < length before) u uses low))

-- the obligation, over the whole list
over_all : (c : Circuit) (all : List Entry) (n : ℕ) (e : Written) (s : Stands c all n e) (i : ℕ) → obligation_of c s.before (entry_with e s.clauses) i ≡ obligation_of c all (entry_at all n) i
over_all c all n e s i =
    ap (λ us. obligation_clauses c us e.uses s.clauses i) (sym (ap (λ es. used_entries es e.uses) s.split ∙ alike s.before s.more e.uses s.proved.closed.present))
    ∙ ap (λ (x : Entry). obligation_of c all x i) (sym s.is)

refuted_all : (obligation : ℕ → Clauses) (i : ℕ) (proofs : List (List (List ℕ))) → ((k : ℕ) → k < length proofs → Refutes (obligation (i + k)) (slice_index_or proofs k [])) → AreRefuted obligation i proofs
refuted_all obligation i [] h = tt
refuted_all obligation i (proof ∷ proofs) h = (
  (let same : i + 0 ≡ i = omega arith in subst (λ n. Refutes (obligation n) proof) same (h 0 (omega arith))),
  refuted_all obligation (suc i) proofs
      (λ k below.
      (let same : i + suc k ≡ suc i + k = omega arith in subst (λ n. Refutes (obligation n) (slice_index_or proofs k [])) same (h (suc k) (omega (arith, below))))),
)

pub entry_refuted : (c : Circuit) (es : List Written) (all : List Entry) (k : ℕ) (e : Written) → IsEntryOf c es all k e → AreRefuted (obligation_of c all (entry_at all k)) 0 e.proofs
entry_refuted c es all k e h =
    let s : Stands c all k e = stands c es all k e h in
    let count = s.proved.each.count in
    refuted_all (obligation_of c all (entry_at all k)) 0 e.proofs
    (λ i below.
    let number : i ≡ 0 + i = omega arith in
    subst (λ n. Refutes (obligation_of c all (entry_at all k) n) (slice_index_or e.proofs i [])) number
    (subst (λ given. Refutes given (slice_index_or e.proofs i [])) (over_all c all k e s i) (s.proved.each.refute i (omega (arith, below, count)))))

-- ---- empty clauses

with_some : (o : Option Lit) (literal : ℕ) (rest : Lit → Result (List Lit) EntryFault) (clause : List Lit) → with_literal o literal rest ≡ Ok clause → (l : Lit) × (rest l ≡ Ok clause)
with_some None literal rest clause e = absurd (cc e)
with_some (Some l) literal rest clause e = (l, e)

behind_size : (c : Circuit) (front : List Lit) (literals : List ℕ) (clause : List Lit) → clause_behind c front literals ≡ Ok clause → length clause ≡ length front + length literals
behind_size c front [] clause e = (let same : front ≡ clause = cc e in let size = ap length same in omega (arith, size))
behind_size c front (literal ∷ literals) clause e =
    let (l, more) = with_some (latch_literal c literal) literal (λ x. clause_behind c (front ++ x ∷ []) literals) clause e in
    let size = length-append front (l ∷ []) in let rest = behind_size c (front ++ l ∷ []) literals clause more in omega (arith, size, rest)

bare_same : (literals : List ℕ) (clause : List Lit) → length clause ≡ length literals → is_empty clause ≡ no_literals literals
bare_same [] [] same = refl
bare_same [] (l ∷ clause) same = absurd (omega (arith, same))
bare_same (literal ∷ literals) [] same = absurd (omega (arith, same))
bare_same (literal ∷ literals) (l ∷ clause) same = refl

clause_bare : (c : Circuit) (literals : List ℕ) (clause : List Lit) → clause_of c literals ≡ Ok clause → is_empty clause ≡ no_literals literals
clause_bare c literals clause e = bare_same literals clause (let size = behind_size c [] literals clause e in omega (arith, size))

clauses_bare : (c : Circuit) (literals : List (List ℕ)) (clauses : Clauses) → AreClausesOf c literals clauses → has_empty clauses ≡ spells_empty literals
clauses_bare c [] [] are = refl
clauses_bare c [] (k ∷ clauses) are = absurd (cc are)
clauses_bare c (l ∷ literals) [] are = absurd (cc are)
clauses_bare c (l ∷ literals) (k ∷ clauses) are = ap₂ (λ a b. a || b) (clause_bare c l k (cc are)) (clauses_bare c literals clauses (cc are))

given_bare : (e : Written) (clauses : Clauses) (kind : Kind) → has_empty clauses ≡ spells_empty e.clauses → entry_empties (entry_with e clauses) kind ≡ if_given kind (spells_empty e.clauses)
given_bare e clauses Reach same = same
given_bare e clauses Wall same = refl

used_bare : (c : Circuit) (es : List Written) (all : List Entry) → AreProvedBehind c [] es all → (n : ℕ) → n < length es
    → entry_empties (entry_at all n) (entry_at all n).kind ≡ written_empties (slice_get es n)
used_bare c es all proved n below =
    let (e, at) = there es n below in
    let s : Stands c all n e = stands c es all n e (proved, at) in
    ap (λ (x : Entry). entry_empties x x.kind) s.is ∙ given_bare e s.clauses e.kind (clauses_bare c e.clauses s.clauses s.are) ∙ sym (ap written_empties at)

pub uses_bare : (c : Circuit) (es : List Written) (all : List Entry) → AreProvedBehind c [] es all → (uses : List Use) → All (λ u. u.entry < length es) uses
    → uses_empty (used_entries all uses) ≡ any_empties es uses
uses_bare c es all proved [] low = refl
uses_bare c es all proved (u ∷ uses) low =
    ap₂ (λ a b. a || b) (used_bare c es all proved u.entry (All-head (λ (v : Use). v.entry < length es) u uses low))
    (uses_bare c es all proved uses (All-tail (λ (v : Use). v.entry < length es) u uses low))

pub uses_inside : (c : Circuit) (es : List Written) (all : List Entry) (k : ℕ) (e : Written) → IsEntryOf c es all k e → All (λ u. u.entry < length es) e.uses
uses_inside c es all k e (proved, at) =
    let inside = slice_get_within es k e at in
    All-weaker (λ (u : Use). u.entry < 0 + k) (λ (u : Use). u.entry < length es) (λ u h. omega (arith, h, inside)) e.uses (written_below c [] es all k e proved at)

pub entry_bare : (c : Circuit) (es : List Written) (all : List Entry) (k : ℕ) (e : Written) → IsEntryOf c es all k e
    → (i : ℕ) → has_empty (obligation_of c all (entry_at all k) i) ≡ (any_empties es e.uses || spells_empty e.clauses)
entry_bare c es all k e h i =
    let s : Stands c all k e = stands c es all k e h in
    ap (λ (x : Entry). has_empty (obligation_of c all x i)) s.is
    ∙ obligation_empty c (used_entries all e.uses) e.uses s.clauses i
    ∙ ap₂ (λ a b. a || b) (uses_bare c es all h.0 e.uses (uses_inside c es all k e h)) (clauses_bare c e.clauses s.clauses s.are)

-- ---- what becomes of an entry

pub entry_trimmed : (c : Circuit) (es : List Written) (all : List Entry) (among : List Numbered) (k : ℕ) (e : Written) (places : List ℕ) (empty : Bool) (proofs : List (List (List ℕ)))
    → IsEntryOf c es all k e → ArePlaces among (length es) places → empty ≡ (any_empties es e.uses || spells_empty e.clauses)
    → ((obligation : ℕ → Clauses) → AreRefuted obligation 0 e.proofs → ((i : ℕ) → has_empty (obligation i) ≡ empty) → AreTrimmedProofs obligation 0 e.proofs proofs)
    → IsTrimmedEntry c all among (k, e) (record { kind = e.kind; clauses = e.clauses; uses = at_places places e.uses; proofs = proofs })
entry_trimmed c es all among k e places empty proofs h are is trims = record {
  kind = refl;
  clauses = refl;
  uses = at_their_places among (length es) places e.uses are (uses_inside c es all k e h);
  proofs = trims (obligation_of c all (entry_at all k)) (entry_refuted c es all k e h) (λ i. entry_bare c es all k e h i ∙ sym is);
}

-- ---- all that are kept

zip_push : {A B : Type 0} (R : A → B → Type 0) (xs : List A) (ys : List B) (x : A) (y : B) → AllZip R xs ys → R x y → AllZip R (xs ++ x ∷ []) (ys ++ y ∷ [])
zip_push R [] [] x y zip h = (h, tt)
zip_push R [] (b ∷ ys) x y zip h = absurd zip
zip_push R (a ∷ xs) [] x y zip h = absurd zip
zip_push R (a ∷ xs) (b ∷ ys) x y (first, zip) h = (first, zip_push R xs ys x y zip h)

-- one entry on
pub entries_next : (R : Numbered → Written → Type 0) (numbers : Numbers) (es : List Written) (k : ℕ) (d : Written) (old new : List Written) → k < length es
    → AllZip R (needed_entries numbers (take k es)) old → GetsEntry R (is_in numbers k) (k, get_or es k d) old new → AllZip R (needed_entries numbers (take (k + 1) es)) new
entries_next R numbers es k d old new below zip gets = by (is_in numbers k) refl gets
  where
    by : (b : Bool) → is_in numbers k ≡ b → GetsEntry R b (k, get_or es k d) old new → AllZip R (needed_entries numbers (take (k + 1) es)) new
    by true is (to, h, more) =
        subst (λ ks. AllZip R ks new) (sym (needed_there numbers es k d below is))
        (subst (λ ts. AllZip R (needed_entries numbers (take k es) ++ (k, get_or es k d) ∷ []) ts) (sym more) (zip_push R (needed_entries numbers (take k es)) old (k, get_or es k d) to zip h))
    by false is same =
        subst (λ ks. AllZip R ks new) (sym (needed_not numbers es k d below is)) (subst (λ ts. AllZip R (needed_entries numbers (take k es)) ts) (sym same) zip)

pub entries_done : (R : Numbered → Written → Type 0) (numbers : Numbers) (es : List Written) (k : ℕ) (new : List Written) → length es ≤ k
    → AllZip R (needed_entries numbers (take k es)) new → AllZip R (needed_entries numbers es) new
entries_done R numbers es k new past zip = subst (λ xs. AllZip R (needed_entries numbers xs) new) (take_all k es past) zip

pub get_there : (es : List Written) (k : ℕ) (d : Written) → k < length es → slice_get es k ≡ Some (get_or es k d)
get_there [] k d below = absurd (omega (arith, below))
get_there (e ∷ es) zero d below = refl
get_there (e ∷ es) (suc k) d below = get_there es k d (omega (arith, below))

some_same : (a b : Written) → ◌≡◌ {A = Option Written} (Some a) (Some b) → a ≡ b
some_same a b e = cc e

-- what is read at a place is the entry there
pub at_index : (es : List Written) (k : ℕ) (d e : Written) → slice_get es k ≡ Some e → d ≡ get_or es k d → k < length es → e ≡ d
at_index es k d e at is below = some_same e (get_or es k d) (sym at ∙ get_there es k d below) ∙ sym is

-- ---- the certificate

-- the uses of the refutation are of its entries
pub refuting_inside : (c : Circuit) (n : ℕ) (whole : Certificate) (good : IsGoodCertificate c n whole) → All (λ u. u.entry < length whole.entries) whole.uses
refuting_inside c n whole good =
    let refuted = good.refuted in
    let count = all_proved c [] whole.entries good.entries good.proved in
    All-weaker (λ (u : Use). u.entry < length good.entries) (λ (u : Use). u.entry < length whole.entries) (λ u h. omega (arith, h, count)) whole.uses refuted.closed.present

pub few_entries : (c : Circuit) (n : ℕ) (whole : Certificate) → IsGoodCertificate c n whole → length whole.entries < 2 ^ 32
few_entries c n whole good = (let few = good.few in omega (arith, few))

pub refuting_bare : (c : Circuit) (n : ℕ) (whole : Certificate) (good : IsGoodCertificate c n whole)
    → has_empty (skeleton_clauses c n (used_entries good.entries whole.uses)) ≡ any_empties whole.entries whole.uses
refuting_bare c n whole good =
    skeleton_empty c n (used_entries good.entries whole.uses) ∙ uses_bare c whole.entries good.entries good.proved whole.uses (refuting_inside c n whole good)

pub certificate_trimmed : (c : Circuit) (n : ℕ) (whole : Certificate) (numbers : Numbers) (places : List ℕ) (uses : List Use) (empty : Bool) (entries : List Written) (proof : List (List ℕ)) → IsGoodCertificate c n whole
    → ((m : ℕ) → (is_in numbers m ≡ true) ↔ IsReachedFrom (entry_nodes 0 whole.entries) (numbers_of whole.uses) m)
    → ArePlaces (needed_entries numbers whole.entries) (length whole.entries) places → uses ≡ at_places places whole.uses → empty ≡ any_empties whole.entries whole.uses
    → ((given : Clauses) → Refutes given whole.proof → has_empty given ≡ empty → IsTrimmedProof given whole.proof proof)
    → ((d : Circuit) (all : List Entry) (among : List Numbered) → AreProvedBehind d [] whole.entries all → ArePlaces among (length whole.entries) places
    → AllZip (IsTrimmedEntry d all among) (needed_entries numbers whole.entries) entries)
    → (all : List Entry) × AreProvedBehind c [] whole.entries all
    × IsTrimmedCertificate c n all whole (record { version = Two; entries = entries; uses = uses; proof = proof })
certificate_trimmed c n whole numbers places uses empty entries proof good exact are named is trims each =
    let refuted = good.refuted in (
      good.entries,
      good.proved,
      record {
        version = refl;
        kept = needed_entries numbers whole.entries;
        reached = needed_are_kept whole numbers exact;
        entries = each c good.entries (needed_entries numbers whole.entries) good.proved are;
        uses = named ∙ at_their_places (needed_entries numbers whole.entries) (length whole.entries) places whole.uses are (refuting_inside c n whole good);
        proof = trims (skeleton_clauses c n (used_entries good.entries whole.uses)) refuted.refutes (refuting_bare c n whole good ∙ sym is);
      },
    )
