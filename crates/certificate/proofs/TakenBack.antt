-- The certificate of a good answer is taken out of its lines as it is spelled.
use Rattle.std.proofs.Common.{◌≡◌, ℕ, ◌+◌, ◌<◌, ◌≤◌, ◌^◌, List, [], ◌∷◌, ◌++◌, map, flat_map, length, Option, Some, None, refl, sym, ap, ◌∙◌, append_assoc, arith, length-append, All}
use Rattle.std.specs.Prelude.{codes, option_map, option_and_then, if◌then◌else◌}
use Rattle.std.proofs.lemmas.Bool.{lt-ltb}
use Rattle.std.proofs.lemmas.List.Elements.{All-nil, All-cons, All-head, All-tail, All-weaker}
use Rattle.aig_semantics.specs.Circuits.{Circuit}
use Rattle.fair_semantics.specs.declared.entries.Use.{Use}
use Rattle.fair_semantics.specs.Entries.{Entry}
use Rattle.certificate_lines.specs.declared.words.Opening.{Opening}
use Rattle.certificate_lines.specs.declared.words.Refutation.{Refutation}
use Rattle.certificate_lines.specs.declared.words.Version.{Version}
use Rattle.certificate_lines.specs.declared.words.WordLine.{WordLine}
use Rattle.certificate_lines.specs.declared.words.WordLine.TheVariants as lines
use Rattle.certificate_lines.specs.Fields.{IsNumber}
use Rattle.certificate_lines.specs.Words.{word_line_text, word_line_of, HasNumbers}
use Rattle.certificate_lines.specs.Uses.{uses_text, MayStand, written}
use Rattle.certificate_lines.specs.Clauses.{clause_text}
use Rattle.certificate_lines.proofs.WordLaws.{word_back}
use Rattle.certificate_lines.proofs.UseLaws.{uses_back}
use Rattle.certificate_lines.proofs.ClauseLaws.{clause_back}
use Rattle.certificate.specs.declared.limits.TheConstants.{MAX_ENTRIES}
use Rattle.certificate_texts.specs.declared.certificates.Written.{Written}
use Rattle.certificate_texts.specs.declared.certificates.Certificate.{Certificate}
use Rattle.certificate_texts.specs.Certificates.{proof_lines, entry_lines, refuting_line, refutation_lines, lines_of_certificate, CanBeWritten}
use Rattle.certificate.specs.Certificates.{entry_with, AreProvedBehind, IsGoodCertificate}
use Rattle.certificate_texts.specs.Writing.{property_line}
use Rattle.certificate_texts.specs.Taking.{Taker, ◌>>=◌, many, line_at, with_rest, opening_in, refuting_in, version_in, proof_in, opening_at, refuting_at, version_at, count_at, clause_at, named, uses_at, proof_at, entry_at, certificate_at}
use Rattle.certificate.proofs.CompletingEntries.{as_many}
use Rattle.certificate.proofs.GoodRead.{all_proved}

abbrev Lines : Type 0
Lines = List (List ℕ)

next : {A B : Type 0} (taken : Option (A × Lines)) (x : A) (after : Lines) (f : A → Lines → Option B) → taken ≡ Some (x, after) → (taken >>= f) ≡ f x after
next taken x after f e = ap (λ o. o >>= f) e

-- ---- one behind the other

pub many_back : {A : Type 0} (take : Taker A) (text : A → Lines) (Fits : A → Type 0) → ((x : A) (rest : Lines) → Fits x → take (text x ++ rest) ≡ Some (x, rest))
    → (xs : List A) (rest : Lines) → All Fits xs → many take (length xs) (flat_map text xs ++ rest) ≡ Some (xs, rest)
unfolding many
many_back take text Fits back [] rest all = refl
many_back take text Fits back (x ∷ xs) rest all =
    let first : take (flat_map text (x ∷ xs) ++ rest) ≡ Some (x, flat_map text xs ++ rest) =
    ap take (append_assoc (text x) (flat_map text xs) rest) ∙ back x (flat_map text xs ++ rest) (All-head Fits x xs all) in
    next (take (flat_map text (x ∷ xs) ++ rest)) x (flat_map text xs ++ rest) (λ y after. many take (length xs) after >>= λ ys more. Some (y ∷ ys, more)) first
    ∙ next (many take (length xs) (flat_map text xs ++ rest)) xs rest (λ ys more. Some (x ∷ ys, more)) (many_back take text Fits back xs rest (All-tail Fits x xs all))

lines_back : (ls rest : Lines) → many line_at (length ls) (ls ++ rest) ≡ Some (ls, rest)
unfolding many line_at
lines_back [] rest = refl
lines_back (l ∷ ls) rest = next (many line_at (length ls) (ls ++ rest)) ls rest (λ ys more. Some (l ∷ ys, more)) (lines_back ls rest)

-- ---- single lines

word_line : (line : WordLine) → HasNumbers line → word_line_of (word_line_text line) ≡ Some line
word_line line h = word_back (word_line_text line) line (record { numbers = h; spelled = refl })

opening_back : (o : Opening) (rest : Lines) → HasNumbers (lines.Opening o) → opening_at (word_line_text (lines.Opening o) ∷ rest) ≡ Some (o, rest)
unfolding opening_at line_at
opening_back o rest h = ap (λ w. with_rest (opening_in w) rest) (word_line (lines.Opening o) h)

refuting_back : (r : Refutation) (rest : Lines) → HasNumbers (lines.Refutation r) → refuting_at (word_line_text (lines.Refutation r) ∷ rest) ≡ Some (r, rest)
unfolding refuting_at line_at
refuting_back r rest h = ap (λ w. with_rest (refuting_in w) rest) (word_line (lines.Refutation r) h)

version_back : (v : Version) (rest : Lines) → version_at (word_line_text (lines.Version v) ∷ rest) ≡ Some (v, rest)
unfolding version_at line_at
version_back v rest = ap (λ w. with_rest (version_in w) rest) (word_line (lines.Version v) tt)

count_back : (n : ℕ) (rest : Lines) → IsNumber n → count_at (word_line_text (lines.Proof n) ∷ rest) ≡ Some (n, rest)
unfolding count_at line_at
count_back n rest h = ap (λ w. with_rest (proof_in w) rest) (word_line (lines.Proof n) h)

one_clause_back : (literals : List ℕ) (rest : Lines) → All IsNumber literals → clause_at (clause_text literals ∷ rest) ≡ Some (literals, rest)
unfolding clause_at line_at
one_clause_back literals rest h = ap (λ o. with_rest o rest) (clause_back (clause_text literals) literals (record { each = h; spelled = refl }))

clauses_back : (clauses : List (List ℕ)) (rest : Lines) → All (All IsNumber) clauses → many clause_at (length clauses) (map clause_text clauses ++ rest) ≡ Some (clauses, rest)
unfolding many
clauses_back [] rest h = refl
clauses_back (literals ∷ clauses) rest h =
    next (clause_at (clause_text literals ∷ (map clause_text clauses ++ rest))) literals (map clause_text clauses ++ rest) (λ y after. many clause_at (length clauses) after >>= λ ys more. Some (y ∷ ys, more))
    (one_clause_back literals (map clause_text clauses ++ rest) (All-head (All IsNumber) literals clauses h))
    ∙ next (many clause_at (length clauses) (map clause_text clauses ++ rest)) clauses rest (λ ys more. Some (literals ∷ ys, more)) (clauses_back clauses rest (All-tail (All IsNumber) literals clauses h))

Small : Use → Type 0
Small u = u.entry < 2 ^ 32

named_back : (uses : List Use) → All Small uses → named (map written uses) ≡ Some uses
unfolding named Small
named_back [] h = refl
named_back (u ∷ uses) h =
    ap (λ b. option_and_then (λ first. option_map (λ more. first ∷ more) (named (map written uses))) (if b then Some u else None)) (lt-ltb u.entry (2 ^ 32) (All-head Small u uses h))
    ∙ ap (option_map (λ more. u ∷ more)) (named_back uses (All-tail Small u uses h))

uses_taken : (v : Version) (uses : List Use) (rest : Lines) → All (MayStand v) (map written uses) → All Small uses → uses_at v (uses_text (map written uses) ∷ rest) ≡ Some (uses, rest)
unfolding uses_at line_at
uses_taken v uses rest stand small =
    ap (λ o. with_rest (option_and_then named o) rest) (uses_back v (uses_text (map written uses)) (map written uses) (record { each = stand; spelled = refl }))
    ∙ ap (λ o. with_rest o rest) (named_back uses small)

-- ---- proofs and entries

proof_back : (proof : Lines) (rest : Lines) → IsNumber (length proof) → proof_at (proof_lines proof ++ rest) ≡ Some (proof, rest)
unfolding proof_at
proof_back proof rest h =
    next (count_at (word_line_text (lines.Proof (length proof)) ∷ (proof ++ rest))) (length proof) (proof ++ rest) (λ n more. many line_at n more) (count_back (length proof) (proof ++ rest) h)
    ∙ lines_back proof rest

pub record Fits (v : Version) (e : Written) : Type 0 where
  form : CanBeWritten v e
  each : length e.proofs ≡ length e.clauses
  small : All Small e.uses

behind_proofs : Opening → List Use → List (List ℕ) → List Lines → Lines → Option (Written × Lines)
behind_proofs o uses clauses proofs rest = Some (record { kind = o.kind; clauses = clauses; uses = uses; proofs = proofs }, rest)

behind_clauses : Opening → List Use → List (List ℕ) → Lines → Option (Written × Lines)
behind_clauses o uses clauses more = many proof_at o.clauses more >>= behind_proofs o uses clauses

behind_uses : Opening → List Use → Lines → Option (Written × Lines)
behind_uses o uses behind = many clause_at o.clauses behind >>= behind_clauses o uses

behind_opening : Version → Opening → Lines → Option (Written × Lines)
behind_opening v o after = uses_at v after >>= behind_uses o

pub entry_back : (v : Version) (e : Written) (rest : Lines) → Fits v e → entry_at v (entry_lines e ++ rest) ≡ Some (e, rest)
unfolding entry_at behind_opening behind_uses behind_clauses behind_proofs
entry_back v e rest fits =
    let o : Opening = record { kind = e.kind; clauses = length e.clauses; uses = length e.uses } in
    let clauses : Lines = map clause_text e.clauses in
    let proofs : Lines = flat_map proof_lines e.proofs in
    let others : Lines = (clauses ++ proofs) ++ rest in
    let uses_line : List ℕ = uses_text (map written e.uses) in
    let Count : Lines → Type 0 = λ p. IsNumber (length p) in
    next (opening_at (word_line_text (lines.Opening o) ∷ uses_line ∷ others)) o (uses_line ∷ others) (behind_opening v) (opening_back o (uses_line ∷ others) fits.form.sizes)
    ∙ next (uses_at v (uses_line ∷ others)) e.uses others (behind_uses o) (uses_taken v e.uses others fits.form.uses fits.small)
    ∙ ap (behind_uses o e.uses) (append_assoc clauses proofs rest)
    ∙ next (many clause_at o.clauses (clauses ++ (proofs ++ rest))) e.clauses (proofs ++ rest) (behind_clauses o e.uses) (clauses_back e.clauses (proofs ++ rest) fits.form.literals)
    ∙ ap (λ n. many proof_at n (proofs ++ rest) >>= behind_proofs o e.uses e.clauses) (sym fits.each)
    ∙ next (many proof_at (length e.proofs) (proofs ++ rest)) e.proofs rest (behind_proofs o e.uses e.clauses)
    (many_back proof_at proof_lines Count proof_back e.proofs rest fits.form.proofs)

-- ---- the whole

behind_proof : Version → List Written → List Use → Lines → Lines → Option (Certificate × Lines)
behind_proof v entries uses proof rest = Some (record { version = v; entries = entries; uses = uses; proof = proof }, rest)

behind_uses_line : Version → List Written → Refutation → List Use → Lines → Option (Certificate × Lines)
behind_uses_line v entries r uses more = many line_at r.proof_lines more >>= behind_proof v entries uses

behind_refuting : Version → List Written → Refutation → Lines → Option (Certificate × Lines)
behind_refuting v entries r refuting = uses_at v refuting >>= behind_uses_line v entries r

behind_entries : Version → List Written → Lines → Option (Certificate × Lines)
behind_entries v entries last = refuting_at last >>= behind_refuting v entries

behind_version : ℕ → Version → Lines → Option (Certificate × Lines)
behind_version count v others = many (entry_at v) count others >>= behind_entries v

end_lines : Lines
end_lines = word_line_text lines.End ∷ []

record AllFit (certificate : Certificate) : Type 0 where
  entries : All (Fits certificate.version) certificate.entries
  sizes : HasNumbers (refuting_line certificate)
  signs : All (MayStand certificate.version) (map written certificate.uses)
  small : All Small certificate.uses

certificate_back : (n : ℕ) (certificate : Certificate) → AllFit certificate
    → certificate_at (length certificate.entries) (codes "0" ∷ property_line n ∷ lines_of_certificate certificate) ≡ Some (certificate, end_lines)
unfolding certificate_at line_at end_lines behind_version behind_entries behind_refuting behind_uses_line behind_proof
certificate_back n certificate fits =
    let v : Version = certificate.version in
    let es : List Written = certificate.entries in
    let entries : Lines = flat_map entry_lines es in
    let refuting : Lines = refutation_lines certificate in
    let r : Refutation = record { uses = length certificate.uses; proof_lines = length certificate.proof } in
    let uses_line : List ℕ = uses_text (map written certificate.uses) in
    let behind : Lines = uses_line ∷ (certificate.proof ++ end_lines) in
    next (version_at (lines_of_certificate certificate)) v ((entries ++ refuting) ++ end_lines) (behind_version (length es)) (version_back v ((entries ++ refuting) ++ end_lines))
    ∙ ap (λ ls. many (entry_at v) (length es) ls >>= behind_entries v) (append_assoc entries refuting end_lines)
    ∙ next (many (entry_at v) (length es) (entries ++ (refuting ++ end_lines))) es (refuting ++ end_lines) (behind_entries v)
    (many_back (entry_at v) entry_lines (Fits v) (entry_back v) es (refuting ++ end_lines) fits.entries)
    ∙ next (refuting_at (word_line_text (lines.Refutation r) ∷ behind)) r behind (behind_refuting v es) (refuting_back r behind fits.sizes)
    ∙ next (uses_at v behind) certificate.uses (certificate.proof ++ end_lines) (behind_uses_line v es r) (uses_taken v certificate.uses (certificate.proof ++ end_lines) fits.signs fits.small)
    ∙ next (many line_at (length certificate.proof) (certificate.proof ++ end_lines)) certificate.proof end_lines (behind_proof v es certificate.uses) (lines_back certificate.proof end_lines)

-- ---- a good one

pub entries_fit : (c : Circuit) (v : Version) (before : List Entry) (es : List Written) (all : List Entry) → length before + length es ≤ MAX_ENTRIES → All (CanBeWritten v) es → AreProvedBehind c before es all → All (Fits v) es
unfolding Small
entries_fit c v before [] all few form proved = All-nil (Fits v)
entries_fit c v before (e ∷ es) all few form (clauses, are, first, others) =
    let count : length e.proofs ≡ length e.clauses = first.each.count ∙ sym (as_many c e.clauses clauses are) in
    let below : (u : Use) → u.entry < length before → Small u = λ u h. omega (arith, h, few) in
    let longer = length-append before (entry_with e clauses ∷ []) in
    All-cons (Fits v) e es (record { form = All-head (CanBeWritten v) e es form; each = count; small = All-weaker (λ u. u.entry < length before) Small below e.uses first.closed.present })
    (entries_fit c v (before ++ entry_with e clauses ∷ []) es all (omega (arith, few, longer)) (All-tail (CanBeWritten v) e es form) others)

good_fits : (c : Circuit) (n : ℕ) (certificate : Certificate) → IsGoodCertificate c n certificate → AllFit certificate
unfolding Small
good_fits c n certificate good =
    let count = all_proved c [] certificate.entries good.entries good.proved in
    let few = good.few in
    let below : (u : Use) → u.entry < length good.entries → Small u = λ u h. omega (arith, h, few, count) in
    record {
      entries = entries_fit c certificate.version [] certificate.entries good.entries (omega (arith, few)) good.form good.proved;
      sizes = good.sizes;
      signs = good.signs;
      small = All-weaker (λ u. u.entry < length good.entries) Small below certificate.uses good.refuted.closed.present;
    }

pub good_back : (c : Circuit) (n : ℕ) (certificate : Certificate) → IsGoodCertificate c n certificate
    → (rest : Lines) × (certificate_at (length certificate.entries) (codes "0" ∷ property_line n ∷ lines_of_certificate certificate) ≡ Some (certificate, rest))
good_back c n certificate good = (end_lines, certificate_back n certificate (good_fits c n certificate good))
