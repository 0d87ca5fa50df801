-- What is written of entries and of a refutation: its numbers, where its text is within the limit, and that its lines are plain.
use Rattle.std.proofs.Common.{◌≡◌, ◌≤◌, ◌<◌, ◌^◌, ℕ, List, [], ◌∷◌, ◌++◌, map, flat_map, length, get_or, arith}
use Rattle.std.specs.List.{All}
use Rattle.std.proofs.lemmas.List.{length-map}
use Rattle.std.proofs.lemmas.List.Elements.{All-nil, All-cons, All-head, All-tail, All-append, All-map, All-weaker, All-from_get_or}
use Rattle.aig_semantics.specs.Circuits.{Circuit, IsChecked, IsWithinLimits}
use Rattle.proof_semantics.specs.declared.literals.Lit.{Lit}
use Rattle.proof_semantics.specs.Proofs.{Refutes}
use Rattle.fair_semantics.specs.declared.entries.Use.{Use}
use Rattle.fair_semantics.specs.Entries.{Entry}
use Rattle.answer_lines.specs.Left.{most_bytes}
use Rattle.certificate_lines.specs.declared.words.Version.TheVariants.{Two}
use Rattle.certificate_lines.specs.declared.words.WordLine.TheVariants as lines
use Rattle.certificate_lines.specs.Fields.{IsNumber}
use Rattle.certificate_lines.specs.Words.{word_line_text, HasNumbers}
use Rattle.certificate_lines.specs.Uses.{uses_text, MayStand, written}
use Rattle.certificate_lines.specs.Clauses.{clause_text}
use Rattle.entry.specs.Proved.{IsProved, AreProofs, obligation_of}
use Rattle.certificate_texts.specs.declared.certificates.Written.{Written}
use Rattle.certificate_texts.specs.declared.certificates.Certificate.{Certificate}
use Rattle.certificate_texts.specs.Certificates.{opening_line, proof_lines, entry_lines, refuting_line, refutation_lines, CanBeWritten}
use Rattle.certificate_texts.specs.Writing.{literal_in_model}
use Rattle.certificate_texts.proofs.WrittenSizes.{size, size_first, size_both, counted, uses_counted, proofs_counted}
use Rattle.certificate.specs.declared.limits.TheConstants.{MAX_ENTRIES}
use Rattle.certificate.specs.Certificates.{entry_with, AreProvedBehind}
use Rattle.certificate.proofs.PlainLines.{IsPlain, word_line_plain, uses_plain, clause_plain, refuting_plain}
use Rattle.certificate.proofs.WrittenLiterals.{literals_small}

-- ---- numbers

-- the text of these lines is within the limit
abbrev pub Short : List (List ℕ) → Type 0
Short ls = size ls ≤ most_bytes

pub uses_stand : (most : ℕ) (uses : List Use) → most ≤ MAX_ENTRIES → All (λ u. u.entry < most) uses → All (MayStand Two) (map written uses)
uses_stand most uses few present =
    let each : (u : Use) → u.entry < most → MayStand Two (written u) = λ u below. (omega (arith, few, below), tt) in
    All-map (MayStand Two) written uses (All-weaker (λ u. u.entry < most) (λ u. MayStand Two (written u)) each uses present)

record Sizes (w : Written) : Type 0 where
  opening : HasNumbers (opening_line w)
  proofs : All (λ proof. IsNumber (length proof)) w.proofs

sizes_of : (w : Written) → Short (entry_lines w) → Sizes w
sizes_of w short =
    let clause_lines : List (List ℕ) = map clause_text w.clauses in
    let proofs : List (List ℕ) = flat_map proof_lines w.proofs in
    let first = size_first (word_line_text (opening_line w)) (uses_text (map written w.uses) ∷ (clause_lines ++ proofs)) in
    let second = size_first (uses_text (map written w.uses)) (clause_lines ++ proofs) in
    let both = size_both clause_lines proofs in
    let uses = uses_counted w.uses in
    let clauses = counted clause_lines in
    let same : length clause_lines ≡ length w.clauses = length-map w.clauses clause_text in
    let many_clauses : length w.clauses < 2 ^ 63 = omega (arith, first, second, both, clauses, same, short) in
    let many_uses : length w.uses < 2 ^ 63 = omega (arith, first, second, both, uses, short) in
    let room : size proofs ≤ most_bytes = omega (arith, first, second, both, short) in
    let small : (proof : List (List ℕ)) → length proof ≤ most_bytes → IsNumber (length proof) = λ proof h. omega (arith, h) in
    record {
      opening = (many_clauses, many_uses);
      proofs = All-weaker (λ proof. length proof ≤ most_bytes) (λ proof. IsNumber (length proof)) small w.proofs (proofs_counted most_bytes w.proofs room);
    }

pub refuting_numbers : (w : Certificate) → Short (refutation_lines w) → HasNumbers (refuting_line w)
refuting_numbers w short =
    let first = size_first (word_line_text (refuting_line w)) (uses_text (map written w.uses) ∷ w.proof) in
    let second = size_first (uses_text (map written w.uses)) w.proof in
    let uses = uses_counted w.uses in
    let count = counted w.proof in
    let many_uses : length w.uses < 2 ^ 63 = omega (arith, first, second, uses, short) in
    let many_lines : length w.proof < 2 ^ 63 = omega (arith, first, second, count, short) in
    (many_uses, many_lines)

module _ (c : Circuit) (checked : IsChecked c) (limits : IsWithinLimits c) where
  -- what is written of an entry with these proofs
  abbrev pub of_entry : Entry → List (List (List ℕ)) → Written
  of_entry e proofs = record { kind = e.kind; clauses = map (map (literal_in_model c)) e.clauses; uses = e.uses; proofs = proofs }

  pub entry_form : (before : List Entry) (e : Entry) (proofs : List (List (List ℕ))) → length before ≤ MAX_ENTRIES → IsProved c before e proofs
      → Short (entry_lines (of_entry e proofs)) → CanBeWritten Two (of_entry e proofs)
  entry_form before e proofs few proved short =
      let sizes = sizes_of (of_entry e proofs) short in
      record {
        sizes = sizes.opening;
        uses = uses_stand (length before) e.uses few proved.closed.present;
        literals = All-map (All IsNumber) (map (literal_in_model c)) e.clauses (λ k d below. literals_small c checked limits (get_or e.clauses k d));
        proofs = sizes.proofs;
      }

-- ---- lines

proof_plain : (proof : List (List ℕ)) → IsNumber (length proof) → All IsPlain proof → All IsPlain (proof_lines proof)
proof_plain proof small all =
    All-cons IsPlain (word_line_text (lines.Proof (length proof))) proof (word_line_plain (lines.Proof (length proof)) small) all

proofs_plain : (proofs : List (List (List ℕ))) → All (λ proof. IsNumber (length proof)) proofs → All (λ proof. All IsPlain proof) proofs
    → All IsPlain (flat_map proof_lines proofs)
proofs_plain [] small all = All-nil IsPlain
proofs_plain (proof ∷ proofs) small all =
    All-append IsPlain (proof_lines proof) (flat_map proof_lines proofs)
    (proof_plain proof (All-head (λ p. IsNumber (length p)) proof proofs small) (All-head (λ p. All IsPlain p) proof proofs all))
    (proofs_plain proofs (All-tail (λ p. IsNumber (length p)) proof proofs small) (All-tail (λ p. All IsPlain p) proof proofs all))

each_plain : (c : Circuit) (before : List Entry) (e : Entry) (proofs : List (List (List ℕ))) → AreProofs c before e proofs → All (λ proof. All IsPlain proof) proofs
each_plain c before e proofs h =
    All-from_get_or (λ proof. All IsPlain proof) proofs []
    (λ i below. let count = h.count in refuting_plain (obligation_of c before e i) (get_or proofs i []) (h.refute i (omega (arith, below, count))))

clauses_plain : (clauses : List (List ℕ)) → All (All IsNumber) clauses → All IsPlain (map clause_text clauses)
clauses_plain clauses h = All-map IsPlain clause_text clauses (All-weaker (All IsNumber) (λ ls. IsPlain (clause_text ls)) clause_plain clauses h)

entry_plain : (c : Circuit) (before : List Entry) (e : Written) (clauses : List (List Lit)) → CanBeWritten Two e → AreProofs c before (entry_with e clauses) e.proofs → All IsPlain (entry_lines e)
entry_plain c before e clauses form proved =
    let literals : List (List ℕ) = map clause_text e.clauses in
    let behind = All-append IsPlain literals (flat_map proof_lines e.proofs) (clauses_plain e.clauses form.literals)
    (proofs_plain e.proofs form.proofs (each_plain c before (entry_with e clauses) e.proofs proved)) in
    All-cons IsPlain (word_line_text (opening_line e)) (uses_text (map written e.uses) ∷ (literals ++ flat_map proof_lines e.proofs)) (word_line_plain (opening_line e) form.sizes)
    (All-cons IsPlain (uses_text (map written e.uses)) (literals ++ flat_map proof_lines e.proofs) (uses_plain (map written e.uses) form.uses) behind)

pub entries_plain : (c : Circuit) (before : List Entry) (es : List Written) (all : List Entry) → All (CanBeWritten Two) es → AreProvedBehind c before es all → All IsPlain (flat_map entry_lines es)
entries_plain c before [] all form proved = All-nil IsPlain
entries_plain c before (e ∷ es) all form (clauses, are, first, others) =
    All-append IsPlain (entry_lines e) (flat_map entry_lines es) (entry_plain c before e clauses (All-head (CanBeWritten Two) e es form) first.each)
    (entries_plain c (before ++ entry_with e clauses ∷ []) es all (All-tail (CanBeWritten Two) e es form) others)

pub refutation_plain : (w : Certificate) (given : List (List Lit)) → HasNumbers (refuting_line w) → All (MayStand Two) (map written w.uses) → Refutes given w.proof
    → All IsPlain (refutation_lines w)
refutation_plain w given sizes signs refutes =
    All-cons IsPlain (word_line_text (refuting_line w)) (uses_text (map written w.uses) ∷ w.proof) (word_line_plain (refuting_line w) sizes)
    (All-cons IsPlain (uses_text (map written w.uses)) w.proof (uses_plain (map written w.uses) signs) (refuting_plain given w.proof refutes))
