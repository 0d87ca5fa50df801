-- What is written of proved entries and a good refutation over them is a good answer.
use Rattle.std.proofs.Common.{◌≡◌, ◌≤◌, ◌<◌, ◌^◌, ℕ, ◌+◌, List, [], ◌∷◌, ◌++◌, map, flat_map, length, sym, ap, subst, arith, All, append_assoc, append-nil, length-append}
use Rattle.std.specs.Prelude.{codes}
use Rattle.std.proofs.lemmas.List.{length-map}
use Rattle.std.proofs.lemmas.List.Elements.{All-nil, All-cons, All-append, All-push}
use Rattle.aig_semantics.specs.Circuits.{Circuit, IsChecked, IsWithinLimits}
use Rattle.fair_semantics.specs.Entries.{Entry}
use Rattle.answer_lines.specs.Left.{most_bytes}
use Rattle.certificate_lines.specs.declared.words.Version.TheVariants.{Two}
use Rattle.certificate_lines.specs.declared.words.WordLine.TheVariants as lines
use Rattle.certificate_lines.specs.Words.{word_line_text, HasNumbers}
use Rattle.certificate_lines.specs.Uses.{MayStand, written}
use Rattle.entry.specs.declared.refutations.Refutation.{Refutation}
use Rattle.entry.specs.Proved.{IsProved}
use Rattle.entry.specs.CheckedEntries.{CheckedEntry}
use Rattle.certificate_texts.proofs.WrittenSizes.{size, size_first, size_both}
use Rattle.certificate.specs.declared.limits.TheConstants.{MAX_ENTRIES}
use Rattle.certificate.specs.declared.ends.Accepted.TheVariants.{Holds}
use Rattle.certificate_texts.specs.declared.certificates.Written.{Written}
use Rattle.certificate_texts.specs.declared.certificates.Certificate.{Certificate}
use Rattle.certificate_texts.specs.Certificates.{entry_lines, refuting_line, refutation_lines, lines_of_certificate, CanBeWritten}
use Rattle.certificate.specs.Certificates.{AreProvedBehind, IsGoodCertificate}
use Rattle.certificate_texts.specs.Writing.{property_line, literal_in_model, certificate_lines_of, certificate_text}
use Rattle.certificate.specs.Answers.{HasCertificate, IsGood}
use Rattle.certificate.specs.Writing.{written_entry, certificate_of, AreProvedInOrder, IsRefutedBy}
use Rattle.certificate.specs.Laws.{WrittenCertificatesAreGood}
use Rattle.certificate.proofs.WrittenEntries.{Short, uses_stand, refuting_numbers, of_entry, entry_form, entries_plain, refutation_plain}
use Rattle.certificate.proofs.WrittenLiterals.{clauses_back}
use Rattle.certificate.proofs.PlainLines.{IsPlain, word_line_plain, property_plain, status_plain, written_kept}

module _ (c : Circuit) (checked : IsChecked c) (limits : IsWithinLimits c) where
  -- ---- all entries

  abbrev pub all_lines : List CheckedEntry → List (List ℕ)
  all_lines list = flat_map entry_lines (map written_entry list)

  abbrev pub entries_of : List CheckedEntry → List Entry
  entries_of list = map (λ e. e.entry) list

  pub record AreFine (before : List Entry) (list : List CheckedEntry) : Type 0 where
    pub form : All (CanBeWritten Two) (map written_entry list)
    pub proved : AreProvedBehind c before (map written_entry list) (before ++ entries_of list)

  -- the entry is the circuit's
  own : (e : CheckedEntry) → e.circuit ≡ c → of_entry c checked limits e.entry e.proofs ≡ written_entry e
  own e same =
      ap (λ d. record { kind = e.entry.kind; clauses = map (map (literal_in_model d)) e.entry.clauses; uses = e.entry.uses; proofs = e.proofs }) (sym same)

  one_more : (before : List Entry) (e : CheckedEntry) (list : List CheckedEntry) (w : Written) → of_entry c checked limits e.entry e.proofs ≡ w → length before ≤ MAX_ENTRIES
      → IsProved c before e.entry e.proofs → Short (entry_lines w) → AreFine (before ++ e.entry ∷ []) list
      → CanBeWritten Two w × AreProvedBehind c before (w ∷ map written_entry list) (before ++ e.entry ∷ entries_of list)
  one_more before e list w same few proved short others =
      let form = entry_form c checked limits before e.entry e.proofs few proved (subst (λ x. Short (entry_lines x)) (sym same) short) in
      let P : Written → Type 0 = λ x. CanBeWritten Two x × AreProvedBehind c before (x ∷ map written_entry list) (before ++ e.entry ∷ entries_of list) in
      let later = subst (λ all. AreProvedBehind c (before ++ e.entry ∷ []) (map written_entry list) all) (append_assoc before (e.entry ∷ []) (entries_of list)) others.proved in
      subst P same (form, (e.entry.clauses, clauses_back c checked limits e.entry.clauses proved.over, proved, later))

  pub all_fine : (before : List Entry) (list : List CheckedEntry) → AreProvedInOrder c before list → length before + length list ≤ MAX_ENTRIES
      → Short (all_lines list) → AreFine before list
  all_fine before [] proved few short = record { form = All-nil (CanBeWritten Two); proved = append-nil before }
  all_fine before (e ∷ list) (same, first, others) few short =
      let both = size_both (entry_lines (written_entry e)) (all_lines list) in
      let longer = length-append before (e.entry ∷ []) in
      let later = all_fine (before ++ e.entry ∷ []) list others (omega (arith, few, longer)) (omega (arith, both, short)) in
      let here = one_more before e list (written_entry e) (own e same) (omega (arith, few)) first (omega (arith, both, short)) later in
      record { form = All-cons (CanBeWritten Two) (written_entry e) (map written_entry list) here.0 later.form; proved = here.1 }

  -- ---- the whole certificate

  module _ (n : ℕ) (list : List CheckedEntry) (refutation : Refutation) (h : IsRefutedBy c n list refutation)
      (short : length (certificate_text n (certificate_of list refutation)) ≤ most_bytes) where
    abbrev whole : Certificate
    whole = certificate_of list refutation

    abbrev last : List (List ℕ)
    last = word_line_text lines.End ∷ []

    abbrev refuting : List (List ℕ)
    refuting = refutation_lines whole

    parts : (Short (all_lines list)) × (size refuting ≤ most_bytes)
    parts =
        let version : List ℕ = word_line_text (lines.Version Two) in
        let one = size_first (codes "0") (property_line n ∷ lines_of_certificate whole) in
        let two = size_first (property_line n) (lines_of_certificate whole) in
        let three = size_first version (all_lines list ++ refuting ++ last) in
        let four = size_both (all_lines list ++ refuting) last in
        let five = size_both (all_lines list) refuting in
        (omega (arith, one, two, three, four, five, short), omega (arith, one, two, three, four, five, short))

    entries_fine : AreFine [] list
    entries_fine = let few = h.few in all_fine [] list h.proved (omega (arith, few)) parts.0

    numbers : HasNumbers (refuting_line whole)
    numbers = refuting_numbers whole parts.1

    signs : All (MayStand Two) (map written refutation.uses)
    signs =
        let count : length (entries_of list) ≡ length list = length-map list (λ (e : CheckedEntry). e.entry) in
        let few = h.few in
        uses_stand (length (entries_of list)) refutation.uses (omega (arith, count, few)) h.refuted.closed.present

    small : n < 2 ^ 63
    small = let property = h.property in let justice = limits.justice in omega (arith, property, justice)

    refuting_lines_plain : All IsPlain refuting
    refuting_lines_plain = refutation_plain whole _ numbers signs h.refuted.refutes

    lines_plain : All IsPlain (certificate_lines_of n whole)
    lines_plain =
        let behind = All-push IsPlain (all_lines list ++ refuting) (word_line_text lines.End)
        (All-append IsPlain (all_lines list) refuting (entries_plain c [] (map written_entry list) (entries_of list) entries_fine.form entries_fine.proved) refuting_lines_plain) (word_line_plain lines.End tt) in
        All-cons IsPlain (codes "0") (property_line n ∷ lines_of_certificate whole) status_plain
        (All-cons IsPlain (property_line n) (lines_of_certificate whole) (property_plain n small)
        (All-cons IsPlain (word_line_text (lines.Version Two)) (all_lines list ++ refuting ++ last) (word_line_plain (lines.Version Two) tt) behind))

    has : HasCertificate n whole (certificate_text n whole)
    has = (small, written_kept (certificate_lines_of n whole) lines_plain)

    good : IsGoodCertificate c n whole
    good = record {
      form = entries_fine.form;
      sizes = numbers;
      signs = signs;
      few = (let count : length (map written_entry list) ≡ length list = length-map list written_entry in let few = h.few in omega (arith, count, few));
      entries = entries_of list;
      proved = entries_fine.proved;
      refuted = h.refuted;
    }

    answer : HasCertificate n whole (certificate_text n whole) × IsGood c (certificate_text n whole) (Holds n (length list))
    answer = (has, (h.property, short, whole, has, good, sym (length-map list written_entry)))

pub written_certificates_good : (c : Circuit) → IsChecked c → IsWithinLimits c → WrittenCertificatesAreGood c
written_certificates_good c checked limits n list refutation h short = answer c checked limits n list refutation h short
