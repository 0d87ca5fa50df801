-- What is written of entries of a monitor and of a refutation of its states is a good text, and so what is written of what is so.
use Rattle.std.proofs.Common.{◌≡◌, ◌≤◌, ◌<◌, ◌^◌, ℕ, true, false, List, [], ◌∷◌, ◌++◌, map, length, refl, sym, ap, ◌∙◌, subst, arith, Result, Ok, Err}
use Rattle.std.specs.Prelude.{IfOk}
use Rattle.std.specs.List.{All}
use Rattle.std.proofs.lemmas.List.{length-map}
use Rattle.std.proofs.lemmas.List.Elements.{All-cons, All-append, All-map, All-push}
use Rattle.text_grammar.specs.Lines.{ended_lines}
use Rattle.aig_semantics.specs.declared.traces.Position.{Position}
use Rattle.aig_semantics.specs.Circuits.{Circuit, IsChecked, IsWithinLimits}
use Rattle.fair_semantics.specs.declared.entries.Kind.TheVariants.{Reach}
use Rattle.answer_lines.specs.Left.{most_bytes}
use Rattle.certificate_lines.specs.declared.words.Version.TheVariants.{Two}
use Rattle.certificate_lines.specs.declared.words.WordLine.TheVariants as lines
use Rattle.certificate_lines.specs.Words.{word_line_text, HasNumbers}
use Rattle.certificate_lines.specs.Uses.{MayStand, written}
use Rattle.entry.specs.declared.entries.Entry.{Entry as WithProofs}
use Rattle.entry.specs.declared.refutations.Refutation.{Refutation}
use Rattle.entry.specs.Entries.{said}
use Rattle.certificate_texts.specs.declared.certificates.Written.{Written}
use Rattle.certificate_texts.specs.declared.certificates.Certificate.{Certificate}
use Rattle.certificate_texts.specs.Certificates.{refuting_line, refutation_lines, lines_of_certificate}
use Rattle.certificate_texts.specs.Writing.{property_line}
use Rattle.certificate_texts.proofs.WrittenSizes.{size_first, size_both}
use Rattle.certificate.proofs.WrittenEntries.{Short, uses_stand, refuting_numbers, entries_plain, refutation_plain}
use Rattle.certificate.proofs.PlainLines.{IsPlain, word_line_plain, property_plain, written_kept}
use Rattle.round_monitor.specs.Ends.{IsMonitorable}
use Rattle.round_monitor.specs.Monitor.{monitor_circuit}
use Rattle.round_answers.specs.declared.limits.TheConstants.{MAX_ROUNDS}
use Rattle.round_answers.specs.declared.rounds.KnownRounds.{KnownRounds}
use Rattle.round_answers.specs.declared.rounds.KnownRounds.TheVariants.{Fewer, Reached}
use Rattle.round_answers.specs.Texts.{MayBeAsked, rounds_line, HasCertificate}
use Rattle.round_answers.specs.Answers.{NeverFull, IsGoodAbout}
use Rattle.round_answers.specs.Writing.{written_entry, certificate_of, rounds_text, AreFull, IsSo, is_reached}
use Rattle.round_answers.proofs.AcceptedEntries.{all_lines, AreFine, all_fine}
use Rattle.round_answers.proofs.AcceptedRuns.{rounds_plain, reached_good}

module _ (t : Circuit) (checked : IsChecked t) (limits : IsWithinLimits t) (k n : ℕ) (list : List WithProofs) (refutation : Refutation) (h : AreFull t list refutation) where
  abbrev whole : Certificate
  whole = certificate_of t list refutation

  abbrev whole_lines : List (List ℕ)
  whole_lines = rounds_line k ∷ property_line n ∷ lines_of_certificate whole

  abbrev last : List (List ℕ)
  last = word_line_text lines.End ∷ []

  abbrev refuting : List (List ℕ)
  refuting = refutation_lines whole

  parts : Short whole_lines → Short (all_lines t checked limits list) × Short refuting
  parts short =
      let entries : List (List ℕ) = all_lines t checked limits list in
      let one = size_first (rounds_line k) (property_line n ∷ lines_of_certificate whole) in
      let two = size_first (property_line n) (lines_of_certificate whole) in
      let three = size_first (word_line_text (lines.Version Two)) (entries ++ refuting ++ last) in
      let four = size_both (entries ++ refuting) last in
      let five = size_both entries refuting in
      (omega (arith, one, two, three, four, five, short), omega (arith, one, two, three, four, five, short))

  entries_fine : Short whole_lines → AreFine t checked limits [] list
  entries_fine short = let few = h.few in all_fine t checked limits [] list h.proved (omega (arith, few)) (parts short).0

  numbers : Short whole_lines → HasNumbers (refuting_line whole)
  numbers short = refuting_numbers whole (parts short).1

  signs : All (MayStand Two) (map written refutation.uses)
  signs =
      let count : length (map said list) ≡ length list = length-map list said in
      let few = h.few in
      uses_stand (length (map said list)) refutation.uses (omega (arith, count, few)) h.refuted.closed.present

  refuting_lines_plain : Short whole_lines → All IsPlain refuting
  refuting_lines_plain short = refutation_plain whole _ (numbers short) signs h.refuted.refutes

  lines_plain : k < 2 ^ 63 → n < 2 ^ 63 → Short whole_lines → All IsPlain whole_lines
  lines_plain few small short =
      let entries : List (List ℕ) = all_lines t checked limits list in
      let behind = All-push IsPlain (entries ++ refuting) (word_line_text lines.End)
      (All-append IsPlain entries refuting (entries_plain t [] (map (written_entry t) list) (map said list) (entries_fine short).form (entries_fine short).proved) (refuting_lines_plain short)) (word_line_plain lines.End tt) in
      All-cons IsPlain (rounds_line k) (property_line n ∷ lines_of_certificate whole) (rounds_plain k few)
      (All-cons IsPlain (property_line n) (lines_of_certificate whole) (property_plain n small)
      (All-cons IsPlain (word_line_text (lines.Version Two)) (entries ++ refuting ++ last) (word_line_plain (lines.Version Two) tt) behind))

  has : k < 2 ^ 63 → n < 2 ^ 63 → Short whole_lines → HasCertificate k n whole (ended_lines whole_lines)
  has few small short = (small, written_kept whole_lines (lines_plain few small short))

  never_full : Short whole_lines → NeverFull t whole
  never_full short = record {
    version = refl;
    reach = All-map (λ (w : Written). w.kind ≡ Reach) (written_entry t) list h.reach;
    form = (entries_fine short).form;
    sizes = numbers short;
    signs = signs;
    few = (let count : length (map (written_entry t) list) ≡ length list = length-map list (written_entry t) in let few = h.few in omega (arith, count, few));
    entries = map said list;
    proved = (entries_fine short).proved;
    refuted = h.refuted;
  }

pub fewer_good : (c : Circuit) (n k : ℕ) (list : List WithProofs) (refutation : Refutation) (text : List ℕ) → IsChecked (monitor_circuit c n k) → IsWithinLimits (monitor_circuit c n k)
    → n < 2 ^ 63 → MayBeAsked k → IsMonitorable c n k → length text ≤ most_bytes
    → text ≡ ended_lines (rounds_line k ∷ property_line n ∷ lines_of_certificate (certificate_of (monitor_circuit c n k) list refutation))
    → AreFull (monitor_circuit c n k) list refutation → IsGoodAbout c text n k false
fewer_good c n k list refutation text checked limits small may able short is h =
    let t : Circuit = monitor_circuit c n k in
    let few : k < 2 ^ 63 = (let most = may.few in omega (arith, most)) in
    let fits : Short (whole_lines t checked limits k n list refutation h) = subst (λ x. length x ≤ most_bytes) is short in
    let there = subst (HasCertificate k n (certificate_of t list refutation)) (sym is) (has t checked limits k n list refutation h few small fits) in
    (may, able, short, certificate_of t list refutation, there, never_full t checked limits k n list refutation h fits)

-- and so where a text may have failed
pub fewer_if : {A E : Type 0} (r : Result A E) (items : A → List ℕ) (c : Circuit) (n k : ℕ) (list : List WithProofs) (refutation : Refutation)
    → IsChecked (monitor_circuit c n k) → IsWithinLimits (monitor_circuit c n k) → n < 2 ^ 63 → 1 ≤ k → IsMonitorable c n k
    → IfOk r (λ text. items text ≡ rounds_text c n k (Fewer list refutation)) → IfOk r (λ text. length (items text) ≤ most_bytes)
    → IfOk r (λ text. k ≤ MAX_ROUNDS → AreFull (monitor_circuit c n k) list refutation → IsGoodAbout c (items text) n k false)
fewer_if (Ok text) items c n k list refutation checked limits small some able is short =
    λ few so. fewer_good c n k list refutation (items text) checked limits small (record { some = some; few = few }) able short is so
fewer_if (Err e) items c n k list refutation checked limits small some able is short = tt

written_if : {A E : Type 0} (r : Result A E) (items : A → List ℕ) (c : Circuit) (n k : ℕ) (run : List Position) → n < 2 ^ 63 → 1 ≤ k → IsMonitorable c n k
    → IfOk r (λ text. items text ≡ rounds_text c n k (Reached run)) → IfOk r (λ text. length (items text) ≤ most_bytes)
    → IfOk r (λ text. k ≤ MAX_ROUNDS → IsSo c n k (Reached run) → IsGoodAbout c (items text) n k true)
written_if (Ok text) items c n k run small some able is short =
    λ few so. reached_good c n k run (items text) small (record { some = some; few = few }) able short is so.0 so.1
written_if (Err e) items c n k run small some able is short = tt

pub reached_if : {A E : Type 0} (r : Result A E) (items : A → List ℕ) (c : Circuit) (n k : ℕ) (rounds : KnownRounds) (run held : List Position) → rounds ≡ Reached run → held ≡ run
    → n < 2 ^ 63 → 1 ≤ k → IsMonitorable c n k → IfOk r (λ text. items text ≡ rounds_text c n k (Reached held)) → IfOk r (λ text. length (items text) ≤ most_bytes)
    → IfOk r (λ text. k ≤ MAX_ROUNDS → IsSo c n k rounds → IsGoodAbout c (items text) n k (is_reached rounds))
reached_if r items c n k rounds run held told same small some able is short =
    subst (λ (x : KnownRounds). IfOk r (λ text. k ≤ MAX_ROUNDS → IsSo c n k x → IsGoodAbout c (items text) n k (is_reached x)))
    (sym (told ∙ ap (λ (x : List Position). Reached x) (sym same))) (written_if r items c n k held small some able is short)
