-- What is printed of an answer that is held is a good answer, which has the same.
use Rattle.std.proofs.Common.{◌<◌, ◌^◌, ℕ, ◌+◌, List, [], ◌∷◌, ◌++◌, map, flat_map, refl, All}
use Rattle.std.specs.Prelude.{codes}
use Rattle.std.proofs.lemmas.List.Elements.{All-cons, All-append, All-weaker, All-push}
use Rattle.aig_semantics.specs.Circuits.{Circuit}
use Rattle.certificate_lines.specs.declared.uses.WrittenUse.{WrittenUse}
use Rattle.certificate_lines.specs.declared.words.Version.{Version}
use Rattle.certificate_lines.specs.declared.words.Version.TheVariants.{One, Two}
use Rattle.certificate_lines.specs.declared.words.WordLine.TheVariants as lines
use Rattle.certificate_lines.specs.Words.{word_line_text}
use Rattle.certificate_lines.specs.Uses.{MayStand, written}
use Rattle.certificate.specs.declared.loaded.Loaded.TheVariants.{Lasso, Holds}
use Rattle.certificate_texts.specs.declared.certificates.Written.{Written}
use Rattle.certificate_texts.specs.declared.certificates.Certificate.{Certificate}
use Rattle.certificate_texts.specs.Certificates.{entry_lines, refutation_lines, lines_of_certificate, CanBeWritten}
use Rattle.certificate.specs.Certificates.{IsGoodCertificate}
use Rattle.certificate_texts.specs.Writing.{property_line, certificate_lines_of, certificate_text, in_version_two}
use Rattle.certificate.specs.Answers.{HasCertificate}
use Rattle.certificate.specs.Laws.{HeldIsGood, PrintedHoldsTheSame}
use Rattle.certificate.proofs.PlainLines.{IsPlain, word_line_plain, property_plain, status_plain, written_kept}
use Rattle.certificate.proofs.WrittenEntries.{entries_plain, refutation_plain}
use Rattle.certificate.proofs.WrittenGood.{written_has}

-- ---- a certificate in version 2

side_of_two : (v : Version) (u : WrittenUse) → MayStand v u → MayStand Two u
side_of_two One u h = (h.0, tt)
side_of_two Two u h = h

sides_of_two : (v : Version) (us : List WrittenUse) → All (MayStand v) us → All (MayStand Two) us
sides_of_two v us all = All-weaker (MayStand v) (MayStand Two) (side_of_two v) us all

form_of_two : (v : Version) (e : Written) → CanBeWritten v e → CanBeWritten Two e
form_of_two v e h = record { sizes = h.sizes; uses = sides_of_two v (map written e.uses) h.uses; literals = h.literals; proofs = h.proofs }

pub good_of_two : (c : Circuit) (n : ℕ) (certificate : Certificate) → IsGoodCertificate c n certificate → IsGoodCertificate c n (in_version_two certificate)
good_of_two c n certificate good = record {
  form = All-weaker (CanBeWritten certificate.version) (CanBeWritten Two) (form_of_two certificate.version) certificate.entries good.form;
  sizes = good.sizes;
  signs = sides_of_two certificate.version (map written certificate.uses) good.signs;
  few = good.few;
  entries = good.entries;
  proved = good.proved;
  refuted = good.refuted;
}

-- ---- its lines are plain

module _ (c : Circuit) (n : ℕ) (certificate : Certificate) (good : IsGoodCertificate c n (in_version_two certificate)) (small : n < 2 ^ 63) where
  abbrev whole : Certificate
  whole = in_version_two certificate

  abbrev entries : List (List ℕ)
  entries = flat_map entry_lines certificate.entries

  refuting_lines_plain : All IsPlain (refutation_lines whole)
  refuting_lines_plain = refutation_plain whole _ good.sizes good.signs good.refuted.refutes

  lines_plain : All IsPlain (certificate_lines_of n whole)
  lines_plain =
      let refuting : List (List ℕ) = refutation_lines whole in
      let behind = All-push IsPlain (entries ++ refuting) (word_line_text lines.End)
      (All-append IsPlain entries refuting (entries_plain c [] certificate.entries good.entries good.form good.proved) refuting_lines_plain) (word_line_plain lines.End tt) in
      All-cons IsPlain (codes "0") (property_line n ∷ lines_of_certificate whole) status_plain
      (All-cons IsPlain (property_line n) (lines_of_certificate whole) (property_plain n small)
      (All-cons IsPlain (word_line_text (lines.Version Two)) (entries ++ refuting ++ word_line_text lines.End ∷ []) (word_line_plain (lines.Version Two) tt) behind))

  pub has_certificate : HasCertificate n whole (certificate_text n whole)
  has_certificate = (small, written_kept (certificate_lines_of n whole) lines_plain)

-- ---- what is held

pub printed_holds : (c : Circuit) → PrintedHoldsTheSame c
printed_holds c text (Lasso n stimulus lasso) (there, short, (others, (small, opens), spells), stands, same) limit =
    (there, limit, written_has n stimulus small, stands, same)
printed_holds c text (Holds n certificate) (there, short, (small, opens), good) limit =
    let two = good_of_two c n certificate good in
    (there, limit, has_certificate c n certificate two small, two)

pub held_is_good : (c : Circuit) → HeldIsGood c
held_is_good c text (Lasso n stimulus lasso) (there, short, has, stands, same) = (there, short, stimulus, has, stands)
held_is_good c text (Holds n certificate) (there, short, has, good) = (there, short, certificate, has, good, refl)
