-- A text is read as a good answer exactly where it is one.
use Rattle.std.proofs.Common.{◌≡◌, ◌≤◌, ◌<◌, ℕ, suc, ◌+◌, List, [], ◌∷◌, ◌++◌, length, flat_map, refl, sym, ap, subst, ◌∙◌, arith, inl, inr, append_assoc, length-append}
use Rattle.std.specs.Prelude.{codes, if◌then◌else◌, take}
use Rattle.std.proofs.lemmas.Bool.{le-leb}
use Rattle.text_grammar.specs.Lines.{lines_of}
use Rattle.text_grammar.specs.Pieces.{cut_at}
use Rattle.aig_semantics.specs.Circuits.{Circuit}
use Rattle.answer_lines.specs.Left.{most_bytes}
use Rattle.fair_semantics.specs.declared.entries.Use.{Use}
use Rattle.fair_semantics.specs.Entries.{Entry}
use Rattle.certificate_lines.specs.declared.words.Version.{Version}
use Rattle.certificate_lines.specs.declared.words.WordLine.TheVariants as lines
use Rattle.certificate_lines.specs.Words.{word_line_text}
use Rattle.certificate.specs.declared.limits.TheConstants.{MAX_ENTRIES}
use Rattle.certificate.specs.declared.ends.Accepted.{Accepted}
use Rattle.certificate.specs.declared.ends.Accepted.TheVariants.{Lasso, Holds}
use Rattle.certificate.specs.Lines.{kept_from, kept_in, bare, but_last, kept_readable}
use Rattle.certificate_texts.specs.declared.certificates.Written.{Written}
use Rattle.certificate_texts.specs.declared.certificates.Certificate.{Certificate}
use Rattle.certificate_texts.specs.Certificates.{entry_lines, refutation_lines, lines_of_certificate}
use Rattle.certificate.specs.Certificates.{entry_with, AreProvedBehind, IsGoodCertificate}
use Rattle.certificate_texts.specs.Writing.{property_line}
use Rattle.certificate.specs.Answers.{HasStimulus, IsGood}
use Rattle.certificate.specs.Reading.{HasLasso, HasNone, Status}
use Rattle.certificate.specs.Ends.{ReadsWell}
use Rattle.certificate.specs.Laws.{ReadsGood}
use Rattle.certificate.proofs.Completing.{end_line, rest_lines, first_body, FromStart, FromVersion, FromLatches, FromProperty, FromStatus, Completes}
use Rattle.certificate.proofs.CompletingAll.{EndsWell, completed_reads, read_completes}

-- all lines of a text within the limit end within it
pub all_readable : (text : List ℕ) → length text ≤ most_bytes → kept_readable text ≡ kept_in text
all_readable text short =
    ap (λ t. kept_from 1 (if t then lines_of text else but_last (cut_at 10 (take most_bytes text)))) (le-leb (length text) most_bytes short)

-- ---- certificates

pub behind_version : (es : List Written) (uses : List Use) (proof : List (List ℕ)) (version : Version)
    → lines_of_certificate (record { version = version; entries = es; uses = uses; proof = proof }) ≡ word_line_text (lines.Version version) ∷ rest_lines es uses proof
behind_version es uses proof version =
    let certificate : Certificate = record { version = version; entries = es; uses = uses; proof = proof } in
    ap (λ ls. word_line_text (lines.Version version) ∷ ls) (append_assoc (flat_map entry_lines es) (refutation_lines certificate) (end_line ∷ []))

-- as many entries as are written
pub all_proved : (c : Circuit) (before : List Entry) (es : List Written) (all : List Entry) → AreProvedBehind c before es all → length all ≡ length before + length es
all_proved c before [] all proved = ap length proved ∙ (let n : length before ≡ length before + 0 = omega arith in n)
all_proved c before (e ∷ es) all (clauses, are, is, others) =
    let n = all_proved c (before ++ entry_with e clauses ∷ []) es all others in
    omega (arith, n, length-append before (entry_with e clauses ∷ []))

pub few_all : (es : List Written) (limit : ℕ) → (0 < length es → 0 + length es ≤ limit) → length es ≤ limit
few_all [] limit h = omega arith
few_all (e ∷ es) limit h = let n : 0 + suc (length es) ≤ limit = h (omega arith) in omega (arith, n)

module _ (c : Circuit) (text : List ℕ) (short : length text ≤ most_bytes) where
  abbrev left : List (List ℕ)
  left = bare (kept_in text)

  -- ---- from the lines

  good_lasso : (a : Accepted) (n : ℕ) (h : FromStatus c (codes "1") HasLasso left a) → (p : FromProperty c HasLasso h.rest a) → FromLatches c p.property p.rest a → IsGood c text a
  good_lasso (Lasso m positions from) n h p l =
      let opens : left ≡ codes "1" ∷ property_line p.property ∷ p.rest = h.spelled ∙ ap (λ ls. codes "1" ∷ ls) p.spelled in
      let has : HasStimulus p.property l.stimulus text = (p.rest, (p.small, opens), (l.rows, l.spelled, l.values)) in
      subst (λ k. IsGood c text (Lasso k positions from)) (sym l.end.0) (p.there, short, l.stimulus, has, l.end.1)
  good_lasso (Holds m entries) n h p l = absurd l.end

  good_holds : (a : Accepted) (h : FromStatus c (codes "0") HasNone left a) → (p : FromProperty c HasNone h.rest a) → FromVersion c p.property p.rest a → IsGood c text a
  good_holds (Lasso m positions from) h p v = absurd v.others.end
  good_holds (Holds m entries) h p v =
      let s : FromStart c (first_body p.property v.version) v.rest (Holds m entries) = v.others in
      let certificate : Certificate = record { version = v.version; entries = s.more; uses = s.uses; proof = s.proof } in
      let opens : left ≡ codes "0" ∷ property_line p.property ∷ lines_of_certificate certificate =
      h.spelled ∙ ap (λ ls. codes "0" ∷ ls) (p.spelled ∙ ap (λ ls. property_line p.property ∷ ls)
      (v.spelled ∙ ap (λ ls. word_line_text (lines.Version v.version) ∷ ls) s.spelled ∙ sym (behind_version s.more s.uses s.proof v.version))) in
      let good : IsGoodCertificate c p.property certificate = record {
        form = s.form;
        sizes = s.sizes;
        signs = s.signs;
        few = few_all s.more MAX_ENTRIES s.few;
        entries = s.all;
        proved = s.proved;
        refuted = s.refuted;
      }
      in
      let count : length s.all ≡ length s.more = let n = all_proved c [] s.more s.all s.proved in omega (arith, n) in
      subst (λ k. IsGood c text (Holds k entries)) (sym s.end.0) (p.there, short, certificate, (p.small, opens), good, s.end.1 ∙ count)

  pub good_from_lines : (a : Accepted) → Completes c Status left a → IsGood c text a
  good_from_lines a (inl h) = good_lasso a 0 h h.others h.others.others
  good_from_lines a (inr h) = good_holds a h h.others h.others.others

  -- ---- to the lines

  pub lines_from_good : (a : Accepted) → IsGood c text a → Completes c Status left a
  lines_from_good (Lasso n positions from) (there, _, stimulus, (others, (small, opens), (rows, spelled, values)), stands) = inl (record {
    rest = property_line n ∷ others;
    spelled = opens;
    others = record {
      property = n;
      rest = others;
      small = small;
      there = there;
      spelled = refl;
      others = record { rows = rows; stimulus = stimulus; spelled = spelled; values = values; end = (refl, stands) };
    };
  })
  lines_from_good (Holds n entries) (there, _, certificate, (small, opens), good, count) =
      let es = certificate.entries in
      let all : length good.entries ≡ length es = let n = all_proved c [] es good.entries good.proved in omega (arith, n) in
      let whole : FromStart c (first_body n certificate.version) (rest_lines es certificate.uses certificate.proof) (Holds n entries) = record {
        more = es;
        uses = certificate.uses;
        proof = certificate.proof;
        spelled = refl;
        kinds = λ k d inside. refl;
        form = good.form;
        sizes = good.sizes;
        signs = good.signs;
        few = λ some. (let n = good.few in omega (arith, n));
        all = good.entries;
        proved = good.proved;
        refuted = good.refuted;
        end = (refl, count ∙ sym all);
      }
      in
      inr (record {
        rest = property_line n ∷ lines_of_certificate certificate;
        spelled = opens;
        others = record {
          property = n;
          rest = lines_of_certificate certificate;
          small = small;
          there = there;
          spelled = refl;
          others = record {
            version = certificate.version;
            rest = rest_lines es certificate.uses certificate.proof;
            spelled = behind_version es certificate.uses certificate.proof certificate.version;
            others = whole;
          };
        };
      })

pub good_short : (c : Circuit) (text : List ℕ) (a : Accepted) → IsGood c text a → length text ≤ most_bytes
good_short c text (Lasso n positions from) h = h.1
good_short c text (Holds n entries) h = h.1

pub good_from_reads : (c : Circuit) (text : List ℕ) (a : Accepted) → ReadsWell c text a → IsGood c text a
good_from_reads c text a (short, t, read, good) =
    good_from_lines c text short a
    (subst (λ lines. Completes c Status (bare lines) a) (all_readable text short) (read_completes c a (kept_readable text) Status (t, read, good)))

pub reads_from_good : (c : Circuit) (text : List ℕ) (a : Accepted) → IsGood c text a → ReadsWell c text a
reads_from_good c text a good =
    let short : length text ≤ most_bytes = good_short c text a good in
    let lead : Completes c Status (bare (kept_readable text)) a =
    subst (λ lines. Completes c Status (bare lines) a) (sym (all_readable text short)) (lines_from_good c text short a good) in
    let well : EndsWell c a _ = completed_reads c a (kept_readable text) Status lead in
    (short, well.0, well.1, well.2)

pub reads_good : (c : Circuit) → ReadsGood c
reads_good c text a = (good_from_reads c text a, reads_from_good c text a)
