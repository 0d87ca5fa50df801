-- A text is read as a good sheet exactly where it is one.
use Rattle.std.proofs.Common.{◌≡◌, ℕ, zero, suc, ◌+◌, ◌≤◌, ◌<◌, ◌^◌, length-append, List, [], ◌∷◌, ◌++◌, length, flat_map, refl, sym, ap, subst, ◌∙◌, arith, Ok}
use Rattle.aig_semantics.specs.Circuits.{Circuit}
use Rattle.fair_semantics.specs.Entries.{Entry}
use Rattle.answer_lines.specs.Left.{most_bytes}
use Rattle.certificate.specs.declared.limits.TheConstants.{MAX_ENTRIES}
use Rattle.certificate.specs.Lines.{kept_in, kept_readable, bare}
use Rattle.certificate_texts.specs.declared.certificates.Written.{Written}
use Rattle.certificate_texts.specs.Certificates.{entry_lines}
use Rattle.certificate.specs.Certificates.{entry_with, AreProvedBehind}
use Rattle.certificate.proofs.GoodRead.{all_readable}
use Rattle.sheet_answers.specs.declared.found.Accepted.{Accepted}
use Rattle.sheet_answers.specs.Sheets.{Sheet, Counts, all_line, version_line, IsSheetWith, none}
use Rattle.sheet_answers.specs.Reading.{First, no_entries}
use Rattle.sheet_answers.specs.First.{ReadsAs}
use Rattle.sheet_answers.proofs.Replaying.{replays_of, are_replays}
use Rattle.sheet_answers.proofs.SheetLines.{FromBlocks, FromListing, Completes}
use Rattle.sheet_answers.proofs.SheetReads.{completed_reads, read_completes}

-- how many entries there are, as they are read one behind the other
proved_length : (c : Circuit) (before : List Entry) (more : List Written) (all : List Entry) → AreProvedBehind c before more all → length all ≡ length before + length more
proved_length c before [] all same = omega (arith, ap length same)
proved_length c before (e ∷ more) all (clauses, of, is_proved, others) =
    let entry : Entry = entry_with e clauses in
    let rest = proved_length c (before ++ entry ∷ []) more all others in
    let one = length-append before (entry ∷ []) in
    omega (arith, rest, one)

few : (n : ℕ) → (0 < n → 0 + n ≤ MAX_ENTRIES) → n ≤ MAX_ENTRIES
few zero h = omega arith
few (suc n) h = let k : 0 + suc n ≤ MAX_ENTRIES = h (omega arith) in omega (arith, k)

module _ (c : Circuit) (text : List ℕ) (a : Accepted) where
  said : length text ≤ most_bytes → Completes c a First (bare (kept_in text)) → IsSheetWith c text a.counts a.entries
  said short (small, others, spelled, h) =
      let b : FromBlocks c a none h.all h.rest = h.blocks in
      let each : 0 + length b.blocks ≡ length c.justice = b.each in
      let many : length b.blocks ≡ length c.justice = omega (arith, each) in
      let count : length h.all ≡ 0 + length h.more = proved_length c [] h.more h.all h.proved in
      let sheet : Sheet = record { entries = h.more; blocks = b.blocks } in (
        sheet,
        (
          short,
          record {
            small = subst (λ n. n < 2 ^ 63) (sym many) small;
            others = h.rest;
            lines = spelled ∙ (λ j. all_line (sym many j) ∷ version_line ∷ h.spelled j);
            blocks = b.spelled;
          },
          record {
            each = many;
            form = h.form;
            few = few (length h.more) h.few;
            entries = h.all;
            proved = h.proved;
            blocks = b.good;
          },
        ),
        b.counts,
        omega (arith, b.count, count),
      )

  told : IsSheetWith c text a.counts a.entries → Completes c a First (bare (kept_in text))
  told (sheet, (short, has, good), counts, entries) =
      let count : length good.entries ≡ 0 + length sheet.entries = proved_length c [] sheet.entries good.entries good.proved in
      let blocks : FromBlocks c a none good.entries has.others = record {
        blocks = sheet.blocks;
        spelled = has.blocks;
        each = omega (arith, good.each);
        good = good.blocks;
        counts = counts;
        count = omega (arith, entries, count);
      }
      in
      let listing : FromListing c a no_entries (flat_map entry_lines sheet.entries ++ has.others) = record {
        more = sheet.entries;
        rest = has.others;
        spelled = refl;
        form = good.form;
        few = λ some. omega (arith, good.few);
        all = good.entries;
        proved = good.proved;
        blocks = blocks;
      }
      in (
        subst (λ n. n < 2 ^ 63) good.each has.small,
        flat_map entry_lines sheet.entries ++ has.others,
        has.lines ∙ (λ j. all_line (good.each j) ∷ version_line ∷ (flat_map entry_lines sheet.entries ++ has.others)),
        listing,
      )

short_of : (c : Circuit) (text : List ℕ) (counts : Counts) (entries : ℕ) → IsSheetWith c text counts entries → length text ≤ most_bytes
short_of c text counts entries (sheet, (short, has, good), of, count) = short

pub reads_good : (c : Circuit) (text : List ℕ) (a : Accepted) → ReadsAs c (replays_of c) text (Ok a) → IsSheetWith c text a.counts a.entries
reads_good c text a (short, s, read, good) =
    let same : bare (kept_readable text) ≡ bare (kept_in text) = ap bare (all_readable text short) in
    said c text a short (subst (Completes c a First) same (read_completes c a (replays_of c) (are_replays c) (kept_readable text) First tt (s, read, good)))

pub good_reads : (c : Circuit) (text : List ℕ) (counts : Counts) (entries : ℕ) → IsSheetWith c text counts entries
    → ReadsAs c (replays_of c) text (Ok (record { counts = counts; entries = entries }))
good_reads c text counts entries good =
    let a : Accepted = record { counts = counts; entries = entries } in
    let short : length text ≤ most_bytes = short_of c text counts entries good in
    let same : bare (kept_readable text) ≡ bare (kept_in text) = ap bare (all_readable text short) in
    let well = completed_reads c a (replays_of c) (are_replays c) (kept_readable text) First (subst (Completes c a First) (sym same) (told c text a good)) in
    (short, well.0, well.1, well.2)
