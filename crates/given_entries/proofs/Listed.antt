-- How the loading of the entries of a text ends: of an answer, and of a sheet that was judged.
use Rattle.std.proofs.Common.{◌≡◌, inl, inr, ℕ, ◌+◌, ◌-◌, ◌≤◌, Bool, true, false, List, [], ◌++◌, length, take, drop, flat_map, refl, sym, ap, ◌∙◌, subst, arith, Some, None, Ok, Err}
use Rattle.std.specs.Prelude.{Option, Result, IfOk, IfErr}
use Rattle.std.proofs.lemmas.List.{length-drop, take_all}
use Rattle.aig_semantics.specs.Circuits.{Circuit}
use Rattle.fair_semantics.specs.Entries.{Entry}
use Rattle.answer_lines.specs.Left.{most_bytes}
use Rattle.text_grammar.specs.Lines.{lines_of}
use Rattle.unless_memory.specs.Answers.{GivesSome}
use Rattle.stimulus.specs.Texts.{kept_lines}
use Rattle.entry.specs.declared.entries.Entry.{Entry as WithProofs}
use Rattle.certificate_lines.specs.declared.words.Version.TheVariants.{Two}
use Rattle.certificate.specs.declared.limits.TheConstants.{MAX_ENTRIES}
use Rattle.certificate.specs.declared.ends.AnswerEnd.{AnswerEnd}
use Rattle.certificate.specs.declared.ends.AnswerEnd.TheVariants as answer_ends
use Rattle.certificate_texts.specs.declared.certificates.Written.{Written}
use Rattle.certificate.specs.Lines.{kept_in, bare}
use Rattle.certificate_texts.specs.Certificates.{entry_lines}
use Rattle.certificate.specs.Certificates.{AreProvedBehind}
use Rattle.certificate.specs.Ends.{has_unread as answer_unread}
use Rattle.certificate.specs.Laws.{GoodHasNoFault, OneFault}
use Rattle.certificate_texts.specs.Taking.{many, entry_at}
use Rattle.certificate.proofs.TakenBack.{many_back, entry_back, entries_fit, Fits}
use Rattle.cert_tools.specs.Laws.{OneHeld}
use Rattle.sheet_answers.specs.declared.ends.JudgeEnd.{JudgeEnd}
use Rattle.sheet_answers.specs.declared.texts.GoodSheet.{GoodSheet}
use Rattle.sheet_answers.specs.Sheets.{Sheet, IsTextOf}
use Rattle.sheet_answers.specs.Reading.{is_sheet}
use Rattle.sheet_answers.specs.Ends.{answer_end, refused_memory, has_unread}
use Rattle.sheet_answers.specs.Texts.{DecidesLines}
use Rattle.sheet_answers.proofs.HeldTexts.{opens}
use Rattle.given_entries.specs.Given.{AreEntriesOf, DecidesEntries, AreProvedInTurn}
use Rattle.given_entries.specs.Listing.{HasSheetEntries, ListsAs, ListsNoneAs, DecidesList, no_list}
use Rattle.given_entries.specs.Taking.{as_listed, IsListedIn}
use Rattle.given_entries.proofs.Entries.{one_list, as_many, proved_in_turn}
use Rattle.given_entries.proofs.Ends.{decides_two, each_proved, few, was_read}

abbrev pub Listing : Type 0
Listing = Result (List WithProofs) JudgeEnd

abbrev Lined : Type 0
Lined = Result GoodSheet JudgeEnd

abbrev errs : JudgeEnd → Listing
errs e = Err e

abbrev as_listing : Lined → Listing
as_listing (Ok found) = no_list
as_listing (Err e) = Err e

abbrev Given : Type 0
Given = Result (List WithProofs) AnswerEnd

abbrev DecidesListAs : Bool → Circuit → List ℕ → Listing → Type 0
DecidesListAs test c text (Ok entries) = ListsAs test c text entries
DecidesListAs test c text (Err end) = ListsNoneAs test c text end

-- ---- the entries in the lines of a sheet

-- the lines of a good sheet, as they are read
abbrev lines_read : List ℕ → Sheet → GoodSheet
lines_read text sheet = record { lines = bare (kept_in text); entries = length sheet.entries }

-- the entries, so many, stand in the lines
in_lines : (c : Circuit) (text : List ℕ) (found : GoodSheet) (count : ℕ) (lines : List (List ℕ)) → count ≡ found.entries → lines ≡ found.lines
    → (sheet : Sheet) → IsTextOf c sheet text → found.lines ≡ bare (kept_in text) → found.entries ≡ length sheet.entries → IsListedIn c sheet count lines
in_lines c text found count lines counted same sheet (bound, has, good) read entries = record {
  others = has.others;
  spelled = same ∙ read ∙ has.lines;
  form = good.form;
  many = counted ∙ entries;
  few = (let within = good.few in omega (arith, within, counted, entries));
  entries = good.entries;
  proved = good.proved;
}

-- ---- of a text by its first line

module _ (c : Circuit) (text : List ℕ) (short : length text ≤ most_bytes) where
  as_list : (test : Bool) (v : Listing) → is_sheet (kept_lines (lines_of text)) ≡ test → DecidesListAs test c text v → DecidesList c text v
  as_list test (Ok entries) is h = subst (λ (b : Bool). ListsAs b c text entries) (sym (opens text short test is)) h
  as_list test (Err end) is h = subst (λ (b : Bool). ListsNoneAs b c text end) (sym (opens text short test is)) h

  of_list : (test : Bool) (v : Listing) → is_sheet (kept_lines (lines_of text)) ≡ test → DecidesList c text v → DecidesListAs test c text v
  of_list test (Ok entries) is h = subst (λ (b : Bool). ListsAs b c text entries) (opens text short test is) h
  of_list test (Err end) is h = subst (λ (b : Bool). ListsNoneAs b c text end) (opens text short test is) h

  -- ---- of an answer

  pub other_found : is_sheet (kept_lines (lines_of text)) ≡ false → (r : Given) (result : Listing) → result ≡ as_listed r → GivesSome (Err answer_ends.Memory) (DecidesEntries c text) r
      → GivesSome no_list (DecidesList c text) result
  other_found is r result same h = subst (λ (x : Listing). GivesSome no_list (DecidesList c text) x) (sym same) (by r h)
    where
      by : (g : Given) → GivesSome (Err answer_ends.Memory) (DecidesEntries c text) g → GivesSome no_list (DecidesList c text) (as_listed g)
      by (Ok entries) (inl has) = inl (as_list false (Ok entries) is has)
      by (Ok entries) (inr wrong) = absurd (cc wrong)
      by (Err (answer_ends.Refused fault)) (inl bad) = inl (as_list false (Err (answer_end (answer_ends.Refused fault))) is (fault, bad, refl))
      by (Err (answer_ends.Refused fault)) (inr wrong) = absurd (cc wrong)
      by (Err answer_ends.ReadFault) (inl wrong) = absurd wrong
      by (Err answer_ends.ReadFault) (inr wrong) = absurd (cc wrong)
      by (Err answer_ends.Memory) h = inr refl

  -- what it decides as a text it decides as an answer
  as_answer : (v : Listing) → DecidesListAs false c text v → (g : Given) × DecidesEntries c text g × (v ≡ as_listed g)
  as_answer (Ok entries) has = (Ok entries, has, refl)
  as_answer (Err end) (fault, bad, same) = (Err (answer_ends.Refused fault), bad, ap (λ (e : JudgeEnd). errs e) same)

  pub other_exactly : is_sheet (kept_lines (lines_of text)) ≡ false → (r : Given) (result : Listing) → result ≡ as_listed r → OneHeld c → GoodHasNoFault c → OneFault c
      → GivesSome (Err answer_ends.Memory) (DecidesEntries c text) r → (v : Listing) → DecidesList c text v → GivesSome no_list (λ given. given ≡ v) result
  other_exactly is r result same one apart fault h v d = by h (as_answer v (of_list false v is d))
    where
      by : GivesSome (Err answer_ends.Memory) (DecidesEntries c text) r → (g : Given) × DecidesEntries c text g × (v ≡ as_listed g)
          → GivesSome no_list (λ given. given ≡ v) result
      by (inl decides) (g, also, is_v) = inl (same ∙ ap as_listed (decides_two c text r g one apart fault decides also) ∙ sym is_v)
      by (inr memory) other = inr (same ∙ ap as_listed memory)

  -- ---- of a sheet, that was judged

  pub listed_found : is_sheet (kept_lines (lines_of text)) ≡ true → (found : GoodSheet) (count : ℕ) (lines : List (List ℕ)) → count ≡ found.entries → lines ≡ found.lines
      → GivesSome (Err refused_memory) (DecidesLines c text) (Ok found) → (result : Listing)
      → ((sheet : Sheet) → IsListedIn c sheet count lines → IfOk result (AreEntriesOf c sheet.entries)) → IfErr result (λ end. end ≡ refused_memory)
      → GivesSome no_list (DecidesList c text) result
  listed_found is found count lines counted same (inl has) (Ok entries) lists ended_so =
      inl (as_list true (Ok entries) is (has.0, has.1, lists has.0 (in_lines c text found count lines counted same has.0 has.1 has.2 has.3)))
  listed_found is found count lines counted same (inr wrong) (Ok entries) lists ended_so = absurd (cc wrong)
  listed_found is found count lines counted same h (Err end) lists ended_so = inr (ap errs ended_so)

  pub listed_exactly : is_sheet (kept_lines (lines_of text)) ≡ true → (found : GoodSheet) (count : ℕ) (lines : List (List ℕ)) → count ≡ found.entries → lines ≡ found.lines
      → ((verdict : Lined) → DecidesLines c text verdict → GivesSome (Err refused_memory) (λ r. r ≡ verdict) (Ok found)) → (result : Listing)
      → ((sheet : Sheet) → IsListedIn c sheet count lines → IfOk result (AreEntriesOf c sheet.entries)) → IfErr result (λ end. end ≡ refused_memory)
      → (v : Listing) → DecidesList c text v → GivesSome no_list (λ given. given ≡ v) result
  listed_exactly is found count lines counted same exactly (Err end) lists ended_so v d = inr (ap errs ended_so)
  listed_exactly is found count lines counted same exactly (Ok entries) lists ended_so (Err refusal) d = elim (exactly (Err refusal) (of_list true (Err refusal) is d)) [
    | inl wrong ↦ absurd (cc wrong)
    | inr wrong ↦ absurd (cc wrong)
  ]
  listed_exactly is found count lines counted same exactly (Ok entries) lists ended_so (Ok others) d = by (of_list true (Ok others) is d)
    where
      by : HasSheetEntries c text others → GivesSome no_list (λ given. given ≡ Ok others) (Ok entries)
      by (sheet, of, also) = elim (exactly (Ok (lines_read text sheet)) (sheet, of, refl, refl)) [
        | inl one ↦ (
            let read : found ≡ lines_read text sheet = cc one in
            let there = in_lines c text found count lines counted same sheet of (ap (λ (l : GoodSheet). l.lines) read) (ap (λ (l : GoodSheet). l.entries) read) in
            inl (ap (λ (l : List WithProofs). Ok l) (one_list c sheet.entries entries others (lists sheet there) also)))
        | inr wrong ↦ absurd (cc wrong)
      ]

  -- a sheet that is refused
  pub refused_found : is_sheet (kept_lines (lines_of text)) ≡ true → (end : JudgeEnd) → GivesSome (Err refused_memory) (DecidesLines c text) (Err end) → GivesSome no_list (DecidesList c text) (Err end)
  refused_found is end (inl decides) = inl (as_list true (Err end) is decides)
  refused_found is end (inr memory) = inr (ap as_listing memory)

  pub refused_exactly : is_sheet (kept_lines (lines_of text)) ≡ true → (end : JudgeEnd)
      → ((verdict : Lined) → DecidesLines c text verdict → GivesSome (Err refused_memory) (λ r. r ≡ verdict) (Err end))
      → (v : Listing) → DecidesList c text v → GivesSome no_list (λ given. given ≡ v) (Err end)
  refused_exactly is end exactly (Ok others) d = by (of_list true (Ok others) is d)
    where
      by : HasSheetEntries c text others → GivesSome no_list (λ given. given ≡ Ok others) (Err end)
      by (sheet, of, also) = elim (exactly (Ok (lines_read text sheet)) (sheet, of, refl, refl)) [
        | inl wrong ↦ absurd (cc wrong)
        | inr memory ↦ inr (ap as_listing memory)
      ]
  refused_exactly is end exactly (Err refusal) d = elim (exactly (Err refusal) (of_list true (Err refusal) is d)) [
    | inl one ↦ inl (ap as_listing one)
    | inr memory ↦ inr (ap as_listing memory)
  ]

-- ---- of a sheet: what is so of its entries

pub sheet_there : (c : Circuit) (text : List ℕ) (found : GoodSheet) (count : ℕ) (lines : List (List ℕ)) → count ≡ found.entries → lines ≡ found.lines
    → GivesSome (Err refused_memory) (DecidesLines c text) (Ok found) → (sheet : Sheet) × IsListedIn c sheet count lines
sheet_there c text found count lines counted same (inl has) = (has.0, in_lines c text found count lines counted same has.0 has.1 has.2 has.3)
sheet_there c text found count lines counted same (inr wrong) = absurd (cc wrong)

pub listed_proved : (c : Circuit) (count : ℕ) (lines : List (List ℕ)) (result : Listing) → (sheet : Sheet) × IsListedIn c sheet count lines
    → ((sheet : Sheet) → IsListedIn c sheet count lines → IfOk result (AreEntriesOf c sheet.entries)) → IfOk result (AreProvedInTurn c [])
listed_proved c count lines (Ok entries) (sheet, there) lists = proved_in_turn c [] there.entries sheet.entries entries there.proved (lists sheet there)
listed_proved c count lines (Err end) there lists = tt

pub listed_few : (c : Circuit) (count : ℕ) (lines : List (List ℕ)) (result : Listing) → (sheet : Sheet) × IsListedIn c sheet count lines
    → ((sheet : Sheet) → IsListedIn c sheet count lines → IfOk result (AreEntriesOf c sheet.entries)) → IfOk result (λ entries. length entries ≤ MAX_ENTRIES)
listed_few c count lines (Ok entries) (sheet, there) lists =
    let counted_as = as_many c sheet.entries entries (lists sheet there) in
    let within = there.few in let many = there.many in omega (arith, counted_as, within, many)
listed_few c count lines (Err end) there lists = tt

-- ---- of an answer: what is so of its entries, and that it was read

pub other_proved : (c : Circuit) (text : List ℕ) (r : Given) (result : Listing) → result ≡ as_listed r → GivesSome (Err answer_ends.Memory) (DecidesEntries c text) r
    → IfOk result (AreProvedInTurn c [])
other_proved c text (Ok entries) result same h = subst (λ (x : Listing). IfOk x (AreProvedInTurn c [])) (sym same) (each_proved c text (Ok entries) h)
other_proved c text (Err end) result same h = subst (λ (x : Listing). IfOk x (AreProvedInTurn c [])) (sym same) tt

pub other_few : (c : Circuit) (text : List ℕ) (r : Given) (result : Listing) → result ≡ as_listed r → GivesSome (Err answer_ends.Memory) (DecidesEntries c text) r
    → IfOk result (λ entries. length entries ≤ MAX_ENTRIES)
other_few c text (Ok entries) result same h = subst (λ (x : Listing). IfOk x (λ es. length es ≤ MAX_ENTRIES)) (sym same) (few c text (Ok entries) h)
other_few c text (Err end) result same h = subst (λ (x : Listing). IfOk x (λ es. length es ≤ MAX_ENTRIES)) (sym same) tt

listed_unread : (r : Given) → has_unread {T = List WithProofs} (as_listed r) ≡ answer_unread r
listed_unread (Ok entries) = refl
listed_unread (Err (answer_ends.Refused fault)) = refl
listed_unread (Err answer_ends.ReadFault) = refl
listed_unread (Err answer_ends.Memory) = refl

pub other_unread : (c : Circuit) (text : List ℕ) (r : Given) (result : Listing) → result ≡ as_listed r → GivesSome (Err answer_ends.Memory) (DecidesEntries c text) r
    → has_unread {T = List WithProofs} result ≡ false
other_unread c text r result same h = ap (λ (x : Listing). has_unread {T = List WithProofs} x) same ∙ listed_unread r ∙ was_read c text r h

-- ---- want of memory

-- of an end of want of memory no read failed
pub memory_unread : (result : Listing) → IfErr result (λ end. end ≡ refused_memory) → has_unread {T = List WithProofs} result ≡ false
memory_unread (Ok entries) h = refl
memory_unread (Err end) h = ap (λ (e : JudgeEnd). has_unread {T = List WithProofs} (Err e)) h

-- ---- the lines of a sheet

abbrev Lines : Type 0
Lines = List (List ℕ)

abbrev Taken : Type 0
Taken = Option (List Written × Lines)

abbrev taken_entries : Taken → List Written
taken_entries None = []
taken_entries (Some x) = x.0

-- the lines behind the first two, as a slice has them
pub behind_two : (lines : Lines) → take (length lines - 2) (drop 2 lines) ≡ drop 2 lines
behind_two lines = take_all (length lines - 2) (drop 2 lines) (omega (arith, length-drop 2 lines))

module _ (c : Circuit) (sheet : Sheet) (count : ℕ) (lines tail : Lines) (behind : tail ≡ drop 2 lines) (is : IsListedIn c sheet count lines) where
  pub taken : ◌≡◌ {A = Taken} (many (entry_at Two) count tail) (Some (sheet.entries, is.others))
  taken =
      let few : 0 + length sheet.entries ≤ MAX_ENTRIES = omega (arith, is.few, is.many) in
      let at : tail ≡ flat_map entry_lines sheet.entries ++ is.others = behind ∙ ap (λ (l : Lines). drop 2 l) is.spelled in
      (λ j. many (entry_at Two) (is.many j) (at j))
      ∙ many_back (entry_at Two) entry_lines (Fits Two) (entry_back Two) sheet.entries is.others
      (entries_fit c Two [] sheet.entries is.entries few is.form is.proved)

  pub not_none : ◌≡◌ {A = Taken} (many (entry_at Two) count tail) None → ⊥
  not_none none = let both : ◌≡◌ {A = Taken} (Some (sheet.entries, is.others)) None = sym taken ∙ none in cc both

  pub same : (written : List Written) (rest : Lines) → ◌≡◌ {A = Taken} (many (entry_at Two) count tail) (Some (written, rest)) → sheet.entries ≡ written
  same written rest found = ap taken_entries (sym taken ∙ found)

  pub all_proved : (written : List Written) (rest : Lines) → ◌≡◌ {A = Taken} (many (entry_at Two) count tail) (Some (written, rest))
      → (all : List Entry) × AreProvedBehind c [] written all
  all_proved written rest found = (is.entries, subst (λ ws. AreProvedBehind c [] ws is.entries) (same written rest found) is.proved)
