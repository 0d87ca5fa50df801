-- How far a text was read, line by line, as a sheet.
use Rattle.std.proofs.Common.{◌≡◌, ◌⊎◌, ℕ, ◌+◌, ◌-◌, ◌≤◌, inl, inr, Bool, true, false, List, [], ◌∷◌, ◌++◌, length, refl, ap, sym, ◌∙◌, subst, arith, length-append, Option, Some, None, Result, Ok, Err}
use Rattle.std.specs.Prelude.{if◌then◌else◌, ◌==◌}
use Rattle.std.specs.List.{All}
use Rattle.std.specs.Str.{bytes_eq}
use Rattle.std.proofs.lemmas.Bool.{false≢true}
use Rattle.std.proofs.lemmas.List.Elements.{All-nil}
use Rattle.aig_semantics.specs.Circuits.{Circuit}
use Rattle.fair_semantics.specs.Entries.{Entry}
use Rattle.stimulus.specs.declared.ends.ReplayFault.{ReplayFault}
use Rattle.edge.specs.Told.{IfTold, MayBe}
use Rattle.text_grammar.specs.Pieces.{Lacks}
use Rattle.text_grammar.specs.Lines.{lines_of, ended_lines}
use Rattle.answer_lines.specs.Left.{Reading, at_start, left_of, most_bytes, IsTooLong, Took}
use Rattle.stimulus.specs.Texts.{is_skipped}
use Rattle.certificate_lines.specs.declared.words.Version.TheVariants.{One, Two}
use Rattle.certificate_lines.specs.declared.words.WordLine.{WordLine}
use Rattle.certificate_lines.specs.declared.words.WordLine.TheVariants as lines
use Rattle.certificate_lines.specs.Words.{word_line_of}
use Rattle.certificate.specs.declared.ends.AnswerFault.{AnswerFault}
use Rattle.certificate.specs.declared.ends.AnswerFault.TheVariants.{TooLong}
use Rattle.certificate.specs.declared.ends.AnswerFault.TheVariants as faults
use Rattle.certificate.specs.Lines.{Numbered, kept_from, readable, bare}
use Rattle.certificate.specs.Reading.{Body, Start, EntryUses, EntryClause, EntryProof, EntryLine, RefutationUses, RefutationLine, Last, Status, Property, Latches, Rows, Dotted, Certified, Ended, open_step, opens_sheet}
use Rattle.certificate.specs.Reading as answers
use Rattle.certificate.proofs.Readable.{begins}
use Rattle.certificate.proofs.Reached.{Spells, Passed, pass, kept_more, said, too_long_bytes, front_only, front_lines, front_readable, long_front, spells_fed}
use Rattle.sheet_answers.specs.declared.ends.JudgeEnd.{JudgeEnd}
use Rattle.sheet_answers.specs.declared.found.Accepted.{Accepted}
use Rattle.sheet_answers.specs.Sheets.{Counts, none, total, lasso_line, holds_line, open_line}
use Rattle.sheet_answers.specs.Reading.{State, First, Versioned, Listing, Between, Refuting, Proving, Showing, Done, Fault, Plain, Replays, Stepped, misplaced, after_answer, is_sheet, count_in, first_step, version_step, end_step, block_step, between_step, entry_step, listing_step, refute_step, proved, refuting_fault, replayed, shown, step, and_then, read_lines, opens_as_sheet}
use Rattle.sheet_answers.specs.Ends.{AreReplays}
use Rattle.sheet_answers.specs.Seen.{TellsEnd}
use Rattle.sheet_answers.specs.First.{IsOther, IsLater, IsAnyway, IsEnd, Says, Decided}
use Rattle.sheet_answers.proofs.Ended.{refused, fault_decides, length_decides, end_decides}
use Rattle.sheet_answers.proofs.Replaying.{replays_of, are_replays}

-- whether the lines that are not skipped are those of a sheet
abbrev pub sheet_in : List (List ℕ) → Bool
sheet_in given = is_sheet (bare (kept_from 1 given))

-- none but skipped lines were given, or the first other one opens a sheet
abbrev pub HasBegun : State → List (List ℕ) → Type 0
HasBegun s given = ((s ≡ First) × (kept_from 1 given ≡ [])) ⊎ (IsLater s × (sheet_in given ≡ true))

-- they lead to this state, whatever replays say that are right
abbrev pub LeadTo : Circuit → State → List Numbered → State → Type 0
LeadTo c s lines t = (replays : Replays) → AreReplays c replays → read_lines c replays s lines ≡ Ok t

-- they led to this state, and the next line has this number
pub record Reached (c : Circuit) (told : Option (List ℕ)) (r : Reading) (s : State) (number : ℕ) : Type 0 where
  pub given : List (List ℕ)
  pub passed : Passed told r given
  pub read : LeadTo c First (kept_from 1 given) s
  pub numbered : number ≡ 1 + length given
  pub begun : HasBegun s given

pub reached_start : (c : Circuit) (told : Option (List ℕ)) → Reached c told at_start First 1
reached_start c told = record {
  given = [];
  passed = record { front = []; lack = All-nil _; spells = refl; taken = refl; split = λ x is. refl; behind = λ e. absurd (cc e) };
  read = λ replays are. refl;
  numbered = refl;
  begun = inl (refl, refl);
}

then_more : (stepped : Stepped) (all front rest : State → Stepped) → ((t : State) → all t ≡ and_then (front t) rest) → and_then stepped all ≡ and_then (and_then stepped front) rest
then_more (Ok t) all front rest is = is t
then_more (Err fault) all front rest is = refl

pub read_more : (c : Circuit) (replays : Replays) (s : State) (lines more : List Numbered)
    → read_lines c replays s (lines ++ more) ≡ and_then (read_lines c replays s lines) (λ t. read_lines c replays t more)
read_more c replays s [] more = refl
read_more c replays s (line ∷ lines) more =
    then_more (step c replays s line.0 line.1) (λ t. read_lines c replays t (lines ++ more)) (λ t. read_lines c replays t lines) (λ t. read_lines c replays t more)
    (λ t. read_more c replays t lines more)

-- the lines behind the given ones are read from the state that these led to
read_behind : (c : Circuit) (replays : Replays) (s : State) (number : ℕ) (given more : List (List ℕ)) → read_lines c replays First (kept_from 1 given) ≡ Ok s → number ≡ 1 + length given
    → read_lines c replays First (kept_from 1 (given ++ more)) ≡ read_lines c replays s (kept_from number more)
read_behind c replays s number given more read numbered =
    ap (read_lines c replays First) (kept_more 1 given more)
    ∙ read_more c replays First (kept_from 1 given) (kept_from (1 + length given) more)
    ∙ ap (λ (stepped : Stepped). and_then stepped (λ t. read_lines c replays t (kept_from (1 + length given) more))) read
    ∙ ap (λ (n : ℕ). read_lines c replays s (kept_from n more)) (sym numbered)

-- the first fault stays
fault_stays : (c : Circuit) (replays : Replays) (fault : Fault) (given more : List (List ℕ)) → read_lines c replays First (kept_from 1 given) ≡ Err fault
    → read_lines c replays First (kept_from 1 (given ++ more)) ≡ Err fault
fault_stays c replays fault given more read =
    ap (read_lines c replays First) (kept_more 1 given more)
    ∙ read_more c replays First (kept_from 1 given) (kept_from (1 + length given) more)
    ∙ ap (λ (stepped : Stepped). and_then stepped (λ t. read_lines c replays t (kept_from (1 + length given) more))) read

-- ---- whether the text is a sheet

sheet_by : (front rest : List Numbered) → is_sheet (bare front) ≡ true → is_sheet (bare (front ++ rest)) ≡ true
sheet_by [] rest h = absurd (false≢true h)
sheet_by (line ∷ front) rest h = h

sheet_more : (given more : List (List ℕ)) → sheet_in given ≡ true → sheet_in (given ++ more) ≡ true
sheet_more given more h =
    ap (λ (ls : List Numbered). is_sheet (bare ls)) (kept_more 1 given more) ∙ sheet_by (kept_from 1 given) (kept_from (1 + length given) more) h

-- the first line that is not skipped
first_kept : (number : ℕ) (line : List ℕ) (given : List (List ℕ)) → kept_from 1 given ≡ [] → number ≡ 1 + length given
    → kept_from number (line ∷ []) ≡ kept_from 1 (given ++ line ∷ [])
first_kept number line given empty numbered =
    ap (λ (n : ℕ). kept_from n (line ∷ [])) numbered ∙ ap (λ (ls : List Numbered). ls ++ kept_from (1 + length given) (line ∷ [])) (sym empty) ∙ sym (kept_more 1 given (line ∷ []))

kept_one : (number : ℕ) (line : List ℕ) → is_skipped line ≡ false → kept_from number (line ∷ []) ≡ (number, line) ∷ []
kept_one number line is = rw is refl

kept_none : (number : ℕ) (line : List ℕ) → is_skipped line ≡ true → kept_from number (line ∷ []) ≡ []
kept_none number line is = rw is refl

-- no line leads back to the first
abbrev LaterOk : Stepped → Type 0
LaterOk (Ok t) = IsLater t
LaterOk (Err fault) = Unit {0}

by_test : (b : Bool) (x y : Stepped) → LaterOk x → LaterOk y → LaterOk (if b then x else y)
by_test true x y h k = h
by_test false x y h k = k

first_later : (c : Circuit) (number : ℕ) (o : Option ℕ) → LaterOk (first_step c number o)
first_later c number None = tt
first_later c number (Some count) = by_test (count == length c.justice) (Ok Versioned) (Err (Plain (faults.NoProperty count))) tt tt

version_later : (number : ℕ) (o : Option WordLine) → LaterOk (version_step number o)
version_later number (Some (lines.Version Two)) = tt
version_later number (Some (lines.Version One)) = tt
version_later number (Some (lines.Opening o)) = tt
version_later number (Some (lines.Proof m)) = tt
version_later number (Some (lines.Refutation r)) = tt
version_later number (Some lines.End) = tt
version_later number None = tt

end_later : (t : Counts) (entries : List Entry) (number : ℕ) (o : Option WordLine) → LaterOk (end_step t entries number o)
end_later t entries number (Some lines.End) = tt
end_later t entries number (Some (lines.Version v)) = tt
end_later t entries number (Some (lines.Opening o)) = tt
end_later t entries number (Some (lines.Proof m)) = tt
end_later t entries number (Some (lines.Refutation r)) = tt
end_later t entries number None = tt

block_later : (t : Counts) (entries : List Entry) (n number : ℕ) (line : List ℕ) → LaterOk (block_step t entries n number line)
block_later t entries n number line =
    let later : Stepped = Ok (Between (record t { unknown = t.unknown + 1 }) entries) in
    let open_one : Stepped = if bytes_eq line (open_line n) then later else misplaced number in
    let holds_one : Stepped = if bytes_eq line (holds_line n) then Ok (Refuting t entries) else open_one in
    by_test (bytes_eq line (lasso_line n)) (Ok (Showing t entries (Latches n))) holds_one tt
    (by_test (bytes_eq line (holds_line n)) (Ok (Refuting t entries)) open_one tt (by_test (bytes_eq line (open_line n)) later (misplaced number) tt tt))

between_later : (c : Circuit) (t : Counts) (entries : List Entry) (number : ℕ) (line : List ℕ) → LaterOk (between_step c t entries number line)
between_later c t entries number line =
    by_test (total t == length c.justice) (end_step t entries number (word_line_of line)) (block_step t entries (total t) number line)
    (end_later t entries number (word_line_of line)) (block_later t entries (total t) number line)

behind_later : (next : answers.State → Stepped) (fault : AnswerFault → Fault) → ((s : answers.State) → LaterOk (next s)) → (r : answers.Stepped) → LaterOk (after_answer next fault r)
behind_later next fault h (Ok s) = h s
behind_later next fault h (Err first) = tt

entry_later : (c : Circuit) (b : Body) (number : ℕ) (line : List ℕ) (o : Option WordLine) → LaterOk (entry_step c b number line o)
entry_later c b number line (Some (lines.Opening o)) = behind_later (λ s. Ok (Listing s)) Plain (λ s. tt) (open_step b o)
entry_later c b number line (Some (lines.Version v)) = between_later c none b.entries number line
entry_later c b number line (Some (lines.Proof m)) = between_later c none b.entries number line
entry_later c b number line (Some (lines.Refutation r)) = between_later c none b.entries number line
entry_later c b number line (Some lines.End) = between_later c none b.entries number line
entry_later c b number line None = between_later c none b.entries number line

further_later : (c : Circuit) (s : answers.State) (number : ℕ) (line : List ℕ) → LaterOk (after_answer (λ t. Ok (Listing t)) Plain (answers.step c s number line))
further_later c s number line = behind_later (λ t. Ok (Listing t)) Plain (λ t. tt) (answers.step c s number line)

listing_later : (c : Circuit) (s : answers.State) (number : ℕ) (line : List ℕ) → LaterOk (listing_step c s number line)
listing_later c (Certified b Start) number line = entry_later c b number line (word_line_of line)
listing_later c (Certified b (EntryUses o)) number line = further_later c (Certified b (EntryUses o)) number line
listing_later c (Certified b (EntryClause begun)) number line = further_later c (Certified b (EntryClause begun)) number line
listing_later c (Certified b (EntryProof e i)) number line = further_later c (Certified b (EntryProof e i)) number line
listing_later c (Certified b (EntryLine e i p)) number line = further_later c (Certified b (EntryLine e i p)) number line
listing_later c (Certified b (RefutationUses r)) number line = further_later c (Certified b (RefutationUses r)) number line
listing_later c (Certified b (RefutationLine p)) number line = further_later c (Certified b (RefutationLine p)) number line
listing_later c (Certified b Last) number line = further_later c (Certified b Last) number line
listing_later c Status number line = further_later c Status number line
listing_later c (Property claim) number line = further_later c (Property claim) number line
listing_later c (Latches n) number line = further_later c (Latches n) number line
listing_later c (Rows n s) number line = further_later c (Rows n s) number line
listing_later c (Dotted n s) number line = further_later c (Dotted n s) number line
listing_later c (answers.Versioned n) number line = further_later c (answers.Versioned n) number line
listing_later c (Ended b) number line = further_later c (Ended b) number line

refute_later : (t : Counts) (entries : List Entry) (number : ℕ) (o : Option WordLine) → LaterOk (refute_step t entries number o)
refute_later t entries number (Some (lines.Refutation r)) = tt
refute_later t entries number (Some (lines.Version v)) = tt
refute_later t entries number (Some (lines.Opening o)) = tt
refute_later t entries number (Some (lines.Proof m)) = tt
refute_later t entries number (Some lines.End) = tt
refute_later t entries number None = tt

proved_later : (t : Counts) (s : answers.State) → LaterOk (proved t s)
proved_later t (Certified b Last) = tt
proved_later t (Certified b Start) = tt
proved_later t (Certified b (EntryUses o)) = tt
proved_later t (Certified b (EntryClause begun)) = tt
proved_later t (Certified b (EntryProof e i)) = tt
proved_later t (Certified b (EntryLine e i p)) = tt
proved_later t (Certified b (RefutationUses r)) = tt
proved_later t (Certified b (RefutationLine p)) = tt
proved_later t Status = tt
proved_later t (Property claim) = tt
proved_later t (Latches n) = tt
proved_later t (Rows n s) = tt
proved_later t (Dotted n s) = tt
proved_later t (answers.Versioned n) = tt
proved_later t (Ended b) = tt

replayed_later : (t : Counts) (entries : List Entry) (n : ℕ) (o : Option ReplayFault) → LaterOk (replayed t entries n o)
replayed_later t entries n None = tt
replayed_later t entries n (Some fault) = tt

shown_later : (replays : Replays) (t : Counts) (entries : List Entry) (s : answers.State) → LaterOk (shown replays t entries s)
shown_later replays t entries (Dotted n s) = replayed_later t entries n (replays n s)
shown_later replays t entries (Certified b wanted) = tt
shown_later replays t entries Status = tt
shown_later replays t entries (Property claim) = tt
shown_later replays t entries (Latches n) = tt
shown_later replays t entries (Rows n s) = tt
shown_later replays t entries (answers.Versioned n) = tt
shown_later replays t entries (Ended b) = tt

step_later : (c : Circuit) (replays : Replays) (s : State) (number : ℕ) (line : List ℕ) → LaterOk (step c replays s number line)
step_later c replays First number line = first_later c number (count_in line)
step_later c replays Versioned number line = version_later number (word_line_of line)
step_later c replays (Listing s) number line = listing_later c s number line
step_later c replays (Between t entries) number line = between_later c t entries number line
step_later c replays (Refuting t entries) number line = refute_later t entries number (word_line_of line)
step_later c replays (Proving t s) number line = behind_later (proved t) (refuting_fault (total t)) (proved_later t) (answers.step c s number line)
step_later c replays (Showing t entries s) number line =
    behind_later (shown replays t entries) Plain (shown_later replays t entries) (answers.step c s number line)
step_later c replays (Done t entries) number line = tt

and_ok : (r : Stepped) (t : State) → and_then r (λ u. Ok u) ≡ Ok t → r ≡ Ok t
and_ok (Ok u) t e = e
and_ok (Err fault) t e = absurd (cc)

module _ (c : Circuit) where
  -- what is right of all replays, is of some
  some_read : (s : State) (lines : List Numbered) (t : State) → LeadTo c s lines t → read_lines c (replays_of c) s lines ≡ Ok t
  some_read s lines t read = read (replays_of c) (are_replays c)

  later_next : (s t : State) (number : ℕ) (line : List ℕ) → is_skipped line ≡ false → LeadTo c s (kept_from number (line ∷ [])) t → IsLater t
  later_next s t number line skip read =
      let replays : Replays = replays_of c in
      subst LaterOk (and_ok (step c replays s number line) t (sym (ap (read_lines c replays s) (kept_one number line skip)) ∙ some_read s (kept_from number (line ∷ [])) t read))
      (step_later c replays s number line)

  state_of : (a b : State) → ◌≡◌ {A = Stepped} (Ok a) (Ok b) → a ≡ b
  state_of a b e = cc

  ok_err : (a : State) (b : Fault) → ◌≡◌ {A = Stepped} (Ok a) (Err b) → ⊥
  ok_err a b e = cc

  -- a skipped line leads nowhere
  skipped_state : (s t : State) (number : ℕ) (line : List ℕ) → is_skipped line ≡ true → LeadTo c s (kept_from number (line ∷ [])) t → s ≡ t
  skipped_state s t number line skip read =
      state_of s t (sym (ap (read_lines c (replays_of c) s) (kept_none number line skip)) ∙ some_read s (kept_from number (line ∷ [])) t read)

  later_by : (s t : State) (number : ℕ) (line : List ℕ) (skip : Bool) → is_skipped line ≡ skip → IsLater s → LeadTo c s (kept_from number (line ∷ [])) t → IsLater t
  later_by s t number line true is later read = subst IsLater (skipped_state s t number line is read) later
  later_by s t number line false is later read = later_next s t number line is read

  begun_first : (s t : State) (number : ℕ) (given : List (List ℕ)) (line : List ℕ) (skip : Bool) → is_skipped line ≡ skip → s ≡ First → kept_from 1 given ≡ []
      → IsAnyway s skip (opens_sheet line) → number ≡ 1 + length given → LeadTo c s (kept_from number (line ∷ [])) t → HasBegun t (given ++ line ∷ [])
  begun_first s t number given line skip e is empty (inl later) numbered read = absurd (subst IsLater is later)
  begun_first s t number given line true e is empty anyway numbered read =
      inl (sym (skipped_state s t number line e read) ∙ is, sym (first_kept number line given empty numbered) ∙ kept_none number line e)
  begun_first s t number given line false e is empty (inr (inl wrong)) numbered read = absurd (false≢true wrong)
  begun_first s t number given line false e is empty (inr (inr opens)) numbered read =
      inr (
        later_next s t number line e read,
        ap (λ (ls : List Numbered). is_sheet (bare ls)) (sym (first_kept number line given empty numbered) ∙ kept_one number line e) ∙ opens,
      )

  begun_next : (s t : State) (number : ℕ) (given : List (List ℕ)) (line : List ℕ) → HasBegun s given → IsAnyway s (is_skipped line) (opens_sheet line) → number ≡ 1 + length given
      → LeadTo c s (kept_from number (line ∷ [])) t → HasBegun t (given ++ line ∷ [])
  begun_next s t number given line (inr (later, is_one)) anyway numbered read =
      inr (later_by s t number line (is_skipped line) refl later read, sheet_more given (line ∷ []) is_one)
  begun_next s t number given line (inl (is, empty)) anyway numbered read = begun_first s t number given line (is_skipped line) refl is empty anyway numbered read

  -- the line that has a fault is one of a sheet
  abbrev Fails : State → List Numbered → Fault → Type 0
  Fails s lines fault = (replays : Replays) → AreReplays c replays → read_lines c replays s lines ≡ Err fault

  sheet_first : (s : State) (number : ℕ) (given : List (List ℕ)) (line : List ℕ) (fault : Fault) (skip : Bool) → is_skipped line ≡ skip → s ≡ First → kept_from 1 given ≡ []
      → IsAnyway s skip (opens_sheet line) → number ≡ 1 + length given → Fails s (kept_from number (line ∷ [])) fault → sheet_in (given ++ line ∷ []) ≡ true
  sheet_first s number given line fault skip e is empty (inl later) numbered read = absurd (subst IsLater is later)
  sheet_first s number given line fault true e is empty anyway numbered read =
      absurd (ok_err s fault (sym (ap (read_lines c (replays_of c) s) (kept_none number line e)) ∙ read (replays_of c) (are_replays c)))
  sheet_first s number given line fault false e is empty (inr (inl wrong)) numbered read = absurd (false≢true wrong)
  sheet_first s number given line fault false e is empty (inr (inr opens)) numbered read =
      ap (λ (ls : List Numbered). is_sheet (bare ls)) (sym (first_kept number line given empty numbered) ∙ kept_one number line e) ∙ opens

  sheet_next : (s : State) (number : ℕ) (given : List (List ℕ)) (line : List ℕ) (fault : Fault) → HasBegun s given → IsAnyway s (is_skipped line) (opens_sheet line)
      → number ≡ 1 + length given → Fails s (kept_from number (line ∷ [])) fault → sheet_in (given ++ line ∷ []) ≡ true
  sheet_next s number given line fault (inr (later, is_one)) anyway numbered read = sheet_more given (line ∷ []) is_one
  sheet_next s number given line fault (inl (is, empty)) anyway numbered read = sheet_first s number given line fault (is_skipped line) refl is empty anyway numbered read

pub reached_next : (c : Circuit) (told : Option (List ℕ)) (old new : Reading) (s t : State) (number : ℕ) → Reached c told old s number → old.last ≡ false → Took told old new → Lacks new.line 10
    → IsAnyway s (is_skipped new.line) (opens_sheet new.line) → LeadTo c s (kept_from number (new.line ∷ [])) t → Reached c told new t (number + 1)
reached_next c told old new s t number reached goes_on took lacks anyway read = record {
  given = reached.given ++ new.line ∷ [];
  passed = pass told old new reached.given reached.passed goes_on took lacks;
  read = λ replays are. read_behind c replays s number reached.given (new.line ∷ []) (reached.read replays are) reached.numbered ∙ read replays are;
  numbered = omega (arith, reached.numbered, length-append reached.given (new.line ∷ []));
  begun = begun_next c s t number reached.given new.line reached.begun anyway reached.numbered read;
}

-- ---- what is readable of a text with such a front

abbrev of_lines : List (List ℕ) → List Numbered
of_lines ls = kept_from 1 ls

-- what holds of the lines of each text that begins with those that were given
front_lines_more : (P : List Numbered → Type 0) (given : List (List ℕ)) (front rest : List ℕ) (last : Bool) → All (λ line. Lacks line 10) given → Spells last given front → (last ≡ true → rest ≡ [])
    → length front ≤ most_bytes → ((more : List (List ℕ)) → P (of_lines (given ++ more))) → P (of_lines given) → P (of_lines (readable (front ++ rest)))
front_lines_more P given front rest true lack spells empty within all own =
    subst (λ (ls : List (List ℕ)). P (of_lines ls)) (sym (front_readable front rest given within (empty refl) spells)) own
front_lines_more P given front rest false lack spells empty within all own =
    let begun = begins most_bytes given rest lack (omega (arith, within, ap length spells)) in
    subst (λ (bytes : List ℕ). P (of_lines (readable (bytes ++ rest)))) (sym spells)
    (subst (λ (ls : List (List ℕ)). P (of_lines ls)) (sym begun.1) (all begun.0))

-- ---- the ends

-- the parts of a text that is found, in one
flat : (c : Circuit) (told : Option (List ℕ)) (result : Result Accepted JudgeEnd) → ((x : List ℕ) × MayBe told x × ((opens_as_sheet x ≡ true) × Decided c result x)) → Says c told result
flat c told result (x, may, (is_one, decided)) = (x, may, is_one, decided)

-- the next line has a fault
pub fault_said : (c : Circuit) (told : Option (List ℕ)) (old new : Reading) (s : State) (number : ℕ) (fault : Fault) → Reached c told old s number → old.last ≡ false → Took told old new
    → Lacks new.line 10 → new.taken ≤ most_bytes → IsAnyway s (is_skipped new.line) (opens_sheet new.line)
    → ((replays : Replays) → AreReplays c replays → read_lines c replays s (kept_from number (new.line ∷ [])) ≡ Err fault)
    → Says c told (refused fault)
fault_said c told old new s number fault reached goes_on took lacks most anyway read =
    let given : List (List ℕ) = reached.given ++ new.line ∷ [] in
    let p : Passed told new given = pass told old new reached.given reached.passed goes_on took lacks in
    let is_one : sheet_in given ≡ true = sheet_next c s number reached.given new.line fault reached.begun anyway reached.numbered read in
    let within : length p.front ≤ most_bytes = omega (arith, p.taken, most) in
    flat c told (refused fault) (said told p.front (left_of new) (λ rest. new.last ≡ true → rest ≡ []) (λ text. (opens_as_sheet text ≡ true) × Decided c (refused fault) text)
    ([], λ e. refl) p.split (λ x is e. p.behind e x is)
    (λ rest empty. (
      front_lines_more (λ ls. is_sheet (bare ls) ≡ true) given p.front rest new.last p.lack p.spells empty within (λ more. sheet_more given more is_one) is_one,
      fault_decides c (p.front ++ rest) fault (λ replays are.
          let ends : read_lines c replays First (kept_from 1 given) ≡ Err fault =
          read_behind c replays s number reached.given (new.line ∷ []) (reached.read replays are) reached.numbered ∙ read replays are in
          front_lines_more (λ ls. read_lines c replays First ls ≡ Err fault) given p.front rest new.last p.lack p.spells empty within
          (λ more. fault_stays c replays fault given more ends) ends),
    )))

-- a line of a sheet was read
sheet_of : (s : State) (given : List (List ℕ)) → HasBegun s given → IsLater s → sheet_in given ≡ true
sheet_of s given (inr (_, is_one)) later = is_one
sheet_of s given (inl (is, empty)) later = absurd (subst IsLater is later)

-- the next line is too long
pub long_said : (c : Circuit) (told : Option (List ℕ)) (r : Reading) (s : State) (number : ℕ) → Reached c told r s number → IsLater s → r.last ≡ false → r.taken ≤ most_bytes
    → IfTold told (λ text. IsTooLong (most_bytes - r.taken) (left_of r text)) → Says c told (refused (Plain TooLong))
long_said c told r s number reached later goes_on most long =
    let p : Passed told r reached.given = reached.passed in
    let fed : p.front ≡ ended_lines reached.given = spells_fed r.last reached.given p.front goes_on p.spells in
    let size : length p.front ≡ r.taken = sym p.taken in
    let is_one : sheet_in reached.given ≡ true = sheet_of s reached.given reached.begun later in
    flat c told (refused (Plain TooLong)) (said told p.front (left_of r) (IsTooLong (most_bytes - r.taken))
    (λ text. (opens_as_sheet text ≡ true) × Decided c (refused (Plain TooLong)) text) (too_long_bytes (most_bytes - r.taken)) p.split long
    (λ rest is.
    let lines : readable (p.front ++ rest) ≡ reached.given = long_front reached.given p.front rest r.taken p.lack fed p.taken most is in (
      ap sheet_in lines ∙ is_one,
      length_decides c (p.front ++ rest) s
          (λ replays are. ap (λ (ls : List (List ℕ)). read_lines c replays First (kept_from 1 ls)) lines ∙ reached.read replays are)
          (omega (arith, is.longer, size, length-append p.front rest)),
    )))

-- the text ends
pub end_said : (c : Circuit) (told : Option (List ℕ)) (r : Reading) (s : State) (number : ℕ) (result : Result Accepted JudgeEnd) → Reached c told r s number → IsLater s → r.taken ≤ most_bytes
    → IfTold told (λ text. left_of r text ≡ []) → TellsEnd s number result → Says c told result
end_said c told r s number result reached later most empty tells =
    let p : Passed told r reached.given = reached.passed in
    let lines : lines_of p.front ≡ reached.given = front_lines r.last reached.given p.front p.lack p.spells in
    let is_one : sheet_in reached.given ≡ true = sheet_of s reached.given reached.begun later in
    flat c told result (said told p.front (left_of r) (λ rest. rest ≡ []) (λ text. (opens_as_sheet text ≡ true) × Decided c result text) ([], refl) p.split empty
    (λ rest empty.
    let all : readable (p.front ++ rest) ≡ reached.given = front_readable p.front rest reached.given (omega (arith, p.taken, most)) empty lines in (
      ap sheet_in all ∙ is_one,
      end_decides c (p.front ++ rest) s result
          (λ replays are. ap (λ (ls : List (List ℕ)). read_lines c replays First (kept_from 1 ls)) all ∙ reached.read replays are)
          (omega (arith, p.taken, most, length-append p.front rest, ap length empty))
          (subst (λ (n : ℕ). TellsEnd s n result) (reached.numbered ∙ sym (ap (λ (ls : List (List ℕ)). 1 + length ls) (ap lines_of (front_only p.front rest empty) ∙ lines))) tells),
    )))

-- ---- a text that is no sheet

-- the first line that is not skipped opens none
pub other_line : (c : Circuit) (told : Option (List ℕ)) (old new : Reading) (s : State) (number : ℕ) (reached : Reached c told old s number) → old.last ≡ false → Took told old new → Lacks new.line 10
    → new.taken ≤ most_bytes → s ≡ First → is_skipped new.line ≡ false → opens_sheet new.line ≡ false → kept_from 1 reached.given ≡ [] → IsOther told
other_line c told old new s number reached goes_on took lacks most first skip opens empty text is =
    let given : List (List ℕ) = reached.given ++ new.line ∷ [] in
    let p : Passed told new given = pass told old new reached.given reached.passed goes_on took lacks in
    let kept : kept_from 1 given ≡ (number, new.line) ∷ [] = sym (first_kept number new.line reached.given empty reached.numbered) ∙ kept_one number new.line skip in
    let apart : (more : List Numbered) (rest : List Numbered) → more ≡ (number, new.line) ∷ rest → is_sheet (bare more) ≡ false = λ more rest e. ap (λ (ls : List Numbered). is_sheet (bare ls)) e ∙ opens in
    let front : text ≡ p.front ++ left_of new text = p.split text is in
    subst (λ bytes. opens_as_sheet bytes ≡ false) (sym front)
    (front_lines_more (λ ls. is_sheet (bare ls) ≡ false) given p.front (left_of new text) new.last p.lack p.spells (λ e. p.behind e text is) (omega (arith, p.taken, most))
    (λ more. apart (kept_from 1 (given ++ more)) (kept_from (1 + length given) more) (kept_more 1 given more ∙ ap (λ (ls : List Numbered). ls ++ kept_from (1 + length given) more) kept))
    (apart (kept_from 1 given) [] kept))

-- none but skipped lines are there, or the next one is too long
pub other_end : (c : Circuit) (told : Option (List ℕ)) (r : Reading) (s : State) (number : ℕ) (reached : Reached c told r s number) → r.taken ≤ most_bytes → kept_from 1 reached.given ≡ []
    → IsEnd s told r → IsOther told
other_end c told r s number reached most empty (inl end) text is =
    let p : Passed told r reached.given = reached.passed in
    let lines : lines_of p.front ≡ reached.given = front_lines r.last reached.given p.front p.lack p.spells in
    let all : readable (p.front ++ left_of r text) ≡ reached.given = front_readable p.front (left_of r text) reached.given (omega (arith, p.taken, most)) (end text is) lines in
    ap opens_as_sheet (p.split text is) ∙ ap sheet_in all ∙ ap (λ (ls : List Numbered). is_sheet (bare ls)) empty
other_end c told r s number reached most empty (inr (first, goes_on, long)) text is =
    let p : Passed told r reached.given = reached.passed in
    let fed : p.front ≡ ended_lines reached.given = spells_fed r.last reached.given p.front goes_on p.spells in
    let all : readable (p.front ++ left_of r text) ≡ reached.given = long_front reached.given p.front (left_of r text) r.taken p.lack fed p.taken most (long text is) in
    ap opens_as_sheet (p.split text is) ∙ ap sheet_in all ∙ ap (λ (ls : List Numbered). is_sheet (bare ls)) empty

pub none_kept : (c : Circuit) (told : Option (List ℕ)) (r : Reading) (s : State) (number : ℕ) (reached : Reached c told r s number) → s ≡ First → kept_from 1 reached.given ≡ []
none_kept c told r s number reached first = by reached.begun
  where
    by : HasBegun s reached.given → kept_from 1 reached.given ≡ []
    by (inl (is, empty)) = empty
    by (inr (later, is_one)) = absurd (subst IsLater first later)
