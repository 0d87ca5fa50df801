-- How far a text was read, line by line, as one about rounds.
use Rattle.std.proofs.Common.{◌≡◌, ◌⊎◌, ℕ, ◌+◌, ◌-◌, ◌≤◌, ◌<◌, inl, inr, Bool, true, false, List, [], ◌∷◌, ◌++◌, length, refl, ap, sym, ◌∙◌, subst, arith, length-append, Option, Some, None, Result, Ok, Err}
use Rattle.std.specs.Prelude.{if◌then◌else◌, nat_lt, nat_le, ◌&&◌, codes}
use Rattle.std.specs.List.{All}
use Rattle.std.specs.Str.{bytes_eq}
use Rattle.std.proofs.lemmas.Bool.{false≢true}
use Rattle.std.proofs.lemmas.List.Elements.{All-nil}
use Rattle.aig_semantics.specs.declared.limits.TheConstants.{MAX_VARIABLE}
use Rattle.aig_semantics.specs.Circuits.{Circuit}
use Rattle.edge.specs.Told.{IfTold, MayBe}
use Rattle.text_grammar.specs.Pieces.{Lacks}
use Rattle.text_grammar.specs.Lines.{lines_of, ended_lines}
use Rattle.answer_lines.specs.Left.{Reading, at_start, left_of, most_bytes, IsTooLong, Took}
use Rattle.stimulus.specs.Texts.{is_skipped}
use Rattle.certificate_lines.specs.declared.words.Version.TheVariants.{One, Two}
use Rattle.certificate_lines.specs.declared.words.WordLine.{WordLine}
use Rattle.certificate_lines.specs.declared.words.WordLine.TheVariants as lines
use Rattle.certificate_lines.specs.Words.{word_line_of}
use Rattle.certificate.specs.declared.ends.AnswerFault.TheVariants.{TooLong}
use Rattle.certificate.specs.declared.ends.AnswerFault.TheVariants as faults
use Rattle.certificate.specs.Lines.{Numbered, kept_from, readable, bare}
use Rattle.certificate.specs.Reading.{Latches, property_in, opens_rounds}
use Rattle.certificate.specs.Reading as answers
use Rattle.certificate.proofs.Readable.{begins}
use Rattle.certificate.proofs.Reached.{Spells, Passed, pass, kept_more, said, too_long_bytes, front_only, front_lines, front_readable, long_front, spells_fed}
use Rattle.round_monitor.specs.Monitor.{monitor_circuit}
use Rattle.round_monitor.specs.Numbers.{sizes_of, greatest}
use Rattle.round_answers.specs.declared.limits.TheConstants.{MAX_ROUNDS}
use Rattle.round_answers.specs.declared.ends.Judged.{Judged}
use Rattle.round_answers.specs.declared.ends.JudgeEnd.{JudgeEnd}
use Rattle.round_answers.specs.declared.ends.JudgeEnd.TheVariants.{Answer, TooLarge as LargerThan}
use Rattle.round_answers.specs.Texts.{is_about_rounds}
use Rattle.round_answers.specs.Reading.{State, First, Named, Chosen, Running, Listing, Stop, Fault, TooLarge, Stepped, asked_in, first_step, named_step, version_step, within, step, and_then, read_lines}
use Rattle.round_answers.specs.Telling.{TellsEnd}
use Rattle.round_answers.specs.First.{is_about, IsOther, IsLater, IsAnyway, IsEnd, Says, TellsText, Decided, OfLines, OfStop}
use Rattle.round_answers.proofs.Ended.{refused, stopped, stop_decides, length_decides, end_decides}

-- whether the lines that are not skipped are those of a text about rounds
abbrev pub about_in : List (List ℕ) → Bool
about_in given = is_about_rounds (bare (kept_from 1 given))

-- none but skipped lines were given, or the first other one opens a text about rounds
abbrev pub HasBegun : State → List (List ℕ) → Type 0
HasBegun s given = ((s ≡ First) × (kept_from 1 given ≡ [])) ⊎ (IsLater s × (about_in given ≡ true))

-- they led to this state, and the next line has this number
pub record Reached (c : Circuit) (told : Option (List ℕ)) (r : Reading) (s : State) (number : ℕ) : Type 0 where
  pub given : List (List ℕ)
  pub passed : Passed told r given
  pub read : read_lines c First (kept_from 1 given) ≡ Ok s
  pub numbered : number ≡ 1 + length given
  pub begun : HasBegun s given

pub reached_start : (c : Circuit) (told : Option (List ℕ)) → Reached c told at_start First 1
reached_start c told = record {
  given = [];
  passed = record { front = []; lack = All-nil _; spells = refl; taken = refl; split = λ x is. refl; behind = λ e. absurd (cc e) };
  read = refl;
  numbered = refl;
  begun = inl (refl, refl);
}

then_more : (stepped : Stepped) (all front rest : State → Stepped) → ((t : State) → all t ≡ and_then (front t) rest) → and_then stepped all ≡ and_then (and_then stepped front) rest
then_more (Ok t) all front rest is = is t
then_more (Err stop) all front rest is = refl

read_more : (c : Circuit) (s : State) (lines more : List Numbered) → read_lines c s (lines ++ more) ≡ and_then (read_lines c s lines) (λ t. read_lines c t more)
read_more c s [] more = refl
read_more c s (line ∷ lines) more = then_more (step c s line.0 line.1) (λ t. read_lines c t (lines ++ more)) (λ t. read_lines c t lines) (λ t. read_lines c t more) (λ t. read_more c t lines more)

-- the lines behind the given ones are read from the state that these led to
read_behind : (c : Circuit) (s : State) (number : ℕ) (given more : List (List ℕ)) → read_lines c First (kept_from 1 given) ≡ Ok s → number ≡ 1 + length given
    → read_lines c First (kept_from 1 (given ++ more)) ≡ read_lines c s (kept_from number more)
read_behind c s number given more read numbered =
    ap (read_lines c First) (kept_more 1 given more)
    ∙ read_more c First (kept_from 1 given) (kept_from (1 + length given) more)
    ∙ ap (λ (stepped : Stepped). and_then stepped (λ t. read_lines c t (kept_from (1 + length given) more))) read
    ∙ ap (λ (n : ℕ). read_lines c s (kept_from n more)) (sym numbered)

-- what stops the reading stays the first
stop_stays : (c : Circuit) (stop : Stop) (given more : List (List ℕ)) → read_lines c First (kept_from 1 given) ≡ Err stop → read_lines c First (kept_from 1 (given ++ more)) ≡ Err stop
stop_stays c stop given more read =
    ap (read_lines c First) (kept_more 1 given more)
    ∙ read_more c First (kept_from 1 given) (kept_from (1 + length given) more)
    ∙ ap (λ (stepped : Stepped). and_then stepped (λ t. read_lines c t (kept_from (1 + length given) more))) read

-- ---- whether the text is about rounds

about_by : (front rest : List Numbered) → is_about_rounds (bare front) ≡ true → is_about_rounds (bare (front ++ rest)) ≡ true
about_by [] rest h = absurd (false≢true h)
about_by (line ∷ front) rest h = h

about_more : (given more : List (List ℕ)) → about_in given ≡ true → about_in (given ++ more) ≡ true
about_more given more h =
    ap (λ (ls : List Numbered). is_about_rounds (bare ls)) (kept_more 1 given more) ∙ about_by (kept_from 1 given) (kept_from (1 + length given) more) h

-- the first line that is not skipped
first_about : (number : ℕ) (line : List ℕ) (given : List (List ℕ)) (skipped : Bool) → is_skipped line ≡ skipped → kept_from 1 given ≡ [] → number ≡ 1 + length given
    → kept_from number (line ∷ []) ≡ kept_from 1 (given ++ line ∷ [])
first_about number line given skipped is none numbered =
    ap (λ (n : ℕ). kept_from n (line ∷ [])) numbered ∙ ap (λ (ls : List Numbered). ls ++ kept_from (1 + length given) (line ∷ [])) (sym none) ∙ sym (kept_more 1 given (line ∷ []))

kept_one : (number : ℕ) (line : List ℕ) → is_skipped line ≡ false → kept_from number (line ∷ []) ≡ (number, line) ∷ []
kept_one number line is = rw is refl

kept_none : (number : ℕ) (line : List ℕ) → is_skipped line ≡ true → kept_from number (line ∷ []) ≡ []
kept_none number line is = rw is refl

-- no line leads back to the first
abbrev LaterOk : Stepped → Type 0
LaterOk (Ok t) = IsLater t
LaterOk (Err stop) = Unit {0}

by_test : (b : Bool) (x y : Stepped) → LaterOk x → LaterOk y → LaterOk (if b then x else y)
by_test true x y h k = h
by_test false x y h k = k

first_later : (number : ℕ) (o : Option ℕ) → LaterOk (first_step number o)
first_later number None = tt
first_later number (Some k) = by_test (nat_le 1 k && nat_le k MAX_ROUNDS) (Ok (Named k)) (Err (Fault (faults.Shape number))) tt tt

named_later : (c : Circuit) (k number : ℕ) (o : Option ℕ) → LaterOk (named_step c k number o)
named_later c k number None = tt
named_later c k number (Some n) =
    let big : ℕ = greatest (sizes_of c n k) in
    by_test (nat_lt n (length c.justice)) (if nat_le big MAX_VARIABLE then Ok (Chosen k n) else Err (TooLarge big)) (Err (Fault (faults.NoProperty n)))
    (by_test (nat_le big MAX_VARIABLE) (Ok (Chosen k n)) (Err (TooLarge big)) tt tt) tt

version_later : (c : Circuit) (k n number : ℕ) (o : Option WordLine) → LaterOk (version_step c k n number o)
version_later c k n number (Some (lines.Version Two)) = tt
version_later c k n number (Some (lines.Version One)) = tt
version_later c k n number (Some (lines.Opening o)) = tt
version_later c k n number (Some (lines.Proof m)) = tt
version_later c k n number (Some (lines.Refutation r)) = tt
version_later c k n number (Some lines.End) = tt
version_later c k n number None = tt

within_later : (inside : answers.State → State) → ((u : answers.State) → IsLater (inside u)) → (r : answers.Stepped) → LaterOk (within inside r)
within_later inside h (Ok u) = h u
within_later inside h (Err fault) = tt

step_later : (c : Circuit) (s : State) (number : ℕ) (line : List ℕ) → LaterOk (step c s number line)
step_later c First number line = first_later number (asked_in line)
step_later c (Named k) number line = named_later c k number (property_in line)
step_later c (Chosen k n) number line =
    by_test (bytes_eq line (codes "run")) (Ok (Running k n (Latches n))) (version_step c k n number (word_line_of line)) tt (version_later c k n number (word_line_of line))
step_later c (Running k n s) number line = within_later (Running k n) (λ u. tt) (answers.step c s number line)
step_later c (Listing k n s) number line = within_later (Listing k n) (λ u. tt) (answers.step (monitor_circuit c n k) s number line)

and_ok : (r : Stepped) (t : State) → and_then r (λ u. Ok u) ≡ Ok t → r ≡ Ok t
and_ok (Ok u) t e = e
and_ok (Err stop) t e = absurd (cc)

later_next : (c : Circuit) (s t : State) (number : ℕ) (line : List ℕ) → is_skipped line ≡ false → read_lines c s (kept_from number (line ∷ [])) ≡ Ok t → IsLater t
later_next c s t number line skip read =
    subst LaterOk (and_ok (step c s number line) t (sym (ap (read_lines c s) (kept_one number line skip)) ∙ read)) (step_later c s number line)

state_of : (a b : State) → ◌≡◌ {A = Stepped} (Ok a) (Ok b) → a ≡ b
state_of a b e = cc

ok_err : (a : State) (b : Stop) → ◌≡◌ {A = Stepped} (Ok a) (Err b) → ⊥
ok_err a b e = cc

-- a skipped line leads nowhere
skipped_state : (c : Circuit) (s t : State) (number : ℕ) (line : List ℕ) → is_skipped line ≡ true → read_lines c s (kept_from number (line ∷ [])) ≡ Ok t → s ≡ t
skipped_state c s t number line skip read = state_of s t (sym (ap (read_lines c s) (kept_none number line skip)) ∙ read)

later_by : (c : Circuit) (s t : State) (number : ℕ) (line : List ℕ) (skip : Bool) → is_skipped line ≡ skip → IsLater s → read_lines c s (kept_from number (line ∷ [])) ≡ Ok t → IsLater t
later_by c s t number line true is later read = subst IsLater (skipped_state c s t number line is read) later
later_by c s t number line false is later read = later_next c s t number line is read

begun_first : (c : Circuit) (s t : State) (number : ℕ) (given : List (List ℕ)) (line : List ℕ) (skip : Bool) → is_skipped line ≡ skip → s ≡ First → kept_from 1 given ≡ []
    → IsAnyway s skip (opens_rounds line) → number ≡ 1 + length given → read_lines c s (kept_from number (line ∷ [])) ≡ Ok t → HasBegun t (given ++ line ∷ [])
begun_first c s t number given line skip e is none (inl later) numbered read = absurd (subst IsLater is later)
begun_first c s t number given line true e is none anyway numbered read =
    inl (sym (skipped_state c s t number line e read) ∙ is, sym (first_about number line given true e none numbered) ∙ kept_none number line e)
begun_first c s t number given line false e is none (inr (inl wrong)) numbered read = absurd (false≢true wrong)
begun_first c s t number given line false e is none (inr (inr opens)) numbered read =
    inr (
      later_next c s t number line e read,
      ap (λ (ls : List Numbered). is_about_rounds (bare ls)) (sym (first_about number line given false e none numbered) ∙ kept_one number line e) ∙ opens,
    )

begun_next : (c : Circuit) (s t : State) (number : ℕ) (given : List (List ℕ)) (line : List ℕ) → HasBegun s given → IsAnyway s (is_skipped line) (opens_rounds line) → number ≡ 1 + length given
    → read_lines c s (kept_from number (line ∷ [])) ≡ Ok t → HasBegun t (given ++ line ∷ [])
begun_next c s t number given line (inr (later, about)) anyway numbered read =
    inr (later_by c s t number line (is_skipped line) refl later read, about_more given (line ∷ []) about)
begun_next c s t number given line (inl (is, none)) anyway numbered read = begun_first c s t number given line (is_skipped line) refl is none anyway numbered read

-- the line that stops the reading is one of a text about rounds
about_first : (c : Circuit) (s : State) (number : ℕ) (given : List (List ℕ)) (line : List ℕ) (stop : Stop) (skip : Bool) → is_skipped line ≡ skip → s ≡ First → kept_from 1 given ≡ []
    → IsAnyway s skip (opens_rounds line) → number ≡ 1 + length given → read_lines c s (kept_from number (line ∷ [])) ≡ Err stop → about_in (given ++ line ∷ []) ≡ true
about_first c s number given line stop skip e is none (inl later) numbered read = absurd (subst IsLater is later)
about_first c s number given line stop true e is none anyway numbered read = absurd (ok_err s stop (sym (ap (read_lines c s) (kept_none number line e)) ∙ read))
about_first c s number given line stop false e is none (inr (inl wrong)) numbered read = absurd (false≢true wrong)
about_first c s number given line stop false e is none (inr (inr opens)) numbered read =
    ap (λ (ls : List Numbered). is_about_rounds (bare ls)) (sym (first_about number line given false e none numbered) ∙ kept_one number line e) ∙ opens

about_next : (s : State) (number : ℕ) (given : List (List ℕ)) (line : List ℕ) (stop : Stop) (c : Circuit) → HasBegun s given → IsAnyway s (is_skipped line) (opens_rounds line)
    → number ≡ 1 + length given → read_lines c s (kept_from number (line ∷ [])) ≡ Err stop → about_in (given ++ line ∷ []) ≡ true
about_next s number given line stop c (inr (later, about)) anyway numbered read = about_more given (line ∷ []) about
about_next s number given line stop c (inl (is, none)) anyway numbered read = about_first c s number given line stop (is_skipped line) refl is none anyway numbered read

pub reached_next : (c : Circuit) (told : Option (List ℕ)) (old new : Reading) (s t : State) (number : ℕ) → Reached c told old s number → old.last ≡ false → Took told old new → Lacks new.line 10
    → IsAnyway s (is_skipped new.line) (opens_rounds new.line) → read_lines c s (kept_from number (new.line ∷ [])) ≡ Ok t → Reached c told new t (number + 1)
reached_next c told old new s t number reached goes_on took lacks anyway read = record {
  given = reached.given ++ new.line ∷ [];
  passed = pass told old new reached.given reached.passed goes_on took lacks;
  read = read_behind c s number reached.given (new.line ∷ []) reached.read reached.numbered ∙ read;
  numbered = omega (arith, reached.numbered, length-append reached.given (new.line ∷ []));
  begun = begun_next c s t number reached.given new.line reached.begun anyway reached.numbered read;
}

-- ---- what is readable of a text with such a front

abbrev of_lines : List (List ℕ) → List Numbered
of_lines ls = kept_from 1 ls

-- what holds of the lines of each text that begins with those that were given
front_lines_more : (P : List Numbered → Type 0) (given : List (List ℕ)) (front rest : List ℕ) (last : Bool) → All (λ line. Lacks line 10) given → Spells last given front → (last ≡ true → rest ≡ [])
    → length front ≤ most_bytes → ((more : List (List ℕ)) → P (of_lines (given ++ more))) → P (of_lines given) → P (of_lines (readable (front ++ rest)))
front_lines_more P given front rest true lack spells none within all own =
    subst (λ (ls : List (List ℕ)). P (of_lines ls)) (sym (front_readable front rest given within (none refl) spells)) own
front_lines_more P given front rest false lack spells none within all own =
    let begun = begins most_bytes given rest lack (omega (arith, within, ap length spells)) in
    subst (λ (bytes : List ℕ). P (of_lines (readable (bytes ++ rest)))) (sym spells)
    (subst (λ (ls : List (List ℕ)). P (of_lines ls)) (sym begun.1) (all begun.0))

-- ---- the ends

-- the parts of a text that is found, in one
flat : (c : Circuit) (told : Option (List ℕ)) (result : Result Judged JudgeEnd) → ((x : List ℕ) × MayBe told x × ((is_about x ≡ true) × Decided c result x)) → Says c told result
flat c told result (x, may, (about, decided)) = (x, may, about, decided)

-- the next line stops the reading
pub stop_said : (c : Circuit) (told : Option (List ℕ)) (old new : Reading) (s : State) (number : ℕ) (stop : Stop) → Reached c told old s number → old.last ≡ false → Took told old new
    → Lacks new.line 10 → new.taken ≤ most_bytes → IsAnyway s (is_skipped new.line) (opens_rounds new.line) → read_lines c s (kept_from number (new.line ∷ [])) ≡ Err stop
    → Says c told (stopped stop)
stop_said c told old new s number stop reached goes_on took lacks most anyway read =
    let given : List (List ℕ) = reached.given ++ new.line ∷ [] in
    let p : Passed told new given = pass told old new reached.given reached.passed goes_on took lacks in
    let ends : read_lines c First (kept_from 1 given) ≡ Err stop = read_behind c s number reached.given (new.line ∷ []) reached.read reached.numbered ∙ read in
    let about : about_in given ≡ true = about_next s number reached.given new.line stop c reached.begun anyway reached.numbered read in
    let within : length p.front ≤ most_bytes = omega (arith, p.taken, most) in
    flat c told (stopped stop) (said told p.front (left_of new) (λ rest. new.last ≡ true → rest ≡ []) (λ text. (is_about text ≡ true) × Decided c (stopped stop) text) ([], λ e. refl) p.split (λ x is e. p.behind e x is)
    (λ rest none. (
      front_lines_more (λ ls. is_about_rounds (bare ls) ≡ true) given p.front rest new.last p.lack p.spells none within (λ more. about_more given more about) about,
      stop_decides c (p.front ++ rest) stop
          (front_lines_more (λ ls. read_lines c First ls ≡ Err stop) given p.front rest new.last p.lack p.spells none within (λ more. stop_stays c stop given more ends) ends),
    )))

-- a line of a text about rounds was read
about_of : (s : State) (given : List (List ℕ)) → HasBegun s given → IsLater s → about_in given ≡ true
about_of s given (inr (_, about)) later = about
about_of s given (inl (is, none)) later = absurd (subst IsLater is later)

-- the next line is too long
pub long_said : (c : Circuit) (told : Option (List ℕ)) (r : Reading) (s : State) (number : ℕ) → Reached c told r s number → IsLater s → r.last ≡ false → r.taken ≤ most_bytes
    → IfTold told (λ text. IsTooLong (most_bytes - r.taken) (left_of r text)) → Says c told (refused TooLong)
long_said c told r s number reached later goes_on most long =
    let p : Passed told r reached.given = reached.passed in
    let fed : p.front ≡ ended_lines reached.given = spells_fed r.last reached.given p.front goes_on p.spells in
    let size : length p.front ≡ r.taken = sym p.taken in
    let about : about_in reached.given ≡ true = about_of s reached.given reached.begun later in
    flat c told (refused TooLong) (said told p.front (left_of r) (IsTooLong (most_bytes - r.taken)) (λ text. (is_about text ≡ true) × Decided c (refused TooLong) text) (too_long_bytes (most_bytes - r.taken)) p.split long
    (λ rest is.
    let lines : readable (p.front ++ rest) ≡ reached.given = long_front reached.given p.front rest r.taken p.lack fed p.taken most is in (
      ap about_in lines ∙ about,
      length_decides c (p.front ++ rest) s (ap (λ (ls : List (List ℕ)). read_lines c First (kept_from 1 ls)) lines ∙ reached.read)
          (omega (arith, is.longer, size, length-append p.front rest)),
    )))

-- the text ends
pub end_said : (c : Circuit) (told : Option (List ℕ)) (r : Reading) (s : State) (number : ℕ) (result : Result Judged JudgeEnd) → Reached c told r s number → IsLater s → r.taken ≤ most_bytes
    → IfTold told (λ text. left_of r text ≡ []) → TellsEnd c s number result → Says c told result
end_said c told r s number result reached later most none tells =
    let p : Passed told r reached.given = reached.passed in
    let lines : lines_of p.front ≡ reached.given = front_lines r.last reached.given p.front p.lack p.spells in
    let about : about_in reached.given ≡ true = about_of s reached.given reached.begun later in
    flat c told result (said told p.front (left_of r) (λ rest. rest ≡ []) (λ text. (is_about text ≡ true) × Decided c result text) ([], refl) p.split none
    (λ rest empty.
    let all : readable (p.front ++ rest) ≡ reached.given = front_readable p.front rest reached.given (omega (arith, p.taken, most)) empty lines in (
      ap about_in all ∙ about,
      end_decides c (p.front ++ rest) s result (ap (λ (ls : List (List ℕ)). read_lines c First (kept_from 1 ls)) all ∙ reached.read)
          (omega (arith, p.taken, most, length-append p.front rest, ap length empty))
          (subst (λ (n : ℕ). TellsEnd c s n result) (reached.numbered ∙ sym (ap (λ (ls : List (List ℕ)). 1 + length ls) (ap lines_of (front_only p.front rest empty) ∙ lines))) tells),
    )))

-- ---- a text that is not about rounds

-- the first line that is not skipped opens none
pub other_line : (c : Circuit) (told : Option (List ℕ)) (old new : Reading) (s : State) (number : ℕ) (reached : Reached c told old s number) → old.last ≡ false → Took told old new → Lacks new.line 10
    → new.taken ≤ most_bytes → s ≡ First → is_skipped new.line ≡ false → opens_rounds new.line ≡ false → kept_from 1 reached.given ≡ [] → IsOther told
other_line c told old new s number reached goes_on took lacks most first skip opens none text is =
    let given : List (List ℕ) = reached.given ++ new.line ∷ [] in
    let p : Passed told new given = pass told old new reached.given reached.passed goes_on took lacks in
    let kept : kept_from 1 given ≡ (number, new.line) ∷ [] = sym (first_about number new.line reached.given false skip none reached.numbered) ∙ kept_one number new.line skip in
    let apart : (more : List Numbered) (rest : List Numbered) → more ≡ (number, new.line) ∷ rest → is_about_rounds (bare more) ≡ false = λ more rest e. ap (λ (ls : List Numbered). is_about_rounds (bare ls)) e ∙ opens in
    let front : text ≡ p.front ++ left_of new text = p.split text is in
    subst (λ bytes. is_about bytes ≡ false) (sym front)
    (front_lines_more (λ ls. is_about_rounds (bare ls) ≡ false) given p.front (left_of new text) new.last p.lack p.spells (λ e. p.behind e text is) (omega (arith, p.taken, most))
    (λ more. apart (kept_from 1 (given ++ more)) (kept_from (1 + length given) more) (kept_more 1 given more ∙ ap (λ (ls : List Numbered). ls ++ kept_from (1 + length given) more) kept))
    (apart (kept_from 1 given) [] kept))

-- none but skipped lines are there, or the next one is too long
pub other_end : (c : Circuit) (told : Option (List ℕ)) (r : Reading) (s : State) (number : ℕ) (reached : Reached c told r s number) → r.taken ≤ most_bytes → kept_from 1 reached.given ≡ []
    → IsEnd s told r → IsOther told
other_end c told r s number reached most none (inl end) text is =
    let p : Passed told r reached.given = reached.passed in
    let lines : lines_of p.front ≡ reached.given = front_lines r.last reached.given p.front p.lack p.spells in
    let all : readable (p.front ++ left_of r text) ≡ reached.given = front_readable p.front (left_of r text) reached.given (omega (arith, p.taken, most)) (end text is) lines in
    ap is_about (p.split text is) ∙ ap about_in all ∙ ap (λ (ls : List Numbered). is_about_rounds (bare ls)) none
other_end c told r s number reached most none (inr (first, goes_on, long)) text is =
    let p : Passed told r reached.given = reached.passed in
    let fed : p.front ≡ ended_lines reached.given = spells_fed r.last reached.given p.front goes_on p.spells in
    let all : readable (p.front ++ left_of r text) ≡ reached.given = long_front reached.given p.front (left_of r text) r.taken p.lack fed p.taken most (long text is) in
    ap is_about (p.split text is) ∙ ap about_in all ∙ ap (λ (ls : List Numbered). is_about_rounds (bare ls)) none

pub none_kept : (c : Circuit) (told : Option (List ℕ)) (r : Reading) (s : State) (number : ℕ) (reached : Reached c told r s number) → s ≡ First → kept_from 1 reached.given ≡ []
none_kept c told r s number reached first = by reached.begun
  where
    by : HasBegun s reached.given → kept_from 1 reached.given ≡ []
    by (inl (is, none)) = none
    by (inr (later, about)) = absurd (subst IsLater first later)
