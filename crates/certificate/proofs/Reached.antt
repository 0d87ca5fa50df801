-- How far a text was read, line by line.
use Rattle.std.proofs.Common.{◌≡◌, ◌≢◌, ℕ, zero, suc, ◌+◌, ◌-◌, ◌≤◌, inl, inr, Bool, true, false, if◌then◌else◌, List, [], ◌∷◌, ◌++◌, length, take, refl, ap, sym, ◌∙◌, subst, arith, append_assoc, append-nil, length-append, Option, Some, None, Result, Ok, Err}
use Rattle.std.specs.List.{All}
use Rattle.std.specs.Prelude.{IfErr}
use Rattle.std.proofs.lemmas.List.Elements.{All-append, All-cons, All-nil, All-take}
use Rattle.std.proofs.lemmas.Grind.{flat_map-append}
use Rattle.aig_semantics.specs.Circuits.{Circuit}
use Rattle.edge.specs.Told.{IfTold, MayBe}
use Rattle.text_grammar.specs.Pieces.{Lacks}
use Rattle.text_grammar.specs.Lines.{lines_of, ended_lines}
use Rattle.text_grammar.proofs.LineLaws.{last_line, reads_written_lines}
use Rattle.answer_lines.specs.Left.{Reading, at_start, left_of, most_bytes, IsTooLong, TookLine, TookLast, Took}
use Rattle.stimulus.specs.Texts.{is_skipped}
use Rattle.certificate.specs.declared.ends.Accepted.{Accepted}
use Rattle.certificate.specs.declared.ends.AnswerFault.{AnswerFault}
use Rattle.certificate.specs.declared.ends.AnswerFault.TheVariants.{TooLong}
use Rattle.certificate.specs.declared.ends.AnswerEnd.{AnswerEnd}
use Rattle.certificate.specs.declared.ends.AnswerEnd.TheVariants as ends
use Rattle.certificate.specs.Lines.{Numbered, kept_from, readable}
use Rattle.certificate.specs.Ends.{ReadsAs, EndsWith, has_unread}
use Rattle.certificate.specs.Steps.{OfEnd}
use Rattle.certificate.specs.Texts.{OfLines, ReadingSays}
use Rattle.certificate.specs.Reading.{State, Status, Stepped, step, and_then, read_lines}
use Rattle.certificate.proofs.Readable.{begins, all_readable, no_more, lines_ended}
use Rattle.certificate.proofs.Ended.{Decided, Finishes, Says, fault_decides, length_decides, end_decides, says_found, says_exactly}

-- the bytes are the lines, each with its line feed, or the text's end ended the last
abbrev pub Spells : Bool → List (List ℕ) → List ℕ → Type 0
Spells false given front = front ≡ ended_lines given
Spells true given front = lines_of front ≡ given

-- the lines that were given, and the front of the text that they are
pub record Passed (told : Option (List ℕ)) (r : Reading) (given : List (List ℕ)) : Type 0 where
  pub front : List ℕ
  pub lack : All (λ line. Lacks line 10) given
  pub spells : Spells r.last given front
  pub taken : r.taken ≡ length front
  pub split : IfTold told (λ text. text ≡ front ++ left_of r text)
  pub behind : r.last ≡ true → IfTold told (λ text. left_of r text ≡ [])

-- they led to this state, and the next line has this number
pub record Reached (c : Circuit) (told : Option (List ℕ)) (r : Reading) (s : State) (number : ℕ) : Type 0 where
  pub given : List (List ℕ)
  pub passed : Passed told r given
  pub read : read_lines c Status (kept_from 1 given) ≡ Ok s
  pub numbered : number ≡ 1 + length given

unfoldable pub reached_start : (c : Circuit) (told : Option (List ℕ)) → Reached c told at_start Status 1
reached_start c told = record {
  given = [];
  passed = record { front = []; lack = All-nil _; spells = refl; taken = refl; split = λ x is. refl; behind = λ e. absurd (cc e) };
  read = refl;
  numbered = refl;
}

-- one more line, with its line feed
spelled_more : (given : List (List ℕ)) (line : List ℕ) → ended_lines (given ++ line ∷ []) ≡ ended_lines given ++ (line ++ 10 ∷ [])
spelled_more given line =
    flat_map-append (λ (l : List ℕ). l ++ 10 ∷ []) given (line ∷ [])
    ∙ ap (λ (bytes : List ℕ). ended_lines given ++ bytes) (append-nil (line ++ 10 ∷ []))

lack_more : (given : List (List ℕ)) (line : List ℕ) → All (λ line. Lacks line 10) given → Lacks line 10 → All (λ line. Lacks line 10) (given ++ line ∷ [])
lack_more given line lack lacks = All-append (λ line. Lacks line 10) given (line ∷ []) lack (All-cons (λ line. Lacks line 10) line [] lacks (All-nil _))

pub spells_fed : (last : Bool) (given : List (List ℕ)) (front : List ℕ) → last ≡ false → Spells last given front → front ≡ ended_lines given
spells_fed last given front is spells = subst (λ (b : Bool). Spells b given front) is spells

pass_line : (told : Option (List ℕ)) (old new : Reading) (given : List (List ℕ)) → Passed told old given → old.last ≡ false → TookLine told old new → Lacks new.line 10 → Passed told new (given ++ new.line ∷ [])
pass_line told old new given p goes_on took lacks =
    let line : List ℕ = new.line ++ 10 ∷ [] in
    record {
      front = p.front ++ line;
      lack = lack_more given new.line p.lack lacks;
      spells = subst (λ (b : Bool). Spells b (given ++ new.line ∷ []) (p.front ++ line)) (sym took.goes_on)
          (ap (λ (bytes : List ℕ). bytes ++ line) (spells_fed old.last given p.front goes_on p.spells) ∙ sym (spelled_more given new.line));
      taken = omega (arith, took.taken, p.taken, length-append p.front line, length-append new.line (10 ∷ []));
      split = λ x is.
          p.split x is
          ∙ ap (λ (bytes : List ℕ). p.front ++ bytes) ((took.left x is).spelled ∙ sym (append_assoc new.line (10 ∷ []) (left_of new x)))
          ∙ sym (append_assoc p.front line (left_of new x));
      behind = λ e. absurd (cc (e, took.goes_on));
    }

pass_last : (told : Option (List ℕ)) (old new : Reading) (given : List (List ℕ)) → Passed told old given → old.last ≡ false → TookLast told old new → Lacks new.line 10 → Passed told new (given ++ new.line ∷ [])
pass_last told old new given p goes_on took lacks =
    let fed : p.front ≡ ended_lines given = spells_fed old.last given p.front goes_on p.spells in
    record {
      front = p.front ++ new.line;
      lack = lack_more given new.line p.lack lacks;
      spells = subst (λ (b : Bool). Spells b (given ++ new.line ∷ []) (p.front ++ new.line)) (sym took.last)
          (ap (λ (bytes : List ℕ). lines_of (bytes ++ new.line)) fed
          ∙ lines_ended given new.line p.lack
          ∙ ap (λ (ls : List (List ℕ)). given ++ ls) (last_line new.line lacks took.some));
      taken = omega (arith, took.taken, p.taken, length-append p.front new.line);
      split = λ x is.
          p.split x is
          ∙ ap (λ (bytes : List ℕ). p.front ++ bytes) ((took.left x is).0 ∙ sym (append-nil new.line) ∙ ap (λ (bytes : List ℕ). new.line ++ bytes) (sym (took.left x is).1))
          ∙ sym (append_assoc p.front new.line (left_of new x));
      behind = λ e x is. (took.left x is).1;
    }

pub pass : (told : Option (List ℕ)) (old new : Reading) (given : List (List ℕ)) → Passed told old given → old.last ≡ false → Took told old new → Lacks new.line 10 → Passed told new (given ++ new.line ∷ [])
pass told old new given p goes_on (inl took) lacks = pass_line told old new given p goes_on took lacks
pass told old new given p goes_on (inr took) lacks = pass_last told old new given p goes_on took lacks

-- ---- numbered lines

kept_by : (skip : Bool) (n : ℕ) (line : List ℕ) (front all rest : List Numbered) → all ≡ front ++ rest → (if skip then all else (n, line) ∷ all) ≡ (if skip then front else (n, line) ∷ front) ++ rest
kept_by true n line front all rest is = is
kept_by false n line front all rest is = ap (λ (ls : List Numbered). (n, line) ∷ ls) is

pub kept_more : (n : ℕ) (lines more : List (List ℕ)) → kept_from n (lines ++ more) ≡ kept_from n lines ++ kept_from (n + length lines) more
kept_more n [] more =
    let e : n ≡ n + 0 = omega arith in
    ap (λ (k : ℕ). kept_from k more) e
kept_more n (line ∷ lines) more =
    let e : (n + 1) + length lines ≡ n + suc (length lines) = omega arith in
    kept_by (is_skipped line) n line (kept_from (n + 1) lines) (kept_from (n + 1) (lines ++ more)) (kept_from (n + suc (length lines)) more)
    (kept_more (n + 1) lines more ∙ ap (λ (k : ℕ). kept_from (n + 1) lines ++ kept_from k more) e)

then_more : (stepped : Stepped) (all front rest : State → Stepped) → ((t : State) → all t ≡ and_then (front t) rest) → and_then stepped all ≡ and_then (and_then stepped front) rest
then_more (Ok t) all front rest is = is t
then_more (Err fault) all front rest is = refl

read_more : (c : Circuit) (s : State) (lines more : List Numbered) → read_lines c s (lines ++ more) ≡ and_then (read_lines c s lines) (λ t. read_lines c t more)
read_more c s [] more = refl
read_more c s (line ∷ lines) more = then_more (step c s line.0 line.1) (λ t. read_lines c t (lines ++ more)) (λ t. read_lines c t lines) (λ t. read_lines c t more) (λ t. read_more c t lines more)

-- the lines behind the given ones are read from the state that these led to
read_behind : (c : Circuit) (s : State) (number : ℕ) (given more : List (List ℕ)) → read_lines c Status (kept_from 1 given) ≡ Ok s → number ≡ 1 + length given → read_lines c Status (kept_from 1 (given ++ more)) ≡ read_lines c s (kept_from number more)
read_behind c s number given more read numbered =
    ap (read_lines c Status) (kept_more 1 given more)
    ∙ read_more c Status (kept_from 1 given) (kept_from (1 + length given) more)
    ∙ ap (λ (stepped : Stepped). and_then stepped (λ t. read_lines c t (kept_from (1 + length given) more))) read
    ∙ ap (λ (n : ℕ). read_lines c s (kept_from n more)) (sym numbered)

-- a fault stays the first
fault_stays : (c : Circuit) (f : AnswerFault) (given more : List (List ℕ)) → read_lines c Status (kept_from 1 given) ≡ Err f → read_lines c Status (kept_from 1 (given ++ more)) ≡ Err f
fault_stays c f given more read =
    ap (read_lines c Status) (kept_more 1 given more)
    ∙ read_more c Status (kept_from 1 given) (kept_from (1 + length given) more)
    ∙ ap (λ (stepped : Stepped). and_then stepped (λ t. read_lines c t (kept_from (1 + length given) more))) read

pub reached_next : (c : Circuit) (told : Option (List ℕ)) (old new : Reading) (s t : State) (number : ℕ) → Reached c told old s number → old.last ≡ false → Took told old new → Lacks new.line 10 → read_lines c s (kept_from number (new.line ∷ [])) ≡ Ok t → Reached c told new t (number + 1)
reached_next c told old new s t number reached goes_on took lacks read = record {
  given = reached.given ++ new.line ∷ [];
  passed = pass told old new reached.given reached.passed goes_on took lacks;
  read = read_behind c s number reached.given (new.line ∷ []) reached.read reached.numbered ∙ read;
  numbered = omega (arith, reached.numbered, length-append reached.given (new.line ∷ []));
}

-- the line is given behind those before it
pub next_given : (c : Circuit) (told : Option (List ℕ)) (old new : Reading) (s t : State) (number : ℕ) (reached : Reached c told old s number) (goes_on : old.last ≡ false) (took : Took told old new) (lacks : Lacks new.line 10) (read : read_lines c s (kept_from number (new.line ∷ [])) ≡ Ok t)
    → (reached_next c told old new s t number reached goes_on took lacks read).given ≡ reached.given ++ new.line ∷ []
unfolding reached_next
next_given c told old new s t number reached goes_on took lacks read = refl

-- ---- a text that the shelf may hold

-- of what is left, where it is told, this is so, and else it may be
pub said : (told : Option (List ℕ)) (front : List ℕ) (left : List ℕ → List ℕ) (Q P : List ℕ → Type 0) → ((rest : List ℕ) × Q rest) → IfTold told (λ text. text ≡ front ++ left text) → IfTold told (λ text. Q (left text)) → ((rest : List ℕ) → Q rest → P (front ++ rest)) → (text : List ℕ) × MayBe told text × P text
said None front left Q P some split is all = (front ++ some.0, λ x e. absurd (cc e), all some.0 some.1)
said (Some text) front left Q P some split is all =
    (text, λ x e. cc e, subst P (sym (split text refl)) (all (left text) (is text refl)))

-- so many bytes without a line feed
some_bytes : (n : ℕ) → (bytes : List ℕ) × (length bytes ≡ n) × Lacks bytes 10
some_bytes zero = ([], refl, All-nil _)
some_bytes (suc n) =
    let others = some_bytes n in
    (97 ∷ others.0, ap suc others.1, All-cons (λ b. b ≢ 10) 97 others.0 (λ e. absurd (cc e)) others.2)

pub too_long_bytes : (n : ℕ) → (rest : List ℕ) × IsTooLong n rest
too_long_bytes n =
    let bytes = some_bytes (suc n) in
    (bytes.0, record { longer = omega (arith, bytes.1); unended = All-take (λ b. b ≢ 10) n bytes.0 bytes.2 })

-- ---- what is readable of a text with such a front

pub front_only : (front rest : List ℕ) → rest ≡ [] → front ++ rest ≡ front
front_only front rest empty = ap (λ (bytes : List ℕ). front ++ bytes) empty ∙ append-nil front

pub front_lines : (last : Bool) (given : List (List ℕ)) (front : List ℕ) → All (λ line. Lacks line 10) given → Spells last given front → lines_of front ≡ given
front_lines false given front lack spells = ap lines_of spells ∙ reads_written_lines given lack
front_lines true given front lack spells = spells

pub front_readable : (front rest : List ℕ) (given : List (List ℕ)) → length front ≤ most_bytes → rest ≡ [] → lines_of front ≡ given → readable (front ++ rest) ≡ given
front_readable front rest given within empty lines =
    ap readable (front_only front rest empty) ∙ all_readable most_bytes front within ∙ lines

front_fault : (c : Circuit) (f : AnswerFault) (given : List (List ℕ)) (front rest : List ℕ) (last : Bool) → All (λ line. Lacks line 10) given → Spells last given front → (last ≡ true → rest ≡ []) → length front ≤ most_bytes → read_lines c Status (kept_from 1 given) ≡ Err f → read_lines c Status (kept_from 1 (readable (front ++ rest))) ≡ Err f
front_fault c f given front rest true lack spells none within read =
    ap (λ (ls : List (List ℕ)). read_lines c Status (kept_from 1 ls)) (front_readable front rest given within (none refl) spells) ∙ read
front_fault c f given front rest false lack spells none within read =
    let begun = begins most_bytes given rest lack (omega (arith, within, ap length spells)) in
    ap (λ (bytes : List ℕ). read_lines c Status (kept_from 1 (readable (bytes ++ rest)))) spells
    ∙ ap (λ (ls : List (List ℕ)). read_lines c Status (kept_from 1 ls)) begun.1
    ∙ fault_stays c f given begun.0 read

pub long_front : (given : List (List ℕ)) (front rest : List ℕ) (taken : ℕ) → All (λ line. Lacks line 10) given → front ≡ ended_lines given → taken ≡ length front → taken ≤ most_bytes → IsTooLong (most_bytes - taken) rest → readable (front ++ rest) ≡ given
long_front given front rest taken lack fed size most is =
    let taken_is : taken ≡ length (ended_lines given) = size ∙ ap length fed in
    let within : length (ended_lines given) ≤ most_bytes = omega (arith, taken_is, most) in
    ap (λ (bytes : List ℕ). readable (bytes ++ rest)) fed
    ∙ no_more most_bytes given rest lack within (omega (arith, is.longer, taken_is, most, length-append (ended_lines given) rest))
    (subst (λ (n : ℕ). Lacks (take (most_bytes - n) rest) 10) taken_is is.unended)

-- ---- the ends

-- the next line has a fault
pub fault_said : (c : Circuit) (told : Option (List ℕ)) (old new : Reading) (s : State) (number : ℕ) (f : AnswerFault) → Reached c told old s number → old.last ≡ false → Took told old new → Lacks new.line 10 → new.taken ≤ most_bytes → read_lines c s (kept_from number (new.line ∷ [])) ≡ Err f → Says c told (Err (ends.Refused f))
fault_said c told old new s number f reached goes_on took lacks most read =
    let given : List (List ℕ) = reached.given ++ new.line ∷ [] in
    let p : Passed told new given = pass told old new reached.given reached.passed goes_on took lacks in
    let fault : read_lines c Status (kept_from 1 given) ≡ Err f = read_behind c s number reached.given (new.line ∷ []) reached.read reached.numbered ∙ read in
    said told p.front (left_of new) (λ rest. new.last ≡ true → rest ≡ []) (Decided c (Err (ends.Refused f))) ([], λ e. refl) p.split (λ x is e. p.behind e x is)
    (λ rest none. fault_decides c (p.front ++ rest) f
    (front_fault c f given p.front rest new.last p.lack p.spells none (omega (arith, p.taken, most)) fault))

-- the next line is too long
pub long_said : (c : Circuit) (told : Option (List ℕ)) (r : Reading) (s : State) (number : ℕ) → Reached c told r s number → r.last ≡ false → r.taken ≤ most_bytes → IfTold told (λ text. IsTooLong (most_bytes - r.taken) (left_of r text)) → Says c told (Err (ends.Refused TooLong))
long_said c told r s number reached goes_on most long =
    let p : Passed told r reached.given = reached.passed in
    let fed : p.front ≡ ended_lines reached.given = spells_fed r.last reached.given p.front goes_on p.spells in
    let size : length p.front ≡ r.taken = sym p.taken in
    said told p.front (left_of r) (IsTooLong (most_bytes - r.taken)) (Decided c (Err (ends.Refused TooLong))) (too_long_bytes (most_bytes - r.taken)) p.split long
    (λ rest is. length_decides c (p.front ++ rest) s
    (ap (λ (lines : List (List ℕ)). read_lines c Status (kept_from 1 lines)) (long_front reached.given p.front rest r.taken p.lack fed p.taken most is) ∙ reached.read)
    (omega (arith, is.longer, size, length-append p.front rest)))

-- the text ends
pub end_said : (c : Circuit) (told : Option (List ℕ)) (r : Reading) (s : State) (number : ℕ) (result : Result Accepted AnswerEnd) → Reached c told r s number → r.taken ≤ most_bytes → IfTold told (λ text. left_of r text ≡ []) → Finishes c s number result → Says c told result
end_said c told r s number result reached most none finishes =
    let p : Passed told r reached.given = reached.passed in
    let lines : lines_of p.front ≡ reached.given = front_lines r.last reached.given p.front p.lack p.spells in
    said told p.front (left_of r) (λ rest. rest ≡ []) (Decided c result) ([], refl) p.split none
    (λ rest empty. end_decides c (p.front ++ rest) s result
    (ap (λ (ls : List (List ℕ)). read_lines c Status (kept_from 1 ls)) (front_readable p.front rest reached.given (omega (arith, p.taken, most)) empty lines) ∙ reached.read)
    (omega (arith, p.taken, most, length-append p.front rest, ap length empty))
    (subst (λ (n : ℕ). Finishes c s n result) (reached.numbered ∙ sym (ap (λ (ls : List (List ℕ)). 1 + length ls) (ap lines_of (front_only p.front rest empty) ∙ lines))) finishes))

-- where the text ends its lines have led to the state
pub text_at_end : (c : Circuit) (told : Option (List ℕ)) (r : Reading) (s : State) (number : ℕ) (reached : Reached c told r s number) → r.taken ≤ most_bytes → IfTold told (λ text. left_of r text ≡ []) → (text : List ℕ) × MayBe told text × ((read_lines c Status (kept_from 1 (readable text)) ≡ Ok s) × (length text ≤ most_bytes) × (lines_of text ≡ reached.given))
text_at_end c told r s number reached most none =
    let p : Passed told r reached.given = reached.passed in
    let lines : lines_of p.front ≡ reached.given = front_lines r.last reached.given p.front p.lack p.spells in
    said told p.front (left_of r) (λ rest. rest ≡ []) (λ text. (read_lines c Status (kept_from 1 (readable text)) ≡ Ok s) × (length text ≤ most_bytes) × (lines_of text ≡ reached.given)) ([], refl) p.split none
    (λ rest empty. (
      ap (λ (ls : List (List ℕ)). read_lines c Status (kept_from 1 ls)) (front_readable p.front rest reached.given (omega (arith, p.taken, most)) empty lines) ∙ reached.read,
      omega (arith, p.taken, most, length-append p.front rest, ap length empty),
      ap lines_of (front_only p.front rest empty) ∙ lines,
    ))

-- ---- the clauses of each end

-- the next line is not given
pub lines_found : (c : Circuit) (told : Option (List ℕ)) (r : Reading) (s : State) (number : ℕ) (end : AnswerEnd) → Reached c told r s number → r.taken ≤ most_bytes → OfLines told r end → ReadingSays c told (Err end)
lines_found c told r s number (ends.Refused fault) reached most of =
    subst (λ (f : AnswerFault). ReadingSays c told (Err (ends.Refused f))) (sym of.0)
    (says_found c told (Err (ends.Refused TooLong)) (long_said c told r s number reached of.1 most of.2))
lines_found c told r s number ends.ReadFault reached most of = inl (inl refl)
lines_found c told r s number ends.Memory reached most of = inr refl

pub lines_exactly : (c : Circuit) (told : Option (List ℕ)) (r : Reading) (s : State) (number : ℕ) (end : AnswerEnd) → Reached c told r s number → r.taken ≤ most_bytes → OfLines told r end → (text : List ℕ) (verdict : Result Accepted AnswerEnd) → told ≡ Some text → ReadsAs c text verdict → EndsWith (Err end) verdict
lines_exactly c told r s number (ends.Refused fault) reached most of text verdict is reads =
    subst (λ (f : AnswerFault). EndsWith (Err (ends.Refused f)) verdict) (sym of.0)
    (says_exactly c told (Err (ends.Refused TooLong)) (long_said c told r s number reached of.1 most of.2) text verdict is reads)
lines_exactly c told r s number ends.ReadFault reached most of text verdict is reads = inl (inr refl)
lines_exactly c told r s number ends.Memory reached most of text verdict is reads = inr refl

-- the next line has a fault, or memory is refused
pub step_found : (c : Circuit) (told : Option (List ℕ)) (old new : Reading) (s : State) (number : ℕ) (end : AnswerEnd) → Reached c told old s number → old.last ≡ false → Took told old new → Lacks new.line 10 → new.taken ≤ most_bytes → OfEnd (λ fault. read_lines c s (kept_from number (new.line ∷ [])) ≡ Err fault) end → ReadingSays c told (Err end)
step_found c told old new s number (ends.Refused fault) reached goes_on took lacks most read =
    says_found c told (Err (ends.Refused fault)) (fault_said c told old new s number fault reached goes_on took lacks most read)
step_found c told old new s number ends.ReadFault reached goes_on took lacks most read = absurd read
step_found c told old new s number ends.Memory reached goes_on took lacks most read = inr refl

pub step_exactly : (c : Circuit) (told : Option (List ℕ)) (old new : Reading) (s : State) (number : ℕ) (end : AnswerEnd) → Reached c told old s number → old.last ≡ false → Took told old new → Lacks new.line 10 → new.taken ≤ most_bytes → OfEnd (λ fault. read_lines c s (kept_from number (new.line ∷ [])) ≡ Err fault) end → (text : List ℕ) (verdict : Result Accepted AnswerEnd) → told ≡ Some text → ReadsAs c text verdict → EndsWith (Err end) verdict
step_exactly c told old new s number (ends.Refused fault) reached goes_on took lacks most read text verdict is reads =
    says_exactly c told (Err (ends.Refused fault)) (fault_said c told old new s number fault reached goes_on took lacks most read) text verdict is reads
step_exactly c told old new s number ends.ReadFault reached goes_on took lacks most read text verdict is reads = absurd read
step_exactly c told old new s number ends.Memory reached goes_on took lacks most read text verdict is reads = inr refl

-- a step makes no read, so its end is no failed one
pub step_unread : (P : AnswerFault → Type 0) (end : AnswerEnd) → OfEnd P end → has_unread {T = Accepted} (Err end) ≡ false
step_unread P (ends.Refused fault) of = refl
step_unread P ends.ReadFault of = absurd of
step_unread P ends.Memory of = refl

pub end_unread : (P : AnswerFault → Type 0) (result : Result Accepted AnswerEnd) → IfErr result (OfEnd P) → has_unread result ≡ false
end_unread P (Ok accepted) of = refl
end_unread P (Err end) of = step_unread P end of

-- the same of the line that was read
pub at_line : (c : Circuit) (s : State) (number : ℕ) (end : AnswerEnd) (line given : List ℕ) → line ≡ given → OfEnd (λ fault. read_lines c s (kept_from number (line ∷ [])) ≡ Err fault) end → OfEnd (λ fault. read_lines c s (kept_from number (given ∷ [])) ≡ Err fault) end
at_line c s number end line given is of = subst (λ (bytes : List ℕ). OfEnd (λ fault. read_lines c s (kept_from number (bytes ∷ [])) ≡ Err fault) end) is of
