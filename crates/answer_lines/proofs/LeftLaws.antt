-- The lines of what is left of a text.
use Rattle.std.proofs.Common.{◌≡◌, ◌≢◌, ℕ, zero, suc, ◌+◌, ◌-◌, ◌≤◌, ◌<◌, Bool, true, false, List, [], ◌∷◌, ◌++◌, length, take, drop, refl, ap, sym, subst, ◌∙◌, arith, append_assoc, append-nil, length-append, length-take, inl, inr, Option, Some}
use Rattle.std.proofs.lemmas.List.{length-drop, take-append-drop, drop-take, drop_all, get_or_append_left}
use Rattle.std.proofs.Math.Seq.{take-append-add, take-append_seam, get_or-append-add}
use Rattle.std.specs.Prelude.{IsTrue, IsFalse, Result, Ok, Err}
use Rattle.std.specs.Result.{OnErr}
use Rattle.std.proofs.lemmas.List.Elements.{All-append, All-head}
use Rattle.std.proofs.lemmas.Grind.{common_steps}
use Rattle.edge.specs.Reads.{GivesBytes}
use Rattle.text_grammar.specs.Pieces.{Lacks}
use Rattle.text_grammar.specs.Lines.{IsLine, lines_of}
use Rattle.text_grammar.proofs.LineLaws.{last_line}
use Rattle.answer_lines.specs.LinesOf.{SameLeft, front_of, rest_of}
use Rattle.answer_lines.specs.Left.{Reading, left_of, given_line, most_bytes, IsTooLong, Took}

-- as much is given and the same is in hand, so the same is left
pub same_left : (old new : Reading) (text : List ℕ) → SameLeft old new → left_of new text ≡ left_of old text
same_left old new text same =
    ap (λ (ahead : List ℕ). ahead ++ drop (new.taken + length ahead) text) same.ahead
    ∙ ap (λ (taken : ℕ). old.ahead ++ drop (taken + length old.ahead) text) same.taken

drop_drop : (a b : ℕ) (bytes : List ℕ) → drop b (drop a bytes) ≡ drop (a + b) bytes
drop_drop zero b bytes =
    let e : b ≡ 0 + b = omega arith in
    ap (λ (k : ℕ). drop k bytes) e
drop_drop (suc a) b [] = drop_all b [] (omega arith) ∙ sym (drop_all (suc a + b) [] (omega arith))
drop_drop (suc a) b (byte ∷ bytes) =
    let e : suc (a + b) ≡ suc a + b = omega arith in
    drop_drop a b bytes ∙ ap (λ (k : ℕ). drop k (byte ∷ bytes)) e

lacks_front : (front rest : List ℕ) → Lacks (front ++ rest) 10 → Lacks front 10
lacks_front front rest lacks = λ k d below. subst (λ (b : ℕ). b ≢ 10) (get_or_append_left front rest d k below) (lacks k d (omega (arith, length-append front rest, below)))

lacks_rest : (front rest : List ℕ) → Lacks (front ++ rest) 10 → Lacks rest 10
lacks_rest front rest lacks = λ k d below. subst (λ (b : ℕ). b ≢ 10) (get_or-append-add front rest k d) (lacks (length front + k) d (omega (arith, length-append front rest, below)))

-- of a text from a place on, the first n bytes and the others
rest_next : (text : List ℕ) (place n : ℕ) → take n (drop place text) ++ drop (place + n) text ≡ drop place text
rest_next text place n =
    ap (λ (rest : List ℕ). take n (drop place text) ++ rest) (sym (drop_drop place n text)) ∙ take-append-drop n (drop place text)

-- what a read gave is in hand behind what was there
pub left_next : (text ahead buffer : List ℕ) (place n : ℕ) → length ahead ≤ place → GivesBytes text place n buffer → (ahead ++ take n buffer) ++ drop ((place + n - length (ahead ++ take n buffer)) + length (ahead ++ take n buffer)) text ≡ ahead ++ drop ((place - length ahead) + length ahead) text
left_next text ahead buffer place n held gives =
    let size : (place + n - length (ahead ++ take n buffer)) + length (ahead ++ take n buffer) ≡ place + n = omega (arith, held, gives.left, ap length gives.given, length-append {A = ℕ}, length-take {A = ℕ}, length-drop {A = ℕ}) in
    let before : (place - length ahead) + length ahead ≡ place = omega (arith, held) in
    ap (λ (k : ℕ). (ahead ++ take n buffer) ++ drop k text) size
    ∙ append_assoc ahead (take n buffer) (drop (place + n) text)
    ∙ ap (λ (front : List ℕ). ahead ++ (front ++ drop (place + n) text)) gives.given
    ∙ ap (λ (rest : List ℕ). ahead ++ rest) (rest_next text place n)
    ∙ ap (λ (k : ℕ). ahead ++ drop k text) (sym before)

-- a line that the rest of a piece ends
pub front_line : (front rest : List ℕ) (n : ℕ) → Lacks front 10 → IsLine (take n rest) rest (drop (n + 1) rest) → IsLine (front ++ take n rest) (front ++ rest) (drop (n + 1) rest)
front_line front rest n lacks line = record {
  spelled = ap (λ (bytes : List ℕ). front ++ bytes) line.spelled ∙ sym (append_assoc front (take n rest) (10 ∷ drop (n + 1) rest));
  first = All-append (λ b. b ≢ 10) front (take n rest) lacks line.first;
}

-- what follows the first bytes of the rest of a piece
pub rest_behind : (piece : List ℕ) (start end k : ℕ) → k ≤ end - start → drop k (take (end - start) (drop start piece)) ≡ take (end - (start + k)) (drop (start + k) piece)
rest_behind piece start end k inside =
    let e : end - start ≡ k + (end - (start + k)) = omega (arith, inside) in
    ap (λ (j : ℕ). drop k (take j (drop start piece))) e
    ∙ drop-take k (end - (start + k)) (drop start piece)
    ∙ ap (take (end - (start + k))) (drop_drop start k piece)

-- the line that was found in the rest of a piece
pub cut_found : (front line rest piece : List ℕ) (start end n : ℕ) → line ≡ front ++ take n rest → rest ≡ rest_of piece start end → Lacks front 10 → IsLine (take n rest) rest (drop (n + 1) rest) → IsLine line (front ++ rest_of piece start end) (rest_of piece (start + (n + 1)) end)
cut_found front line rest piece start end n is_line is_rest lacks found =
    let inside : n + 1 ≤ end - start = omega (arith, ap length found.spelled, ap length is_rest, length-append {A = ℕ}, length-take {A = ℕ}, length-drop {A = ℕ}) in
    let behind : drop (n + 1) rest ≡ rest_of piece (start + (n + 1)) end = ap (drop (n + 1)) is_rest ∙ rest_behind piece start end (n + 1) inside in
    subst (λ (bytes : List ℕ). IsLine bytes (front ++ rest_of piece start end) (rest_of piece (start + (n + 1)) end)) (sym is_line)
    (subst (λ (bytes : List ℕ). IsLine (front ++ take n rest) (front ++ bytes) (rest_of piece (start + (n + 1)) end)) is_rest
    (subst (λ (bytes : List ℕ). IsLine (front ++ take n rest) (front ++ rest) bytes) behind (front_line front rest n lacks found)))

-- the same as a reader keeps it
pub read_left : (given : Bool) (line text ahead buffer : List ℕ) (place n : ℕ) → given ≡ false → line ≡ ahead → length ahead ≤ place → GivesBytes text place n buffer → (front_of given line ++ rest_of buffer 0 n) ++ drop ((place + n - length (front_of given line ++ rest_of buffer 0 n)) + length (front_of given line ++ rest_of buffer 0 n)) text ≡ ahead ++ drop ((place - length ahead) + length ahead) text
read_left given line text ahead buffer place n not_given is_line held gives =
    let front : front_of given line ≡ ahead = ap (λ (g : Bool). front_of g line) not_given ∙ is_line in
    let rest : rest_of buffer 0 n ≡ take n buffer = grind (arith, common_steps) in
    let bytes : front_of given line ++ rest_of buffer 0 n ≡ ahead ++ take n buffer = ap (λ (f : List ℕ). f ++ rest_of buffer 0 n) front ∙ ap (λ (r : List ℕ). ahead ++ r) rest in
    ap (λ (b : List ℕ). b ++ drop ((place + n - length b) + length b) text) bytes ∙ left_next text ahead buffer place n held gives

-- a line that is in hand is the first of what is left
pub line_left : (old new : Reading) (text : List ℕ) → IsLine new.line old.ahead new.ahead → new.taken ≡ old.taken + length new.line + 1 → IsLine new.line (left_of old text) (left_of new text)
line_left old new text line taken =
    let size : old.taken + length old.ahead ≡ new.taken + length new.ahead = omega (arith, taken, ap length line.spelled, length-append {A = ℕ}) in
    record {
      spelled =
          ap (λ (k : ℕ). old.ahead ++ drop k text) size
          ∙ ap (λ (bytes : List ℕ). bytes ++ drop (new.taken + length new.ahead) text) line.spelled
          ∙ append_assoc new.line (10 ∷ new.ahead) (drop (new.taken + length new.ahead) text);
      first = line.first;
    }

-- bytes in front of a text that is too long
front_lacks : (room : ℕ) (ahead rest : List ℕ) → length ahead ≤ room → IsTooLong room (ahead ++ rest) → Lacks ahead 10
front_lacks room ahead rest within long =
    let e : room ≡ length ahead + (room - length ahead) = omega (arith, within) in
    let cut : take room (ahead ++ rest) ≡ ahead ++ take (room - length ahead) rest = ap (λ (k : ℕ). take k (ahead ++ rest)) e ∙ take-append-add ahead rest (room - length ahead) in
    lacks_front ahead (take (room - length ahead) rest) (subst (λ (bytes : List ℕ). Lacks bytes 10) cut long.unended)

-- a line in hand is not too long
pub line_within : (old new : Reading) (text : List ℕ) → IsLine new.line old.ahead new.ahead → new.taken ≡ old.taken + length new.line + 1 → new.taken + length new.ahead ≤ most_bytes → IsTooLong (most_bytes - old.taken) (left_of old text) → ⊥
line_within old new text line taken most long =
    let room : length old.ahead ≤ most_bytes - old.taken = omega (arith, taken, most, ap length line.spelled, length-append {A = ℕ}) in
    let lacks = front_lacks (most_bytes - old.taken) old.ahead (drop (old.taken + length old.ahead) text) room long in
    let behind = lacks_rest new.line (10 ∷ new.ahead) (subst (λ (bytes : List ℕ). Lacks bytes 10) line.spelled lacks) in
    All-head (λ b. b ≢ 10) 10 new.ahead behind refl

-- the same is left, so the same is too long
pub same_too_long : (old new : Reading) (text : List ℕ) → new.taken ≡ old.taken → left_of new text ≡ left_of old text → IsTooLong (most_bytes - old.taken) (left_of old text) → IsTooLong (most_bytes - new.taken) (left_of new text)
same_too_long old new text taken left long =
    subst (λ (n : ℕ). IsTooLong (most_bytes - n) (left_of new text)) (sym taken)
    (subst (λ (bytes : List ℕ). IsTooLong (most_bytes - old.taken) bytes) (sym left) long)

-- all that was in hand at the end is given
pub end_left : (old new : Reading) (text : List ℕ) → left_of old text ≡ old.ahead → new.ahead ≡ [] → new.taken ≡ old.taken + length old.ahead → left_of new text ≡ []
end_left old new text ended none taken =
    let size : length (drop (old.taken + length old.ahead) text) ≡ 0 = omega (arith, ap length ended, length-append {A = ℕ}) in
    let gone : drop (old.taken + length old.ahead) text ≡ [] = grind (arith, common_steps) in
    let place : new.taken + 0 ≡ old.taken + length old.ahead = omega (arith, taken) in
    ap (λ (ahead : List ℕ). ahead ++ drop (new.taken + length ahead) text) none
    ∙ ap (λ (taken : ℕ). drop taken text) place
    ∙ gone

-- the last line, which no line feed ends, or the text's end
pub end_lines : (given : Bool) (old new : Reading) (text : List ℕ) → Lacks old.ahead 10 → left_of old text ≡ old.ahead → (IsTrue given → new.line ≡ old.ahead) → (IsTrue given → old.ahead ≢ []) → (IsFalse given → old.ahead ≡ []) → new.ahead ≡ [] → new.taken ≡ old.taken + length old.ahead → lines_of (left_of old text) ≡ given_line given new.line ++ lines_of (left_of new text)
end_lines true old new text lacks ended line some none ahead taken =
    ap lines_of ended ∙ last_line old.ahead lacks (some refl)
    ∙ ap (λ (bytes : List ℕ). bytes ∷ []) (sym (line refl))
    ∙ ap (λ (bytes : List ℕ). new.line ∷ lines_of bytes) (sym (end_left old new text ended ahead taken))
end_lines false old new text lacks ended line some none ahead taken =
    ap lines_of (ended ∙ none refl ∙ sym (end_left old new text ended ahead taken))

-- the same is taken and left, so their sum stays
pub same_sum : (old new : Reading) (text : List ℕ) → new.taken ≡ old.taken → left_of new text ≡ left_of old text → new.taken + length (left_of new text) ≡ old.taken + length (left_of old text)
same_sum old new text taken left =
    ap (λ (bytes : List ℕ). new.taken + length bytes) left
    ∙ ap (λ (n : ℕ). n + length (left_of old text)) taken

-- a line and its line feed, from the front of the bytes
pub line_sum : (old new : ℕ) (line before after : List ℕ) → new ≡ old + length line + 1 → before ≡ line ++ 10 ∷ after → new + length after ≡ old + length before
line_sum old new line before after taken spelled =
    omega (arith, taken, ap length spelled, length-append {A = ℕ})

-- all the bytes
all_sum : (old new : ℕ) (ahead before after : List ℕ) → new ≡ old + length ahead → before ≡ ahead → after ≡ [] → new + length after ≡ old + length before
all_sum old new ahead before after taken ended none =
    omega (arith, taken, ap length ended, ap length none)

-- what is in hand at the end
pub end_sum : (old new : Reading) (text : List ℕ) → left_of old text ≡ old.ahead → new.ahead ≡ [] → new.taken ≡ old.taken + length old.ahead → new.taken + length (left_of new text) ≡ old.taken + length (left_of old text)
end_sum old new text ended none taken =
    all_sum old.taken new.taken old.ahead (left_of old text) (left_of new text) taken ended (end_left old new text ended none taken)

-- a line in hand that a line feed ends is given
pub took_line : (told : Option (List ℕ)) (old mid new : Reading) → mid.taken ≡ old.taken → ((text : List ℕ) → told ≡ Some text → left_of mid text ≡ left_of old text) → IsLine new.line mid.ahead new.ahead → new.taken ≡ mid.taken + length new.line + 1 → new.last ≡ false → Took told old new
took_line told old mid new same left line taken goes_on =
    inl (record {
      goes_on = goes_on;
      taken = taken ∙ ap (λ (n : ℕ). n + length new.line + 1) same;
      left = λ text is. subst (λ (bytes : List ℕ). IsLine new.line bytes (left_of new text)) (left text is) (line_left mid new text line taken);
    })

-- what is in hand at the end is given
pub took_last : (told : Option (List ℕ)) (old mid new : Reading) → mid.taken ≡ old.taken → ((text : List ℕ) → told ≡ Some text → left_of mid text ≡ left_of old text) → ((text : List ℕ) → told ≡ Some text → left_of mid text ≡ mid.ahead) → new.line ≡ mid.ahead → mid.ahead ≢ [] → new.ahead ≡ [] → new.taken ≡ mid.taken + length mid.ahead → new.last ≡ true → Took told old new
took_last told old mid new same left ended line some none taken last =
    inr (record {
      last = last;
      taken = taken ∙ ap (λ (n : ℕ). n + length mid.ahead) same ∙ ap (λ (bytes : List ℕ). old.taken + length bytes) (sym line);
      some = λ empty. some (sym line ∙ empty);
      left = λ text is. (sym (left text is) ∙ ended text is ∙ sym line, end_left mid new text (ended text is) none taken);
    })

-- how many bytes are in hand then
pub read_size : (given : Bool) (line ahead buffer : List ℕ) (n : ℕ) → given ≡ false → line ≡ ahead → n ≤ length buffer → length (front_of given line ++ rest_of buffer 0 n) ≡ length ahead + n
read_size given line ahead buffer n not_given is_line inside =
    let front : front_of given line ≡ ahead = ap (λ (g : Bool). front_of g line) not_given ∙ is_line in
    let size : length (rest_of buffer 0 n) ≡ n = omega (arith, inside, length-take {A = ℕ}) in
    length-append (front_of given line) (rest_of buffer 0 n) ∙ ap (λ (k : ℕ). length (front_of given line) + k) size ∙ ap (λ (f : List ℕ). length f + n) front

-- no line feed is in what is held
pub read_front : (given : Bool) (line ahead : List ℕ) → given ≡ false → line ≡ ahead → Lacks ahead 10 → Lacks (front_of given line) 10
read_front given line ahead not_given is_line lacks =
    subst (λ (bytes : List ℕ). Lacks bytes 10) (sym (ap (λ (g : Bool). front_of g line) not_given ∙ is_line)) lacks

-- where a read gave nothing, the text ends behind what is in hand
pub read_end : (ahead text : List ℕ) (place : ℕ) → length ahead ≤ place → length text ≤ place → ahead ++ drop ((place - length ahead) + length ahead) text ≡ ahead
read_end ahead text place held ended =
    ap (λ (rest : List ℕ). ahead ++ rest) (drop_all ((place - length ahead) + length ahead) text (omega (arith, held, ended))) ∙ append-nil ahead

-- where a read gave a byte, more is left than is in hand
pub read_longer : (ahead text : List ℕ) (place : ℕ) → length ahead ≤ place → place < length text → length ahead < length (ahead ++ drop ((place - length ahead) + length ahead) text)
read_longer ahead text place held more =
    omega (arith, held, more, length-append {A = ℕ}, length-drop {A = ℕ})

-- a line is something
pub line_is_some : (line left rest : List ℕ) → IsLine line left rest → left ≡ [] → ⊥
line_is_some line left rest is_line none = omega (arith, ap length none, ap length is_line.spelled, length-append {A = ℕ})

-- what is not empty has a byte
pub has_byte : (bytes : List ℕ) → bytes ≢ [] → 0 < length bytes
has_byte [] some = absurd (some refl)
has_byte (byte ∷ bytes) some = omega arith

-- what is in hand has no line feed, no more may be given, and more is left
pub ends_too_long : (old mid : Reading) (text : List ℕ) → mid.taken ≡ old.taken → left_of mid text ≡ left_of old text → Lacks mid.ahead 10 → mid.taken + length mid.ahead ≡ most_bytes → length mid.ahead < length (left_of mid text) → IsTooLong (most_bytes - old.taken) (left_of old text)
ends_too_long old mid text taken left lacks full more =
    let room : most_bytes - mid.taken ≡ length mid.ahead = omega (arith, full) in
    let front : take (most_bytes - mid.taken) (left_of mid text) ≡ mid.ahead = ap (λ (n : ℕ). take n (left_of mid text)) room ∙ take-append_seam mid.ahead (drop (mid.taken + length mid.ahead) text) in
    let long : IsTooLong (most_bytes - mid.taken) (left_of mid text) = record {
      longer = omega (arith, room, more);
      unended = subst (λ (bytes : List ℕ). Lacks bytes 10) (sym front) lacks;
    } in
    subst (λ (n : ℕ). IsTooLong (most_bytes - n) (left_of old text)) taken
    (subst (λ (bytes : List ℕ). IsTooLong (most_bytes - mid.taken) bytes) left long)

-- where all that was in hand is held, and nothing of the piece is left, the same is in hand
pub held_all : (given : Bool) (line ahead piece : List ℕ) (k : ℕ) → given ≡ false → line ≡ ahead → front_of given line ++ rest_of piece k k ≡ ahead
held_all given line ahead piece k not_given is_line =
    let front : front_of given line ≡ ahead = ap (λ (g : Bool). front_of g line) not_given ∙ is_line in
    let none : rest_of piece k k ≡ [] = grind (arith, common_steps) in
    ap (λ (f : List ℕ). f ++ rest_of piece k k) front ∙ ap (λ (r : List ℕ). ahead ++ r) none ∙ append-nil ahead

-- where nothing more is held, the same is in hand
pub held_none : (given : Bool) (line front rest : List ℕ) → given ≡ false → line ≡ front → front_of given line ++ rest ≡ front ++ rest
held_none given line front rest not_given is_line =
    ap (λ (f : List ℕ). f ++ rest) (ap (λ (g : Bool). front_of g line) not_given ∙ is_line)

-- then as much is taken,
pub taken_same : (ahead before : List ℕ) (place : ℕ) → ahead ≡ before → place - length ahead ≡ place - length before
taken_same ahead before place same = ap (λ (bytes : List ℕ). place - length bytes) same

-- and the same is left
pub left_same : (ahead before text : List ℕ) (place : ℕ) → ahead ≡ before → ahead ++ drop ((place - length ahead) + length ahead) text ≡ before ++ drop ((place - length before) + length before) text
left_same ahead before text place same = ap (λ (bytes : List ℕ). bytes ++ drop ((place - length bytes) + length bytes) text) same

-- at an error
pub on_err : {T E P : Type 0} (r : Result T E) → P → OnErr r P
on_err (Ok x) p = tt
on_err (Err e) p = p

-- what cannot be so where there is something
pub is_none : {P : Type 0} (given : Bool) → (IsTrue given → P → ⊥) → P → IsFalse given
is_none true some p = absurd (some refl p)
is_none false some p = refl
