-- What lines of stimuli spell, and which of them is the first that is none.
use Rattle.std.proofs.Common.{◌≡◌, ℕ, suc, ◌+◌, ◌≤◌, inl, inr, Bool, true, false, List, [], ◌∷◌, ◌++◌, map, length, subst, refl, sym, ap, ◌∙◌, Some, IsSome, IsTrue, All, Result, Ok, Err, IfOk, arith}
use Rattle.std.proofs.lemmas.List.Elements.{All-head, All-tail, All-cons, All-nil, All-weaker}
use Rattle.stimulus.specs.declared.ends.ReplayFault.{ReplayFault}
use Rattle.stimulus.specs.declared.ends.ReplayFault.TheVariants.{Shape}
use Rattle.stimulus.specs.declared.ends.ReplayEnd.{ReplayEnd}
use Rattle.stimulus.specs.declared.ends.ReplayEnd.TheVariants.{Fault, Memory}
use Rattle.stimulus.specs.Ends.{IfFault}
use Rattle.unless_memory.specs.Answers.{Gives, GivesExactlyWhere}
use Rattle.aig_semantics.specs.declared.traces.Stimulus.{Stimulus}
use Rattle.text_grammar.specs.Lines.{lines_of}
use Rattle.stimulus.specs.Texts.{value_of, is_skipped, row_values, present, kept_lines, IsTextOf, IsStimulusLine, IsFirstBad, LacksLatches, IsShape}

-- values are told by what they are as values that are there
Somes-apart : (a b : List Bool) → map Some a ≡ map Some b → a ≡ b
Somes-apart [] [] e = refl
Somes-apart [] (v ∷ b) e = cc
Somes-apart (u ∷ a) [] e = cc
Somes-apart (u ∷ a) (v ∷ b) e =
    let others = Somes-apart a b (cc) in cc

present-apart : (a b : List (List Bool)) → present a ≡ present b → a ≡ b
present-apart [] [] e = refl
present-apart [] (v ∷ b) e = cc
present-apart (u ∷ a) [] e = cc
present-apart (u ∷ a) (v ∷ b) e =
    let first = Somes-apart u v (cc) in
    let others = present-apart a b (cc) in cc

-- a line that spells values
spells_some : (line : List ℕ) (values : List Bool) → map value_of line ≡ map Some values → All (λ character. IsSome (value_of character)) line
spells_some [] values e = All-nil _
spells_some (character ∷ line) [] e = cc
spells_some (character ∷ line) (value ∷ values) e =
    let first : value_of character ≡ Some value = cc in
    All-cons (λ character. IsSome (value_of character)) character line (subst (λ o. IsSome o) (sym first) refl) (spells_some line values (cc))

-- the lines of a stimulus's text are lines of a stimulus
module _ (line : List ℕ) (lines : List (List ℕ)) where
  kept-skipped : is_skipped line ≡ true → kept_lines (line ∷ lines) ≡ kept_lines lines
  kept-skipped e = rw e

  kept-other : is_skipped line ≡ false → kept_lines (line ∷ lines) ≡ line ∷ kept_lines lines
  kept-other e = rw e

good_line : (line : List ℕ) (lines : List (List ℕ)) (rows : List (List Bool)) (b : Bool) → is_skipped line ≡ b → row_values (kept_lines (line ∷ lines)) ≡ present rows → ((rows : List (List Bool)) → row_values (kept_lines lines) ≡ present rows → All IsStimulusLine lines) → All IsStimulusLine (line ∷ lines)
good_line line lines rows true is e later = All-cons IsStimulusLine line lines (inl is) (later rows (sym (ap row_values (kept-skipped line lines is)) ∙ e))
good_line line lines [] false is e later =
    let f : map value_of line ∷ row_values (kept_lines lines) ≡ [] = sym (ap row_values (kept-other line lines is)) ∙ e in cc
good_line line lines (row ∷ rows) false is e later =
    let f : map value_of line ∷ row_values (kept_lines lines) ≡ map Some row ∷ present rows = sym (ap row_values (kept-other line lines is)) ∙ e in
    All-cons IsStimulusLine line lines (inr (spells_some line row (cc))) (later rows (cc))

pub good_lines : (lines : List (List ℕ)) (rows : List (List Bool)) → row_values (kept_lines lines) ≡ present rows → All IsStimulusLine lines
good_lines [] rows e = All-nil IsStimulusLine
good_lines (line ∷ lines) rows e = good_line line lines rows (is_skipped line) refl e (good_lines lines)

all_skipped_more : (line : List ℕ) (lines : List (List ℕ)) (b : Bool) → is_skipped line ≡ b → kept_lines (line ∷ lines) ≡ [] → (kept_lines lines ≡ [] → All (λ line. IsTrue (is_skipped line)) lines) → All (λ line. IsTrue (is_skipped line)) (line ∷ lines)
all_skipped_more line lines true is e later = All-cons (λ line. IsTrue (is_skipped line)) line lines is (later (sym (kept-skipped line lines is) ∙ e))
all_skipped_more line lines false is e later =
    let f : line ∷ kept_lines lines ≡ [] = sym (kept-other line lines is) ∙ e in cc

all_skipped : (lines : List (List ℕ)) → kept_lines lines ≡ [] → All (λ line. IsTrue (is_skipped line)) lines
all_skipped [] e = All-nil _
all_skipped (line ∷ lines) e = all_skipped_more line lines (is_skipped line) refl e (all_skipped lines)

none_kept : (lines : List (List ℕ)) → All (λ line. IsTrue (is_skipped line)) lines → kept_lines lines ≡ []
none_kept [] h = refl
none_kept (line ∷ lines) h =
    kept-skipped line lines (All-head (λ line. IsTrue (is_skipped line)) line lines h) ∙ none_kept lines (All-tail (λ line. IsTrue (is_skipped line)) line lines h)

no_rows : (lines : List (List ℕ)) → row_values lines ≡ [] → lines ≡ []
no_rows [] e = refl
no_rows (line ∷ lines) e = cc

-- ---- reading line by line

-- the lines in front of the rest were read
pub record LinesRead (bytes rest : List ℕ) (rows : List (List Bool)) (number : ℕ) : Type 0 where
  pub front : List (List ℕ)
  pub split : lines_of bytes ≡ front ++ lines_of rest
  pub spelled : row_values (kept_lines front) ≡ present rows
  pub counted : number ≡ length front + 1
  pub short : number + length rest ≤ length bytes + 1

pub first_bad : (bytes rest line later : List ℕ) (rows : List (List Bool)) (number : ℕ)
    → LinesRead bytes rest rows number → lines_of rest ≡ line ∷ lines_of later → (IsStimulusLine line → ⊥)
    → IsFirstBad (lines_of bytes) number
first_bad bytes rest line later rows number h next bad = record {
  front = h.front;
  line = line;
  others = lines_of later;
  split = h.split ∙ ap (λ lines. h.front ++ lines) next;
  good = good_lines h.front rows h.spelled;
  bad = bad;
  place = h.counted;
}

-- ---- the faults of a text

-- what is true of each line is true of the one between
between : (P : List ℕ → Type 0) (front : List (List ℕ)) (line : List ℕ) (others : List (List ℕ)) → All P (front ++ line ∷ others) → P line
between P [] line others h = All-head P line others h
between P (first ∷ front) line others h = between P front line others (All-tail P first (front ++ line ∷ others) h)

same_first : (a b : List ℕ) (xs ys : List (List ℕ)) → a ∷ xs ≡ b ∷ ys → (a ≡ b) × (xs ≡ ys)
same_first a b xs ys e = (cc, cc)

-- a list is split once only, at the first line of which P is not true
split_once : (P : List ℕ → Type 0) (f g : List (List ℕ)) (a b : List ℕ) (xs ys : List (List ℕ)) → f ++ a ∷ xs ≡ g ++ b ∷ ys
    → All P f → All P g → (P a → ⊥) → (P b → ⊥) → length f ≡ length g
split_once P [] [] a b xs ys e hf hg na nb = refl
split_once P [] (y ∷ g) a b xs ys e hf hg na nb =
    absurd (na (subst P (sym (same_first a y xs (g ++ b ∷ ys) e).0) (All-head P y g hg)))
split_once P (x ∷ f) [] a b xs ys e hf hg na nb =
    absurd (nb (subst P (same_first x b (f ++ a ∷ xs) ys e).0 (All-head P x f hf)))
split_once P (x ∷ f) (y ∷ g) a b xs ys e hf hg na nb =
    ap suc (split_once P f g a b xs ys (same_first x y (f ++ a ∷ xs) (g ++ b ∷ ys) e).1 (All-tail P x f hf) (All-tail P y g hg) na nb)

first_bad-apart : (lines : List (List ℕ)) (m n : ℕ) → IsFirstBad lines m → IsFirstBad lines n → m ≡ n
first_bad-apart lines m n a b =
    let same : length a.front ≡ length b.front =
    split_once IsStimulusLine a.front b.front a.line b.line a.others b.others (sym a.split ∙ b.split) a.good b.good a.bad b.bad in
    omega (arith, a.place, b.place, same)

first_bad-good : (lines : List (List ℕ)) (n : ℕ) → IsFirstBad lines n → All IsStimulusLine lines → ⊥
first_bad-good lines n a good = a.bad (between IsStimulusLine a.front a.line a.others (subst (All IsStimulusLine) a.split good))

lacks-good : (lines : List (List ℕ)) (n : ℕ) → LacksLatches lines n → All IsStimulusLine lines
lacks-good lines n a = All-weaker (λ line. IsTrue (is_skipped line)) IsStimulusLine (λ line h. inl h) lines a.skipped

-- a text that lacks its latches is that of no stimulus
lacks-no_text : (s : Stimulus) (bytes : List ℕ) (n : ℕ) → LacksLatches (lines_of bytes) n → IsTextOf s bytes → ⊥
lacks-no_text s bytes n a text =
    let nothing : present (s.latches ∷ s.inputs) ≡ [] = sym text ∙ ap row_values (none_kept (lines_of bytes) a.skipped) in cc

pub first_bad-no_text : (s : Stimulus) (bytes : List ℕ) (n : ℕ) → IsFirstBad (lines_of bytes) n → IsTextOf s bytes → ⊥
first_bad-no_text s bytes n a text = first_bad-good (lines_of bytes) n a (good_lines (lines_of bytes) (s.latches ∷ s.inputs) text)

pub shape-no_text : (s : Stimulus) (bytes : List ℕ) (n : ℕ) → IsShape bytes n → IsTextOf s bytes → ⊥
shape-no_text s bytes n (inl a) text = first_bad-no_text s bytes n a text
shape-no_text s bytes n (inr a) text = lacks-no_text s bytes n a text

one_shape : (bytes : List ℕ) (m n : ℕ) → IsShape bytes m → IsShape bytes n → m ≡ n
one_shape bytes m n (inl a) (inl b) = first_bad-apart (lines_of bytes) m n a b
one_shape bytes m n (inl a) (inr b) = absurd (first_bad-good (lines_of bytes) m a (lacks-good (lines_of bytes) n b))
one_shape bytes m n (inr a) (inl b) = absurd (first_bad-good (lines_of bytes) n b (lacks-good (lines_of bytes) m a))
one_shape bytes m n (inr a) (inr b) = a.place ∙ sym b.place

pub lacks_latches : (bytes : List ℕ) (rows : List (List Bool)) (number : ℕ) → rows ≡ [] → row_values (kept_lines (lines_of bytes)) ≡ present rows → number ≡ length (lines_of bytes) + 1 → LacksLatches (lines_of bytes) number
lacks_latches bytes rows number none spelled is = record {
  skipped = all_skipped (lines_of bytes) (no_rows (kept_lines (lines_of bytes)) (spelled ∙ ap present none));
  place = is;
}

-- a stimulus is told by the values that are there
pub one_spelled : (s t : Stimulus) → present (s.latches ∷ s.inputs) ≡ present (t.latches ∷ t.inputs) → s ≡ t
one_spelled s t e =
    let same : s.latches ∷ s.inputs ≡ t.latches ∷ t.inputs = present-apart (s.latches ∷ s.inputs) (t.latches ∷ t.inputs) e in
    let first : s.latches ≡ t.latches = cc in
    let others : s.inputs ≡ t.inputs = cc in
    λ i. record { latches = first i; inputs = others i }

-- a text is that of one stimulus alone
pub one_stimulus : (s t : Stimulus) (bytes : List ℕ) → IsTextOf s bytes → IsTextOf t bytes → s ≡ t
one_stimulus s t bytes a b = one_spelled s t (sym a ∙ b)

-- the laws of reading, by how it ended
pub reads_every : (r : Result Stimulus ReplayEnd) (bytes : List ℕ) → IfOk r (λ s. IsTextOf s bytes)
    → IfFault r (λ fault. (number : ℕ) × (fault ≡ Shape number) × IsShape bytes number)
    → (s : Stimulus) → IsTextOf s bytes → Gives {T = Result Stimulus ReplayEnd} (Err Memory) (Ok s) r
reads_every (Ok t) bytes found fault s text = inl (ap Ok (one_stimulus t s bytes found text))
reads_every (Err (Fault f)) bytes found fault s text = absurd (shape-no_text s bytes fault.0 fault.2 text)
reads_every (Err Memory) bytes found fault s text = inr refl

shape_whenever : (r : Result Stimulus ReplayEnd) (bytes : List ℕ) → IfOk r (λ s. IsTextOf s bytes)
    → IfFault r (λ fault. (number : ℕ) × (fault ≡ Shape number) × IsShape bytes number)
    → (number : ℕ) → IsShape bytes number → Gives {T = Result Stimulus ReplayEnd} (Err Memory) (Err (Fault (Shape number))) r
shape_whenever (Ok t) bytes found fault number shape = absurd (shape-no_text t bytes number shape found)
shape_whenever (Err (Fault f)) bytes found fault number shape = inl (ap (λ x. Err (Fault x)) (fault.1 ∙ ap Shape (one_shape bytes fault.0 number fault.2 shape)))
shape_whenever (Err Memory) bytes found fault number shape = inr refl

-- the line that a fault names, where the end is this fault
shape_of : (r : Result Stimulus ReplayEnd) (bytes : List ℕ) → IfFault r (λ fault. (number : ℕ) × (fault ≡ Shape number) × IsShape bytes number)
    → (fault : ReplayFault) → r ≡ Err (Fault fault) → (number : ℕ) × (fault ≡ Shape number) × IsShape bytes number
shape_of (Ok t) bytes told fault e = absurd cc
shape_of (Err (Fault f)) bytes told fault e =
    let same : f ≡ fault = cc in subst (λ x. (number : ℕ) × (x ≡ Shape number) × IsShape bytes number) same told
shape_of (Err Memory) bytes told fault e = absurd cc

same_line : (m n : ℕ) → Shape m ≡ Shape n → m ≡ n
same_line m n e = cc

pub reads_shape : (r : Result Stimulus ReplayEnd) (bytes : List ℕ) → IfOk r (λ s. IsTextOf s bytes)
    → IfFault r (λ fault. (number : ℕ) × (fault ≡ Shape number) × IsShape bytes number)
    → (number : ℕ) → GivesExactlyWhere {T = Result Stimulus ReplayEnd} (Err Memory) (Err (Fault (Shape number))) (IsShape bytes number) r
reads_shape r bytes found fault number = record {
  only = λ e. let told = shape_of r bytes fault (Shape number) e in subst (IsShape bytes) (sym (same_line number told.0 told.1)) told.2;
  whenever = shape_whenever r bytes found fault number;
}

pub reads_no_other : (r : Result Stimulus ReplayEnd) (bytes : List ℕ) → IfFault r (λ fault. (number : ℕ) × (fault ≡ Shape number) × IsShape bytes number)
    → (fault : ReplayFault) → r ≡ Err (Fault fault) → (number : ℕ) × (fault ≡ Shape number)
reads_no_other r bytes fault f e = let told = shape_of r bytes fault f e in (told.0, told.1)
