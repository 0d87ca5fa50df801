-- Of a good sheet the answer that is cut out for a property is that of its block.
use Rattle.std.proofs.Common.{◌≡◌, ◌⊎◌, inl, inr, ℕ, zero, suc, ◌+◌, ◌≤◌, ◌<◌, ◌^◌, Bool, true, false, not, cond, List, [], ◌∷◌, ◌++◌, map, flat_map, length, length-append, drop, refl, sym, ap, ◌∙◌, subst, arith, All, Option, Some, None, Result, Ok, Err}
use Rattle.std.specs.Prelude.{codes, decimal, slice_get, if◌then◌else◌}
use Rattle.std.specs.Str.{bytes_eq}
use Rattle.std.proofs.lemmas.Bool.{le-leb, lt-leb}
use Rattle.std.proofs.lemmas.Fmt.{decimal_injective}
use Rattle.std.proofs.lemmas.Option.{none-some, slice_get_within, slice_get_cases}
use Rattle.std.proofs.lemmas.Slice.Eq.{bytes_eq-Decides}
use Rattle.std.proofs.lemmas.List.Elements.{All-cons, All-head, All-tail}
use Rattle.aig_semantics.specs.declared.traces.Stimulus.{Stimulus}
use Rattle.aig_semantics.specs.Circuits.{Circuit}
use Rattle.aig_semantics.specs.Stimuli.{StandsFor}
use Rattle.fair_semantics.specs.Entries.{Entry, used_entries}
use Rattle.cnf_unroll.specs.Obligations.{skeleton_clauses}
use Rattle.text_grammar.specs.Lines.{lines_of, ended_lines}
use Rattle.text_grammar.proofs.LineLaws.{lines_are_text}
use Rattle.answer_lines.specs.Left.{most_bytes}
use Rattle.stimulus.specs.Texts.{is_skipped, kept_lines, value_of, row_values, present}
use Rattle.certificate_lines.specs.declared.words.Version.TheVariants.{Two}
use Rattle.certificate_lines.specs.declared.words.WordLine.TheVariants as lines
use Rattle.certificate.specs.declared.ends.Accepted.TheVariants as accepted
use Rattle.certificate.specs.declared.ends.AnswerFault.TheVariants.{NoProperty, UnknownStatus}
use Rattle.certificate.specs.Lines.{kept_in, bare}
use Rattle.certificate_texts.specs.Writing.{property_line}
use Rattle.certificate.specs.Answers.{Spells, HasStimulus}
use Rattle.certificate_texts.specs.Certificates.{entry_lines, refutation_lines}
use Rattle.certificate.specs.Lassos.{HasGoodLasso}
use Rattle.certificate.specs.Reading.{Status, Dotted, Stepped, read_lines}
use Rattle.certificate.proofs.CompletingProofs.{heads}
use Rattle.certificate.proofs.CompletingTexts.{dot_has_none, no_dot}
use Rattle.certificate.proofs.Kept.{stimulus_is_read}
use Rattle.certificate.proofs.OneEnd.{one_is_good, good_has_no_fault}
use Rattle.certificate.proofs.PlainLines.{IsPlain, plain_word, property_plain, written_kept}
use Rattle.certificate_texts.proofs.WrittenSizes.{size, size_first, size_both}
use Rattle.certificate.proofs.WrittenGood.{kept-bare}
use Rattle.sheet_answers.specs.declared.blocks.Block.{Block}
use Rattle.sheet_answers.specs.declared.blocks.Block.TheVariants.{Lasso, Holds, Open}
use Rattle.sheet_answers.specs.declared.ends.JudgeEnd.{JudgeEnd}
use Rattle.sheet_answers.specs.Sheets.{Sheet, all_line, version_line, lasso_line, holds_line, open_line, end_line, refuting, AreBlocks, IsGoodBlock, AreGood, IsTextOf}
use Rattle.sheet_commands.specs.declared.blocks.BlockLasso.{BlockLasso}
use Rattle.sheet_commands.specs.Blocks.{refused, DecidesIn}
use Rattle.sheet_commands.specs.Cutting.{lines_after, to_dot, answer_of, answer_behind, answer_in, no_lasso, DecidesLasso, DecidesCut}
use Rattle.sheet_commands.proofs.OtherLines.{begins, IsOther, other_word, other_word_line, other_entries, other_refutation, other_rows, plain_rows}

abbrev Lines : Type 0
Lines = List (List ℕ)

-- ---- lines that are not the one that is looked for

other_line : (n : ℕ) (line : List ℕ) → IsOther line → bytes_eq line (lasso_line n) ≡ false
other_line n line h = by (bytes_eq line (lasso_line n)) refl
  where
    by : (t : Bool) → bytes_eq line (lasso_line n) ≡ t → bytes_eq line (lasso_line n) ≡ false
    by true is = absurd (h.apart (ap begins ((bytes_eq-Decides line (lasso_line n)).0 is)))
    by false is = is

other_lasso : (m n : ℕ) → m < 2 ^ 63 → n < 2 ^ 63 → (m ≡ n → ⊥) → bytes_eq (lasso_line m) (lasso_line n) ≡ false
other_lasso m n below small apart = by (bytes_eq (lasso_line m) (lasso_line n)) refl
  where
    by : (t : Bool) → bytes_eq (lasso_line m) (lasso_line n) ≡ t → bytes_eq (lasso_line m) (lasso_line n) ≡ false
    by true is =
        let same : decimal m ≡ decimal n = ap (drop 7) ((bytes_eq-Decides (lasso_line m) (lasso_line n)).0 is) in
        absurd (apart (decimal_injective m n (omega (arith, below)) (omega (arith, small)) same))
    by false is = is

passes_line : (line first : List ℕ) (rest : Lines) → bytes_eq first line ≡ false → lines_after line (first ∷ rest) ≡ lines_after line rest
passes_line line first rest h = ap (λ (b : Bool). if b then Some rest else lines_after line rest) h

finds_line : (line first : List ℕ) (rest : Lines) → bytes_eq first line ≡ true → lines_after line (first ∷ rest) ≡ Some rest
finds_line line first rest h = ap (λ (b : Bool). if b then Some rest else lines_after line rest) h

passes_all : (n : ℕ) (front rest : Lines) → All IsOther front → lines_after (lasso_line n) (front ++ rest) ≡ lines_after (lasso_line n) rest
passes_all n [] rest all = refl
passes_all n (line ∷ front) rest all =
    passes_line (lasso_line n) line (front ++ rest) (other_line n line (All-head IsOther line front all))
    ∙ passes_all n front rest (All-tail IsOther line front all)

-- ---- blocks

abbrev HasRows : Block → Type 0
HasRows (Lasso s) = Unit {0}
HasRows (Holds r) = ⊥
HasRows Open = ⊥

-- what is behind the line is that of the block
abbrev IsCutAs : Option Block → Option Lines → Type 0
IsCutAs (Some (Lasso s)) (Some rest) = (rows : Lines) × (others : Lines) × (rest ≡ rows ++ others) × Spells s rows
IsCutAs (Some (Lasso s)) None = ⊥
IsCutAs (Some (Holds r)) o = o ≡ None
IsCutAs (Some Open) o = o ≡ None
IsCutAs None o = o ≡ None

module _ (c : Circuit) (entries : List Entry) (n : ℕ) (small : n < 2 ^ 63) where
  abbrev Passes : ℕ → List Block → Lines → Type 0
  Passes m blocks left = (others : Lines) × (lines_after (lasso_line n) left ≡ lines_after (lasso_line n) others) × AreBlocks (m + 1) blocks others

  -- a block of another property, or one without a stimulus
  passes : (m : ℕ) (block : Block) (blocks : List Block) (left : Lines) → m < 2 ^ 63 → (HasRows block → m ≡ n → ⊥) → IsGoodBlock c entries m block
      → AreBlocks m (block ∷ blocks) left → Passes m blocks left
  passes m (Lasso s) blocks left below apart good (rows, others, is, spells, more) = (
    others,
    ap (lines_after (lasso_line n)) is
        ∙ passes_line (lasso_line n) (lasso_line m) (rows ++ others) (other_lasso m n below small (apart tt))
        ∙ passes_all n rows others (other_rows s rows spells),
    more,
  )
  passes m (Holds r) blocks left below apart (sizes, stand, refuted) (others, is, more) = (
    others,
    ap (lines_after (lasso_line n)) is
        ∙ passes_line (lasso_line n) (holds_line m) (refutation_lines (refuting r) ++ others) (other_line n (holds_line m) (other_word (holds_line m) refl))
        ∙ passes_all n (refutation_lines (refuting r)) others
        (other_refutation r (skeleton_clauses c m (used_entries entries r.uses)) stand refuted.refutes),
    more,
  )
  passes m Open blocks left below apart good (others, is, more) = (
    others,
    ap (lines_after (lasso_line n)) is ∙ passes_line (lasso_line n) (open_line m) others (other_line n (open_line m) (other_word (open_line m) refl)),
    more,
  )

  last_line : lines_after (lasso_line n) (end_line ∷ []) ≡ None
  last_line = passes_line (lasso_line n) end_line [] (other_line n end_line (other_word_line lines.End))

  -- the blocks of later properties
  absent : (m : ℕ) (blocks : List Block) (left : Lines) → n < m → m + length blocks < 2 ^ 63 → AreGood c entries m blocks → AreBlocks m blocks left
      → lines_after (lasso_line n) left ≡ None
  absent m [] left past room good is = ap (lines_after (lasso_line n)) is ∙ last_line
  absent m (block ∷ blocks) left past room (here, good) is =
      let differ : m ≡ n → ⊥ = λ e. absurd (omega (arith, past, e)) in
      let step = passes m block blocks left (omega (arith, room)) (λ has. differ) here is in
      step.1 ∙ absent (m + 1) blocks step.0 (omega (arith, past)) (omega (arith, room)) good step.2

  found : (m k : ℕ) (blocks : List Block) (left : Lines) → n ≡ m + k → m + length blocks < 2 ^ 63 → AreGood c entries m blocks → AreBlocks m blocks left
      → IsCutAs (slice_get blocks k) (lines_after (lasso_line n) left)
  found m k [] left at room good is = ap (lines_after (lasso_line n)) is ∙ last_line
  found m zero (Lasso s ∷ blocks) left at room good (rows, others, is, spells, more) =
      let here : m ≡ n = omega (arith, at) in
      let cut : lines_after (lasso_line n) left ≡ Some (rows ++ others) =
      ap (lines_after (lasso_line n)) is
      ∙ finds_line (lasso_line n) (lasso_line m) (rows ++ others) ((bytes_eq-Decides (lasso_line m) (lasso_line n)).1 (ap lasso_line here)) in
      subst (λ (o : Option Lines). IsCutAs (Some (Lasso s)) o) (sym cut) (rows, others, refl, spells)
  found m zero (Holds r ∷ blocks) left at room (here, good) is =
      let step = passes m (Holds r) blocks left (omega (arith, room)) (λ has e. absurd has) here is in
      step.1 ∙ absent (m + 1) blocks step.0 (omega (arith, at)) (omega (arith, room)) good step.2
  found m zero (Open ∷ blocks) left at room (here, good) is =
      let step = passes m Open blocks left (omega (arith, room)) (λ has e. absurd has) here is in
      step.1 ∙ absent (m + 1) blocks step.0 (omega (arith, at)) (omega (arith, room)) good step.2
  found m (suc k) (block ∷ blocks) left at room (here, good) is =
      let differ : m ≡ n → ⊥ = λ e. absurd (omega (arith, at, e)) in
      let step = passes m block blocks left (omega (arith, room)) (λ has. differ) here is in
      subst (λ (o : Option Lines). IsCutAs (slice_get blocks k) o) (sym step.1)
      (found (m + 1) k blocks step.0 (omega (arith, at)) (omega (arith, room)) good step.2)

  good_at : (m k : ℕ) (blocks : List Block) (block : Block) → AreGood c entries m blocks → slice_get blocks k ≡ Some block → IsGoodBlock c entries (m + k) block
  good_at m k [] block good at = absurd (cc at)
  good_at m zero (first ∷ blocks) block (here, good) at =
      let one : first ≡ block = cc at in
      let place : m ≡ m + 0 = omega arith in
      subst (λ (b : Block). IsGoodBlock c entries (m + 0) b) one (subst (λ (p : ℕ). IsGoodBlock c entries p first) place here)
  good_at m (suc k) (first ∷ blocks) block (here, good) at =
      let place : m + 1 + k ≡ m + suc k = omega arith in
      subst (λ (p : ℕ). IsGoodBlock c entries p block) place (good_at (m + 1) k blocks block good at)

-- ---- the answer

dotted_by : (row : List ℕ) (left rest : Lines) → bytes_eq row (codes ".") ≡ false → to_dot left ≡ rest → to_dot (row ∷ left) ≡ row ∷ rest
dotted_by row left rest test h = ap (λ (b : Bool). row ∷ (if b then [] else to_dot left)) test ∙ ap (λ (ls : Lines). row ∷ ls) h

rows_to_dot : (rows others : Lines) (values : List (List Bool)) → row_values rows ≡ present values → to_dot ((rows ++ codes "." ∷ []) ++ others) ≡ rows ++ codes "." ∷ []
rows_to_dot [] others values e = refl
rows_to_dot (row ∷ rows) others [] e = absurd (cc e)
rows_to_dot (row ∷ rows) others (vs ∷ values) e =
    let both = heads (map value_of row) (map Some vs) (row_values rows) (present values) e in
    dotted_by row ((rows ++ codes "." ∷ []) ++ others) (rows ++ codes "." ∷ []) (no_dot row (bytes_eq row (codes ".")) refl (dot_has_none row vs both.0))
    (rows_to_dot rows others values both.1)

up_to_dot : (s : Stimulus) (rows others : Lines) → Spells s rows → to_dot (rows ++ others) ≡ rows
up_to_dot s rows others (inner, dotted, values) =
    ap (λ (ls : Lines). to_dot (ls ++ others)) dotted ∙ rows_to_dot inner others (s.latches ∷ s.inputs) values ∙ sym dotted

-- what is behind a line is shorter by it
behind_by : (line first : List ℕ) (left rest : Lines) (t : Bool) → bytes_eq first line ≡ t → (lines_after line left ≡ Some rest → length line + 1 + size rest ≤ size left)
    → lines_after line (first ∷ left) ≡ Some rest → length line + 1 + size rest ≤ size (first ∷ left)
behind_by line first left rest true is later e =
    let here : ◌≡◌ {A = Option Lines} (Some left) (Some rest) = sym (finds_line line first left is) ∙ e in
    let same : left ≡ rest = cc here in
    let one : length first ≡ length line = ap length ((bytes_eq-Decides first line).0 is) in
    let sum = size_first first left in
    let sizes : size left ≡ size rest = ap size same in
    omega (arith, one, sum, sizes)
behind_by line first left rest false is later e =
    let more : length line + 1 + size rest ≤ size left = later (sym (passes_line line first left is) ∙ e) in
    let sum = size_first first left in
    omega (arith, more, sum)

behind_size : (line : List ℕ) (left rest : Lines) → lines_after line left ≡ Some rest → length line + 1 + size rest ≤ size left
behind_size line [] rest e = absurd (none-some rest e)
behind_size line (first ∷ left) rest e = behind_by line first left rest (bytes_eq first line) refl (behind_size line left rest) e

abbrev kept_first : List ℕ → Lines → Bool → Lines
kept_first line ls b = cond (not b) (line ∷ ls) ls

kept_by : (line : List ℕ) (ls : Lines) (t : Bool) → is_skipped line ≡ t → size (kept_lines ls) ≤ size ls → size (kept_lines (line ∷ ls)) ≤ size (line ∷ ls)
kept_by line ls true is fewer =
    let sum = size_first line ls in
    let same : size (kept_lines (line ∷ ls)) ≡ size (kept_lines ls) = ap (λ (b : Bool). size (kept_first line (kept_lines ls) b)) is in
    omega (arith, fewer, sum, same)
kept_by line ls false is fewer =
    let sum = size_first line ls in
    let less = size_first line (kept_lines ls) in
    let same : size (kept_lines (line ∷ ls)) ≡ size (line ∷ kept_lines ls) = ap (λ (b : Bool). size (kept_first line (kept_lines ls) b)) is in
    omega (arith, fewer, sum, less, same)

kept_size : (ls : Lines) → size (kept_lines ls) ≤ size ls
kept_size [] = omega arith
kept_size (line ∷ ls) = kept_by line ls (is_skipped line) refl (kept_size ls)

text_size : (text : List ℕ) → size (lines_of text) ≤ length text + 1
text_size text = by (lines_are_text text)
  where
    by : (ended_lines (lines_of text) ≡ text) ⊎ (ended_lines (lines_of text) ≡ text ++ 10 ∷ []) → size (lines_of text) ≤ length text + 1
    by (inl same) = let count : size (lines_of text) ≡ length text = ap length same in omega (arith, count)
    by (inr fed) =
        let count : size (lines_of text) ≡ length (text ++ 10 ∷ []) = ap length fed in
        let sum : length (text ++ 10 ∷ []) ≡ length text + 1 = length-append text (10 ∷ []) in
        omega (arith, count, sum)

abbrev stimulus_of : ℕ → Lines → Lines
stimulus_of n rows = codes "1" ∷ property_line n ∷ rows

record HasAnswer (n : ℕ) (s : Stimulus) (answer : List ℕ) : Type 0 where
  has : HasStimulus n s answer
  short : length answer ≤ most_bytes

-- the answer of a block of a text that is within the limit
module _ (text : List ℕ) (n : ℕ) (small : n < 2 ^ 63) (within : length text ≤ most_bytes) where
  has_answer : (s : Stimulus) (rest : Lines) → lines_after (lasso_line n) (bare (kept_in text)) ≡ Some rest → IsCutAs (Some (Lasso s)) (Some rest) → HasAnswer n s (answer_of n rest)
  has_answer s rest is (rows, others, split, spells) =
      let cut : to_dot rest ≡ rows = ap to_dot split ∙ up_to_dot s rows others spells in
      let same : answer_of n rest ≡ ended_lines (stimulus_of n rows) = ap (λ (ls : Lines). ended_lines (stimulus_of n ls)) cut in
      let plain : All IsPlain (stimulus_of n rows) =
      All-cons IsPlain (codes "1") (property_line n ∷ rows) (plain_word (codes "1") refl refl)
      (All-cons IsPlain (property_line n) rows (property_plain n small) (plain_rows s rows spells)) in
      let kept : bare (kept_in (answer_of n rest)) ≡ stimulus_of n rows =
      ap (λ (t : List ℕ). bare (kept_in t)) same ∙ written_kept (stimulus_of n rows) plain in
      let whole : bare (kept_in text) ≡ kept_lines (lines_of text) = kept-bare 1 (lines_of text) in
      let sizes : size (bare (kept_in text)) ≡ size (kept_lines (lines_of text)) = ap size whole in
      let less = behind_size (lasso_line n) (bare (kept_in text)) rest is in
      let fewer = kept_size (lines_of text) in
      let most = text_size text in
      let parts : size rest ≡ size rows + size others = ap size split ∙ size_both rows others in
      let line : length (lasso_line n) ≡ 6 + length (property_line n) = length-append (codes "lasso ") (property_line n) in
      let first : size (stimulus_of n rows) ≡ 1 + 1 + size (property_line n ∷ rows) = size_first (codes "1") (property_line n ∷ rows) in
      let second : size (property_line n ∷ rows) ≡ length (property_line n) + 1 + size rows = size_first (property_line n) rows in
      let count : length (answer_of n rest) ≡ size (stimulus_of n rows) = ap length same in
      record {
        has = (rows, (small, kept), spells);
        short = omega (arith, sizes, less, fewer, most, parts, line, first, second, count, within);
      }

-- ---- why there is none

abbrev errs : JudgeEnd → Result BlockLasso JudgeEnd
errs e = Err e

no_lasso_in : (c : Circuit) (n : ℕ) → n < length c.justice → no_lasso c n ≡ refused UnknownStatus
no_lasso_in c n there = ap (λ (b : Bool). if b then refused (NoProperty n) else refused UnknownStatus) (lt-leb (length c.justice) n there)

no_lasso_past : (c : Circuit) (n : ℕ) → length c.justice ≤ n → no_lasso c n ≡ refused (NoProperty n)
no_lasso_past c n past = ap (λ (b : Bool). if b then refused (NoProperty n) else refused UnknownStatus) (le-leb (length c.justice) n past)

-- ---- what the answer decides

same_dotted : (n m : ℕ) (s t : Stimulus) → ◌≡◌ {A = Stepped} (Ok (Dotted n s)) (Ok (Dotted m t)) → (n ≡ m) × (s ≡ t)
same_dotted n m s t e = (cc e, cc e)

dotted_of : (c : Circuit) (answer : List ℕ) (n : ℕ) (s : Stimulus) → n < length c.justice → HasStimulus n s answer → read_lines c Status (kept_in answer) ≡ Ok (Dotted n s)
dotted_of c answer n s there (others, (below, opens), (rows, spelled, values)) =
    stimulus_is_read c n s (kept_in answer) rows below there (opens ∙ ap (λ (ls : Lines). codes "1" ∷ property_line n ∷ ls) spelled) values

never_both : (n positions from m entries : ℕ) → accepted.Lasso n positions from ≡ accepted.Holds m entries → ⊥
never_both n positions from m entries e = cc e

module _ (c : Circuit) (answer : List ℕ) (n : ℕ) (s : Stimulus) (there : n < length c.justice) (h : HasAnswer n s answer) where
  of_answer : (found : BlockLasso) → HasGoodLasso c answer found.property found.lasso → DecidesIn c n (Some (Lasso s)) (Ok found)
  of_answer found (other, short, t, has, stands, is) =
      let both = same_dotted found.property n t s (sym (dotted_of c answer found.property t other has) ∙ dotted_of c answer n s there h.has) in
      subst (λ (x : Stimulus). DecidesIn c n (Some (Lasso x)) (Ok found)) both.1
      (both.0, subst (λ (m : ℕ). StandsFor c m t (length found.lasso.inputs) found.lasso.from) both.0 stands, is)

  to_answer : (found : BlockLasso) → DecidesIn c n (Some (Lasso s)) (Ok found) → HasGoodLasso c answer found.property found.lasso
  to_answer found (same, stands, is) =
      subst (λ (m : ℕ). HasGoodLasso c answer m found.lasso) (sym same) (there, h.short, s, h.has, stands, is)

  not_refused : (positions from : ℕ) → StandsFor c n s positions from → (end : JudgeEnd) → DecidesLasso c answer (Err end) → ⊥
  not_refused positions from stands end (inl (fault, bad, e)) =
      good_has_no_fault c answer (accepted.Lasso n positions from) fault (there, h.short, s, h.has, stands) bad
  not_refused positions from stands end (inr (m, entries, good, e)) =
      never_both n positions from m entries (one_is_good c answer (accepted.Lasso n positions from) (accepted.Holds m entries) (there, h.short, s, h.has, stands) good)

-- ---- the sheet

module _ (c : Circuit) (text : List ℕ) (n : ℕ) (small : n < 2 ^ 63) (sheet : Sheet) (of : IsTextOf c sheet text) where
  cut_as : IsCutAs (slice_get sheet.blocks n) (lines_after (lasso_line n) (bare (kept_in text)))
  cut_as =
      let has = of.1 in
      let good = of.2 in
      let front : Lines = all_line (length sheet.blocks) ∷ version_line ∷ flat_map entry_lines sheet.entries in
      let all : All IsOther front =
      All-cons IsOther (all_line (length sheet.blocks)) (version_line ∷ flat_map entry_lines sheet.entries) (other_word (all_line (length sheet.blocks)) refl)
      (All-cons IsOther version_line (flat_map entry_lines sheet.entries) (other_word_line (lines.Version Two))
      (other_entries c [] sheet.entries good.entries good.form good.proved)) in
      let same : lines_after (lasso_line n) (bare (kept_in text)) ≡ lines_after (lasso_line n) has.others = ap (lines_after (lasso_line n)) has.lines ∙ passes_all n front has.others all in
      let few = has.small in
      subst (λ (o : Option Lines). IsCutAs (slice_get sheet.blocks n) o) (sym same)
      (found c good.entries n small 0 n sheet.blocks has.others (omega arith) (omega (arith, few)) good.blocks has.blocks)

  there_is : (block : Block) → slice_get sheet.blocks n ≡ Some block → n < length c.justice
  there_is block at = let each = of.2.each in let inside = slice_get_within sheet.blocks n block at in omega (arith, each, inside)

  is_past : slice_get sheet.blocks n ≡ None → length c.justice ≤ n
  is_past none = elim ((slice_get_cases sheet.blocks n).1) [
    | inl (block, inside, at, is) ↦ absurd (none-some block (sym none ∙ at))
    | inr (past, at) ↦ (let each = of.2.each in omega (arith, each, past))
  ]

  is_good : (s : Stimulus) → slice_get sheet.blocks n ≡ Some (Lasso s) → IsGoodBlock c of.2.entries n (Lasso s)
  is_good s at =
      let place : 0 + n ≡ n = omega arith in
      subst (λ (m : ℕ). IsGoodBlock c of.2.entries m (Lasso s)) place (good_at c of.2.entries n small 0 n sheet.blocks (Lasso s) of.2.blocks at)

  into : (b : Option Block) (o : Option Lines) → slice_get sheet.blocks n ≡ b → lines_after (lasso_line n) (bare (kept_in text)) ≡ o → IsCutAs b o
      → (v : Result BlockLasso JudgeEnd) → DecidesCut c n (answer_behind n o) v → DecidesIn c n b v
  into (Some (Lasso s)) (Some rest) at is cut (Ok lasso) d =
      of_answer c (answer_of n rest) n s (there_is (Lasso s) at) (has_answer text n small of.0 s rest is cut) lasso d
  into (Some (Lasso s)) (Some rest) at is cut (Err end) d =
      let good = is_good s at in
      not_refused c (answer_of n rest) n s (there_is (Lasso s) at) (has_answer text n small of.0 s rest is cut) good.0 good.1 good.2 end d
  into (Some (Lasso s)) None at is cut v d = absurd cut
  into (Some (Holds r)) o at is cut v d =
      let none : v ≡ Err (no_lasso c n) = subst (λ (x : Option Lines). DecidesCut c n (answer_behind n x) v) cut d in
      none ∙ ap errs (no_lasso_in c n (there_is (Holds r) at))
  into (Some Open) o at is cut v d =
      let none : v ≡ Err (no_lasso c n) = subst (λ (x : Option Lines). DecidesCut c n (answer_behind n x) v) cut d in
      none ∙ ap errs (no_lasso_in c n (there_is Open at))
  into None o at is cut v d =
      let none : v ≡ Err (no_lasso c n) = subst (λ (x : Option Lines). DecidesCut c n (answer_behind n x) v) cut d in
      none ∙ ap errs (no_lasso_past c n (is_past at))

  out_of : (b : Option Block) (o : Option Lines) → slice_get sheet.blocks n ≡ b → lines_after (lasso_line n) (bare (kept_in text)) ≡ o → IsCutAs b o
      → (v : Result BlockLasso JudgeEnd) → DecidesIn c n b v → DecidesCut c n (answer_behind n o) v
  out_of (Some (Lasso s)) (Some rest) at is cut (Ok lasso) d =
      to_answer c (answer_of n rest) n s (there_is (Lasso s) at) (has_answer text n small of.0 s rest is cut) lasso d
  out_of (Some (Lasso s)) (Some rest) at is cut (Err end) d = absurd d
  out_of (Some (Lasso s)) None at is cut v d = absurd cut
  out_of (Some (Holds r)) o at is cut v d =
      let none : v ≡ Err (no_lasso c n) = d ∙ ap errs (sym (no_lasso_in c n (there_is (Holds r) at))) in
      subst (λ (x : Option Lines). DecidesCut c n (answer_behind n x) v) (sym cut) none
  out_of (Some Open) o at is cut v d =
      let none : v ≡ Err (no_lasso c n) = d ∙ ap errs (sym (no_lasso_in c n (there_is Open at))) in
      subst (λ (x : Option Lines). DecidesCut c n (answer_behind n x) v) (sym cut) none
  out_of None o at is cut v d =
      let none : v ≡ Err (no_lasso c n) = d ∙ ap errs (sym (no_lasso_past c n (is_past at))) in
      subst (λ (x : Option Lines). DecidesCut c n (answer_behind n x) v) (sym cut) none

  -- what the answer decides the block decides
  pub block_decides : (v : Result BlockLasso JudgeEnd) → DecidesCut c n (answer_in n (bare (kept_in text))) v → DecidesIn c n (slice_get sheet.blocks n) v
  block_decides v d = into (slice_get sheet.blocks n) (lines_after (lasso_line n) (bare (kept_in text))) refl refl cut_as v d

  -- and nothing else
  pub answer_decides : (v : Result BlockLasso JudgeEnd) → DecidesIn c n (slice_get sheet.blocks n) v → DecidesCut c n (answer_in n (bare (kept_in text))) v
  answer_decides v d = out_of (slice_get sheet.blocks n) (lines_after (lasso_line n) (bare (kept_in text))) refl refl cut_as v d
