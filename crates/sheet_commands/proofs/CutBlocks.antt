-- How the reading of a block's lasso ends, from the lines of the text and its judgement.
use Rattle.std.proofs.Common.{◌≡◌, ◌⊎◌, inl, inr, ℕ, ◌≤◌, ◌<◌, ◌^◌, Bool, true, false, List, [], length, refl, sym, ap, ◌∙◌, subst, Some, None, Ok, Err}
use Rattle.std.specs.Prelude.{Option, Result, IfOk}
use Rattle.aig_semantics.specs.Circuits.{Circuit}
use Rattle.aig_semantics.specs.declared.traces.Lasso.{Lasso as LassoOf}
use Rattle.answer_lines.specs.Left.{most_bytes}
use Rattle.text_grammar.specs.Lines.{lines_of}
use Rattle.edge.specs.InMemory.{ShelfInMemory, text_of}
use Rattle.edge.specs.Reads.{Reads}
use Rattle.edge.proofs.Steady.{ReadsInMemory, no_read_fails}
use Rattle.unless_memory.specs.Answers.{GivesSome}
use Rattle.stimulus.specs.Texts.{kept_lines}
use Rattle.certificate.specs.declared.ends.Accepted.{Accepted}
use Rattle.certificate.specs.declared.ends.Accepted.TheVariants.{Lasso, Holds}
use Rattle.certificate.specs.declared.ends.AnswerEnd.{AnswerEnd}
use Rattle.certificate.specs.declared.ends.AnswerEnd.TheVariants as answer_ends
use Rattle.certificate.specs.declared.ends.AnswerFault.TheVariants.{UnknownStatus}
use Rattle.certificate.specs.Lines.{kept_in, bare}
use Rattle.certificate.specs.Ends.{DecidesEnd, CheckSays, EndsWith as AnswerEndsWith, has_unread as answer_unread}
use Rattle.certificate.specs.Lassos.{HasGoodLasso, KeepsLasso}
use Rattle.sheet_answers.specs.declared.ends.JudgeEnd.{JudgeEnd}
use Rattle.sheet_answers.specs.declared.texts.GoodSheet.{GoodSheet}
use Rattle.sheet_answers.specs.Reading.{is_sheet}
use Rattle.sheet_answers.specs.Ends.{refused_memory, has_unread}
use Rattle.sheet_answers.specs.Texts.{DecidesLines}
use Rattle.sheet_answers.proofs.HeldTexts.{opens}
use Rattle.certificate.specs.declared.loaded.Loaded.TheVariants as loaded
use Rattle.certificate.specs.Laws.{GoodHasNoFault, OneFault}
use Rattle.cert_tools.specs.Laws.{OneHeld}
use Rattle.sheet_commands.specs.declared.blocks.BlockLasso.{BlockLasso}
use Rattle.sheet_commands.specs.Blocks.{refused, no_memory, DecidesSheet, DecidesBlockAs, DecidesBlock}
use Rattle.sheet_commands.specs.Cutting.{answer_in, no_lasso, DecidesLasso, DecidesCut, HasItsLasso, lasso_by}
use Rattle.sheet_commands.proofs.SheetBlocks.{block_decides, answer_decides}

abbrev Lined : Type 0
Lined = Result GoodSheet JudgeEnd

abbrev pub Cut : Type 0
Cut = Result BlockLasso JudgeEnd

abbrev errs : JudgeEnd → Cut
errs e = Err e

abbrev as_cut : Lined → Cut
as_cut (Ok found) = no_memory
as_cut (Err e) = Err e

-- ---- of a text by its first line

module _ (c : Circuit) (text : List ℕ) (n : ℕ) (short : length text ≤ most_bytes) where
  as_block : (test : Bool) (v : Cut) → is_sheet (kept_lines (lines_of text)) ≡ test → DecidesBlockAs test c text n v → DecidesBlock c text n v
  as_block test v is h = subst (λ (b : Bool). DecidesBlockAs b c text n v) (sym (opens text short test is)) h

  of_block : (test : Bool) (v : Cut) → is_sheet (kept_lines (lines_of text)) ≡ test → DecidesBlock c text n v → DecidesBlockAs test c text n v
  of_block test v is h = subst (λ (b : Bool). DecidesBlockAs b c text n v) (opens text short test is) h

  -- a text that is no sheet
  pub other_decides : is_sheet (kept_lines (lines_of text)) ≡ false → (end : JudgeEnd) → end ≡ refused UnknownStatus → DecidesBlock c text n (Err end)
  other_decides is end same = as_block false (Err end) is (ap errs same)

  pub other_exactly : is_sheet (kept_lines (lines_of text)) ≡ false → (end : JudgeEnd) → end ≡ refused UnknownStatus → (v : Cut) → DecidesBlock c text n v → ◌≡◌ {A = Cut} (Err end) v
  other_exactly is end same v h = ap errs same ∙ sym (of_block false v is h)

  -- a sheet that is refused
  pub refused_decides : is_sheet (kept_lines (lines_of text)) ≡ true → (end : JudgeEnd) → GivesSome (Err refused_memory) (DecidesLines c text) (Err end)
      → GivesSome no_memory (DecidesBlock c text n) (Err end)
  refused_decides is end (inl decides) = inl (as_block true (Err end) is (inr (end, decides, refl)))
  refused_decides is end (inr memory) = inr (ap as_cut memory)

  pub refused_exactly : is_sheet (kept_lines (lines_of text)) ≡ true → (end : JudgeEnd)
      → ((verdict : Lined) → DecidesLines c text verdict → GivesSome (Err refused_memory) (λ r. r ≡ verdict) (Err end))
      → (v : Cut) → DecidesBlock c text n v → GivesSome no_memory (λ r. r ≡ v) (Err end)
  refused_exactly is end exactly v h = by (of_block true v is h)
    where
      by : DecidesSheet c text n v → GivesSome no_memory (λ r. r ≡ v) (Err end)
      by (inl (sheet, of, answer)) = elim (exactly (Ok (record { lines = bare (kept_in text); entries = length sheet.entries })) (sheet, of, refl, refl)) [
        | inl same ↦ absurd (cc same)
        | inr memory ↦ inr (ap as_cut memory)
      ]
      by (inr (other, decides, same)) = elim (exactly (Err other) decides) [
        | inl one ↦ inl (ap as_cut one ∙ sym same)
        | inr memory ↦ inr (ap as_cut memory)
      ]

  -- a good sheet: the lasso is that of its block

  pub then_decides : n < 2 ^ 63 → is_sheet (kept_lines (lines_of text)) ≡ true → (found : GoodSheet) (lines : List (List ℕ)) → lines ≡ found.lines
      → GivesSome (Err refused_memory) (DecidesLines c text) (Ok found) → (result : Cut)
      → GivesSome no_memory (DecidesCut c n (answer_in n lines)) result → GivesSome no_memory (DecidesBlock c text n) result
  then_decides small is found lines same (inl (sheet, of, read, many)) result (inl h) =
      let answer = subst (λ (ls : List (List ℕ)). DecidesCut c n (answer_in n ls) result) (same ∙ read) h in
      inl (as_block true result is (inl (sheet, of, block_decides c text n small sheet of result answer)))
  then_decides small is found lines same (inl has) result (inr memory) = inr memory
  then_decides small is found lines same (inr wrong) result h = absurd (cc wrong)

  good_exactly : n < 2 ^ 63 → is_sheet (kept_lines (lines_of text)) ≡ true → (found : GoodSheet) → GivesSome (Err refused_memory) (DecidesLines c text) (Ok found)
      → ((verdict : Lined) → DecidesLines c text verdict → GivesSome (Err refused_memory) (λ r. r ≡ verdict) (Ok found))
      → (v : Cut) → DecidesBlock c text n v → DecidesCut c n (answer_in n found.lines) v
  good_exactly small is found (inr wrong) exactly v h = absurd (cc wrong)
  good_exactly small is found (inl (good, fits, read, many)) exactly v h = by (of_block true v is h)
    where
      by : DecidesSheet c text n v → DecidesCut c n (answer_in n found.lines) v
      by (inl (sheet, of, answer)) = subst (λ (ls : List (List ℕ)). DecidesCut c n (answer_in n ls) v) (sym read) (answer_decides c text n small sheet of v answer)
      by (inr (other, decides, same)) = elim (exactly (Err other) decides) [
        | inl one ↦ absurd (cc one)
        | inr memory ↦ absurd (cc memory)
      ]

  pub then_exactly : n < 2 ^ 63 → is_sheet (kept_lines (lines_of text)) ≡ true → (found : GoodSheet) (lines : List (List ℕ)) → lines ≡ found.lines
      → GivesSome (Err refused_memory) (DecidesLines c text) (Ok found) → ((verdict : Lined) → DecidesLines c text verdict → GivesSome (Err refused_memory) (λ r. r ≡ verdict) (Ok found))
      → (result : Cut) → ((v : Cut) → DecidesCut c n (answer_in n lines) v → GivesSome no_memory (λ r. r ≡ v) result)
      → (v : Cut) → DecidesBlock c text n v → GivesSome no_memory (λ r. r ≡ v) result
  then_exactly small is found lines same has exactly result cut v h =
      cut v (subst (λ (ls : List (List ℕ)). DecidesCut c n (answer_in n ls) v) (sym same) (good_exactly small is found has exactly v h))

-- ---- the lasso of an answer

pub carried : (c : Circuit) (told : Option (List ℕ)) (end : Result Accepted AnswerEnd) (kept : Option LassoOf) → IfOk end (λ accepted. KeepsLasso c told accepted kept) → HasItsLasso end kept
carried c told (Ok (Lasso n positions from)) kept (text, may, lasso, is, good, many, place) = (lasso, is)
carried c told (Ok (Holds n entries)) kept h = tt
carried c told (Err end) kept h = tt

pub lasso_kept : (end : Result Accepted AnswerEnd) (kept : Option LassoOf) (found : Accepted) (n positions from : ℕ) → HasItsLasso end kept
    → end ≡ Ok found → found ≡ Lasso n positions from → kept ≡ None → ⊥
lasso_kept (Ok (Lasso m k f)) kept found n positions from (lasso, is) e same none = absurd (cc)
lasso_kept (Ok (Holds m k)) kept found n positions from h e same none = absurd (cc)
lasso_kept (Err end) kept found n positions from h e same none = absurd (cc)

lasso_decides : (c : Circuit) (answer : List ℕ) (end : Result Accepted AnswerEnd) (kept : Option LassoOf) → (end ≡ Err answer_ends.ReadFault → ⊥) → CheckSays c (Some answer) end
    → IfOk end (λ accepted. KeepsLasso c (Some answer) accepted kept) → GivesSome no_memory (DecidesLasso c answer) (lasso_by end kept)
lasso_decides c answer (Ok (Lasso n positions from)) kept read says (text, may, lasso, is, good, many, place) =
    subst (λ (k : Option LassoOf). GivesSome no_memory (DecidesLasso c answer) (lasso_by (Ok (Lasso n positions from)) k)) (sym is)
    (inl (subst (λ (t : List ℕ). HasGoodLasso c t n lasso) (sym (may answer refl)) good))
lasso_decides c answer (Ok (Holds n entries)) kept read (inl (inr (text, may, good))) keeps =
    inl (inr (n, entries, subst (λ (t : List ℕ). DecidesEnd c t (Ok (Holds n entries))) (sym (may answer refl)) good, refl))
lasso_decides c answer (Ok (Holds n entries)) kept read (inl (inl wrong)) keeps = absurd (cc wrong)
lasso_decides c answer (Ok (Holds n entries)) kept read (inr wrong) keeps = absurd (cc wrong)
lasso_decides c answer (Err (answer_ends.Refused fault)) kept read (inl (inr (text, may, bad))) keeps =
    inl (inl (fault, subst (λ (t : List ℕ). DecidesEnd c t (Err (answer_ends.Refused fault))) (sym (may answer refl)) bad, refl))
lasso_decides c answer (Err (answer_ends.Refused fault)) kept read (inl (inl wrong)) keeps = absurd (cc wrong)
lasso_decides c answer (Err (answer_ends.Refused fault)) kept read (inr wrong) keeps = absurd (cc wrong)
lasso_decides c answer (Err answer_ends.ReadFault) kept read says keeps = absurd (read refl)
lasso_decides c answer (Err answer_ends.Memory) kept read says keeps = inr refl

pub lasso_found : (c : Circuit) (answer : List ℕ) (end : Result Accepted AnswerEnd) (kept : Option LassoOf) (result : Cut) → result ≡ lasso_by end kept
    → (end ≡ Err answer_ends.ReadFault → ⊥) → CheckSays c (Some answer) end → IfOk end (λ accepted. KeepsLasso c (Some answer) accepted kept)
    → GivesSome no_memory (DecidesLasso c answer) result
lasso_found c answer end kept result is read says keeps = subst (GivesSome no_memory (DecidesLasso c answer)) (sym is) (lasso_decides c answer end kept read says keeps)

lasso_unread : (end : Result Accepted AnswerEnd) (kept : Option LassoOf) → (end ≡ Err answer_ends.ReadFault → ⊥) → has_unread {T = BlockLasso} (lasso_by end kept) ≡ false
lasso_unread (Ok (Lasso n positions from)) None read = refl
lasso_unread (Ok (Lasso n positions from)) (Some lasso) read = refl
lasso_unread (Ok (Holds n entries)) kept read = refl
lasso_unread (Err (answer_ends.Refused fault)) kept read = refl
lasso_unread (Err answer_ends.ReadFault) kept read = absurd (read refl)
lasso_unread (Err answer_ends.Memory) kept read = refl

pub was_found : (end : Result Accepted AnswerEnd) (kept : Option LassoOf) (result : Cut) → result ≡ lasso_by end kept → (end ≡ Err answer_ends.ReadFault → ⊥)
    → has_unread {T = BlockLasso} result ≡ false
was_found end kept result is read = ap (λ (r : Cut). has_unread {T = BlockLasso} r) is ∙ lasso_unread end kept read

pub never_unread : (end : Result Accepted AnswerEnd) (name text : List ℕ) (old new : ShelfInMemory) → old.failing ≡ [] → text_of old.texts name ≡ Some text
    → Reads ReadsInMemory name (answer_unread end) old new → end ≡ Err answer_ends.ReadFault → ⊥
never_unread end name text old new steady told reads is =
    no_read_fails name text old new steady told (subst (λ (e : Result Accepted AnswerEnd). Reads ReadsInMemory name (answer_unread e) old new) is reads)

-- ---- an answer decides one end

abbrev pub LassosAreOne : Circuit → Type 0
LassosAreOne c = (answer : List ℕ) (a b : Cut) → DecidesLasso c answer a → DecidesLasso c answer b → a ≡ b

one_lasso : (c : Circuit) (answer : List ℕ) (a b : BlockLasso) → OneHeld c → HasGoodLasso c answer a.property a.lasso → HasGoodLasso c answer b.property b.lasso → a ≡ b
one_lasso c answer a b one (there, short, s, has, stands, is) (other, small, t, holds, fits, same) =
    same_found a b (one answer (loaded.Lasso a.property s a.lasso) (loaded.Lasso b.property t b.lasso) (there, short, has, stands, is) (other, small, holds, fits, same))
  where
    same_found : (x y : BlockLasso) → loaded.Lasso x.property s x.lasso ≡ loaded.Lasso y.property t y.lasso → x ≡ y
    same_found x y e = let n : x.property ≡ y.property = cc e in let l : x.lasso ≡ y.lasso = cc e in λ i. record { property = n i; lasso = l i }

good_not_refused : (c : Circuit) (answer : List ℕ) (found : BlockLasso) (end : JudgeEnd) → OneHeld c → GoodHasNoFault c
    → HasGoodLasso c answer found.property found.lasso → DecidesLasso c answer (Err end) → ⊥
good_not_refused c answer found end one apart (there, short, s, has, stands, is) (inl (fault, bad, e)) =
    apart answer (Lasso found.property (length found.lasso.inputs) found.lasso.from) fault (there, short, s, has, stands) bad
good_not_refused c answer found end one apart (there, short, s, has, stands, is) (inr (n, entries, (other, small, certificate, holds, good, count), e)) =
    let wrong = one answer (loaded.Lasso found.property s found.lasso) (loaded.Holds n certificate) (there, short, has, stands, is) (other, small, holds, good) in cc wrong

refused_once : (c : Circuit) (answer : List ℕ) (a b : JudgeEnd) → GoodHasNoFault c → OneFault c → DecidesLasso c answer (Err a) → DecidesLasso c answer (Err b) → a ≡ b
refused_once c answer a b apart fault (inl (f, bad, e)) (inl (g, worse, d)) = e ∙ ap refused (fault answer f g bad worse) ∙ sym d
refused_once c answer a b apart fault (inl (f, bad, e)) (inr (n, entries, good, d)) = absurd (apart answer (Holds n entries) f good bad)
refused_once c answer a b apart fault (inr (n, entries, good, e)) (inl (g, bad, d)) = absurd (apart answer (Holds n entries) g good bad)
refused_once c answer a b apart fault (inr (n, entries, good, e)) (inr (m, others, fine, d)) = e ∙ sym d

pub lassos_are_one : (c : Circuit) → OneHeld c → GoodHasNoFault c → OneFault c → LassosAreOne c
lassos_are_one c one apart fault answer (Ok a) (Ok b) h k = ap (λ (x : BlockLasso). Ok x) (one_lasso c answer a b one h k)
lassos_are_one c one apart fault answer (Ok a) (Err b) h k = absurd (good_not_refused c answer a b one apart h k)
lassos_are_one c one apart fault answer (Err a) (Ok b) h k = absurd (good_not_refused c answer b a one apart k h)
lassos_are_one c one apart fault answer (Err a) (Err b) h k = ap errs (refused_once c answer a b apart fault h k)

pub lasso_exactly : (c : Circuit) (answer : List ℕ) (end : Result Accepted AnswerEnd) (kept : Option LassoOf) (result : Cut) → result ≡ lasso_by end kept → LassosAreOne c
    → (end ≡ Err answer_ends.ReadFault → ⊥) → CheckSays c (Some answer) end → IfOk end (λ accepted. KeepsLasso c (Some answer) accepted kept)
    → ((verdict : Result Accepted AnswerEnd) → DecidesEnd c answer verdict → AnswerEndsWith end verdict)
    → (v : Cut) → DecidesLasso c answer v → GivesSome no_memory (λ r. r ≡ v) result
lasso_exactly c answer end kept result is one read says keeps exactly v d = by (lasso_found c answer end kept result is read says keeps)
  where
    by : GivesSome no_memory (DecidesLasso c answer) result → GivesSome no_memory (λ r. r ≡ v) result
    by (inl found) = inl (one answer result v found d)
    by (inr memory) = inr memory

-- the block, cut or not
pub cut_decides : (c : Circuit) (n : ℕ) (lines : List (List ℕ)) (answer : List ℕ) (result : Cut) → answer_in n lines ≡ Some answer
    → GivesSome no_memory (DecidesLasso c answer) result → GivesSome no_memory (DecidesCut c n (answer_in n lines)) result
cut_decides c n lines answer result is (inl h) = inl (subst (λ (o : Option (List ℕ)). DecidesCut c n o result) (sym is) h)
cut_decides c n lines answer result is (inr memory) = inr memory

pub cut_exactly : (c : Circuit) (n : ℕ) (lines : List (List ℕ)) (answer : List ℕ) (result : Cut) → answer_in n lines ≡ Some answer
    → ((v : Cut) → DecidesLasso c answer v → GivesSome no_memory (λ r. r ≡ v) result)
    → (v : Cut) → DecidesCut c n (answer_in n lines) v → GivesSome no_memory (λ r. r ≡ v) result
cut_exactly c n lines answer result is exactly v h = exactly v (subst (λ (o : Option (List ℕ)). DecidesCut c n o v) is h)

pub none_decides : (c : Circuit) (n : ℕ) (lines : List (List ℕ)) (end : JudgeEnd) → ((end ≡ no_lasso c n) × (answer_in n lines ≡ None)) ⊎ (end ≡ refused_memory)
    → GivesSome no_memory (DecidesCut c n (answer_in n lines)) (Err end)
none_decides c n lines end (inl (same, none)) =
    inl (subst (λ (o : Option (List ℕ)). DecidesCut c n o (Err end)) (sym none) (ap errs same))
none_decides c n lines end (inr memory) = inr (ap errs memory)

pub none_exactly : (c : Circuit) (n : ℕ) (lines : List (List ℕ)) (end : JudgeEnd) → ((end ≡ no_lasso c n) × (answer_in n lines ≡ None)) ⊎ (end ≡ refused_memory)
    → (v : Cut) → DecidesCut c n (answer_in n lines) v → GivesSome no_memory (λ r. r ≡ v) (Err end)
none_exactly c n lines end (inl (same, none)) v h =
    inl (ap errs same ∙ sym (subst (λ (o : Option (List ℕ)). DecidesCut c n o v) none h))
none_exactly c n lines end (inr memory) v h = inr (ap errs memory)
