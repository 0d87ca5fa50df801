-- The blocks of a board's outcomes: they are told, true, and spelled as they are cut.
use Rattle.std.proofs.Common.{◌≡◌, ◌<◌, ◌≤◌, ◌+◌, ℕ, List, [], ◌∷◌, ◌++◌, length, refl, sym, ap, ◌∙◌, subst, arith, Some, None}
use Rattle.std.specs.Prelude.{Option}
use Rattle.std.proofs.lemmas.List.{map-append, append_assoc}
use Rattle.aig_semantics.specs.Circuits.{Circuit}
use Rattle.entry.specs.declared.refutations.Refutation.{Refutation}
use Rattle.entry.specs.CheckedEntries.{CheckedEntry}
use Rattle.entry.specs.Proved.{IsProved, IsGoodRefutation}
use Rattle.fair_semantics.specs.Entries.{Entry}
use Rattle.certificate.specs.Writing.{AreProvedInOrder}
use Rattle.answer_lines.specs.Left.{most_bytes}
use Rattle.wall_store.specs.declared.outcomes.Outcome.{Outcome}
use Rattle.wall_store.specs.declared.outcomes.Outcome.TheVariants as outcomes
use Rattle.wall_store.specs.declared.outcomes.Served.{Served}
use Rattle.wall_store.specs.Boards.{BoardState, IsBoard, IsSoundList, IsTrueOf, outcome_of, plain}
use Rattle.sheet_answers.specs.declared.counts.Counts.{Counts}
use Rattle.sheet_answers.specs.Sheets.{none, and_one, and_all, total, IsSheetWith}
use Rattle.sheet_answers.specs.declared.blocks.Block.{Block}
use Rattle.sheet_answers.specs.declared.blocks.Block.TheVariants.{Lasso, Holds, Open}
use Rattle.sheet_answers.specs.Writing.{sheet_text, IsTrueBlock, AreTrue, IsSo}
use Rattle.sheet_answers.specs.Laws.{WrittenSheetsAreGood}
use Rattle.sheet_commands.specs.Boards.{IsBlockOf, AreBlocksOf, IsSheetOf}

-- ---- entries of a board

-- each entry that is sound behind those before it is proved behind them
proved_from : (c : Circuit) (entries before after : List CheckedEntry) → entries ≡ before ++ after → IsSoundList c entries → AreProvedInOrder c (plain before) after
proved_from c entries before [] same sound = tt
proved_from c entries before (e ∷ after) same sound =
    let s = sound before after e same in
    let longer : plain (before ++ e ∷ []) ≡ plain before ++ e.entry ∷ [] = map-append (λ (x : CheckedEntry). x.entry) before (e ∷ []) in (
      s.circuit,
      subst (λ (k : Circuit). IsProved k (plain before) e.entry e.proofs) s.circuit s.holds.proved,
      subst (λ (b : List Entry). AreProvedInOrder c b after) longer
          (proved_from c entries (before ++ e ∷ []) after (same ∙ sym (append_assoc before (e ∷ []) after)) sound),
    )

pub proved_in_order : (c : Circuit) (entries : List CheckedEntry) → IsSoundList c entries → AreProvedInOrder c [] entries
proved_in_order c entries sound = proved_from c entries [] entries refl sound

-- ---- one more block

told_from : (c : Circuit) (served : List Served) (from n : ℕ) (blocks : List Block) (block : Block) → n ≡ from + length blocks
    → AreBlocksOf c served from blocks → IsBlockOf c n (outcome_of served n) block → AreBlocksOf c served from (blocks ++ block ∷ [])
told_from c served from n [] block is told one =
    let here : n ≡ from = omega (arith, is) in (subst (λ (k : ℕ). IsBlockOf c k (outcome_of served k) block) here one, tt)
told_from c served from n (first ∷ blocks) block is (h, told) one = (h, told_from c served (from + 1) n blocks block (omega (arith, is)) told one)

pub told_more : (c : Circuit) (served : List Served) (n : ℕ) (blocks : List Block) (block : Block) → length blocks ≡ n
    → AreBlocksOf c served 0 blocks → IsBlockOf c n (outcome_of served n) block → AreBlocksOf c served 0 (blocks ++ block ∷ [])
told_more c served n blocks block is told one = told_from c served 0 n blocks block (omega (arith, is)) told one

-- ---- true blocks

true_block : (c : Circuit) (b : BoardState) (n : ℕ) (outcome : Option Outcome) (block : Block) → b.circuit ≡ c
    → ((o : Outcome) → outcome ≡ Some o → IsTrueOf b.circuit b.entries n o) → IsBlockOf c n outcome block → IsTrueBlock c (plain b.entries) n block
true_block c b n (Some (outcomes.Lasso lasso)) (Lasso s) same holds cut = (length s.inputs, cut.from, cut.stands)
true_block c b n (Some (outcomes.Lasso lasso)) (Holds r) same holds cut = absurd cut
true_block c b n (Some (outcomes.Lasso lasso)) Open same holds cut = absurd cut
true_block c b n (Some (outcomes.Holds refutation)) (Lasso s) same holds is = absurd is
true_block c b n (Some (outcomes.Holds refutation)) (Holds r) same holds is =
    subst (λ (x : Refutation). IsGoodRefutation c (plain b.entries) n x.uses x.proof) (sym is)
    (subst (λ (k : Circuit). IsGoodRefutation k (plain b.entries) n refutation.uses refutation.proof) same (holds (outcomes.Holds refutation) refl))
true_block c b n (Some (outcomes.Holds refutation)) Open same holds is = absurd is
true_block c b n None (Lasso s) same holds is = absurd is
true_block c b n None (Holds r) same holds is = absurd is
true_block c b n None Open same holds is = tt

true_from : (c : Circuit) (b : BoardState) (n : ℕ) (blocks : List Block) → IsBoard b → b.circuit ≡ c → AreBlocksOf c b.served n blocks → AreTrue c (plain b.entries) n blocks
true_from c b n [] board same told = tt
true_from c b n (block ∷ blocks) board same (h, told) =
    (true_block c b n (outcome_of b.served n) block same (λ o is. board.outcomes n o is) h, true_from c b (n + 1) blocks board same told)

pub all_so : (c : Circuit) (b : BoardState) (list : List CheckedEntry) (blocks : List Block) → IsBoard b → b.circuit ≡ c → list ≡ b.entries → length blocks ≡ length c.justice
    → AreBlocksOf c b.served 0 blocks → IsSo c list blocks
all_so c b list blocks board same listed each told = record {
  each = each;
  few = omega (arith, board.within, board.limit, ap length listed);
  proved = proved_in_order c list (subst (λ (l : List CheckedEntry). IsSoundList c l) (sym listed) (subst (λ (k : Circuit). IsSoundList k b.entries) same board.sound));
  hold = subst (λ (l : List CheckedEntry). AreTrue c (plain l) 0 blocks) (sym listed) (true_from c b 0 blocks board same told);
}

-- ---- the sheet

pub sheet_good : (c : Circuit) (b : BoardState) (list : List CheckedEntry) (blocks : List Block) (counts : Counts) (text : List ℕ) → WrittenSheetsAreGood c → IsBoard b
    → b.circuit ≡ c → list ≡ b.entries → length blocks ≡ length c.justice → AreBlocksOf c b.served 0 blocks → counts ≡ and_all none blocks → text ≡ sheet_text list blocks
    → length text ≤ most_bytes → IsSheetWith c text counts (length b.entries)
sheet_good c b list blocks counts text written board same listed each told counted spelled short =
    let good : IsSheetWith c (sheet_text list blocks) (and_all none blocks) (length list) =
    written list blocks (all_so c b list blocks board same listed each told) (subst (λ (t : List ℕ). length t ≤ most_bytes) spelled short) in
    let as_text : IsSheetWith c text (and_all none blocks) (length list) = subst (λ (t : List ℕ). IsSheetWith c t (and_all none blocks) (length list)) (sym spelled) good in
    let as_counts : IsSheetWith c text counts (length list) = subst (λ (k : Counts). IsSheetWith c text k (length list)) (sym counted) as_text in
    subst (λ (l : List CheckedEntry). IsSheetWith c text counts (length l)) listed as_counts

pub sheet_of : (c : Circuit) (b : BoardState) (list : List CheckedEntry) (blocks : List Block) (counts : Counts) (text : List ℕ) → list ≡ b.entries
    → length blocks ≡ length c.justice → AreBlocksOf c b.served 0 blocks → counts ≡ and_all none blocks → text ≡ sheet_text list blocks → IsSheetOf c b counts text
sheet_of c b list blocks counts text listed each told counted spelled = record {
  blocks = blocks;
  each = each;
  told = told;
  counted = counted;
  spelled = spelled ∙ ap (λ (l : List CheckedEntry). sheet_text l blocks) listed;
}

-- ---- counts

total_one : (t : Counts) (block : Block) → total (and_one t block) ≡ total t + 1
total_one t (Lasso s) = omega arith
total_one t (Holds r) = omega arith
total_one t Open = omega arith

pub one_more : (t : Counts) (block : Block) (n : ℕ) → total t ≡ n → total (and_one t block) ≡ n + 1
one_more t block n is = omega (arith, total_one t block, is)

-- where each property has an outcome no block is open

-- this many are open at first, and no more become
none_open : (c : Circuit) (served : List Served) (n : ℕ) (blocks : List Block) (t : Counts)
    → ((k : ℕ) → n ≤ k → k < n + length blocks → outcome_of served k ≡ None → ⊥) → AreBlocksOf c served n blocks → (and_all t blocks).unknown ≡ t.unknown
none_open c served n [] t settled told = refl
none_open c served n (block ∷ blocks) t settled (h, told) =
    none_open c served (n + 1) blocks (and_one t block) (λ k low high. settled k (omega (arith, low)) (omega (arith, high))) told
    ∙ closed (outcome_of served n) block (settled n (omega arith) (omega arith)) h
  where
    closed : (outcome : Option Outcome) (b : Block) → (outcome ≡ None → ⊥) → IsBlockOf c n outcome b → (and_one t b).unknown ≡ t.unknown
    closed outcome (Lasso s) some is = refl
    closed outcome (Holds r) some is = refl
    closed (Some (outcomes.Lasso lasso)) Open some is = absurd is
    closed (Some (outcomes.Holds refutation)) Open some is = absurd is
    closed None Open some is = absurd (some refl)

pub settled_counts : (c : Circuit) (b : BoardState) (counts : Counts) (text : List ℕ) → ((k : ℕ) → k < length c.justice → outcome_of b.served k ≡ None → ⊥)
    → IsSheetOf c b counts text → counts.unknown ≡ 0
settled_counts c b counts text settled sheet =
    ap (λ (t : Counts). t.unknown) sheet.counted
    ∙ none_open c b.served 0 sheet.blocks none (λ k low high. settled k (omega (arith, high, sheet.each))) sheet.told
