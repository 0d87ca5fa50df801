-- The lines that are read from a state of a sheet to a good end are those that lead there.
use Rattle.std.proofs.Common.{◌≡◌, ℕ, suc, ◌+◌, ◌<◌, ◌≤◌, ◌^◌, Bool, true, false, List, [], ◌∷◌, ◌++◌, map, length, flat_map, refl, sym, ap, subst, ◌∙◌, arith, append_assoc, Some, None, Option, Ok, Err, All}
use Rattle.std.specs.Prelude.{if◌then◌else◌, ◌==◌, codes}
use Rattle.std.specs.Str.{bytes_eq}
use Rattle.std.proofs.lemmas.Bool.{eqb-true, eq-eqb}
use Rattle.std.proofs.lemmas.Slice.Eq.{bytes_eq-Decides}
use Rattle.aig_semantics.specs.declared.traces.Stimulus.{Stimulus}
use Rattle.aig_semantics.specs.Circuits.{Circuit}
use Rattle.aig_semantics.specs.Stimuli.{StandsFor}
use Rattle.fair_semantics.specs.Entries.{Entry}
use Rattle.certificate_lines.specs.declared.words.Opening.{Opening}
use Rattle.certificate_lines.specs.declared.words.WordLine.{WordLine}
use Rattle.certificate_lines.specs.declared.words.WordLine.TheVariants as lines
use Rattle.certificate_lines.specs.Fields.{IsNumber}
use Rattle.certificate_lines.specs.Words.{word_line_text, word_line_of}
use Rattle.certificate_lines.specs.Uses.{uses_text, written}
use Rattle.certificate_lines.proofs.WordLaws.{word_given_line, word_back}
use Rattle.entry.specs.declared.refutations.Refutation.{Refutation}
use Rattle.entry.proofs.Faultless.{faultless_is_good}
use Rattle.certificate.specs.declared.limits.TheConstants.{MAX_ENTRIES}
use Rattle.certificate_texts.specs.declared.certificates.Written.{Written}
use Rattle.certificate_texts.specs.Certificates.{proof_lines, entry_lines, CanBeWritten, refuting_line, refutation_lines}
use Rattle.certificate.specs.Certificates.{AreProvedBehind}
use Rattle.certificate.specs.Reading.{Body, Start, EntryUses, EntryClause, EntryProof, EntryLine, RefutationUses, RefutationLine, Last, Latches, Rows, Dotted, Certified}
use Rattle.certificate.specs.Reading as answers
use Rattle.certificate.proofs.CompletingProofs.{heads}
use Rattle.sheet_answers.specs.declared.blocks.Block.TheVariants.{Lasso, Holds, Open}
use Rattle.sheet_answers.specs.declared.found.Accepted.{Accepted}
use Rattle.sheet_answers.specs.Sheets.{Block, Counts, all_line, lasso_line, holds_line, open_line, version_line, end_line, refuting, AreBlocks, IsGoodBlock, AreGood, none, and_one, and_all, total}
use Rattle.sheet_answers.specs.Reading.{State, First, Versioned, Listing, Between, Refuting, Proving, Showing, Done, Stepped, misplaced, after_answer, no_entries, end_step, between_step, over, refute_step, proved, refuting_fault, shown, step}
use Rattle.sheet_answers.specs.Seen.{IsGoodAtEnd}
use Rattle.sheet_answers.proofs.Entering.{FromRefuting, Continues, After}
use Rattle.sheet_answers.proofs.EnteringProofs.{refuting_line_on, refuting_line_back}
use Rattle.sheet_answers.proofs.EnteringEntries.{refuting_uses_on, refuting_uses_back}
use Rattle.sheet_answers.proofs.ShowingLines.{FromLatches, Rowing}
use Rattle.sheet_answers.proofs.WellStates.{IsProved, Within, proving_well, IsProof}

-- ---- what leads from each state to a good end

-- the blocks of the properties that have none yet, and the end
pub record FromBlocks (c : Circuit) (a : Accepted) (t : Counts) (entries : List Entry) (left : List (List ℕ)) : Type 0 where
  pub blocks : List Block
  pub spelled : AreBlocks (total t) blocks left
  pub each : total t + length blocks ≡ length c.justice
  pub good : AreGood c entries (total t) blocks
  pub counts : a.counts ≡ and_all t blocks
  pub count : a.entries ≡ length entries

-- behind these entries the others, and then all blocks
pub record FromListing (c : Circuit) (a : Accepted) (b : Body) (left : List (List ℕ)) : Type 0 where
  pub more : List Written
  pub rest : List (List ℕ)
  pub spelled : left ≡ flat_map entry_lines more ++ rest
  pub form : All (CanBeWritten b.version) more
  pub few : 0 < length more → length b.entries + length more ≤ MAX_ENTRIES
  pub all : List Entry
  pub proved : AreProvedBehind c b.entries more all
  pub blocks : FromBlocks c a none all rest

-- one block with a refutation more
abbrev holds_more : Counts → Counts
holds_more t = record t { holds = t.holds + 1 }

abbrev lassos_more : Counts → Counts
lassos_more t = record t { lassos = t.lassos + 1 }

abbrev open_more : Counts → Counts
open_more t = record t { unknown = t.unknown + 1 }

-- the lines of a refutation of the next property, and the other blocks
pub record FromRefutation (c : Circuit) (a : Accepted) (t : Counts) (entries : List Entry) (left : List (List ℕ)) : Type 0 where
  pub refutation : Refutation
  pub rest : List (List ℕ)
  pub spelled : left ≡ refutation_lines (refuting refutation) ++ rest
  pub good : IsGoodBlock c entries (total t) (Holds refutation)
  pub others : FromBlocks c a (holds_more t) entries rest

module _ (c : Circuit) (a : Accepted) where
  -- what follows a refutation, and the dot of a stimulus
  abbrev pub BehindProof : Counts → Body → List (List ℕ) → Type 0
  BehindProof t b rest = FromBlocks c a (holds_more t) b.entries rest

  abbrev pub BehindDot : Counts → List Entry → Stimulus → List (List ℕ) → Type 0
  BehindDot t entries s rest = ((positions : ℕ) × (from : ℕ) × StandsFor c (total t) s positions from) × FromBlocks c a (lassos_more t) entries rest

  abbrev pub Lists : answers.State → List (List ℕ) → Type 0
  Lists (Certified b Start) left = FromListing c a b left
  Lists (Certified b (EntryUses o)) left = Continues c b (EntryUses o) left (FromListing c a)
  Lists (Certified b (EntryClause begun)) left = Continues c b (EntryClause begun) left (FromListing c a)
  Lists (Certified b (EntryProof e i)) left = Continues c b (EntryProof e i) left (FromListing c a)
  Lists (Certified b (EntryLine e i p)) left = Continues c b (EntryLine e i p) left (FromListing c a)
  Lists _ left = ⊥

  abbrev pub Proves : Counts → answers.State → List (List ℕ) → Type 0
  Proves t (Certified b (RefutationUses r)) left = Continues c b (RefutationUses r) left (BehindProof t)
  Proves t (Certified b (RefutationLine p)) left = Continues c b (RefutationLine p) left (BehindProof t)
  Proves t _ left = ⊥

  -- These lines lead from the state to a good end, which is accepted so.
  abbrev pub Completes : State → List (List ℕ) → Type 0
  Completes First left =
      (length c.justice < 2 ^ 63) × (others : List (List ℕ)) × (left ≡ all_line (length c.justice) ∷ version_line ∷ others) × FromListing c a no_entries others
  Completes Versioned left = (others : List (List ℕ)) × (left ≡ version_line ∷ others) × FromListing c a no_entries others
  Completes (Listing s) left = Lists s left
  Completes (Between t entries) left = FromBlocks c a t entries left
  Completes (Refuting t entries) left = FromRefutation c a t entries left
  Completes (Proving t s) left = Proves t s left
  Completes (Showing t entries s) left = Rowing (total t) s left (BehindDot t entries)
  Completes (Done t entries) left = (left ≡ []) × IsGoodAtEnd (Done t entries) a

  abbrev pub Behind : Stepped → List (List ℕ) → Type 0
  Behind (Ok s) left = Completes s left
  Behind (Err fault) left = ⊥

-- ---- how many blocks there are

pub total_one : (t : Counts) (block : Block) → total (and_one t block) ≡ total t + 1
total_one t (Lasso stimulus) = let e : (t.lassos + 1) + t.holds + t.unknown ≡ t.lassos + t.holds + t.unknown + 1 = omega arith in e
total_one t (Holds r) = let e : t.lassos + (t.holds + 1) + t.unknown ≡ t.lassos + t.holds + t.unknown + 1 = omega arith in e
total_one t Open = let e : t.lassos + t.holds + (t.unknown + 1) ≡ t.lassos + t.holds + t.unknown + 1 = omega arith in e

-- a block is owed
owed : (m n k : ℕ) → m + suc k ≡ n → (m == n) ≡ false
owed m n k e = by (m == n) refl
  where
    by : (t : Bool) → (m == n) ≡ t → (m == n) ≡ false
    by true test = let same = eqb-true m n test in absurd (omega (arith, same, e))
    by false test = test

none_owed : (m n : ℕ) → m + 0 ≡ n → (m == n) ≡ true
none_owed m n e = eq-eqb m n (omega (arith, e))

module _ (c : Circuit) (a : Accepted) (entries : List Entry) where
  -- a block in front of the others
  more_blocks : (t : Counts) (block : Block) (left rest : List (List ℕ)) (h : FromBlocks c a (and_one t block) entries rest) → IsGoodBlock c entries (total t) block
      → (AreBlocks (total t + 1) h.blocks rest → AreBlocks (total t) (block ∷ h.blocks) left) → FromBlocks c a t entries left
  more_blocks t block left rest h good spelled =
      let one = total_one t block in
      let each = h.each in
      record {
        blocks = block ∷ h.blocks;
        spelled = spelled (subst (λ n. AreBlocks n h.blocks rest) one h.spelled);
        each = omega (arith, one, each);
        good = (good, subst (λ n. AreGood c entries n h.blocks) one h.good);
        counts = h.counts;
        count = h.count;
      }

  -- and the others behind it
  other_blocks : (t : Counts) (block : Block) (blocks : List Block) (rest : List (List ℕ)) → AreBlocks (total t + 1) blocks rest → total t + suc (length blocks) ≡ length c.justice
      → AreGood c entries (total t + 1) blocks → a.counts ≡ and_all (and_one t block) blocks → a.entries ≡ length entries → FromBlocks c a (and_one t block) entries rest
  other_blocks t block blocks rest spelled each good counts count =
      let one = total_one t block in
      record {
        blocks = blocks;
        spelled = subst (λ n. AreBlocks n blocks rest) (sym one) spelled;
        each = omega (arith, one, each);
        good = subst (λ n. AreGood c entries n blocks) (sym one) good;
        counts = counts;
        count = count;
      }

-- ---- the first line of a block, and the last line

module _ (c : Circuit) (a : Accepted) where
  abbrev open_test : Counts → List Entry → ℕ → Bool → Stepped
  open_test t entries number b = if b then Ok (Between (open_more t) entries) else misplaced number

  abbrev holds_test : Counts → List Entry → ℕ → Bool → Bool → Stepped
  holds_test t entries number b d = if b then Ok (Refuting t entries) else open_test t entries number d

  abbrev lasso_test : Counts → List Entry → ℕ → Bool → Bool → Bool → Stepped
  lasso_test t entries number b d e = if b then Ok (Showing t entries (Latches (total t))) else holds_test t entries number d e

  abbrev total_test : Counts → List Entry → ℕ → List ℕ → Bool → Stepped
  total_test t entries number line b =
      if b then end_step t entries number (word_line_of line)
      else lasso_test t entries number (bytes_eq line (lasso_line (total t))) (bytes_eq line (holds_line (total t))) (bytes_eq line (open_line (total t)))

  holds_is_no_lasso : (n : ℕ) → bytes_eq (holds_line n) (lasso_line n) ≡ false
  holds_is_no_lasso n = refl

  open_is_no_lasso : (n : ℕ) → bytes_eq (open_line n) (lasso_line n) ≡ false
  open_is_no_lasso n = refl

  open_is_no_holds : (n : ℕ) → bytes_eq (open_line n) (holds_line n) ≡ false
  open_is_no_holds n = refl

  same_line : (line word : List ℕ) → line ≡ word → bytes_eq line word ≡ true
  same_line line word e = (bytes_eq-Decides line word).1 e

  other_line : (line other word : List ℕ) → line ≡ other → bytes_eq other word ≡ false → bytes_eq line word ≡ false
  other_line line other word e apart = ap (λ l. bytes_eq l word) e ∙ apart

  between_by : (t : Counts) (entries : List Entry) (number : ℕ) (line : List ℕ) (left : List (List ℕ)) (blocks : List Block) → AreBlocks (total t) blocks (line ∷ left)
      → total t + length blocks ≡ length c.justice → AreGood c entries (total t) blocks → a.counts ≡ and_all t blocks → a.entries ≡ length entries
      → Behind c a (between_step c t entries number line) left
  between_by t entries number line left [] spelled each good counts count =
      let parts = heads line end_line left [] spelled in
      let read : word_line_of line ≡ Some lines.End = word_back line lines.End (record { numbers = tt; spelled = parts.0 }) in
      subst (λ b. Behind c a (total_test t entries number line b) left) (sym (none_owed (total t) (length c.justice) each))
      (subst (λ o. Behind c a (end_step t entries number o) left) (sym read) (parts.1, (counts, count)))
  between_by t entries number line left (Lasso s ∷ blocks) (rows, others, is, (inner, dotted, values), more) each good counts count =
      let n : ℕ = total t in
      let parts = heads line (lasso_line n) left (rows ++ others) is in
      let shown : FromLatches left (BehindDot c a t entries) = record {
        rows = inner;
        rest = others;
        stimulus = s;
        spelled = parts.1 ∙ ap (λ ls. ls ++ others) dotted ∙ append_assoc inner (codes "." ∷ []) others;
        values = values;
        others = (good.0, other_blocks c a entries t (Lasso s) blocks others more each good.1 counts count);
      }
      in
      subst (λ b. Behind c a (total_test t entries number line b) left) (sym (owed n (length c.justice) (length blocks) each))
      (subst (λ b. Behind c a (lasso_test t entries number b (bytes_eq line (holds_line n)) (bytes_eq line (open_line n))) left) (sym (same_line line (lasso_line n) parts.0))
      (refl, shown))
  between_by t entries number line left (Holds r ∷ blocks) (others, is, more) each good counts count =
      let n : ℕ = total t in
      let parts = heads line (holds_line n) left (refutation_lines (refuting r) ++ others) is in
      let proof : FromRefutation c a t entries left = record {
        refutation = r;
        rest = others;
        spelled = parts.1;
        good = good.0;
        others = other_blocks c a entries t (Holds r) blocks others more each good.1 counts count;
      }
      in
      subst (λ b. Behind c a (total_test t entries number line b) left) (sym (owed n (length c.justice) (length blocks) each))
      (subst (λ b. Behind c a (lasso_test t entries number b (bytes_eq line (holds_line n)) (bytes_eq line (open_line n))) left)
      (sym (other_line line (holds_line n) (lasso_line n) parts.0 (holds_is_no_lasso n)))
      (subst (λ b. Behind c a (holds_test t entries number b (bytes_eq line (open_line n))) left) (sym (same_line line (holds_line n) parts.0)) proof))
  between_by t entries number line left (Open ∷ blocks) (others, is, more) each good counts count =
      let n : ℕ = total t in
      let parts = heads line (open_line n) left others is in
      let later : FromBlocks c a (open_more t) entries left =
      subst (λ ls. FromBlocks c a (open_more t) entries ls) (sym parts.1) (other_blocks c a entries t Open blocks others more each good.1 counts count) in
      subst (λ b. Behind c a (total_test t entries number line b) left) (sym (owed n (length c.justice) (length blocks) each))
      (subst (λ b. Behind c a (lasso_test t entries number b (bytes_eq line (holds_line n)) (bytes_eq line (open_line n))) left)
      (sym (other_line line (open_line n) (lasso_line n) parts.0 (open_is_no_lasso n)))
      (subst (λ b. Behind c a (holds_test t entries number b (bytes_eq line (open_line n))) left)
      (sym (other_line line (open_line n) (holds_line n) parts.0 (open_is_no_holds n)))
      (subst (λ b. Behind c a (open_test t entries number b) left) (sym (same_line line (open_line n) parts.0)) later)))

  pub between_on : (t : Counts) (entries : List Entry) (number : ℕ) (line : List ℕ) (left : List (List ℕ)) → FromBlocks c a t entries (line ∷ left)
      → Behind c a (between_step c t entries number line) left
  between_on t entries number line left h = between_by t entries number line left h.blocks h.spelled h.each h.good h.counts h.count

  ended : (t : Counts) (entries : List Entry) (number : ℕ) (line : List ℕ) (left : List (List ℕ)) (o : Option WordLine) → total t ≡ length c.justice → word_line_of line ≡ o
      → Behind c a (end_step t entries number o) left → FromBlocks c a t entries (line ∷ left)
  ended t entries number line left (Some lines.End) all is (none_left, good) = record {
    blocks = [];
    spelled = (λ j. (word_given_line line lines.End is).spelled j ∷ none_left j);
    each = omega (arith, all);
    good = tt;
    counts = good.0;
    count = good.1;
  }
  ended t entries number line left (Some (lines.Version v)) all is h = absurd h
  ended t entries number line left (Some (lines.Opening o)) all is h = absurd h
  ended t entries number line left (Some (lines.Proof m)) all is h = absurd h
  ended t entries number line left (Some (lines.Refutation r)) all is h = absurd h
  ended t entries number line left None all is h = absurd h

  opened : (t : Counts) (entries : List Entry) (number : ℕ) (line : List ℕ) (left : List (List ℕ)) (b : Bool) → bytes_eq line (open_line (total t)) ≡ b
      → Behind c a (open_test t entries number b) left → FromBlocks c a t entries (line ∷ left)
  opened t entries number line left true is h =
      let same : line ≡ open_line (total t) = (bytes_eq-Decides line (open_line (total t))).0 is in
      more_blocks c a entries t Open (line ∷ left) left h tt (λ more. (left, ap (λ l. l ∷ left) same, more))
  opened t entries number line left false is h = absurd h

  refuted : (t : Counts) (entries : List Entry) (number : ℕ) (line : List ℕ) (left : List (List ℕ)) (b : Bool) → bytes_eq line (holds_line (total t)) ≡ b
      → Behind c a (holds_test t entries number b (bytes_eq line (open_line (total t)))) left → FromBlocks c a t entries (line ∷ left)
  refuted t entries number line left true is h =
      let same : line ≡ holds_line (total t) = (bytes_eq-Decides line (holds_line (total t))).0 is in
      more_blocks c a entries t (Holds h.refutation) (line ∷ left) h.rest h.others h.good (λ more. (h.rest, (λ j. same j ∷ h.spelled j), more))
  refuted t entries number line left false is h = opened t entries number line left (bytes_eq line (open_line (total t))) refl h

  shown_one : (t : Counts) (entries : List Entry) (number : ℕ) (line : List ℕ) (left : List (List ℕ)) (b : Bool) → bytes_eq line (lasso_line (total t)) ≡ b
      → Behind c a (lasso_test t entries number b (bytes_eq line (holds_line (total t))) (bytes_eq line (open_line (total t)))) left → FromBlocks c a t entries (line ∷ left)
  shown_one t entries number line left true is (one, h) =
      let same : line ≡ lasso_line (total t) = (bytes_eq-Decides line (lasso_line (total t))).0 is in
      let rows : List (List ℕ) = h.rows ++ codes "." ∷ [] in
      let spelled : left ≡ rows ++ h.rest = h.spelled ∙ sym (append_assoc h.rows (codes "." ∷ []) h.rest) in
      more_blocks c a entries t (Lasso h.stimulus) (line ∷ left) h.rest h.others.1 h.others.0 (λ more. (rows, h.rest, (λ j. same j ∷ spelled j), (h.rows, refl, h.values), more))
  shown_one t entries number line left false is h = refuted t entries number line left (bytes_eq line (holds_line (total t))) refl h

  all_or_owed : (t : Counts) (entries : List Entry) (number : ℕ) (line : List ℕ) (left : List (List ℕ)) (b : Bool) → (total t == length c.justice) ≡ b
      → Behind c a (total_test t entries number line b) left → FromBlocks c a t entries (line ∷ left)
  all_or_owed t entries number line left true is h = ended t entries number line left (word_line_of line) (eqb-true (total t) (length c.justice) is) refl h
  all_or_owed t entries number line left false is h = shown_one t entries number line left (bytes_eq line (lasso_line (total t))) refl h

  pub between_back : (t : Counts) (entries : List Entry) (number : ℕ) (line : List ℕ) (left : List (List ℕ)) → Behind c a (between_step c t entries number line) left
      → FromBlocks c a t entries (line ∷ left)
  between_back t entries number line left h = all_or_owed t entries number line left (total t == length c.justice) refl h

  -- ---- a refutation

  pub refute_on : (t : Counts) (entries : List Entry) (number : ℕ) (line : List ℕ) (left : List (List ℕ)) → FromRefutation c a t entries (line ∷ left)
      → Behind c a (refute_step t entries number (word_line_of line)) left
  refute_on t entries number line left h =
      let r : Refutation = h.refutation in
      let parts = heads line (word_line_text (refuting_line (refuting r))) left (uses_text (map written r.uses) ∷ (r.proof ++ h.rest)) h.spelled in
      let read : word_line_of line ≡ Some (refuting_line (refuting r)) = word_back line (refuting_line (refuting r)) (record { numbers = h.good.0; spelled = parts.0 }) in
      let both = (faultless_is_good c entries (total t) r.uses r.proof).1 h.good.2 in
      let from : FromRefuting c (over (total t) entries) (record { uses = length r.uses; proof_lines = length r.proof }) left (BehindProof c a t) = record {
        uses = r.uses;
        proof = r.proof;
        rest = h.rest;
        spelled = parts.1;
        signs = h.good.1;
        count = refl;
        lines = refl;
        fit = both.0;
        passes = both.1;
        others = h.others;
      }
      in
      subst (λ o. Behind c a (refute_step t entries number o) left) (sym read) from

  refute_from : (t : Counts) (entries : List Entry) (number : ℕ) (line : List ℕ) (left : List (List ℕ)) (o : Option WordLine) → word_line_of line ≡ o
      → Behind c a (refute_step t entries number o) left → FromRefutation c a t entries (line ∷ left)
  refute_from t entries number line left (Some (lines.Refutation r)) is h =
      let given = word_given_line line (lines.Refutation r) is in
      let numbers : IsNumber r.uses × IsNumber r.proof_lines = given.numbers in
      let text : line ≡ word_line_text (lines.Refutation (record { uses = length h.uses; proof_lines = length h.proof })) =
      given.spelled ∙ (λ j. word_line_text (lines.Refutation (record { uses = sym h.count j; proof_lines = sym h.lines j }))) in
      record {
        refutation = record { uses = h.uses; proof = h.proof };
        rest = h.rest;
        spelled = λ j. text j ∷ h.spelled j;
        good = (
          (subst IsNumber (sym h.count) numbers.0, subst IsNumber (sym h.lines) numbers.1),
          h.signs,
          (faultless_is_good c entries (total t) h.uses h.proof).0 (h.fit, h.passes),
        );
        others = h.others;
      }
  refute_from t entries number line left (Some (lines.Version v)) is h = absurd h
  refute_from t entries number line left (Some (lines.Opening o)) is h = absurd h
  refute_from t entries number line left (Some (lines.Proof m)) is h = absurd h
  refute_from t entries number line left (Some lines.End) is h = absurd h
  refute_from t entries number line left None is h = absurd h

  pub refute_back : (t : Counts) (entries : List Entry) (number : ℕ) (line : List ℕ) (left : List (List ℕ)) → Behind c a (refute_step t entries number (word_line_of line)) left
      → FromRefutation c a t entries (line ∷ left)
  refute_back t entries number line left h = refute_from t entries number line left (word_line_of line) refl h

  abbrev proof_step_of : Counts → answers.Stepped → Stepped
  proof_step_of t r = after_answer (proved t) (refuting_fault (total t)) r

  proved_on : (t : Counts) (r : answers.Stepped) (left : List (List ℕ)) → Within IsProved r → After c r left (BehindProof c a t) → Behind c a (proof_step_of t r) left
  proved_on t (Ok (Certified b Last)) left well h = h
  proved_on t (Ok (Certified b (RefutationUses r))) left well h = h
  proved_on t (Ok (Certified b (RefutationLine p))) left well h = h
  proved_on t (Ok (Certified b Start)) left well h = absurd well
  proved_on t (Ok (Certified b (EntryUses o))) left well h = absurd well
  proved_on t (Ok (Certified b (EntryClause begun))) left well h = absurd well
  proved_on t (Ok (Certified b (EntryProof e i))) left well h = absurd well
  proved_on t (Ok (Certified b (EntryLine e i p))) left well h = absurd well
  proved_on t (Ok answers.Status) left well h = absurd well
  proved_on t (Ok (answers.Property claim)) left well h = absurd well
  proved_on t (Ok (Latches n)) left well h = absurd well
  proved_on t (Ok (Rows n s)) left well h = absurd well
  proved_on t (Ok (Dotted n s)) left well h = absurd well
  proved_on t (Ok (answers.Versioned n)) left well h = absurd well
  proved_on t (Ok (answers.Ended b)) left well h = absurd well
  proved_on t (Err fault) left well h = absurd h

  proved_from : (t : Counts) (r : answers.Stepped) (left : List (List ℕ)) → Within IsProved r → Behind c a (proof_step_of t r) left → After c r left (BehindProof c a t)
  proved_from t (Ok (Certified b Last)) left well h = h
  proved_from t (Ok (Certified b (RefutationUses r))) left well h = h
  proved_from t (Ok (Certified b (RefutationLine p))) left well h = h
  proved_from t (Ok (Certified b Start)) left well h = absurd well
  proved_from t (Ok (Certified b (EntryUses o))) left well h = absurd well
  proved_from t (Ok (Certified b (EntryClause begun))) left well h = absurd well
  proved_from t (Ok (Certified b (EntryProof e i))) left well h = absurd well
  proved_from t (Ok (Certified b (EntryLine e i p))) left well h = absurd well
  proved_from t (Ok answers.Status) left well h = absurd well
  proved_from t (Ok (answers.Property claim)) left well h = absurd well
  proved_from t (Ok (Latches n)) left well h = absurd well
  proved_from t (Ok (Rows n s)) left well h = absurd well
  proved_from t (Ok (Dotted n s)) left well h = absurd well
  proved_from t (Ok (answers.Versioned n)) left well h = absurd well
  proved_from t (Ok (answers.Ended b)) left well h = absurd well
  proved_from t (Err fault) left well h = absurd h

  pub prove_on : (t : Counts) (s : answers.State) (number : ℕ) (line : List ℕ) (left : List (List ℕ)) → Proves c a t s (line ∷ left)
      → Behind c a (proof_step_of t (answers.step c s number line)) left
  prove_on t (Certified b (RefutationUses r)) number line left h =
      proved_on t (answers.step c (Certified b (RefutationUses r)) number line) left (proving_well c (Certified b (RefutationUses r)) number line tt)
      (refuting_uses_on c b (BehindProof c a t) r number line left h)
  prove_on t (Certified b (RefutationLine p)) number line left h =
      proved_on t (answers.step c (Certified b (RefutationLine p)) number line) left (proving_well c (Certified b (RefutationLine p)) number line tt)
      (refuting_line_on c b (BehindProof c a t) p line left h)
  prove_on t (Certified b Start) number line left h = absurd h
  prove_on t (Certified b (EntryUses o)) number line left h = absurd h
  prove_on t (Certified b (EntryClause begun)) number line left h = absurd h
  prove_on t (Certified b (EntryProof e i)) number line left h = absurd h
  prove_on t (Certified b (EntryLine e i p)) number line left h = absurd h
  prove_on t (Certified b Last) number line left h = absurd h
  prove_on t answers.Status number line left h = absurd h
  prove_on t (answers.Property claim) number line left h = absurd h
  prove_on t (Latches n) number line left h = absurd h
  prove_on t (Rows n s) number line left h = absurd h
  prove_on t (Dotted n s) number line left h = absurd h
  prove_on t (answers.Versioned n) number line left h = absurd h
  prove_on t (answers.Ended b) number line left h = absurd h

  pub prove_back : (t : Counts) (s : answers.State) (number : ℕ) (line : List ℕ) (left : List (List ℕ)) → IsProof s
      → Behind c a (proof_step_of t (answers.step c s number line)) left → Proves c a t s (line ∷ left)
  prove_back t (Certified b (RefutationUses r)) number line left well h =
      refuting_uses_back c b (BehindProof c a t) r number line left
      (proved_from t (answers.step c (Certified b (RefutationUses r)) number line) left (proving_well c (Certified b (RefutationUses r)) number line tt) h)
  prove_back t (Certified b (RefutationLine p)) number line left well h =
      refuting_line_back c b (BehindProof c a t) p line left
      (proved_from t (answers.step c (Certified b (RefutationLine p)) number line) left (proving_well c (Certified b (RefutationLine p)) number line tt) h)
  prove_back t (Certified b Start) number line left well h = absurd well
  prove_back t (Certified b (EntryUses o)) number line left well h = absurd well
  prove_back t (Certified b (EntryClause begun)) number line left well h = absurd well
  prove_back t (Certified b (EntryProof e i)) number line left well h = absurd well
  prove_back t (Certified b (EntryLine e i p)) number line left well h = absurd well
  prove_back t (Certified b Last) number line left well h = absurd well
  prove_back t answers.Status number line left well h = absurd well
  prove_back t (answers.Property claim) number line left well h = absurd well
  prove_back t (Latches n) number line left well h = absurd well
  prove_back t (Rows n s) number line left well h = absurd well
  prove_back t (Dotted n s) number line left well h = absurd well
  prove_back t (answers.Versioned n) number line left well h = absurd well
  prove_back t (answers.Ended b) number line left well h = absurd well
