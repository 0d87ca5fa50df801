-- The line that opens an entry or the refutation.
use Rattle.std.proofs.Common.{◌≡◌, ℕ, suc, ◌+◌, ◌<◌, ◌≤◌, Bool, true, false, List, [], ◌∷◌, ◌++◌, map, length, flat_map, refl, sym, ap, subst, ◌∙◌, arith, append_assoc, length-append, Some, None, Option, Ok, Err, All}
use Rattle.std.specs.Prelude.{if◌then◌else◌, nat_lt}
use Rattle.std.proofs.lemmas.Bool.{lt-ltb, ltb-true}
use Rattle.std.proofs.lemmas.List.Elements.{All-cons, All-nil, All-head, All-tail}
use Rattle.aig_semantics.specs.Circuits.{Circuit}
use Rattle.fair_semantics.specs.declared.entries.Use.{Use}
use Rattle.fair_semantics.specs.Entries.{Entry}
use Rattle.certificate_lines.specs.declared.words.Opening.{Opening}
use Rattle.certificate_lines.specs.declared.words.Refutation.{Refutation as Refuting}
use Rattle.certificate_lines.specs.declared.words.WordLine.{WordLine}
use Rattle.certificate_lines.specs.declared.words.WordLine.TheVariants as lines
use Rattle.certificate_lines.specs.Fields.{IsNumber}
use Rattle.certificate_lines.specs.Words.{word_line_text, word_line_of, HasNumbers, IsWordLine}
use Rattle.certificate_lines.specs.Uses.{uses_text, MayStand, written}
use Rattle.certificate_lines.specs.Clauses.{clause_text}
use Rattle.certificate_lines.proofs.WordLaws.{word_given_line, word_back}
use Rattle.certificate.specs.declared.limits.TheConstants.{MAX_ENTRIES}
use Rattle.certificate.specs.declared.ends.Accepted.{Accepted}
use Rattle.certificate.specs.declared.ends.AnswerFault.TheVariants as faults
use Rattle.certificate_texts.specs.declared.certificates.Written.{Written}
use Rattle.certificate_texts.specs.Certificates.{proof_lines, opening_line, entry_lines, CanBeWritten}
use Rattle.certificate.specs.Certificates.{entry_with, AreProvedBehind}
use Rattle.certificate.specs.Refuted.{IsRefutation, may_open}
use Rattle.certificate.specs.Reading.{Body, Start, EntryUses, Certified, Ended, with_entry, open_step, start_step, begin_entry}
use Rattle.certificate.specs.Ends.{IsGoodAtEnd}
use Rattle.certificate.proofs.Completing.{end_line, refuting_of, rest_lines, FromStart, ProofsTail, ClausesTail, FromUses, FromRefuting, Continues, After}
use Rattle.certificate.proofs.CompletingProofs.{heads}
use Rattle.certificate.proofs.StateRefutations.{faultless_refutes}
use Rattle.certificate.proofs.CompletingEntries.{clauses_over, as_many, passes_each, proved_by_each}

-- the lines of an entry behind its first two, and what follows them
pub regrouped : (clauses proofs more rest : List (List ℕ)) → ((clauses ++ proofs) ++ more) ++ rest ≡ clauses ++ (proofs ++ (more ++ rest))
regrouped clauses proofs more rest =
    append_assoc (clauses ++ proofs) more rest ∙ append_assoc clauses proofs (more ++ rest)

pub few_more : (more : List Written) (n limit : ℕ) → n < limit → (0 < length more → (n + 1) + length more ≤ limit) → n + suc (length more) ≤ limit
few_more [] n limit room h = omega (arith, room)
few_more (e ∷ more) n limit room h = let r : (n + 1) + suc (length more) ≤ limit = h (omega arith) in omega (arith, r)

module _ (c : Circuit) (b : Body) (a : Accepted) where
  -- the refutation
  start_refuting : (number : ℕ) (line : List ℕ) (left : List (List ℕ)) (uses : List Use) (proof : List (List ℕ)) (all : List Entry)
      → line ∷ left ≡ rest_lines [] uses proof → HasNumbers (refuting_of uses proof) → All (MayStand b.version) (map written uses) → all ≡ b.entries
      → IsRefutation c b.refuted all b.property uses proof → IsGoodAtEnd c (Ended (record b { entries = all })) a
      → After c (start_step b number (word_line_of line)) left a
  start_refuting number line left uses proof all spelled sizes signs same refuted end =
      let parts = heads line (word_line_text (refuting_of uses proof)) left (uses_text (map written uses) ∷ (proof ++ end_line ∷ [])) spelled in
      let read : word_line_of line ≡ Some (refuting_of uses proof) = word_back line (refuting_of uses proof) (record { numbers = sizes; spelled = parts.0 }) in
      let good : IsRefutation c b.refuted b.entries b.property uses proof = subst (λ es. IsRefutation c b.refuted es b.property uses proof) same refuted in
      let both = (faultless_refutes c b.refuted b.entries b.property uses proof).1 good in
      let from : FromRefuting c b (record { uses = length uses; proof_lines = length proof }) left a = record {
        uses = uses;
        proof = proof;
        spelled = parts.1;
        signs = signs;
        count = refl;
        lines = refl;
        fit = both.0;
        passes = both.1;
        end = subst (λ es. IsGoodAtEnd c (Ended (record b { entries = es })) a) same end;
      }
      in
      subst (λ o. After c (start_step b number o) left a) (sym read) from

  -- an entry
  start_opening : (number : ℕ) (line : List ℕ) (left : List (List ℕ)) (e : Written) (more : List Written) (uses : List Use) (proof : List (List ℕ)) (all : List Entry)
      → line ∷ left ≡ rest_lines (e ∷ more) uses proof → All (λ x. may_open b.refuted x.kind ≡ true) (e ∷ more) → All (CanBeWritten b.version) (e ∷ more)
      → HasNumbers (refuting_of uses proof)
      → All (MayStand b.version) (map written uses) → length b.entries + suc (length more) ≤ MAX_ENTRIES
      → AreProvedBehind c b.entries (e ∷ more) all → IsRefutation c b.refuted all b.property uses proof → IsGoodAtEnd c (Ended (record b { entries = all })) a
      → After c (start_step b number (word_line_of line)) left a
  start_opening number line left e more uses proof all spelled kinds form sizes signs few (clauses, are, is_proved, proved) refuted end =
      let May : Written → Type 0 = λ x. may_open b.refuted x.kind ≡ true in
      let can : CanBeWritten b.version e = All-head (CanBeWritten b.version) e more form in
      let entry : Entry = entry_with e clauses in
      let refuting : List (List ℕ) = rest_lines [] uses proof in
      let tail : List (List ℕ) = map clause_text e.clauses ++ flat_map proof_lines e.proofs in
      let parts = heads line (word_line_text (opening_line e)) left (uses_text (map written e.uses) ∷ ((tail ++ flat_map entry_lines more) ++ refuting)) spelled in
      let read : word_line_of line ≡ Some (opening_line e) = word_back line (opening_line e) (record { numbers = can.sizes; spelled = parts.0 }) in
      let room : nat_lt (length b.entries) MAX_ENTRIES ≡ true = lt-ltb (length b.entries) MAX_ENTRIES (omega (arith, few)) in
      let o : Opening = record { kind = e.kind; clauses = length e.clauses; uses = length e.uses } in
      let each = passes_each c b.entries entry e.proofs is_proved in
      let many : length e.clauses ≡ length clauses = as_many c e.clauses clauses are in
      let others : FromStart c (with_entry b entry) (rest_lines more uses proof) a = record {
        more = more;
        uses = uses;
        proof = proof;
        spelled = refl;
        kinds = All-tail May e more kinds;
        form = All-tail (CanBeWritten b.version) e more form;
        sizes = sizes;
        signs = signs;
        few = λ some. omega (arith, few, length-append b.entries (entry ∷ []));
        all = all;
        proved = proved;
        refuted = refuted;
        end = end;
      }
      in
      let proofs : ProofsTail c b entry 0 (flat_map proof_lines e.proofs ++ rest_lines more uses proof) a = record {
        proofs = e.proofs;
        rest = rest_lines more uses proof;
        spelled = refl;
        sizes = can.proofs;
        count = let n : length e.proofs ≡ length clauses = is_proved.each.count in omega (arith, n);
        passes = each.2;
        others = others;
      }
      in
      let rest : ClausesTail c b (begin_entry o e.uses) ((tail ++ flat_map entry_lines more) ++ refuting) a = record {
        literals = e.clauses;
        clauses = clauses;
        rest = flat_map proof_lines e.proofs ++ rest_lines more uses proof;
        spelled = regrouped (map clause_text e.clauses) (flat_map proof_lines e.proofs) (flat_map entry_lines more) refuting;
        numbers = can.literals;
        are = are;
        based = each.1;
        count = omega (arith, many);
        proofs = proofs;
      }
      in
      let from : FromUses c b o left a = record {
        uses = e.uses;
        rest = (tail ++ flat_map entry_lines more) ++ refuting;
        spelled = parts.1;
        signs = can.uses;
        count = refl;
        fit = each.0;
        clauses = rest;
      }
      in
      subst (λ r. After c (start_step b number r) left a) (sym read)
      (subst (λ t. After c (if t then open_step b o else Err (faults.Shape number)) left a) (sym (All-head May e more kinds))
      (subst (λ t. After c (if t then Ok (Certified b (EntryUses o)) else Err faults.TooLong) left a) (sym room) from))

  start_by : (number : ℕ) (line : List ℕ) (left : List (List ℕ)) (more : List Written) (uses : List Use) (proof : List (List ℕ)) (all : List Entry)
      → line ∷ left ≡ rest_lines more uses proof → All (λ x. may_open b.refuted x.kind ≡ true) more → All (CanBeWritten b.version) more
      → HasNumbers (refuting_of uses proof)
      → All (MayStand b.version) (map written uses) → (0 < length more → length b.entries + length more ≤ MAX_ENTRIES)
      → AreProvedBehind c b.entries more all → IsRefutation c b.refuted all b.property uses proof → IsGoodAtEnd c (Ended (record b { entries = all })) a
      → After c (start_step b number (word_line_of line)) left a
  start_by number line left [] uses proof all spelled kinds form sizes signs few proved refuted end =
      start_refuting number line left uses proof all spelled sizes signs proved refuted end
  start_by number line left (e ∷ more) uses proof all spelled kinds form sizes signs few proved refuted end =
      start_opening number line left e more uses proof all spelled kinds form sizes signs (few (omega arith)) proved refuted end

  pub start_on : (number : ℕ) (line : List ℕ) (left : List (List ℕ)) → Continues c b Start (line ∷ left) a → After c (start_step b number (word_line_of line)) left a
  start_on number line left h = start_by number line left h.more h.uses h.proof h.all h.spelled h.kinds h.form h.sizes h.signs h.few h.proved h.refuted h.end

  refutation_begun : (line : List ℕ) (left : List (List ℕ)) (r : Refuting) → IsWordLine line (lines.Refutation r) → FromRefuting c b r left a
      → Continues c b Start (line ∷ left) a
  refutation_begun line left r is h =
      let text : line ≡ word_line_text (refuting_of h.uses h.proof) =
      is.spelled ∙ (λ j. word_line_text (lines.Refutation (record { uses = sym h.count j; proof_lines = sym h.lines j }))) in
      let numbers : IsNumber r.uses × IsNumber r.proof_lines = is.numbers in
      record {
        more = [];
        uses = h.uses;
        proof = h.proof;
        spelled = λ j. text j ∷ h.spelled j;
        kinds = All-nil (λ x. may_open b.refuted x.kind ≡ true);
        form = All-nil (CanBeWritten b.version);
        sizes = (subst IsNumber (sym h.count) numbers.0, subst IsNumber (sym h.lines) numbers.1);
        signs = h.signs;
        few = λ some. absurd (omega (arith, some));
        all = b.entries;
        proved = refl;
        refuted = (faultless_refutes c b.refuted b.entries b.property h.uses h.proof).0 (h.fit, h.passes);
        end = h.end;
      }

  entry_begun : (line : List ℕ) (left : List (List ℕ)) (o : Opening) → IsWordLine line (lines.Opening o) → may_open b.refuted o.kind ≡ true
      → length b.entries < MAX_ENTRIES → FromUses c b o left a → Continues c b Start (line ∷ left) a
  entry_begun line left o is may room h =
      let cl : ClausesTail c b (begin_entry o h.uses) h.rest a = h.clauses in
      let pr : ProofsTail c b (record { kind = o.kind; clauses = cl.clauses; uses = h.uses }) 0 cl.rest a = cl.proofs in
      let entry : Entry = record { kind = o.kind; clauses = cl.clauses; uses = h.uses } in
      let others : FromStart c (with_entry b entry) pr.rest a = pr.others in
      let e : Written = record { kind = o.kind; clauses = cl.literals; uses = h.uses; proofs = pr.proofs } in
      let n : 0 + length cl.clauses ≡ o.clauses = cl.count in
      let both : length cl.literals ≡ length cl.clauses = as_many c cl.literals cl.clauses cl.are in
      let many : length cl.literals ≡ o.clauses = omega (arith, n, both) in
      let proofs : length pr.proofs ≡ length cl.clauses = let m : 0 + length pr.proofs ≡ length cl.clauses = pr.count in omega (arith, m) in
      let numbers : IsNumber o.clauses × IsNumber o.uses = is.numbers in
      let text : line ≡ word_line_text (opening_line e) =
      is.spelled ∙ (λ j. word_line_text (lines.Opening (record { kind = o.kind; clauses = sym many j; uses = sym h.count j }))) in
      let clause_lines = map clause_text cl.literals in
      let all_lines = flat_map proof_lines pr.proofs in
      let refuting = rest_lines [] others.uses others.proof in
      let behind : h.rest ≡ ((clause_lines ++ all_lines) ++ flat_map entry_lines others.more) ++ refuting =
      cl.spelled ∙ ap (λ ls. clause_lines ++ ls) (pr.spelled ∙ ap (λ ls. all_lines ++ ls) others.spelled)
      ∙ sym (regrouped clause_lines all_lines (flat_map entry_lines others.more) refuting) in
      let under : left ≡ uses_text (map written h.uses) ∷ (((clause_lines ++ all_lines) ++ flat_map entry_lines others.more) ++ refuting) =
      h.spelled ∙ ap (λ ls. uses_text (map written h.uses) ∷ ls) behind in
      let can : CanBeWritten b.version e = record {
        sizes = (subst IsNumber (sym many) numbers.0, subst IsNumber (sym h.count) numbers.1);
        uses = h.signs;
        literals = cl.numbers;
        proofs = pr.sizes;
      }
      in
      let longer = length-append b.entries (entry ∷ []) in
      record {
        more = e ∷ others.more;
        uses = others.uses;
        proof = others.proof;
        spelled = λ j. text j ∷ under j;
        kinds = All-cons (λ x. may_open b.refuted x.kind ≡ true) e others.more may others.kinds;
        form = All-cons (CanBeWritten b.version) e others.more can others.form;
        sizes = others.sizes;
        signs = others.signs;
        few = λ some. few_more others.more (length b.entries) MAX_ENTRIES room (λ more. let r = others.few more in omega (arith, r, longer));
        all = others.all;
        proved = (cl.clauses, cl.are, proved_by_each c b.entries entry pr.proofs (clauses_over c cl.literals cl.clauses cl.are) proofs (h.fit, cl.based, pr.passes), others.proved);
        refuted = others.refuted;
        end = others.end;
      }

  start_opened : (line : List ℕ) (left : List (List ℕ)) (o : Opening) → IsWordLine line (lines.Opening o) → may_open b.refuted o.kind ≡ true
      → (t : Bool) → nat_lt (length b.entries) MAX_ENTRIES ≡ t
      → After c (if t then Ok (Certified b (EntryUses o)) else Err faults.TooLong) left a → Continues c b Start (line ∷ left) a
  start_opened line left o is may true test h = entry_begun line left o is may (ltb-true (length b.entries) MAX_ENTRIES test) h
  start_opened line left o is may false test h = absurd h

  start_allowed : (number : ℕ) (line : List ℕ) (left : List (List ℕ)) (o : Opening) → IsWordLine line (lines.Opening o)
      → (t : Bool) → may_open b.refuted o.kind ≡ t
      → After c (if t then open_step b o else Err (faults.Shape number)) left a → Continues c b Start (line ∷ left) a
  start_allowed number line left o is true test h = start_opened line left o is test (nat_lt (length b.entries) MAX_ENTRIES) refl h
  start_allowed number line left o is false test h = absurd h

  start_from : (number : ℕ) (line : List ℕ) (left : List (List ℕ)) (r : Option WordLine) → word_line_of line ≡ r → After c (start_step b number r) left a
      → Continues c b Start (line ∷ left) a
  start_from number line left (Some (lines.Opening o)) is h =
      start_allowed number line left o (word_given_line line (lines.Opening o) is) (may_open b.refuted o.kind) refl h
  start_from number line left (Some (lines.Refutation r)) is h = refutation_begun line left r (word_given_line line (lines.Refutation r) is) h
  start_from number line left (Some (lines.Version v)) is h = absurd h
  start_from number line left (Some (lines.Proof n)) is h = absurd h
  start_from number line left (Some lines.End) is h = absurd h
  start_from number line left None is h = absurd h

  pub start_back : (number : ℕ) (line : List ℕ) (left : List (List ℕ)) → After c (start_step b number (word_line_of line)) left a → Continues c b Start (line ∷ left) a
  start_back number line left h = start_from number line left (word_line_of line) refl h
