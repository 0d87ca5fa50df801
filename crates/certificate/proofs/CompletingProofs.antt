-- One line of a proof, of an entry or of the refutation.
use Rattle.std.proofs.Common.{◌≡◌, ℕ, suc, ◌+◌, Bool, true, false, List, [], ◌∷◌, ◌++◌, length, flat_map, refl, sym, ap, subst, ◌∙◌, arith, append_assoc, Some, None, Option, Ok, Err, Result, All}
use Rattle.std.specs.Prelude.{◌==◌, if◌then◌else◌}
use Rattle.std.proofs.lemmas.Bool.{eqb-true, eq-eqb, false≢true}
use Rattle.std.proofs.lemmas.List.Elements.{All-cons, All-nil, All-head, All-tail}
use Rattle.aig_semantics.specs.Circuits.{Circuit}
use Rattle.proof_semantics.specs.declared.faults.LratFault.{LratFault}
use Rattle.proof_semantics.specs.declared.faults.LratFault.TheVariants.{Unfinished}
use Rattle.proof_semantics.specs.Proofs.{ProofState, judge}
use Rattle.fair_semantics.specs.Entries.{Entry}
use Rattle.certificate_lines.specs.declared.words.WordLine.{WordLine}
use Rattle.certificate_lines.specs.declared.words.WordLine.TheVariants as lines
use Rattle.certificate_lines.specs.Fields.{IsNumber}
use Rattle.certificate_lines.specs.Words.{word_line_text, word_line_of}
use Rattle.certificate_lines.proofs.WordLaws.{word_given_line, word_back}
use Rattle.entry.specs.declared.faults.EntryFault.TheVariants.{Proof}
use Rattle.entry.specs.Faults.{unfinished_at, line_fault, fault_from, proof_fault, clause_fault, proofs_fault}
use Rattle.entry.specs.Proved.{obligation_of}
use Rattle.entry.proofs.Faultless.{finished-from_none, clause-none}
use Rattle.certificate.specs.declared.ends.Accepted.{Accepted}
use Rattle.certificate.specs.declared.ends.AnswerFault.TheVariants as faults
use Rattle.certificate_texts.specs.Certificates.{proof_lines}
use Rattle.certificate.specs.Reading.{Body, Proving, Start, EntryProof, EntryLine, RefutationLine, Last, Certified, Ended, with_entry, entry_fault, next_proof, next_line, next_refuting_line, begin_proof, with_line, proof_step, line_step, refuting_step, last_step}
use Rattle.certificate.specs.Ends.{IsGoodAtEnd}
use Rattle.certificate.proofs.Completing.{end_line, FromStart, ProofsTail, LinesTail, RefutationTail, Continues, After}

pub heads : {A : Type 0} → (x y : A) (xs ys : List A) → x ∷ xs ≡ y ∷ ys → (x ≡ y) × (xs ≡ ys)
heads x y xs ys e = (cc, cc)

pub differs : (m n : ℕ) → (m == n) ≡ false → m ≡ n → ⊥
differs m n test same = false≢true (sym test ∙ eq-eqb m n same)

-- ---- the refutation

module _ (c : Circuit) (b : Body) (a : Accepted) where
  refuting_next_by : (p : Proving) (left proof : List (List ℕ)) → left ≡ proof ++ end_line ∷ [] → p.read + length proof ≡ p.count
      → fault_from p.read p.state proof ≡ None → IsGoodAtEnd c (Ended b) a → (t : Bool) → (p.read == p.count) ≡ t
      → After c (if t then (if p.state.finished then Ok (Certified b Last) else Err (faults.Refutation p.count Unfinished)) else Ok (Certified b (RefutationLine p))) left a
  refuting_next_by p left [] spelled count passes end true test =
      subst (λ f. After c (if f then Ok (Certified b Last) else Err (faults.Refutation p.count Unfinished)) left a) (sym (finished-from_none p.read p.state.finished passes)) (spelled, end)
  refuting_next_by p left (line ∷ more) spelled count passes end true test = absurd (omega (arith, eqb-true p.read p.count test, count))
  refuting_next_by p left proof spelled count passes end false test =
      (record { proof = proof; spelled = spelled; count = count; passes = passes; end = end }, differs p.read p.count test)

  pub refuting_next : (p : Proving) (left : List (List ℕ)) → RefutationTail c b p left a → After c (next_refuting_line b p) left a
  refuting_next p left h = refuting_next_by p left h.proof h.spelled h.count h.passes h.end (p.read == p.count) refl

  refuting_last : (p : Proving) (left : List (List ℕ)) → (p.read == p.count) ≡ true → (f : Bool) → p.state.finished ≡ f
      → After c (if f then Ok (Certified b Last) else Err (faults.Refutation p.count Unfinished)) left a → RefutationTail c b p left a
  refuting_last p left test true is h =
      record { proof = []; spelled = h.0; count = omega (arith, eqb-true p.read p.count test); passes = ap (unfinished_at p.read) is; end = h.1 }
  refuting_last p left test false is h = absurd h

  refuting_from_by : (p : Proving) (left : List (List ℕ)) (t : Bool) → (p.read == p.count) ≡ t
      → After c (if t then (if p.state.finished then Ok (Certified b Last) else Err (faults.Refutation p.count Unfinished)) else Ok (Certified b (RefutationLine p))) left a
      → RefutationTail c b p left a
  refuting_from_by p left true test h = refuting_last p left test p.state.finished refl h
  refuting_from_by p left false test h = h.0

  pub refuting_from : (p : Proving) (left : List (List ℕ)) → After c (next_refuting_line b p) left a → RefutationTail c b p left a
  refuting_from p left h = refuting_from_by p left (p.read == p.count) refl h

  refuting_step_on : (p : Proving) (left more : List (List ℕ)) (r : Result ProofState LratFault) → left ≡ more ++ end_line ∷ []
      → p.read + suc (length more) ≡ p.count → line_fault p.read r (λ t. fault_from (p.read + 1) t more) ≡ None → IsGoodAtEnd c (Ended b) a
      → After c (refuting_step b p r) left a
  refuting_step_on p left more (Ok t) spelled count passes end =
      refuting_next (with_line p t) left (record { proof = more; spelled = spelled; count = omega (arith, count); passes = passes; end = end })
  refuting_step_on p left more (Err fault) spelled count passes end = absurd (cc)

  refuting_line_by : (p : Proving) (line : List ℕ) (left proof : List (List ℕ)) → line ∷ left ≡ proof ++ end_line ∷ [] → p.read + length proof ≡ p.count
      → fault_from p.read p.state proof ≡ None → IsGoodAtEnd c (Ended b) a → (p.read ≡ p.count → ⊥) → After c (refuting_step b p (judge p.state line)) left a
  refuting_line_by p line left [] spelled count passes end other = absurd (other (omega (arith, count)))
  refuting_line_by p line left (first ∷ more) spelled count passes end other =
      let parts = heads line first left (more ++ end_line ∷ []) spelled in
      refuting_step_on p left more (judge p.state line) parts.1 count
      (subst (λ l. line_fault p.read (judge p.state l) (λ t. fault_from (p.read + 1) t more) ≡ None) (sym parts.0) passes) end

  pub refuting_line_on : (p : Proving) (line : List ℕ) (left : List (List ℕ)) → Continues c b (RefutationLine p) (line ∷ left) a
      → After c (refuting_step b p (judge p.state line)) left a
  refuting_line_on p line left (h, other) = refuting_line_by p line left h.proof h.spelled h.count h.passes h.end other

  refuting_line_from : (p : Proving) (line : List ℕ) (left : List (List ℕ)) (r : Result ProofState LratFault) → judge p.state line ≡ r
      → After c (refuting_step b p r) left a → Continues c b (RefutationLine p) (line ∷ left) a
  refuting_line_from p line left (Ok t) is h =
      let tail : RefutationTail c b (with_line p t) left a = refuting_from (with_line p t) left h in
      let count : (p.read + 1) + length tail.proof ≡ p.count = tail.count in (
        record {
          proof = line ∷ tail.proof;
          spelled = ap (λ ls. line ∷ ls) tail.spelled;
          count = omega (arith, count);
          passes = ap (λ r. line_fault p.read r (λ t. fault_from (p.read + 1) t tail.proof)) is ∙ tail.passes;
          end = tail.end;
        },
        λ same. absurd (omega (arith, same, count)),
      )
  refuting_line_from p line left (Err fault) is h = absurd h

  pub refuting_line_back : (p : Proving) (line : List ℕ) (left : List (List ℕ)) → After c (refuting_step b p (judge p.state line)) left a
      → Continues c b (RefutationLine p) (line ∷ left) a
  refuting_line_back p line left h = refuting_line_from p line left (judge p.state line) refl h

  -- the line end
  pub last_on : (number : ℕ) (line : List ℕ) (left : List (List ℕ)) → Continues c b Last (line ∷ left) a → After c (last_step b number (word_line_of line)) left a
  last_on number line left (spelled, end) =
      let parts = heads line end_line left [] spelled in
      let read : word_line_of line ≡ Some lines.End = word_back line lines.End (record { numbers = tt; spelled = parts.0 }) in
      subst (λ r. After c (last_step b number r) left a) (sym read) (parts.1, end)

  last_from : (number : ℕ) (line : List ℕ) (left : List (List ℕ)) (r : Option WordLine) → word_line_of line ≡ r → After c (last_step b number r) left a
      → Continues c b Last (line ∷ left) a
  last_from number line left (Some lines.End) is h = ((λ i. (word_given_line line lines.End is).spelled i ∷ h.0 i), h.1)
  last_from number line left (Some (lines.Version v)) is h = absurd h
  last_from number line left (Some (lines.Opening o)) is h = absurd h
  last_from number line left (Some (lines.Proof n)) is h = absurd h
  last_from number line left (Some (lines.Refutation r)) is h = absurd h
  last_from number line left None is h = absurd h

  pub last_back : (number : ℕ) (line : List ℕ) (left : List (List ℕ)) → After c (last_step b number (word_line_of line)) left a → Continues c b Last (line ∷ left) a
  last_back number line left h = last_from number line left (word_line_of line) refl h

-- ---- the proofs of an entry

pub no_more : {X : Type 0} → (text : X → List (List ℕ)) (i n : ℕ) (xs : List X) (left rest : List (List ℕ)) → left ≡ flat_map text xs ++ rest → i + length xs ≡ n
    → (i == n) ≡ true → left ≡ rest
no_more text i n [] left rest spelled count test = spelled
no_more text i n (x ∷ xs) left rest spelled count test = absurd (omega (arith, eqb-true i n test, count))

module _ (c : Circuit) (b : Body) (e : Entry) (a : Accepted) where
  proof_next_by : (i : ℕ) (left : List (List ℕ)) → ProofsTail c b e i left a → (t : Bool) → (i == length e.clauses) ≡ t
      → After c (if t then Ok (Certified (with_entry b e) Start) else Ok (Certified b (EntryProof e i))) left a
  proof_next_by i left h true test =
      subst (λ ls. FromStart c (with_entry b e) ls a) (sym (no_more proof_lines i (length e.clauses) h.proofs left h.rest h.spelled h.count test)) h.others
  proof_next_by i left h false test = (h, differs i (length e.clauses) test)

  pub proof_next : (i : ℕ) (left : List (List ℕ)) → ProofsTail c b e i left a → After c (next_proof b e i) left a
  proof_next i left h = proof_next_by i left h (i == length e.clauses) refl

  proof_from_by : (i : ℕ) (left : List (List ℕ)) (t : Bool) → (i == length e.clauses) ≡ t
      → After c (if t then Ok (Certified (with_entry b e) Start) else Ok (Certified b (EntryProof e i))) left a → ProofsTail c b e i left a
  proof_from_by i left true test h = record {
    proofs = [];
    rest = left;
    spelled = refl;
    sizes = All-nil (λ proof. IsNumber (length proof));
    count = omega (arith, eqb-true i (length e.clauses) test);
    passes = refl;
    others = h;
  }
  proof_from_by i left false test h = h.0

  pub proof_from : (i : ℕ) (left : List (List ℕ)) → After c (next_proof b e i) left a → ProofsTail c b e i left a
  proof_from i left h = proof_from_by i left (i == length e.clauses) refl h

  line_next_by : (i : ℕ) (p : Proving) (left proof rest : List (List ℕ)) → left ≡ proof ++ rest → p.read + length proof ≡ p.count
      → fault_from p.read p.state proof ≡ None → ProofsTail c b e (i + 1) rest a → (t : Bool) → (p.read == p.count) ≡ t
      → After c (if t then (if p.state.finished then next_proof b e (i + 1) else entry_fault b (Proof i p.count Unfinished)) else Ok (Certified b (EntryLine e i p))) left a
  line_next_by i p left [] rest spelled count passes others true test =
      subst (λ f. After c (if f then next_proof b e (i + 1) else entry_fault b (Proof i p.count Unfinished)) left a) (sym (finished-from_none p.read p.state.finished passes))
      (proof_next (i + 1) left (subst (λ ls. ProofsTail c b e (i + 1) ls a) (sym spelled) others))
  line_next_by i p left (line ∷ more) rest spelled count passes others true test = absurd (omega (arith, eqb-true p.read p.count test, count))
  line_next_by i p left proof rest spelled count passes others false test =
      (record { proof = proof; rest = rest; spelled = spelled; count = count; passes = passes; others = others }, differs p.read p.count test)

  pub line_next : (i : ℕ) (p : Proving) (left : List (List ℕ)) → LinesTail c b e i p left a → After c (next_line b e i p) left a
  line_next i p left h = line_next_by i p left h.proof h.rest h.spelled h.count h.passes h.others (p.read == p.count) refl

  line_last : (i : ℕ) (p : Proving) (left : List (List ℕ)) → (p.read == p.count) ≡ true → (f : Bool) → p.state.finished ≡ f
      → After c (if f then next_proof b e (i + 1) else entry_fault b (Proof i p.count Unfinished)) left a → LinesTail c b e i p left a
  line_last i p left test true is h = record {
    proof = [];
    rest = left;
    spelled = refl;
    count = omega (arith, eqb-true p.read p.count test);
    passes = ap (unfinished_at p.read) is;
    others = proof_from (i + 1) left h;
  }
  line_last i p left test false is h = absurd h

  line_from_by : (i : ℕ) (p : Proving) (left : List (List ℕ)) (t : Bool) → (p.read == p.count) ≡ t
      → After c (if t then (if p.state.finished then next_proof b e (i + 1) else entry_fault b (Proof i p.count Unfinished)) else Ok (Certified b (EntryLine e i p))) left a
      → LinesTail c b e i p left a
  line_from_by i p left true test h = line_last i p left test p.state.finished refl h
  line_from_by i p left false test h = h.0

  pub line_from : (i : ℕ) (p : Proving) (left : List (List ℕ)) → After c (next_line b e i p) left a → LinesTail c b e i p left a
  line_from i p left h = line_from_by i p left (p.read == p.count) refl h

  line_step_on : (i : ℕ) (p : Proving) (left more rest : List (List ℕ)) (r : Result ProofState LratFault) → left ≡ more ++ rest
      → p.read + suc (length more) ≡ p.count → line_fault p.read r (λ t. fault_from (p.read + 1) t more) ≡ None → ProofsTail c b e (i + 1) rest a
      → After c (line_step b e i p r) left a
  line_step_on i p left more rest (Ok t) spelled count passes others =
      line_next i (with_line p t) left (record { proof = more; rest = rest; spelled = spelled; count = omega (arith, count); passes = passes; others = others })
  line_step_on i p left more rest (Err fault) spelled count passes others = absurd (cc)

  line_line_by : (i : ℕ) (p : Proving) (line : List ℕ) (left proof rest : List (List ℕ)) → line ∷ left ≡ proof ++ rest → p.read + length proof ≡ p.count
      → fault_from p.read p.state proof ≡ None → ProofsTail c b e (i + 1) rest a → (p.read ≡ p.count → ⊥) → After c (line_step b e i p (judge p.state line)) left a
  line_line_by i p line left [] rest spelled count passes others other = absurd (other (omega (arith, count)))
  line_line_by i p line left (first ∷ more) rest spelled count passes others other =
      let parts = heads line first left (more ++ rest) spelled in
      line_step_on i p left more rest (judge p.state line) parts.1 count
      (subst (λ l. line_fault p.read (judge p.state l) (λ t. fault_from (p.read + 1) t more) ≡ None) (sym parts.0) passes) others

  pub entry_line_on : (i : ℕ) (p : Proving) (line : List ℕ) (left : List (List ℕ)) → Continues c b (EntryLine e i p) (line ∷ left) a
      → After c (line_step b e i p (judge p.state line)) left a
  entry_line_on i p line left (h, other) = line_line_by i p line left h.proof h.rest h.spelled h.count h.passes h.others other

  entry_line_from : (i : ℕ) (p : Proving) (line : List ℕ) (left : List (List ℕ)) (r : Result ProofState LratFault) → judge p.state line ≡ r
      → After c (line_step b e i p r) left a → Continues c b (EntryLine e i p) (line ∷ left) a
  entry_line_from i p line left (Ok t) is h =
      let tail : LinesTail c b e i (with_line p t) left a = line_from i (with_line p t) left h in
      let count : (p.read + 1) + length tail.proof ≡ p.count = tail.count in (
        record {
          proof = line ∷ tail.proof;
          rest = tail.rest;
          spelled = ap (λ ls. line ∷ ls) tail.spelled;
          count = omega (arith, count);
          passes = ap (λ r. line_fault p.read r (λ t. fault_from (p.read + 1) t tail.proof)) is ∙ tail.passes;
          others = tail.others;
        },
        λ same. absurd (omega (arith, same, count)),
      )
  entry_line_from i p line left (Err fault) is h = absurd h

  pub entry_line_back : (i : ℕ) (p : Proving) (line : List ℕ) (left : List (List ℕ)) → After c (line_step b e i p (judge p.state line)) left a
      → Continues c b (EntryLine e i p) (line ∷ left) a
  entry_line_back i p line left h = entry_line_from i p line left (judge p.state line) refl h

  -- the first line of a proof

  proof_on_by : (i number : ℕ) (line : List ℕ) (left rest : List (List ℕ)) (proofs : List (List (List ℕ))) → line ∷ left ≡ flat_map proof_lines proofs ++ rest
      → All (λ proof. IsNumber (length proof)) proofs → i + length proofs ≡ length e.clauses → proofs_fault (obligation_of c b.entries e) i proofs ≡ None
      → FromStart c (with_entry b e) rest a → (i ≡ length e.clauses → ⊥) → After c (proof_step c b e i number (word_line_of line)) left a
  proof_on_by i number line left rest [] spelled sizes count passes others other = absurd (other (omega (arith, count)))
  proof_on_by i number line left rest (proof ∷ proofs) spelled sizes count passes others other =
      let parts = heads line (word_line_text (lines.Proof (length proof))) left ((proof ++ flat_map proof_lines proofs) ++ rest) spelled in
      let small : IsNumber (length proof) = All-head (λ proof. IsNumber (length proof)) proof proofs sizes in
      let read : word_line_of line ≡ Some (lines.Proof (length proof)) = word_back line (lines.Proof (length proof)) (record { numbers = small; spelled = parts.0 }) in
      let both = clause-none i (proof_fault (obligation_of c b.entries e i) proof) _ passes in
      let tail : LinesTail c b e i (begin_proof (length proof) (obligation_of c b.entries e i)) left a = record {
        proof = proof;
        rest = flat_map proof_lines proofs ++ rest;
        spelled = parts.1 ∙ append_assoc proof (flat_map proof_lines proofs) rest;
        count = omega arith;
        passes = both.0;
        others = record {
          proofs = proofs;
          rest = rest;
          spelled = refl;
          sizes = All-tail (λ proof. IsNumber (length proof)) proof proofs sizes;
          count = omega (arith, count);
          passes = both.1;
          others = others;
        };
      }
      in
      subst (λ r. After c (proof_step c b e i number r) left a) (sym read) (line_next i (begin_proof (length proof) (obligation_of c b.entries e i)) left tail)

  pub entry_proof_on : (i number : ℕ) (line : List ℕ) (left : List (List ℕ)) → Continues c b (EntryProof e i) (line ∷ left) a
      → After c (proof_step c b e i number (word_line_of line)) left a
  entry_proof_on i number line left (h, other) = proof_on_by i number line left h.rest h.proofs h.spelled h.sizes h.count h.passes h.others other

  proof_begun : (i count : ℕ) (line : List ℕ) (left : List (List ℕ)) → word_line_of line ≡ Some (lines.Proof count)
      → LinesTail c b e i (begin_proof count (obligation_of c b.entries e i)) left a → Continues c b (EntryProof e i) (line ∷ left) a
  proof_begun i count line left is tail =
      let is_line = word_given_line line (lines.Proof count) is in
      let small : IsNumber count = is_line.numbers in
      let same : length tail.proof ≡ count = let n : 0 + length tail.proof ≡ count = tail.count in omega (arith, n) in
      let others : ProofsTail c b e (i + 1) tail.rest a = tail.others in
      let text : line ≡ word_line_text (lines.Proof (length tail.proof)) = is_line.spelled ∙ ap (λ n. word_line_text (lines.Proof n)) (sym same) in
      let spelled : left ≡ (tail.proof ++ flat_map proof_lines others.proofs) ++ others.rest =
      tail.spelled ∙ ap (λ ls. tail.proof ++ ls) others.spelled ∙ sym (append_assoc tail.proof (flat_map proof_lines others.proofs) others.rest) in (
        record {
          proofs = tail.proof ∷ others.proofs;
          rest = others.rest;
          spelled = λ j. text j ∷ spelled j;
          sizes = All-cons (λ proof. IsNumber (length proof)) tail.proof others.proofs (subst IsNumber (sym same) small) others.sizes;
          count = omega (arith, others.count);
          passes = ap (λ r. clause_fault i r (proofs_fault (obligation_of c b.entries e) (i + 1) others.proofs)) tail.passes ∙ others.passes;
          others = others.others;
        },
        λ here. absurd (omega (arith, here, others.count)),
      )

  entry_proof_from : (i number : ℕ) (line : List ℕ) (left : List (List ℕ)) (r : Option WordLine) → word_line_of line ≡ r → After c (proof_step c b e i number r) left a
      → Continues c b (EntryProof e i) (line ∷ left) a
  entry_proof_from i number line left (Some (lines.Proof n)) is h = proof_begun i n line left is (line_from i (begin_proof n (obligation_of c b.entries e i)) left h)
  entry_proof_from i number line left (Some (lines.Version v)) is h = absurd h
  entry_proof_from i number line left (Some (lines.Opening o)) is h = absurd h
  entry_proof_from i number line left (Some (lines.Refutation r)) is h = absurd h
  entry_proof_from i number line left (Some lines.End) is h = absurd h
  entry_proof_from i number line left None is h = absurd h

  pub entry_proof_back : (i number : ℕ) (line : List ℕ) (left : List (List ℕ)) → After c (proof_step c b e i number (word_line_of line)) left a
      → Continues c b (EntryProof e i) (line ∷ left) a
  entry_proof_back i number line left h = entry_proof_from i number line left (word_line_of line) refl h
