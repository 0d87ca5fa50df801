-- The lines that are read from a state to a good answer are those that lead there.
use Rattle.std.proofs.Common.{◌≡◌, ℕ, ◌+◌, List, [], ◌∷◌, ◌++◌, length, map, flat_map, refl, sym, subst, arith, Ok, Err, inl, inr}
use Rattle.std.specs.Prelude.{codes}
use Rattle.aig_semantics.specs.Circuits.{Circuit}
use Rattle.fair_semantics.specs.declared.entries.Use.{Use}
use Rattle.proof_semantics.specs.declared.literals.Lit.{Lit}
use Rattle.certificate_lines.specs.Clauses.{clause_text}
use Rattle.certificate.specs.declared.ends.Accepted.{Accepted}
use Rattle.certificate.specs.Lines.{Numbered, bare}
use Rattle.certificate_texts.specs.declared.certificates.Written.{Written}
use Rattle.certificate_texts.specs.Certificates.{proof_lines}
use Rattle.certificate.specs.Certificates.{AreClausesOf}
use Rattle.certificate.specs.Reading.{Body, Wanted, Start, EntryUses, EntryClause, EntryProof, EntryLine, RefutationUses, RefutationLine, Last, State, Status, Property, Latches, Rows, Dotted, Versioned, Certified, Ended, Stepped, step, certificate_step, and_then, read_lines}
use Rattle.certificate.specs.Ends.{IsGoodAtEnd}
use Rattle.certificate.proofs.Completing.{end_line, rest_lines, Continues, Completes, After}
use Rattle.certificate.proofs.CompletingProofs.{entry_line_on, entry_line_back, entry_proof_on, entry_proof_back, refuting_line_on, refuting_line_back, last_on, last_back}
use Rattle.certificate.proofs.CompletingEntries.{clause_on, clause_back_on, entry_uses_on, entry_uses_back, refuting_uses_on, refuting_uses_back}
use Rattle.certificate.proofs.CompletingStarts.{start_on, start_back}
use Rattle.certificate.proofs.CompletingTexts.{row_on, row_back, latches_on, latches_back, version_on, version_back, property_on, property_back, status_on, status_back}

-- ---- where no line is left

pub no_front : {X : Type 0} → (x : X) (xs ys : List X) → [] ≡ xs ++ x ∷ ys → ⊥
no_front x [] ys e = cc
no_front x (y ∷ xs) ys e = cc

pub no_clause : (c : Circuit) (m n : ℕ) (literals : List (List ℕ)) (clauses : List (List Lit)) (rest : List (List ℕ)) → [] ≡ map clause_text literals ++ rest
    → AreClausesOf c literals clauses → m + length clauses ≡ n → (m ≡ n → ⊥) → ⊥
no_clause c m n [] [] rest spelled are count other = other (omega (arith, count))
no_clause c m n [] (k ∷ clauses) rest spelled are count other = cc
no_clause c m n (ls ∷ literals) clauses rest spelled are count other = cc

pub no_proof : (m n : ℕ) (proofs : List (List (List ℕ))) (rest : List (List ℕ)) → [] ≡ flat_map proof_lines proofs ++ rest → m + length proofs ≡ n → (m ≡ n → ⊥) → ⊥
no_proof m n [] rest spelled count other = other (omega (arith, count))
no_proof m n (proof ∷ proofs) rest spelled count other = cc

pub no_proof_line : (m n : ℕ) (proof rest : List (List ℕ)) → [] ≡ proof ++ rest → m + length proof ≡ n → (m ≡ n → ⊥) → ⊥
no_proof_line m n [] rest spelled count other = other (omega (arith, count))
no_proof_line m n (line ∷ proof) rest spelled count other = cc

module _ (c : Circuit) (a : Accepted) where
  -- ---- a line

  certificate_on : (b : Body) (wanted : Wanted) (number : ℕ) (line : List ℕ) (left : List (List ℕ)) → Continues c b wanted (line ∷ left) a
      → After c (certificate_step c b wanted number line) left a
  certificate_on b Start number line left h = start_on c b a number line left h
  certificate_on b (EntryUses o) number line left h = entry_uses_on c b a o number line left h
  certificate_on b (EntryClause begun) number line left h = clause_on c b a begun number line left h
  certificate_on b (EntryProof e i) number line left h = entry_proof_on c b e a i number line left h
  certificate_on b (EntryLine e i p) number line left h = entry_line_on c b e a i p line left h
  certificate_on b (RefutationUses r) number line left h = refuting_uses_on c b a r number line left h
  certificate_on b (RefutationLine p) number line left h = refuting_line_on c b a p line left h
  certificate_on b Last number line left h = last_on c b a number line left h

  certificate_back : (b : Body) (wanted : Wanted) (number : ℕ) (line : List ℕ) (left : List (List ℕ)) → After c (certificate_step c b wanted number line) left a
      → Continues c b wanted (line ∷ left) a
  certificate_back b Start number line left h = start_back c b a number line left h
  certificate_back b (EntryUses o) number line left h = entry_uses_back c b a o number line left h
  certificate_back b (EntryClause begun) number line left h = clause_back_on c b a begun number line left h
  certificate_back b (EntryProof e i) number line left h = entry_proof_back c b e a i number line left h
  certificate_back b (EntryLine e i p) number line left h = entry_line_back c b e a i p line left h
  certificate_back b (RefutationUses r) number line left h = refuting_uses_back c b a r number line left h
  certificate_back b (RefutationLine p) number line left h = refuting_line_back c b a p line left h
  certificate_back b Last number line left h = last_back c b a number line left h

  no_line : (line : List ℕ) (left : List (List ℕ)) → line ∷ left ≡ [] → ⊥
  no_line line left e = cc

  step_on : (s : State) (number : ℕ) (line : List ℕ) (left : List (List ℕ)) → Completes c s (line ∷ left) a → After c (step c s number line) left a
  step_on Status number line left h = status_on c a number line left h
  step_on (Property claim) number line left h = property_on c a claim number line left h
  step_on (Latches n) number line left h = latches_on c n a number line left h
  step_on (Rows n s) number line left h = row_on c n a s number line left h
  step_on (Dotted n s) number line left h = absurd (no_line line left h.0)
  step_on (Versioned n) number line left h = version_on c n a number line left h
  step_on (Certified b wanted) number line left h = certificate_on b wanted number line left h
  step_on (Ended b) number line left h = absurd (no_line line left h.0)

  step_back : (s : State) (number : ℕ) (line : List ℕ) (left : List (List ℕ)) → After c (step c s number line) left a → Completes c s (line ∷ left) a
  step_back Status number line left h = status_back c a number line left h
  step_back (Property claim) number line left h = property_back c a claim number line left h
  step_back (Latches n) number line left h = latches_back c n a number line left h
  step_back (Rows n s) number line left h = row_back c n a s number line left h
  step_back (Dotted n s) number line left h = absurd h
  step_back (Versioned n) number line left h = version_back c n a number line left h
  step_back (Certified b wanted) number line left h = certificate_back b wanted number line left h
  step_back (Ended b) number line left h = absurd h

  -- ---- no line

  no_rest : (more : List Written) (uses : List Use) (proof : List (List ℕ)) → [] ≡ rest_lines more uses proof → ⊥
  no_rest [] uses proof e = cc
  no_rest (e ∷ more) uses proof same = cc

  wanted_at_end : (b : Body) (wanted : Wanted) → Continues c b wanted [] a → ⊥
  wanted_at_end b Start h = no_rest h.more h.uses h.proof h.spelled
  wanted_at_end b (EntryUses o) h = no_front _ [] h.rest h.spelled
  wanted_at_end b (EntryClause begun) (h, other) = no_clause c (length begun.entry.clauses) begun.count h.literals h.clauses h.rest h.spelled h.are h.count other
  wanted_at_end b (EntryProof e i) (h, other) = no_proof i (length e.clauses) h.proofs h.rest h.spelled h.count other
  wanted_at_end b (EntryLine e i p) (h, other) = no_proof_line p.read p.count h.proof h.rest h.spelled h.count other
  wanted_at_end b (RefutationUses r) h = no_front _ [] (h.proof ++ end_line ∷ []) h.spelled
  wanted_at_end b (RefutationLine p) (h, other) = no_front end_line h.proof [] h.spelled
  wanted_at_end b Last h = no_front end_line [] [] h.0

  end_on : (s : State) → Completes c s [] a → IsGoodAtEnd c s a
  end_on Status (inl h) = absurd (no_front (codes "1") [] h.rest h.spelled)
  end_on Status (inr h) = absurd (no_front (codes "0") [] h.rest h.spelled)
  end_on (Property claim) h = absurd (no_front _ [] h.rest h.spelled)
  end_on (Latches n) h = absurd (no_front (codes ".") h.rows [] h.spelled)
  end_on (Rows n s) h = absurd (no_front (codes ".") h.rows [] h.spelled)
  end_on (Dotted n s) h = h.1
  end_on (Versioned n) h = absurd (no_front _ [] h.rest h.spelled)
  end_on (Certified b wanted) h = absurd (wanted_at_end b wanted h)
  end_on (Ended b) h = h.1

  end_back : (s : State) → IsGoodAtEnd c s a → Completes c s [] a
  end_back Status h = absurd h
  end_back (Property claim) h = absurd h
  end_back (Latches n) h = absurd h
  end_back (Rows n s) h = absurd h
  end_back (Dotted n s) h = (refl, h)
  end_back (Versioned n) h = absurd h
  end_back (Certified b wanted) h = absurd h
  end_back (Ended b) h = (refl, h)

  -- ---- all lines

  abbrev pub EndsWell : Stepped → Type 0
  EndsWell r = (t : State) × (r ≡ Ok t) × IsGoodAtEnd c t a

  then_well : (r : Stepped) (lines : List Numbered) → ((t : State) → Completes c t (bare lines) a → EndsWell (read_lines c t lines)) → After c r (bare lines) a
      → EndsWell (and_then r (λ t. read_lines c t lines))
  then_well (Ok t) lines recur h = recur t h
  then_well (Err fault) lines recur h = absurd h

  pub completed_reads : (lines : List Numbered) (s : State) → Completes c s (bare lines) a → EndsWell (read_lines c s lines)
  completed_reads [] s h = (s, refl, end_on s h)
  completed_reads (line ∷ lines) s h =
      then_well (step c s line.0 line.1) lines (λ t g. completed_reads lines t g) (step_on s line.0 line.1 (bare lines) h)

  well_then : (r : Stepped) (lines : List Numbered) → ((t : State) → EndsWell (read_lines c t lines) → Completes c t (bare lines) a)
      → EndsWell (and_then r (λ t. read_lines c t lines)) → After c r (bare lines) a
  well_then (Ok t) lines recur h = recur t h
  well_then (Err fault) lines recur (t, e, good) = absurd (cc)

  same_state : (s t : State) → ◌≡◌ {A = Stepped} (Ok s) (Ok t) → s ≡ t
  same_state s t e = cc

  pub read_completes : (lines : List Numbered) (s : State) → EndsWell (read_lines c s lines) → Completes c s (bare lines) a
  read_completes [] s (t, e, good) = end_back s (subst (λ u. IsGoodAtEnd c u a) (sym (same_state s t e)) good)
  read_completes (line ∷ lines) s h =
      step_back s line.0 line.1 (bare lines) (well_then (step c s line.0 line.1) lines (λ t g. read_completes lines t g) h)
