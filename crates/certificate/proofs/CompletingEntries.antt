-- One line of an entry in front of its proofs, and the line that opens it.
use Rattle.std.proofs.Common.{◌≡◌, ℕ, suc, ◌+◌, ◌<◌, Bool, true, false, cond, List, [], ◌∷◌, ◌++◌, map, length, refl, sym, ap, subst, ◌∙◌, arith, append_assoc, append-nil, length-append, Some, None, Option, Ok, Err, Result, All}
use Rattle.std.specs.Prelude.{◌==◌, if◌then◌else◌}
use Rattle.std.specs.List.{list_any}
use Rattle.std.proofs.lemmas.Bool.{eqb-true, eq-eqb}
use Rattle.std.proofs.lemmas.List.{length-map}
use Rattle.std.proofs.lemmas.List.Elements.{All-cons, All-nil, All-head, All-tail}
use Rattle.aig_semantics.specs.Circuits.{Circuit}
use Rattle.proof_semantics.specs.declared.literals.Lit.{Lit}
use Rattle.proof_semantics.specs.Clauses.{has_literal}
use Rattle.fair_semantics.specs.declared.entries.Kind.{Kind}
use Rattle.fair_semantics.specs.declared.entries.Kind.TheVariants.{Reach, Wall}
use Rattle.fair_semantics.specs.declared.entries.Use.{Use}
use Rattle.fair_semantics.specs.States.{initial_cube}
use Rattle.fair_semantics.specs.Entries.{Entry, used_entries}
use Rattle.cnf_unroll.specs.Laws.{AreOver}
use Rattle.certificate_lines.specs.declared.uses.WrittenUse.{WrittenUse}
use Rattle.certificate_lines.specs.declared.words.Opening.{Opening}
use Rattle.certificate_lines.specs.declared.words.Refutation.{Refutation as Refuting}
use Rattle.certificate_lines.specs.Fields.{IsNumber}
use Rattle.certificate_lines.specs.Uses.{uses_text, uses_of, MayStand, written}
use Rattle.certificate_lines.specs.Clauses.{clause_text, IsClauseLine, clause_of as literals_of}
use Rattle.certificate_lines.proofs.UseLaws.{uses_given, uses_back}
use Rattle.certificate_lines.proofs.ClauseLaws.{clause_given, clause_back}
use Rattle.entry.specs.declared.faults.EntryFault.{EntryFault}
use Rattle.entry.specs.declared.faults.EntryFault.TheVariants.{BadUse, Base}
use Rattle.entry.specs.declared.uses.User.{User}
use Rattle.entry.specs.declared.uses.User.TheVariants as users
use Rattle.entry.specs.Clauses.{clause_of}
use Rattle.entry.specs.Faults.{first_bad_use, baseless_from, first_baseless, proofs_fault, or_else, first_fault}
use Rattle.entry.specs.Proved.{obligation_of, IsProved}
use Rattle.entry.proofs.Over.{clause_over}
use Rattle.entry.proofs.Faultless.{faultless_is_proved, else-none}
use Rattle.entry.proofs.Closed.{split-none}
use Rattle.certificate.specs.declared.ends.Accepted.{Accepted}
use Rattle.certificate.specs.declared.ends.AnswerFault.TheVariants as faults
use Rattle.certificate.specs.Certificates.{AreClausesOf}
use Rattle.certificate.specs.Refuted.{refuted_clauses}
use Rattle.certificate_texts.specs.Certificates.{as_use}
use Rattle.certificate.specs.Reading.{Body, Begun, EntryUses, EntryClause, RefutationUses, Certified, Stepped, entry_fault, next_proof, next_clause, begin_proof, next_refuting_line, unless_bad, uses_step, begin_entry, with_clause, has_base, base_step, clause_step, entry_uses_step, refutation_uses_step}
use Rattle.certificate.proofs.Completing.{end_line, ProofsTail, ClausesTail, RefutationTail, Continues, After}
use Rattle.certificate.proofs.CompletingProofs.{heads, differs, refuting_next, refuting_from, proof_next, proof_from}

-- ---- the base of clauses, and their latches

abbrev pub IsBased : Circuit → Kind → List Lit → Type 0
IsBased c kind clause = has_base c kind clause ≡ true

reach_based : (c : Circuit) (i : ℕ) (clauses : List (List Lit)) → baseless_from i (initial_cube c) clauses ≡ None → All (IsBased c Reach) clauses
reach_based c i [] h = All-nil (IsBased c Reach)
reach_based c i (clause ∷ clauses) h =
    let both = split-none (list_any (has_literal (initial_cube c)) clause) _ i h in
    All-cons (IsBased c Reach) clause clauses both.0 (reach_based c (i + 1) clauses both.1)

reach_none : (c : Circuit) (i : ℕ) (clauses : List (List Lit)) → All (IsBased c Reach) clauses → baseless_from i (initial_cube c) clauses ≡ None
reach_none c i [] h = refl
reach_none c i (clause ∷ clauses) h =
    ap (λ t. cond t (baseless_from (i + 1) (initial_cube c) clauses) (Some i)) (All-head (IsBased c Reach) clause clauses h)
    ∙ reach_none c (i + 1) clauses (All-tail (IsBased c Reach) clause clauses h)

wall_based : (c : Circuit) (clauses : List (List Lit)) → All (IsBased c Wall) clauses
wall_based c [] = All-nil (IsBased c Wall)
wall_based c (clause ∷ clauses) = All-cons (IsBased c Wall) clause clauses refl (wall_based c clauses)

based_from_none : (c : Circuit) (kind : Kind) (clauses : List (List Lit)) → first_baseless c kind clauses ≡ None → All (IsBased c kind) clauses
based_from_none c Reach clauses h = reach_based c 0 clauses h
based_from_none c Wall clauses h = wall_based c clauses

none_from_based : (c : Circuit) (kind : Kind) (clauses : List (List Lit)) → All (IsBased c kind) clauses → first_baseless c kind clauses ≡ None
none_from_based c Reach clauses h = reach_none c 0 clauses h
none_from_based c Wall clauses h = refl

-- clauses of literals are over the latches, and as many
pub clauses_over : (c : Circuit) (literals : List (List ℕ)) (clauses : List (List Lit)) → AreClausesOf c literals clauses → AreOver (length c.latches) clauses
clauses_over c literals [] are = All-nil (λ clause. All (λ l. l.var < length c.latches) clause)
clauses_over c [] (k ∷ clauses) are = absurd (cc)
clauses_over c (ls ∷ literals) (k ∷ clauses) are =
    let both = heads (clause_of c ls) (Ok k) (map (clause_of c) literals) (map Ok clauses) are in
    All-cons (λ clause. All (λ l. l.var < length c.latches) clause) k clauses (clause_over c ls (Ok k) both.0) (clauses_over c literals clauses both.1)

pub as_many : (c : Circuit) (literals : List (List ℕ)) (clauses : List (List Lit)) → AreClausesOf c literals clauses → length literals ≡ length clauses
as_many c [] [] are = refl
as_many c [] (k ∷ clauses) are = absurd (cc)
as_many c (ls ∷ literals) [] are = absurd (cc)
as_many c (ls ∷ literals) (k ∷ clauses) are =
    ap suc (as_many c literals clauses (heads (clause_of c ls) (Ok k) (map (clause_of c) literals) (map Ok clauses) are).1)

-- ---- a proved entry, by what each of its lines is tested for

abbrev pub PassesEach : Circuit → List Entry → Entry → List (List (List ℕ)) → Type 0
PassesEach c before e proofs =
    (first_bad_use (users.Entry e.kind) before e.uses ≡ None) × All (IsBased c e.kind) e.clauses × (proofs_fault (obligation_of c before e) 0 proofs ≡ None)

pub passes_each : (c : Circuit) (before : List Entry) (e : Entry) (proofs : List (List (List ℕ))) → IsProved c before e proofs → PassesEach c before e proofs
passes_each c before e proofs is =
    let none = (faultless_is_proved c before e proofs is.over is.each.count).1 is in
    let uses = else-none (first_bad_use (users.Entry e.kind) before e.uses) BadUse _ none in
    let clauses = else-none (first_baseless c e.kind e.clauses) Base _ uses.1 in
    (uses.0, based_from_none c e.kind e.clauses clauses.0, clauses.1)

pub proved_by_each : (c : Circuit) (before : List Entry) (e : Entry) (proofs : List (List (List ℕ))) → AreOver (length c.latches) e.clauses
    → length proofs ≡ length e.clauses → PassesEach c before e proofs → IsProved c before e proofs
proved_by_each c before e proofs over count (uses, based, refuted) =
    let none : first_fault c before e proofs ≡ None =
    ap (λ r. or_else r BadUse (or_else (first_baseless c e.kind e.clauses) Base (proofs_fault (obligation_of c before e) 0 proofs))) uses
    ∙ ap (λ r. or_else r Base (proofs_fault (obligation_of c before e) 0 proofs)) (none_from_based c e.kind e.clauses based) ∙ refuted
    in
    (faultless_is_proved c before e proofs over count).0 none

-- ---- clauses

-- as many clauses are known as are wanted: none is left, and what is so behind all is so here
pub no_clause_left : (c : Circuit) (Behind : List (List Lit) → List (List ℕ) → Type 0) (known : List (List Lit)) (wanted : ℕ) (left rest literals : List (List ℕ)) (clauses : List (List Lit))
    → left ≡ map clause_text literals ++ rest → AreClausesOf c literals clauses → length known + length clauses ≡ wanted
    → Behind (known ++ clauses) rest → (length known == wanted) ≡ true → Behind known left
no_clause_left c Behind known wanted left rest [] [] spelled are count behind test =
    subst (λ cs. Behind cs left) (append-nil known) (subst (λ ls. Behind (known ++ []) ls) (sym spelled) behind)
no_clause_left c Behind known wanted left rest (ls ∷ literals) [] spelled are count behind test = absurd (cc)
no_clause_left c Behind known wanted left rest literals (k ∷ clauses) spelled are count behind test =
    absurd (omega (arith, count, eqb-true (length known) wanted test))

pub used_again : (us : List Use) → map as_use (map written us) ≡ us
used_again [] = refl
used_again (u ∷ us) = ap (λ vs. u ∷ vs) (used_again us)

pub written_again : (us : List WrittenUse) → map written (map as_use us) ≡ us
written_again [] = refl
written_again (u ∷ us) = ap (λ vs. u ∷ vs) (written_again us)

module _ (c : Circuit) (b : Body) (a : Accepted) where
  abbrev EntryBehind : Begun → List (List Lit) → List (List ℕ) → Type 0
  EntryBehind begun clauses rest = ProofsTail c b (record begun.entry { clauses = clauses }) 0 rest a

  clauses_next_by : (begun : Begun) (left : List (List ℕ)) → ClausesTail c b begun left a → (t : Bool) → (length begun.entry.clauses == begun.count) ≡ t
      → After c (if t then next_proof b begun.entry 0 else Ok (Certified b (EntryClause begun))) left a
  clauses_next_by begun left h true test =
      proof_next c b begun.entry a 0 left (no_clause_left c (EntryBehind begun) begun.entry.clauses begun.count left h.rest h.literals h.clauses h.spelled h.are h.count h.proofs test)
  clauses_next_by begun left h false test = (h, differs (length begun.entry.clauses) begun.count test)

  pub clauses_next : (begun : Begun) (left : List (List ℕ)) → ClausesTail c b begun left a → After c (next_clause b begun) left a
  clauses_next begun left h = clauses_next_by begun left h (length begun.entry.clauses == begun.count) refl

  clauses_from_by : (begun : Begun) (left : List (List ℕ)) (t : Bool) → (length begun.entry.clauses == begun.count) ≡ t
      → After c (if t then next_proof b begun.entry 0 else Ok (Certified b (EntryClause begun))) left a → ClausesTail c b begun left a
  clauses_from_by begun left true test h = record {
    literals = [];
    clauses = [];
    rest = left;
    spelled = refl;
    numbers = All-nil (All IsNumber);
    are = refl;
    based = All-nil (IsBased c begun.entry.kind);
    count = omega (arith, eqb-true (length begun.entry.clauses) begun.count test);
    proofs = subst (λ cs. EntryBehind begun cs left) (sym (append-nil begun.entry.clauses)) (proof_from c b begun.entry a 0 left h);
  }
  clauses_from_by begun left false test h = h.0

  pub clauses_from : (begun : Begun) (left : List (List ℕ)) → After c (next_clause b begun) left a → ClausesTail c b begun left a
  clauses_from begun left h = clauses_from_by begun left (length begun.entry.clauses == begun.count) refl h

  clause_on_by : (begun : Begun) (number : ℕ) (line : List ℕ) (left rest literals : List (List ℕ)) (clauses : List (List Lit))
      → line ∷ left ≡ map clause_text literals ++ rest → All (All IsNumber) literals → AreClausesOf c literals clauses
      → All (IsBased c begun.entry.kind) clauses → length begun.entry.clauses + length clauses ≡ begun.count
      → EntryBehind begun (begun.entry.clauses ++ clauses) rest → (length begun.entry.clauses ≡ begun.count → ⊥)
      → After c (clause_step c b begun number (literals_of line)) left a
  clause_on_by begun number line left rest literals [] spelled numbers are based count proofs other = absurd (other (omega (arith, count)))
  clause_on_by begun number line left rest [] (k ∷ clauses) spelled numbers are based count proofs other = absurd (cc)
  clause_on_by begun number line left rest (ls ∷ literals) (k ∷ clauses) spelled numbers are based count proofs other =
      let parts = heads line (clause_text ls) left (map clause_text literals ++ rest) spelled in
      let read : literals_of line ≡ Some ls = clause_back line ls (record { each = All-head (All IsNumber) ls literals numbers; spelled = parts.0 }) in
      let both = heads (clause_of c ls) (Ok k) (map (clause_of c) literals) (map Ok clauses) are in
      let base : has_base c begun.entry.kind k ≡ true = All-head (IsBased c begun.entry.kind) k clauses based in
      let tail : ClausesTail c b (with_clause begun k) left a = record {
        literals = literals;
        clauses = clauses;
        rest = rest;
        spelled = parts.1;
        numbers = All-tail (All IsNumber) ls literals numbers;
        are = both.1;
        based = All-tail (IsBased c begun.entry.kind) k clauses based;
        count = omega (arith, count, length-append begun.entry.clauses (k ∷ []));
        proofs = subst (λ cs. EntryBehind begun cs rest) (sym (append_assoc begun.entry.clauses (k ∷ []) clauses)) proofs;
      }
      in
      subst (λ o. After c (clause_step c b begun number o) left a) (sym read)
      (subst (λ r. After c (base_step c b begun r) left a) (sym both.0)
      (subst (λ t. After c (if t then next_clause b (with_clause begun k) else entry_fault b (Base (length begun.entry.clauses))) left a) (sym base)
      (clauses_next (with_clause begun k) left tail)))

  pub clause_on : (begun : Begun) (number : ℕ) (line : List ℕ) (left : List (List ℕ)) → Continues c b (EntryClause begun) (line ∷ left) a
      → After c (clause_step c b begun number (literals_of line)) left a
  clause_on begun number line left (h, other) =
      clause_on_by begun number line left h.rest h.literals h.clauses h.spelled h.numbers h.are h.based h.count h.proofs other

  clause_more : (begun : Begun) (line literals : List ℕ) (clause : List Lit) (left : List (List ℕ)) → IsClauseLine line literals → clause_of c literals ≡ Ok clause
      → has_base c begun.entry.kind clause ≡ true → ClausesTail c b (with_clause begun clause) left a → Continues c b (EntryClause begun) (line ∷ left) a
  clause_more begun line literals clause left is_line is base tail =
      let count : length (begun.entry.clauses ++ clause ∷ []) + length tail.clauses ≡ begun.count = tail.count in
      let longer = length-append begun.entry.clauses (clause ∷ []) in (
        record {
          literals = literals ∷ tail.literals;
          clauses = clause ∷ tail.clauses;
          rest = tail.rest;
          spelled = λ j. is_line.spelled j ∷ tail.spelled j;
          numbers = All-cons (All IsNumber) literals tail.literals is_line.each tail.numbers;
          are = λ j. is j ∷ tail.are j;
          based = All-cons (IsBased c begun.entry.kind) clause tail.clauses base tail.based;
          count = omega (arith, count, longer);
          proofs = subst (λ cs. EntryBehind begun cs tail.rest) (append_assoc begun.entry.clauses (clause ∷ []) tail.clauses) tail.proofs;
        },
        λ same. absurd (omega (arith, same, count, longer)),
      )

  clause_based : (begun : Begun) (line literals : List ℕ) (clause : List Lit) (left : List (List ℕ)) → IsClauseLine line literals → clause_of c literals ≡ Ok clause
      → (t : Bool) → has_base c begun.entry.kind clause ≡ t
      → After c (if t then next_clause b (with_clause begun clause) else entry_fault b (Base (length begun.entry.clauses))) left a
      → Continues c b (EntryClause begun) (line ∷ left) a
  clause_based begun line literals clause left is_line is true test h =
      clause_more begun line literals clause left is_line is test (clauses_from (with_clause begun clause) left h)
  clause_based begun line literals clause left is_line is false test h = absurd h

  clause_over_latches : (begun : Begun) (line literals : List ℕ) (left : List (List ℕ)) → IsClauseLine line literals
      → (r : Result (List Lit) EntryFault) → clause_of c literals ≡ r → After c (base_step c b begun r) left a → Continues c b (EntryClause begun) (line ∷ left) a
  clause_over_latches begun line literals left is_line (Ok clause) is h =
      clause_based begun line literals clause left is_line is (has_base c begun.entry.kind clause) refl h
  clause_over_latches begun line literals left is_line (Err fault) is h = absurd h

  clause_from : (begun : Begun) (number : ℕ) (line : List ℕ) (left : List (List ℕ)) (o : Option (List ℕ)) → literals_of line ≡ o
      → After c (clause_step c b begun number o) left a → Continues c b (EntryClause begun) (line ∷ left) a
  clause_from begun number line left (Some literals) is h =
      clause_over_latches begun line literals left (clause_given line literals is) (clause_of c literals) refl h
  clause_from begun number line left None is h = absurd h

  pub clause_back_on : (begun : Begun) (number : ℕ) (line : List ℕ) (left : List (List ℕ)) → After c (clause_step c b begun number (literals_of line)) left a
      → Continues c b (EntryClause begun) (line ∷ left) a
  clause_back_on begun number line left h = clause_from begun number line left (literals_of line) refl h

  -- ---- uses

  pub record GoodUses (user : User) (n : ℕ) (rest : List Use → Stepped) (line : List ℕ) (left : List (List ℕ)) : Type 0 where
    pub uses : List Use
    pub spelled : line ≡ uses_text (map written uses)
    pub signs : All (MayStand b.version) (map written uses)
    pub count : length uses ≡ n
    pub fit : first_bad_use user b.entries uses ≡ None
    pub next : After c (rest uses) left a

  uses_on : (user : User) (count : ℕ) (bad : ℕ → Stepped) (number : ℕ) (line : List ℕ) (rest : List Use → Stepped) (left : List (List ℕ))
      → GoodUses user count rest line left → After c (uses_step b user count bad number (uses_of b.version line) rest) left a
  uses_on user count bad number line rest left h =
      let read : uses_of b.version line ≡ Some (map written h.uses) = uses_back b.version line (map written h.uses) (record { each = h.signs; spelled = h.spelled }) in
      let test : (length (map written h.uses) == count) ≡ true = eq-eqb (length (map written h.uses)) count (length-map h.uses written ∙ h.count) in
      subst (λ o. After c (uses_step b user count bad number o rest) left a) (sym read)
      (subst (λ t. After c (if t then unless_bad (first_bad_use user b.entries (map as_use (map written h.uses))) bad (rest (map as_use (map written h.uses))) else Err (faults.Shape number)) left a) (sym test)
      (subst (λ us. After c (unless_bad (first_bad_use user b.entries us) bad (rest us)) left a) (sym (used_again h.uses))
      (subst (λ o. After c (unless_bad o bad (rest h.uses)) left a) (sym h.fit) h.next)))

  uses_fit : (user : User) (count : ℕ) (bad : ℕ → Stepped) (line : List ℕ) (rest : List Use → Stepped) (left : List (List ℕ)) (us : List WrittenUse)
      → ((n : ℕ) → After c (bad n) left a → ⊥) → uses_of b.version line ≡ Some us → (length us == count) ≡ true
      → (o : Option ℕ) → first_bad_use user b.entries (map as_use us) ≡ o → After c (unless_bad o bad (rest (map as_use us))) left a → GoodUses user count rest line left
  uses_fit user count bad line rest left us none read test None fit h =
      let are = uses_given b.version line us read in
      record {
        uses = map as_use us;
        spelled = are.spelled ∙ ap uses_text (sym (written_again us));
        signs = subst (All (MayStand b.version)) (sym (written_again us)) are.each;
        count = length-map us as_use ∙ eqb-true (length us) count test;
        fit = fit;
        next = h;
      }
  uses_fit user count bad line rest left us none read test (Some n) fit h = absurd (none n h)

  uses_counted : (user : User) (count : ℕ) (bad : ℕ → Stepped) (number : ℕ) (line : List ℕ) (rest : List Use → Stepped) (left : List (List ℕ)) (us : List WrittenUse)
      → ((n : ℕ) → After c (bad n) left a → ⊥) → uses_of b.version line ≡ Some us → (t : Bool) → (length us == count) ≡ t
      → After c (if t then unless_bad (first_bad_use user b.entries (map as_use us)) bad (rest (map as_use us)) else Err (faults.Shape number)) left a
      → GoodUses user count rest line left
  uses_counted user count bad number line rest left us none read true test h =
      uses_fit user count bad line rest left us none read test (first_bad_use user b.entries (map as_use us)) refl h
  uses_counted user count bad number line rest left us none read false test h = absurd h

  uses_from : (user : User) (count : ℕ) (bad : ℕ → Stepped) (number : ℕ) (line : List ℕ) (rest : List Use → Stepped) (left : List (List ℕ))
      → ((n : ℕ) → After c (bad n) left a → ⊥) → (o : Option (List WrittenUse)) → uses_of b.version line ≡ o
      → After c (uses_step b user count bad number o rest) left a → GoodUses user count rest line left
  uses_from user count bad number line rest left none (Some us) read h =
      uses_counted user count bad number line rest left us none read (length us == count) refl h
  uses_from user count bad number line rest left none None read h = absurd h

  -- ---- the uses of an entry

  pub entry_uses_on : (o : Opening) (number : ℕ) (line : List ℕ) (left : List (List ℕ)) → Continues c b (EntryUses o) (line ∷ left) a
      → After c (entry_uses_step b o number (uses_of b.version line)) left a
  entry_uses_on o number line left h =
      let parts = heads line (uses_text (map written h.uses)) left h.rest h.spelled in
      uses_on (users.Entry o.kind) o.uses (λ n. entry_fault b (BadUse n)) number line (λ us. next_clause b (begin_entry o us)) left (record {
        uses = h.uses;
        spelled = parts.0;
        signs = h.signs;
        count = h.count;
        fit = h.fit;
        next = clauses_next (begin_entry o h.uses) left (subst (λ ls. ClausesTail c b (begin_entry o h.uses) ls a) (sym parts.1) h.clauses);
      })

  pub entry_uses_back : (o : Opening) (number : ℕ) (line : List ℕ) (left : List (List ℕ)) → After c (entry_uses_step b o number (uses_of b.version line)) left a
      → Continues c b (EntryUses o) (line ∷ left) a
  entry_uses_back o number line left h =
      let good : GoodUses (users.Entry o.kind) o.uses (λ us. next_clause b (begin_entry o us)) line left =
      uses_from (users.Entry o.kind) o.uses (λ n. entry_fault b (BadUse n)) number line (λ us. next_clause b (begin_entry o us)) left (λ n wrong. wrong) (uses_of b.version line) refl h in
      record {
        uses = good.uses;
        rest = left;
        spelled = ap (λ l. l ∷ left) good.spelled;
        signs = good.signs;
        count = good.count;
        fit = good.fit;
        clauses = clauses_from (begin_entry o good.uses) left good.next;
      }

  -- ---- the uses of the refutation

  pub refuting_uses_on : (r : Refuting) (number : ℕ) (line : List ℕ) (left : List (List ℕ)) → Continues c b (RefutationUses r) (line ∷ left) a
      → After c (refutation_uses_step c b r number (uses_of b.version line)) left a
  refuting_uses_on r number line left h =
      let parts = heads line (uses_text (map written h.uses)) left (h.proof ++ end_line ∷ []) h.spelled in
      let given = refuted_clauses c b.refuted b.property (used_entries b.entries h.uses) in
      uses_on users.Refutation r.uses (λ n. Err (faults.RefuteUse n)) number line
      (λ us. next_refuting_line b (begin_proof r.proof_lines (refuted_clauses c b.refuted b.property (used_entries b.entries us)))) left (record {
        uses = h.uses;
        spelled = parts.0;
        signs = h.signs;
        count = h.count;
        fit = h.fit;
        next = refuting_next c b a (begin_proof r.proof_lines given) left (record {
          proof = h.proof;
          spelled = parts.1;
          count = omega (arith, h.lines);
          passes = h.passes;
          end = h.end;
        });
      })

  pub refuting_uses_back : (r : Refuting) (number : ℕ) (line : List ℕ) (left : List (List ℕ)) → After c (refutation_uses_step c b r number (uses_of b.version line)) left a
      → Continues c b (RefutationUses r) (line ∷ left) a
  refuting_uses_back r number line left h =
      let next : List Use → Stepped = λ us. next_refuting_line b (begin_proof r.proof_lines (refuted_clauses c b.refuted b.property (used_entries b.entries us))) in
      let good : GoodUses users.Refutation r.uses next line left =
      uses_from users.Refutation r.uses (λ n. Err (faults.RefuteUse n)) number line next left (λ n wrong. wrong) (uses_of b.version line) refl h in
      let tail : RefutationTail c b (begin_proof r.proof_lines (refuted_clauses c b.refuted b.property (used_entries b.entries good.uses))) left a =
      refuting_from c b a (begin_proof r.proof_lines (refuted_clauses c b.refuted b.property (used_entries b.entries good.uses))) left good.next in
      let count : 0 + length tail.proof ≡ r.proof_lines = tail.count in
      record {
        uses = good.uses;
        proof = tail.proof;
        spelled = λ j. good.spelled j ∷ tail.spelled j;
        signs = good.signs;
        count = good.count;
        lines = omega (arith, count);
        fit = good.fit;
        passes = tail.passes;
        end = tail.end;
      }
