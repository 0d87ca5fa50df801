-- What is exported is the text of an item, and which items there are.
use Rattle.std.proofs.Common.{◌≡◌, ℕ, zero, suc, ◌+◌, ◌-◌, ◌*◌, ◌<◌, ◌≤◌, ◌==◌, Bool, true, false, ◌&&◌, List, [], ◌∷◌, ◌++◌, map, length, get_or, refl, sym, ap, ap₂, ◌∙◌, subst, inl, inr, arith, All, Option, Some, None, Result, Ok, Err}
use Rattle.std.specs.Prelude.{slice_get, slice_index_or, IfOk}
use Rattle.std.specs.List.{flat_map}
use Rattle.std.proofs.lemmas.Bool.{false≢true, and_parts, and_from, eqb-true, eq-eqb}
use Rattle.std.proofs.lemmas.List.{length-map}
use Rattle.std.proofs.lemmas.Option.{slice_get-get_or, slice_get_within, get_or_from_slice_get}
use Rattle.std.proofs.lemmas.List.Elements.{All-head, All-tail, All-nil, All-cons, All-push, All-weaker, recursion_from_All}
use Rattle.aig_semantics.specs.declared.parts.Gate.{Gate}
use Rattle.aig_semantics.specs.declared.traces.Stimulus.{Stimulus}
use Rattle.aig_semantics.specs.declared.traces.Lasso.{Lasso as LassoOf}
use Rattle.aig_semantics.specs.Literals.{variable_of}
use Rattle.aig_semantics.specs.Circuits.{Circuit, IsChecked, IsWithinLimits, used, fair_literals}
use Rattle.aig_semantics.proofs.Lists.{All-left, All-right}
use Rattle.circuit.proofs.Evaluated.{latches_in_range, gates_in_range}
use Rattle.circuit.proofs.Counting.{All-unmap, All-parts}
use Rattle.text_grammar.specs.Lines.{ended_lines}
use Rattle.proof_semantics.specs.declared.literals.Lit.{Lit}
use Rattle.proof_semantics.specs.Proofs.{Refutes}
use Rattle.fair_semantics.specs.declared.entries.Use.{Use}
use Rattle.fair_semantics.specs.Entries.{Entry, Numbered, entry_at, used_entries}
use Rattle.cnf_unroll.specs.Laws.{AreOver}
use Rattle.cnf_unroll.specs.Obligations.{after_step, obligation_clauses, skeleton_clauses}
use Rattle.entry.specs.declared.list.Listed.{Listed}
use Rattle.entry.specs.Listing.{entry_of, entries_of}
use Rattle.entry.specs.Proved.{obligation_of}
use Rattle.certificate_texts.specs.declared.certificates.Written.{Written}
use Rattle.certificate_texts.specs.declared.certificates.Certificate.{Certificate}
use Rattle.certificate.specs.declared.loaded.Loaded.{Loaded}
use Rattle.certificate.specs.declared.loaded.Loaded.TheVariants.{Lasso, Holds}
use Rattle.certificate.specs.Certificates.{AreClausesOf, entry_with, AreProvedBehind, IsGoodCertificate}
use Rattle.certificate.specs.Loading.{IsHeld, HoldsAnswer}
use Rattle.certificate.proofs.GoodRead.{all_proved}
use Rattle.cert_tools.specs.declared.exporting.ExportEnd.{ExportEnd}
use Rattle.cert_tools.specs.declared.exporting.ExportEnd.TheVariants.{NoItem, Memory}
use Rattle.cert_tools.specs.Dimacs.{dimacs_text, StandsForClauses}
use Rattle.cert_tools.specs.Exported.{Item, after_skeleton, obligation_item, refutation_item, IsItemText, IsItemOf, IsExported, HasItem}
use Rattle.cert_tools.specs.Exporting.{EntriesAreOver, HasObligation, StandsForObligation, StandsForSkeleton, EndsWithItem}
use Rattle.cert_tools.proofs.TrimmingLaws.{refuted_at}
use Rattle.cert_tools.proofs.EntryProofs.{Stands, stands, entry_refuted, uses_inside}
use Rattle.cert_tools.proofs.Bounds.{InClause, InSet, Over, UsesOver, AreLow, IsLowGate, IsLowLatch, AreLowLiterals, obligation_in, skeleton_in}

-- ---- the circuit's variables are low

low_variable : (most literal : ℕ) → literal ≤ 2 * most + 1 → variable_of literal ≤ most
low_variable most literal h = omega (arith, h)

abbrev IsLow : ℕ → ℕ → Type 0
IsLow most literal = literal ≤ 2 * most + 1

abbrev sides_of : Gate → List ℕ
sides_of gate = gate.rhs0 ∷ gate.rhs1 ∷ []

low_literals : (most : ℕ) (literals : List ℕ) → All (IsLow most) literals → AreLowLiterals most literals
low_literals most literals h = recursion_from_All (λ literal. variable_of literal ≤ most) literals (All-weaker (IsLow most) (λ literal. variable_of literal ≤ most) (λ l low. low_variable most l low) literals h)

-- the literals that the circuit reads, section by section
record ReadsLow (c : Circuit) : Type 0 where
  next : All (IsLow c.max) (map (λ latch. latch.next) c.latches)
  sides : All (IsLow c.max) (flat_map sides_of c.gates)
  constraints : All (IsLow c.max) c.constraints
  justice : All (IsLow c.max) (flat_map (λ property. property) c.justice)
  fairness : All (IsLow c.max) c.fairness

reads_low : (c : Circuit) → IsWithinLimits c → ReadsLow c
reads_low c limits =
    let P : ℕ → Type 0 = IsLow c.max in
    let next : List ℕ = map (λ latch. latch.next) c.latches in
    let sides : List ℕ = flat_map sides_of c.gates in
    let justice : List ℕ = flat_map (λ property. property) c.justice in
    let four = All-left P (next ++ sides ++ c.constraints ++ justice) c.fairness limits.literals in
    let three = All-left P (next ++ sides ++ c.constraints) justice four in
    let two = All-left P (next ++ sides) c.constraints three in
    record {
      next = All-left P next sides two;
      sides = All-right P next sides two;
      constraints = All-right P (next ++ sides) c.constraints three;
      justice = All-right P (next ++ sides ++ c.constraints) justice four;
      fairness = All-right P (next ++ sides ++ c.constraints ++ justice) c.fairness limits.literals;
    }

low_gates : (c : Circuit) → IsChecked c → ReadsLow c → All (IsLowGate c.max) c.gates
low_gates c checked reads k d below =
    let range = gates_in_range c checked k d below in
    let each = All-parts (IsLow c.max) sides_of c.gates reads.sides k d below in (
      range.1,
      low_variable c.max (get_or c.gates k d).rhs0 (each 0 0 (omega arith)),
      low_variable c.max (get_or c.gates k d).rhs1 (each 1 0 (omega arith)),
    )

low_circuit : (c : Circuit) → IsChecked c → IsWithinLimits c → AreLow c
low_circuit c checked limits =
    let reads = reads_low c limits in
    let next = All-unmap (IsLow c.max) (λ latch. latch.next) c.latches reads.next in
    record {
      gates = recursion_from_All (IsLowGate c.max) c.gates (low_gates c checked reads);
      constraints = low_literals c.max c.constraints reads.constraints;
      latches = recursion_from_All (IsLowLatch c.max) c.latches
          (λ k d below. (let range = latches_in_range c checked k d below in (range.1, low_variable c.max (get_or c.latches k d).next (next k d below))));
    }

-- the literals of a property, where there is one
low_property : (most : ℕ) (properties : List (List ℕ)) (j : ℕ) → All (λ property. All (IsLow most) property) properties → All (IsLow most) (slice_index_or properties j [])
low_property most [] j all = All-nil (IsLow most)
low_property most (p ∷ properties) zero all = All-head (λ (property : List ℕ). All (IsLow most) property) p properties all
low_property most (p ∷ properties) (suc j) all = low_property most properties j (All-tail (λ (property : List ℕ). All (IsLow most) property) p properties all)

low_append : (most : ℕ) (xs ys : List ℕ) → AreLowLiterals most xs → AreLowLiterals most ys → AreLowLiterals most (xs ++ ys)
low_append most [] ys a b = b
low_append most (x ∷ xs) ys (first, more) b = (first, low_append most xs ys more b)

low_fair : (c : Circuit) (j : ℕ) → IsWithinLimits c → AreLowLiterals c.max (fair_literals c j)
low_fair c j limits =
    let reads = reads_low c limits in
    let each = All-parts (IsLow c.max) (λ property. property) c.justice reads.justice in
    low_append c.max (slice_index_or c.justice j []) c.fairness (low_literals c.max (slice_index_or c.justice j []) (low_property c.max c.justice j each)) (low_literals c.max c.fairness reads.fairness)

-- ---- entries over latches

over_all : (n : ℕ) (set : List (List Lit)) → AreOver n set → Over n set
over_all n [] over = tt
over_all n (clause ∷ set) over =
    let P : List Lit → Type 0 = λ k. All (λ (l : Lit). l.var < n) k in
    (recursion_from_All (λ (l : Lit). l.var < n) clause (All-head P clause set over), over_all n set (All-tail P clause set over))

over_entry : (c : Circuit) (all : List Entry) (k : ℕ) → EntriesAreOver c all → Over (length c.latches) (entry_at all k).clauses
over_entry c [] k over = tt
over_entry c (e ∷ all) zero over = over_all (length c.latches) e.clauses (All-head (λ (x : Entry). AreOver (length c.latches) x.clauses) e all over)
over_entry c (e ∷ all) (suc k) over = over_entry c all k (All-tail (λ (x : Entry). AreOver (length c.latches) x.clauses) e all over)

over_used : (c : Circuit) (all : List Entry) (uses : List Use) → EntriesAreOver c all → UsesOver (length c.latches) (used_entries all uses)
over_used c all [] over = tt
over_used c all (u ∷ uses) over = (over_entry c all u.entry over, over_used c all uses over)

over_behind : (c : Circuit) (before : List Entry) (es : List Written) (all : List Entry) → AreProvedBehind c before es all → EntriesAreOver c before → EntriesAreOver c all
over_behind c before [] all is over = subst (EntriesAreOver c) (sym is) over
over_behind c before (e ∷ es) all (clauses, are, first, others) over =
    over_behind c (before ++ entry_with e clauses ∷ []) es all others (All-push (λ (x : Entry). AreOver (length c.latches) x.clauses) before (entry_with e clauses) over first.over)

pub entries_over : (c : Circuit) (es : List Written) (all : List Entry) → AreProvedBehind c [] es all → EntriesAreOver c all
entries_over c es all proved = over_behind c [] es all proved (All-nil (λ (x : Entry). AreOver (length c.latches) x.clauses))

-- ---- texts that stand for clauses

clause_high : (m most : ℕ) (clause : List Lit) → m ≤ most + 1 → InClause m clause → All (λ (l : Lit). (0 < l.var) × (l.var ≤ most)) clause
clause_high m most [] h inside = All-nil (λ (l : Lit). (0 < l.var) × (l.var ≤ most))
clause_high m most (l ∷ clause) h (first, more) =
    All-cons (λ (x : Lit). (0 < x.var) × (x.var ≤ most)) l clause (first.0, (let less = first.1 in omega (arith, less, h))) (clause_high m most clause h more)

set_high : (m most : ℕ) (clauses : List (List Lit)) → m ≤ most + 1 → InSet m clauses → All (λ clause. All (λ (l : Lit). (0 < l.var) × (l.var ≤ most)) clause) clauses
set_high m most [] h inside = All-nil (λ (clause : List Lit). All (λ (l : Lit). (0 < l.var) × (l.var ≤ most)) clause)
set_high m most (clause ∷ clauses) h (first, more) =
    All-cons (λ (k : List Lit). All (λ (l : Lit). (0 < l.var) × (l.var ≤ most)) k) clause clauses (clause_high m most clause h first) (set_high m most clauses h more)

stands_for : (m : ℕ) (clauses : List (List Lit)) (text : List ℕ) → InSet m clauses → 0 < m → text ≡ dimacs_text (m - 1) clauses → StandsForClauses (m - 1) clauses text
stands_for m clauses text inside low spelled = record { over = set_high m (m - 1) clauses (omega (arith, low)) inside; spelled = spelled }

pub obligation_stands : (c : Circuit) (all : List Entry) (e i : ℕ) (text : List ℕ) → IsChecked c → IsWithinLimits c → EntriesAreOver c all
    → text ≡ dimacs_text ((after_step c (used_entries all (entry_at all e).uses)).free - 1) (obligation_of c all (entry_at all e) i) → StandsForObligation c all e i text
obligation_stands c all e i text checked limits over spelled =
    let x : Entry = entry_at all e in
    let us : List Numbered = used_entries all x.uses in
    let h = obligation_in c (low_circuit c checked limits) us x.uses x.clauses i (over_used c all x.uses over) (over_entry c all e over) in
    stands_for (after_step c us).free (obligation_of c all x i) text h.0 h.1 spelled

pub skeleton_stands : (c : Circuit) (j : ℕ) (all : List Entry) (uses : List Use) (text : List ℕ) → IsChecked c → IsWithinLimits c → EntriesAreOver c all
    → text ≡ dimacs_text ((after_skeleton c j (used_entries all uses)).free - 1) (skeleton_clauses c j (used_entries all uses)) → StandsForSkeleton c j all uses text
skeleton_stands c j all uses text checked limits over spelled =
    let us : List Numbered = used_entries all uses in
    let h = skeleton_in c (low_circuit c checked limits) j us (low_fair c j limits) (over_used c all uses over) in
    stands_for (after_skeleton c j us).free (skeleton_clauses c j us) text h.0 h.1 spelled

-- ---- over entries that are listed

pub listed_at : (list : List Listed) (e : ℕ) (at : Listed) → e < length list → at ≡ get_or list e at → entry_at (entries_of list) e ≡ entry_of at
listed_at [] e at below is = absurd (omega (arith, below))
listed_at (l ∷ list) zero at below is = ap entry_of (sym is)
listed_at (l ∷ list) (suc e) at below is = listed_at list e at (omega (arith, below)) is

-- the entries that are listed, whatever the slices are named by which they are lent
pub listed_all : (c : Circuit) (es slice : List Written) (list lent : List Listed) (all : List Entry) → slice ≡ es → lent ≡ list
    → ((every : List Entry) → AreProvedBehind c [] slice every → entries_of list ≡ every) → AreProvedBehind c [] es all → entries_of lent ≡ all
listed_all c es slice list lent all is same each proved =
    ap entries_of same ∙ each all (subst (λ (ws : List Written). AreProvedBehind c [] ws all) (sym is) proved)

pub refuting_uses : (c : Circuit) (n : ℕ) (certificate : Certificate) (list : List Listed) (good : IsGoodCertificate c n certificate) → entries_of list ≡ good.entries
    → All (λ (u : Use). u.entry < length list) certificate.uses
refuting_uses c n certificate list good is =
    let size = length-map list entry_of in
    let same = ap length is in
    let refuted = good.refuted in
    All-weaker (λ (u : Use). u.entry < length good.entries) (λ (u : Use). u.entry < length list) (λ u h. omega (arith, h, size, same)) certificate.uses refuted.closed.present

pub listed_below : (list : List Listed) (e : ℕ) → e < length (entries_of list) → e < length list
listed_below list e below = (let size = length-map list entry_of in omega (arith, below, size))

pub listed_uses : (list : List Listed) (e i : ℕ) (at : Listed) (c : Circuit) → HasObligation c (entries_of list) e i → entry_at (entries_of list) e ≡ entry_of at → All (λ (u : Use). u.entry < length list) at.uses
listed_uses list e i at c has is =
    All-weaker (λ (u : Use). u.entry < length (entries_of list)) (λ (u : Use). u.entry < length list) (λ u h. listed_below list u.entry h) at.uses
    (subst (λ (x : Entry). All (λ (u : Use). u.entry < length (entries_of list)) x.uses) is has.uses)

pub listed_clause : (list : List Listed) (e i : ℕ) (at : Listed) (c : Circuit) → HasObligation c (entries_of list) e i → entry_at (entries_of list) e ≡ entry_of at → i < length at.set
listed_clause list e i at c has is = subst (λ (x : Entry). i < length x.clauses) is has.clause

pub spelled_obligation : (c : Circuit) (list : List Listed) (e i : ℕ) (at : Listed) (us : List Numbered) (own : List Use) (free : ℕ) (clauses : List (List Lit)) (text : List ℕ)
    → IsChecked c → IsWithinLimits c → EntriesAreOver c (entries_of list) → entry_at (entries_of list) e ≡ entry_of at → own ≡ at.uses → us ≡ used_entries (entries_of list) own
    → free ≡ (after_step c us).free → clauses ≡ obligation_clauses c us own at.set i → text ≡ dimacs_text (free - 1) clauses → StandsForObligation c (entries_of list) e i text
spelled_obligation c list e i at us own free clauses text checked limits over is mine used next all spelled =
    let entries : List Entry = entries_of list in
    let theirs : us ≡ used_entries entries at.uses = used ∙ ap (used_entries entries) mine in
    let greatest : free - 1 ≡ (after_step c (used_entries entries at.uses)).free - 1 = ap (λ (n : ℕ). n - 1) next ∙ ap (λ (xs : List Numbered). (after_step c xs).free - 1) theirs in
    let same : clauses ≡ obligation_clauses c (used_entries entries at.uses) at.uses at.set i =
    all ∙ ap₂ (λ (xs : List Numbered) (os : List Use). obligation_clauses c xs os at.set i) theirs mine in
    obligation_stands c entries e i text checked limits over
    (subst (λ (x : Entry). text ≡ dimacs_text ((after_step c (used_entries entries x.uses)).free - 1) (obligation_of c entries x i)) (sym is) (spelled ∙ ap₂ dimacs_text greatest same))

pub spelled_skeleton : (c : Circuit) (j : ℕ) (list : List Listed) (uses : List Use) (us : List Numbered) (free : ℕ) (clauses : List (List Lit)) (text : List ℕ)
    → IsChecked c → IsWithinLimits c → EntriesAreOver c (entries_of list) → us ≡ used_entries (entries_of list) uses
    → free ≡ (after_skeleton c j us).free → clauses ≡ skeleton_clauses c j us → text ≡ dimacs_text (free - 1) clauses → StandsForSkeleton c j (entries_of list) uses text
spelled_skeleton c j list uses us free clauses text checked limits over used next all spelled =
    let entries : List Entry = entries_of list in
    let greatest : free - 1 ≡ (after_skeleton c j (used_entries entries uses)).free - 1 = ap (λ (n : ℕ). n - 1) next ∙ ap (λ (xs : List Numbered). (after_skeleton c j xs).free - 1) used in
    skeleton_stands c j entries uses text checked limits over (spelled ∙ ap₂ dimacs_text greatest (all ∙ ap (skeleton_clauses c j) used))

-- free numbers are above 0
pub step_above : (c : Circuit) (us : List Numbered) (all : List Entry) (uses : List Use) → IsChecked c → IsWithinLimits c → EntriesAreOver c all → us ≡ used_entries all uses → 0 < (after_step c us).free
step_above c us all uses checked limits over is =
    subst (λ (xs : List Numbered). 0 < (after_step c xs).free) (sym is) (obligation_in c (low_circuit c checked limits) (used_entries all uses) [] [] 0 (over_used c all uses over) tt).1

pub skeleton_above : (c : Circuit) (j : ℕ) (us : List Numbered) (all : List Entry) (uses : List Use) → IsChecked c → IsWithinLimits c → EntriesAreOver c all → us ≡ used_entries all uses → 0 < (after_skeleton c j us).free
skeleton_above c j us all uses checked limits over is =
    subst (λ (xs : List Numbered). 0 < (after_skeleton c j xs).free) (sym is) (skeleton_in c (low_circuit c checked limits) j (used_entries all uses) (low_fair c j limits) (over_used c all uses over)).1

-- ---- which items there are

same_size : (c : Circuit) (literals : List (List ℕ)) (clauses : List (List Lit)) → AreClausesOf c literals clauses → length literals ≡ length clauses
same_size c [] [] are = refl
same_size c [] (k ∷ clauses) are = absurd (cc are)
same_size c (l ∷ literals) [] are = absurd (cc are)
same_size c (l ∷ literals) (k ∷ clauses) are = ap suc (same_size c literals clauses (cc are))

proof_count : (c : Circuit) (es : List Written) (all : List Entry) (k : ℕ) (e : Written) → AreProvedBehind c [] es all → slice_get es k ≡ Some e → length e.proofs ≡ length e.clauses
proof_count c es all k e proved at =
    let s : Stands c all k e = stands c es all k e (proved, at) in
    let count : length e.proofs ≡ length s.clauses = s.proved.each.count in count ∙ sym (same_size c e.clauses s.clauses s.are)

pub has_clause : (c : Circuit) (es : List Written) (all : List Entry) (k i : ℕ) (e : Written) (proof : List (List ℕ)) → AreProvedBehind c [] es all → slice_get es k ≡ Some e
    → slice_get e.proofs i ≡ Some proof → i < length e.clauses
has_clause c es all k i e proof proved at there =
    (let count = proof_count c es all k e proved at in let below = slice_get_within e.proofs i proof there in omega (arith, count, below))

pub no_clause : (c : Circuit) (es : List Written) (all : List Entry) (k i : ℕ) (e : Written) → AreProvedBehind c [] es all → slice_get es k ≡ Some e
    → slice_get e.proofs i ≡ None → i < length e.clauses → ⊥
no_clause c es all k i e proved at none below =
    let count = proof_count c es all k e proved at in
    let wrong : ◌≡◌ {A = Option (List (List ℕ))} None (Some (get_or e.proofs i [])) = sym none ∙ slice_get-get_or e.proofs i [] (omega (arith, count, below)) in cc wrong

pub has_obligation : (c : Circuit) (es : List Written) (all : List Entry) (k i : ℕ) (e : Written) (proof : List (List ℕ)) → AreProvedBehind c [] es all → slice_get es k ≡ Some e
    → slice_get e.proofs i ≡ Some proof → HasObligation c all k i
has_obligation c es all k i e proof proved at there =
    let s : Stands c all k e = stands c es all k e (proved, at) in
    let count : length e.proofs ≡ length s.clauses = s.proved.each.count in
    let size = all_proved c [] es all proved in
    let inside = slice_get_within es k e at in
    let below = slice_get_within e.proofs i proof there in
    let clauses : length (entry_at all k).clauses ≡ length s.clauses = ap (λ (x : Entry). length x.clauses) s.is in
    let low : All (λ (u : Use). u.entry < length all) e.uses =
    All-weaker (λ (u : Use). u.entry < length es) (λ (u : Use). u.entry < length all) (λ u h. omega (arith, h, size)) e.uses (uses_inside c es all k e (proved, at)) in
    record {
      there = omega (arith, inside, size);
      clause = omega (arith, below, count, clauses);
      uses = subst (λ (x : Entry). All (λ (u : Use). u.entry < length all) x.uses) (sym s.is) low;
      over = entries_over c es all proved;
    }

-- ---- the text of an item

pub lines_spelled : (lrat : Bool) (item : Item) (text : List ℕ) → lrat ≡ true → text ≡ ended_lines item.lines → IsItemText lrat item text
lines_spelled lrat item text is h = subst (λ b. IsItemText b item text) (sym is) h

pub clauses_spelled : (lrat : Bool) (item : Item) (text : List ℕ) → lrat ≡ false → StandsForClauses item.greatest item.clauses text → IsItemText lrat item text
clauses_spelled lrat item text is h = subst (λ b. IsItemText b item text) (sym is) h

pub obligation_is : (c : Circuit) (certificate : Certificate) (all : List Entry) (e i : ℕ) (written : Written) (proof : List (List ℕ)) (lrat : Bool) (text : List ℕ)
    → AreProvedBehind c [] certificate.entries all → slice_get certificate.entries e ≡ Some written → slice_get written.proofs i ≡ Some proof → IsItemText lrat (obligation_item c all e i proof) text
    → (n : ℕ) → IsItemOf c n certificate e i lrat text
obligation_is c certificate all e i written proof lrat text proved at there spelled n =
    let below = slice_get_within written.proofs i proof there in
    let obligation : ℕ → List (List Lit) = obligation_of c all (entry_at all e) in
    let refutes = refuted_at obligation 0 written.proofs i [] (entry_refuted c certificate.entries all e written (proved, at)) below in
    let number : 0 + i ≡ i = omega arith in
    record {
      entries = all;
      say = proved;
      item = obligation_item c all e i proof;
      is = inl (written, proof, at, there, refl);
      refutes = subst (λ k. Refutes (obligation k) proof) number (subst (Refutes (obligation (0 + i))) (get_or_from_slice_get written.proofs i proof [] there) refutes);
      spelled = spelled;
    }

pub refutation_is : (c : Circuit) (n : ℕ) (certificate : Certificate) (e i : ℕ) (lrat : Bool) (text : List ℕ) (good : IsGoodCertificate c n certificate) → e ≡ length certificate.entries → i ≡ 0
    → IsItemText lrat (refutation_item c n good.entries certificate) text → IsItemOf c n certificate e i lrat text
refutation_is c n certificate e i lrat text good last first spelled = record {
  entries = good.entries;
  say = good.proved;
  item = refutation_item c n good.entries certificate;
  is = inr (last, first, refl);
  refutes = good.refuted.refutes;
  spelled = spelled;
}

-- ---- how an export ends

one_written : (a b : Written) → ◌≡◌ {A = Option Written} (Some a) (Some b) → a ≡ b
one_written a b e = cc e

no_obligation : (n : ℕ) (certificate : Certificate) (e i : ℕ) (written : Written) → slice_get certificate.entries e ≡ Some written → (i < length written.clauses → ⊥)
    → HasItem (Holds n certificate) e i → ⊥
no_obligation n certificate e i written at none (inl (other, there, below)) =
    none (subst (λ (w : Written). i < length w.clauses) (one_written other written (sym there ∙ at)) below)
no_obligation n certificate e i written at none (inr (last, first)) = (let inside = slice_get_within certificate.entries e written at in omega (arith, inside, last))

no_refutation : (n : ℕ) (certificate : Certificate) (e i : ℕ) → slice_get certificate.entries e ≡ None → ((e ≡ length certificate.entries) × (i ≡ 0) → ⊥) → HasItem (Holds n certificate) e i → ⊥
no_refutation n certificate e i at none (inl (other, there, below)) = (let wrong : ◌≡◌ {A = Option Written} None (Some other) = sym at ∙ there in cc wrong)
no_refutation n certificate e i at none (inr refutes) = none refutes

-- for an entry that is there
pub entry_ends : {T : Type 0} (items : T → List ℕ) (c : Circuit) (n : ℕ) (certificate : Certificate) (e i : ℕ) (lrat : Bool) (written : Written) (result : Result T ExportEnd)
    → slice_get certificate.entries e ≡ Some written
    → EndsWithItem (λ text. (m : ℕ) → IsItemOf c m certificate e i lrat (items text)) (i < length written.clauses) result
    → EndsWithItem (λ text. IsItemOf c n certificate e i lrat (items text)) (HasItem (Holds n certificate) e i) result
entry_ends items c n certificate e i lrat written (Ok text) at h = (h.0 n, inl (written, at, h.1))
entry_ends items c n certificate e i lrat written (Err NoItem) at none = no_obligation n certificate e i written at none
entry_ends items c n certificate e i lrat written (Err Memory) at h = tt

-- and for none
pub none_ends : {T : Type 0} (items : T → List ℕ) (c : Circuit) (n : ℕ) (certificate : Certificate) (e i : ℕ) (lrat : Bool) (result : Result T ExportEnd) → slice_get certificate.entries e ≡ None
    → EndsWithItem (λ text. IsItemOf c n certificate e i lrat (items text)) ((e ≡ length certificate.entries) × (i ≡ 0)) result
    → EndsWithItem (λ text. IsItemOf c n certificate e i lrat (items text)) (HasItem (Holds n certificate) e i) result
none_ends items c n certificate e i lrat (Ok text) at h = (h.0, inr h.1)
none_ends items c n certificate e i lrat (Err NoItem) at none = no_refutation n certificate e i at none
none_ends items c n certificate e i lrat (Err Memory) at h = tt

-- where the numbers are the refutation's
pub refutation_there : (e i count : ℕ) → (e == count && i == 0) ≡ true → (e ≡ count) × (i ≡ 0)
refutation_there e i count is = let parts = and_parts (e == count) (i == 0) is in (eqb-true e count parts.0, eqb-true i 0 parts.1)

pub refutation_not : (e i count : ℕ) → (e == count && i == 0) ≡ false → (e ≡ count) × (i ≡ 0) → ⊥
refutation_not e i count is there = false≢true (sym is ∙ and_from (e == count) (i == 0) (eq-eqb e count there.0) (eq-eqb i 0 there.1))

-- of the answer that is held
pub holds_ends : {T : Type 0} (items : T → List ℕ) (c : Circuit) (loaded : Loaded) (n : ℕ) (certificate : Certificate) (e i : ℕ) (lrat : Bool) (result : Result T ExportEnd) → loaded ≡ Holds n certificate
    → EndsWithItem (λ text. IsItemOf c n certificate e i lrat (items text)) (HasItem (Holds n certificate) e i) result
    → EndsWithItem (λ text. IsExported c loaded e i lrat (items text)) (HasItem loaded e i) result
holds_ends items c loaded n certificate e i lrat result is h =
    subst (λ (l : Loaded). EndsWithItem (λ text. IsExported c l e i lrat (items text)) (HasItem l e i) result) (sym is) h

pub lasso_ends : (loaded : Loaded) (n : ℕ) (stimulus : Stimulus) (lasso : LassoOf) (e i : ℕ) → loaded ≡ Lasso n stimulus lasso → HasItem loaded e i → ⊥
lasso_ends loaded n stimulus lasso e i is has = subst (λ (l : Loaded). HasItem l e i) is has

pub property_known : (c : Circuit) (loaded : Loaded) (n : ℕ) (certificate : Certificate) → IsHeld c loaded → loaded ≡ Holds n certificate → n < length c.justice
property_known c loaded n certificate (text, has) is = from (subst (HoldsAnswer c text) is has)
  where
    from : HoldsAnswer c text (Holds n certificate) → n < length c.justice
    from (known, short, opens, good) = known

-- by the cases of the end
pub ends_text : {T : Type 0} (P : T → Type 0) (There : Type 0) (result : Result T ExportEnd) → EndsWithItem P There result → IfOk result P
ends_text P There (Ok text) h = h.0
ends_text P There (Err NoItem) h = tt
ends_text P There (Err Memory) h = tt

pub ends_there : {T : Type 0} (P : T → Type 0) (There : Type 0) (result : Result T ExportEnd) → EndsWithItem P There result → IfOk result (λ text. There)
ends_there P There (Ok text) h = h.1
ends_there P There (Err NoItem) h = tt
ends_there P There (Err Memory) h = tt

pub ends_none : {T : Type 0} (P : T → Type 0) (There : Type 0) (result : Result T ExportEnd) → EndsWithItem P There result → result ≡ Err NoItem → There → ⊥
ends_none P There (Ok text) h e = absurd (cc e)
ends_none P There (Err NoItem) h e = h
ends_none P There (Err Memory) h e = absurd (cc e)
