-- Cubes by which states break the clauses that one of them breaks.
use Rattle.std.proofs.Common.{◌≡◌, ℕ, zero, suc, ◌+◌, ◌<◌, ◌≤◌, Bool, true, false, not, ◌&&◌, List, [], ◌∷◌, ◌++◌, map, length, get_or, take, refl, sym, ap, subst, ◌∙◌, inl, inr, arith}
use Rattle.std.proofs.lemmas.Bool.{false≢true, cases_lt, and_parts, and_from}
use Rattle.std.proofs.lemmas.List.{length-take-le, get_or-take, get_or-map, get_or_default, take_all}
use Rattle.std.proofs.lemmas.List.Folds.{list_all-append}
use Rattle.std.proofs.lemmas.List.Elements.{All-nil, All-append}
use Rattle.std.specs.List.{All}
use Rattle.aig_semantics.specs.declared.traces.Position.{Position}
use Rattle.aig_semantics.specs.Circuits.{Circuit}
use Rattle.aig_semantics.specs.Runs.{successor}
use Rattle.proof_semantics.specs.declared.literals.Lit.{Lit}
use Rattle.proof_semantics.specs.Clauses.{literal_value, clause_value, cube_value, clauses_value, values_of, negation}
use Rattle.proof_semantics.proofs.LiteralLaws.{cube_value-negations}
use Rattle.fair_semantics.specs.States.{meets_clauses}
use Rattle.fair_semantics.specs.Entries.{Entry}
use Rattle.cnf_unroll.specs.Laws.{AreOver}
use Rattle.std.specs.declared.sync.Arc.{Arc}
use Rattle.entry.specs.CheckedEntries.{CheckedEntry, entry_in, viewed}
use Rattle.ic3_semantics.specs.declared.questions.Start.{Start}
use Rattle.ic3_semantics.specs.declared.questions.Start.TheVariants.{Initial, State}
use Rattle.ic3_semantics.specs.Stepping.{IsOver}
use Rattle.ic3_loops.specs.Lifting.{BreaksToo, BreaksAs, IsBreaking, EndsAs, EndsIn}
use Rattle.ic3_loops.proofs.Stuck.{negation_over}

-- ---- one entry

broken-fails : (v : ℕ → Bool) (clauses : List (List Lit)) (i : ℕ) → i < length clauses → clause_value v (get_or clauses i []) ≡ false
    → clauses_value v clauses ≡ false
broken-fails v [] i below broken = absurd (omega arith)
broken-fails v (c ∷ clauses) zero below broken = ap (λ b. b && clauses_value v clauses) broken
broken-fails v (c ∷ clauses) (suc i) below broken = never (clause_value v c) (broken-fails v clauses i (omega arith) broken)
  where
    never : (a : Bool) {b : Bool} → b ≡ false → (a && b) ≡ false
    never true e = e
    never false e = refl

not_false : (b : Bool) → not b ≡ true → b ≡ false
not_false true e = absurd (false≢true e)
not_false false e = refl

breaks-one : (clauses : List (List Lit)) (s : List Bool) (old new : List Lit) (i : ℕ) → i < length clauses
    → clause_value (values_of s) (get_or clauses i []) ≡ false → new ≡ old ++ map negation (get_or clauses i []) → BreaksAs clauses s old new
breaks-one clauses s old new i below broken is =
    let clause : List Lit = get_or clauses i [] in
    let value : (v : ℕ → Bool) → cube_value v new ≡ (cube_value v old && not (clause_value v clause)) =
    λ v. ap (cube_value v) is ∙ list_all-append (literal_value v) old (map negation clause) ∙ ap (λ b. cube_value v old && b) (cube_value-negations v clause)
    in
    record {
      over = λ n overs over.
          subst (IsOver n) (sym is) (All-append (λ l. l.var < n) old (map negation clause) over (negation_over n clause (overs i [] below)));
      inside = λ holds. value (values_of s) ∙ and_from (cube_value (values_of s) old) (not (clause_value (values_of s) clause)) holds (ap not broken);
      holds = λ t there. (and_parts (cube_value (values_of t) old) (not (clause_value (values_of t) clause)) (sym (value (values_of t)) ∙ there)).0;
      breaks = λ t there out.
          broken-fails (values_of t) clauses i below
          (not_false (clause_value (values_of t) clause)
          (and_parts (cube_value (values_of t) old) (not (clause_value (values_of t) clause)) (sym (value (values_of t)) ∙ there)).1);
    }

-- the same of the clause at that place
pub breaks-at : (clauses : List (List Lit)) (s : List Bool) (old new : List Lit) (i : ℕ) (clause : List Lit) → i < length clauses
    → clause ≡ get_or clauses i clause → clause_value (values_of s) (get_or clauses i []) ≡ false → new ≡ old ++ map negation clause
    → BreaksAs clauses s old new
breaks-at clauses s old new i clause below is broken made =
    breaks-one clauses s old new i below broken (made ∙ ap (λ (x : List Lit). old ++ map negation x) (is ∙ get_or_default clauses i clause [] below))

pub breaks-none : (clauses : List (List Lit)) (s : List Bool) (cube : List Lit) → meets_clauses clauses s ≡ true → BreaksAs clauses s cube cube
breaks-none clauses s cube meets = record {
  over = λ n overs over. over;
  inside = λ holds. holds;
  holds = λ t there. there;
  breaks = λ t there out. absurd (false≢true (sym out ∙ meets));
}

-- ---- a list of entries

pub breaking-first : (view : List Entry) (s : List Bool) → IsBreaking (take 0 view) s []
breaking-first view s = record {
  over = λ n overs. All-nil (λ l. l.var < n);
  inside = refl;
  breaks = λ t there. All-nil (λ e. meets_clauses e.clauses s ≡ false → meets_clauses e.clauses t ≡ false);
}

pub breaking-more : (view : List Entry) (s : List Bool) (old new : List Lit) (i : ℕ) (e : Entry) → i < length view → e ≡ get_or view i e
    → IsBreaking (take i view) s old → BreaksAs e.clauses s old new → IsBreaking (take (i + 1) view) s new
breaking-more view s old new i e below is before one =
    let less : length (take i view) ≡ i = length-take-le i view (omega arith) in
    let size : length (take (i + 1) view) ≡ i + 1 = length-take-le (i + 1) view (omega arith) in
    let lower : (k : ℕ) (d : Entry) → k < i → get_or (take (i + 1) view) k d ≡ get_or (take i view) k d =
    λ k d under. get_or-take (i + 1) view k d (omega arith) ∙ sym (get_or-take i view k d under)
    in
    let last : (d : Entry) → get_or (take (i + 1) view) i d ≡ e = λ d. get_or-take (i + 1) view i d (omega arith) ∙ get_or_default view i d e below ∙ sym is in
    record {
      over = λ n overs.
          one.over n (subst (λ (x : Entry). AreOver n x.clauses) (last e) (overs i e (omega (arith, size))))
          (before.over n (λ k d inside.
          subst (λ (x : Entry). AreOver n x.clauses) (lower k d (omega (arith, less, inside)))
          (overs k d (omega (arith, size, less, inside)))));
      inside = one.inside before.inside;
      breaks = λ t there k d inside. elim (cases_lt k i) [
        | inl under ↦
            subst (λ (x : Entry). meets_clauses x.clauses s ≡ false → meets_clauses x.clauses t ≡ false) (sym (lower k d under))
            (before.breaks t (one.holds t there) k d (omega (arith, less, under)))
        | inr above ↦
            let at : i ≡ k = omega (arith, size, inside, above) in
            subst (λ j. meets_clauses (get_or (take (i + 1) view) j d).clauses s ≡ false → meets_clauses (get_or (take (i + 1) view) j d).clauses t ≡ false) at
            (subst (λ (x : Entry). meets_clauses x.clauses s ≡ false → meets_clauses x.clauses t ≡ false) (sym (last d)) (one.breaks t there))
      ];
    }

pub breaking-all : (view : List Entry) (s : List Bool) (cube : List Lit) (i : ℕ) → length view ≤ i → IsBreaking (take i view) s cube → IsBreaking view s cube
breaking-all view s cube i past is = subst (λ es. IsBreaking es s cube) (take_all i view past) is

-- ---- ends

pub any-end : (c : Circuit) (view : List Entry) (start : Start) (p : Position) (cube : List Lit) → start ≡ Initial → cube ≡ [] → EndsIn c view start p cube
any-end c view start p cube is none =
    subst (λ x. EndsIn c view x p cube) (sym is)
    (subst (EndsIn c view Initial p) (sym none) (record { over = All-nil (λ l. l.var < length c.latches); inside = refl; ends = λ t there. tt }))

ends-as : (start : Start) (view : List Entry) (end t : List Bool) → BreaksToo view end t → EndsAs start view end t
ends-as Initial view end t h = tt
ends-as (State from) view end t h = h

pub breaking-end : (c : Circuit) (view : List Entry) (start : Start) (p : Position) (next : List Bool) (cube : List Lit) → next ≡ successor c p
    → All (λ e. AreOver (length c.latches) e.clauses) view → IsBreaking view next cube → EndsIn c view start p cube
breaking-end c view start p next cube is overs breaking = record {
  over = breaking.over (length c.latches) overs;
  inside = ap (λ s. cube_value (values_of s) cube) (sym is) ∙ breaking.inside;
  ends = λ t there.
      ends-as start view (successor c p) t (subst (λ s. BreaksToo view s t) is (breaking.breaks t there.holds));
}

-- ---- views

pub viewed-at : {Z : Type 0} (view : List (Arc CheckedEntry Z)) (i : ℕ) (shared : Arc CheckedEntry Z) → i < length view → shared ≡ get_or view i shared
    → entry_in shared ≡ get_or (viewed view) i (entry_in shared)
viewed-at view i shared below is = ap entry_in is ∙ sym (get_or-map entry_in view i shared (entry_in shared) below)
