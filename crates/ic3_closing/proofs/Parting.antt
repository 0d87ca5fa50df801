-- A part of a closed set that stands by itself separates the start from the goal as the whole does.
use Rattle.std.proofs.Common.{◌≡◌, ◌<◌, Bool, true, false, ◌&&◌, List, length, refl, sym, subst}
use Rattle.std.specs.List.{All, list_any}
use Rattle.std.proofs.lemmas.Bool.{and_parts, and_from, false≢true}
use Rattle.aig_semantics.specs.Circuits.{Circuit}
use Rattle.proof_semantics.specs.declared.literals.Lit.{Lit}
use Rattle.proof_semantics.specs.Clauses.{clause_value, values_of, has_literal}
use Rattle.fair_semantics.specs.declared.entries.Kind.TheVariants.{Reach, Wall}
use Rattle.fair_semantics.specs.declared.entries.Use.{Use}
use Rattle.fair_semantics.specs.States.{initial_cube, meets_clauses}
use Rattle.fair_semantics.specs.Entries.{Entry, entry_at, set_at, AreClosed}
use Rattle.fair_semantics.proofs.Examples.{no_reach}
use Rattle.cnf_unroll.specs.Laws.{ObligationsTell, AreOver}
use Rattle.entry.specs.Laws.{IsGoodList}
use Rattle.ic3_semantics.specs.declared.questions.Start.{Start}
use Rattle.ic3_semantics.specs.declared.questions.Start.TheVariants.{Initial, State}
use Rattle.ic3_semantics.specs.declared.questions.Goal.{Goal}
use Rattle.ic3_semantics.specs.declared.questions.Goal.TheVariants as goals
use Rattle.ic3_semantics.specs.Searching.{Question, Misses, Separates, closed_entry}
use Rattle.ic3_closing.specs.Keeping.{kept_clauses, kept_uses}
use Rattle.ic3_closing.specs.Standing.{Stands}
use Rattle.ic3_closing.proofs.Kept.{clauses_all, clauses_true, uses_all, lie, uses_lie}
use Rattle.ic3_closing.proofs.Unbroken.{closed_uses, stays}

-- what is so of the uses and clauses of the whole, whatever the start

pub over_part : (c : Circuit) (view : List Entry) (start : Start) (goal : Goal) (clauses part : List (List Lit)) (uses : List Use) (marks : List Bool)
    → Separates (record { circuit = c; view = view; start = start }) goal (closed_entry start clauses uses)
    → part ≡ kept_clauses marks 0 clauses → AreOver (length c.latches) part
over_part c view Initial goal clauses part uses marks whole is =
    subst (AreOver (length c.latches)) (sym is) (clauses_all (All (λ l. l.var < length c.latches)) marks 0 clauses whole.over)
over_part c view (State from) goal clauses part uses marks whole is =
    subst (AreOver (length c.latches)) (sym is) (clauses_all (All (λ l. l.var < length c.latches)) marks 0 clauses whole.over)

present_in : (view : List Entry) (uses part : List Use) (marks with : List Bool) → AreClosed view uses
    → part ≡ kept_uses marks with 0 uses → All (λ u. u.entry < length view) part
present_in view uses part marks with closed is =
    subst (All (λ u. u.entry < length view)) (sym is) (uses_all (λ u. u.entry < length view) (λ u here. here) marks with 0 uses closed.present)

pub present_part : (c : Circuit) (view : List Entry) (start : Start) (goal : Goal) (clauses : List (List Lit)) (uses part : List Use) (marks with : List Bool)
    → Separates (record { circuit = c; view = view; start = start }) goal (closed_entry start clauses uses)
    → part ≡ kept_uses marks with 0 uses → All (λ u. u.entry < length view) part
present_part c view Initial goal clauses uses part marks with whole is = present_in view uses part marks with whole.valid.uses is
present_part c view (State from) goal clauses uses part marks with whole is = present_in view uses part marks with whole.valid.uses is

-- the set of a part holds what the whole's does
wider : (view : List Entry) (clauses : List (List Lit)) (uses : List Use) (cm um sm : List Bool) (s : List Bool)
    → (meets_clauses clauses s && lie (set_at view) s uses) ≡ true
    → (meets_clauses (kept_clauses cm 0 clauses) s && lie (set_at view) s (kept_uses um sm 0 uses)) ≡ true
wider view clauses uses cm um sm s h =
    let parts = and_parts (meets_clauses clauses s) (lie (set_at view) s uses) h in
    and_from (meets_clauses (kept_clauses cm 0 clauses) s) (lie (set_at view) s (kept_uses um sm 0 uses))
    (clauses_true (clause_value (values_of s)) cm 0 clauses parts.0) (uses_lie (set_at view) s um sm 0 uses parts.1)

-- a set within clauses that miss the goal misses it
pub misses_within : (q : Question) (goal : Goal) (f g : List Bool → Bool) → ((s : List Bool) → f s ≡ false → g s ≡ false)
    → Misses q goal f → Misses q goal g
misses_within q (goals.State to) f g within h = within to.now h
misses_within q (goals.Literal literal avoid) f g within h = λ p meets. within p.latches (h p meets)

pub first_false : (a b : Bool) → a ≡ false → (a && b) ≡ false
first_false true b e = absurd (false≢true (sym e))
first_false false b e = refl

kept_separates : (c : Circuit) (view : List Entry) (start : Start) (goal : Goal) (clauses : List (List Lit)) (uses : List Use) (cm um sm : List Bool)
    → ObligationsTell c → IsGoodList c view
    → Separates (record { circuit = c; view = view; start = start }) goal (closed_entry start clauses uses)
    → Stands (record { circuit = c; view = view; start = start }) goal (kept_clauses cm 0 clauses) (kept_uses um sm 0 uses)
    → Separates (record { circuit = c; view = view; start = start }) goal (closed_entry start (kept_clauses cm 0 clauses) (kept_uses um sm 0 uses))
kept_separates c view Initial goal clauses uses cm um sm tell good whole stand =
    let q : Question = record { circuit = c; view = view; start = Initial } in
    let K : List (List Lit) = kept_clauses cm 0 clauses in
    let U : List Use = kept_uses um sm 0 uses in
    let over : AreOver (length c.latches) K = clauses_all (All (λ l. l.var < length c.latches)) cm 0 clauses whole.over in
    let closed : AreClosed view U = closed_uses view uses U um sm refl whole.valid.uses stand.named in
    record {
      over = over;
      valid = record {
        uses = closed;
        closed = stays c view (record { kind = Reach; clauses = K; uses = U }) tell good closed over stand.unbroken;
        reach = λ kind. record {
          initial = λ s is. wider view clauses uses cm um sm s (whole.holds s is);
          uses = uses_all (λ u. (entry_at view u.entry).kind ≡ Reach) (λ u here. here) um sm 0 uses (whole.valid.reach refl).uses;
        };
      };
      base = clauses_all (λ clause. list_any (has_literal clause) (initial_cube c) ≡ true) cm 0 clauses whole.base;
      holds = λ s is. wider view clauses uses cm um sm s (whole.holds s is);
      misses = misses_within q goal (meets_clauses K) (λ s. meets_clauses K s && lie (set_at view) s U)
          (λ s out. first_false (meets_clauses K s) (lie (set_at view) s U) out) stand.misses;
    }
kept_separates c view (State from) goal clauses uses cm um sm tell good whole stand =
    let q : Question = record { circuit = c; view = view; start = State from } in
    let K : List (List Lit) = kept_clauses cm 0 clauses in
    let U : List Use = kept_uses um sm 0 uses in
    let over : AreOver (length c.latches) K = clauses_all (All (λ l. l.var < length c.latches)) cm 0 clauses whole.over in
    let closed : AreClosed view U = closed_uses view uses U um sm refl whole.valid.uses stand.named in
    record {
      over = over;
      valid = record {
        uses = closed;
        closed = stays c view (record { kind = Wall; clauses = K; uses = U }) tell good closed over stand.unbroken;
        reach = λ kind. no_reach kind;
      };
      base = tt;
      holds = λ s is. wider view clauses uses cm um sm s (whole.holds s is);
      misses = misses_within q goal (meets_clauses K) (λ s. meets_clauses K s && lie (set_at view) s U)
          (λ s out. first_false (meets_clauses K s) (lie (set_at view) s U) out) stand.misses;
    }

pub part_separates : (c : Circuit) (view : List Entry) (start : Start) (goal : Goal) (clauses K : List (List Lit)) (uses U : List Use) (cm um sm : List Bool)
    → ObligationsTell c → IsGoodList c view
    → Separates (record { circuit = c; view = view; start = start }) goal (closed_entry start clauses uses)
    → K ≡ kept_clauses cm 0 clauses → U ≡ kept_uses um sm 0 uses
    → Stands (record { circuit = c; view = view; start = start }) goal K U
    → Separates (record { circuit = c; view = view; start = start }) goal (closed_entry start K U)
part_separates c view start goal clauses K uses U cm um sm tell good whole k u stand =
    let q : Question = record { circuit = c; view = view; start = start } in
    subst (λ x. Separates q goal (closed_entry start x U)) (sym k)
    (subst (λ x. Separates q goal (closed_entry start (kept_clauses cm 0 clauses) x)) (sym u)
    (kept_separates c view start goal clauses uses cm um sm tell good whole
    (subst (λ x. Stands q goal x (kept_uses um sm 0 uses)) k (subst (λ x. Stands q goal K x) u stand))))
