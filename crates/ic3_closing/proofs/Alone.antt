-- Clauses without uses that stand by themselves, and each of which holds a literal of the initial cube, separate the
-- initial states from the goal.
use Rattle.std.proofs.Common.{◌≡◌, Bool, true, List, [], length, refl, sym, subst}
use Rattle.std.specs.List.{All, list_any}
use Rattle.std.proofs.lemmas.Bool.{and_from}
use Rattle.std.proofs.lemmas.List.Elements.{All-nil, All-weaker}
use Rattle.aig_semantics.specs.Circuits.{Circuit}
use Rattle.aig_semantics.specs.Runs.{IsInitial}
use Rattle.proof_semantics.specs.declared.literals.Lit.{Lit}
use Rattle.proof_semantics.specs.Clauses.{has_literal}
use Rattle.proof_semantics.proofs.LiteralLaws.{common-swap}
use Rattle.fair_semantics.specs.declared.entries.Kind.TheVariants.{Reach}
use Rattle.fair_semantics.specs.declared.entries.Use.{Use}
use Rattle.fair_semantics.specs.States.{initial_cube, meets_clauses}
use Rattle.fair_semantics.specs.Entries.{Entry, entry_at, set_at}
use Rattle.fair_semantics.specs.Validity.{set_behind}
use Rattle.fair_semantics.proofs.Examples.{no_uses}
use Rattle.fair_semantics.proofs.Initial.{holds-initial}
use Rattle.cnf_unroll.specs.Laws.{ObligationsTell, AreOver}
use Rattle.entry.specs.Laws.{IsGoodList}
use Rattle.entry.specs.Proved.{holds_initial}
use Rattle.ic3_semantics.specs.declared.questions.Start.TheVariants.{Initial}
use Rattle.ic3_semantics.specs.declared.questions.Goal.{Goal}
use Rattle.ic3_semantics.specs.Searching.{Question, Separates, closed_entry}
use Rattle.ic3_closing.specs.Standing.{Stands}
use Rattle.ic3_closing.proofs.Kept.{lie}
use Rattle.ic3_closing.proofs.Parting.{misses_within, first_false}
use Rattle.ic3_closing.proofs.Unbroken.{stays}

-- ---- a literal of the initial cube

seen_base : (c : Circuit) (clauses : List (List Lit)) → All (holds_initial c) clauses
    → All (λ clause. list_any (has_literal clause) (initial_cube c) ≡ true) clauses
seen_base c clauses h =
    All-weaker (holds_initial c) (λ clause. list_any (has_literal clause) (initial_cube c) ≡ true)
    (λ clause e. common-swap (initial_cube c) clause e) clauses h

-- ---- the entry

alone : (c : Circuit) (view : List Entry) (goal : Goal) (clauses : List (List Lit)) → ObligationsTell c → IsGoodList c view
    → AreOver (length c.latches) clauses → All (holds_initial c) clauses
    → Stands (record { circuit = c; view = view; start = Initial }) goal clauses []
    → Separates (record { circuit = c; view = view; start = Initial }) goal (closed_entry Initial clauses [])
alone c view goal clauses tell good over base stand =
    let q : Question = record { circuit = c; view = view; start = Initial } in
    let e : Entry = record { kind = Reach; clauses = clauses; uses = [] } in
    let starts : (s : List Bool) → IsInitial c s → set_behind view e s ≡ true =
    λ s is. and_from (meets_clauses clauses s) (lie (set_at view) s []) (holds-initial c clauses s (seen_base c clauses base) is) refl
    in
    record {
      over = over;
      valid = record {
        uses = no_uses view;
        closed = stays c view e tell good (no_uses view) over stand.unbroken;
        reach = λ kind. record {
          initial = starts;
          uses = All-nil (λ u. (entry_at view u.entry).kind ≡ Reach);
        };
      };
      base = seen_base c clauses base;
      holds = starts;
      misses = misses_within q goal (meets_clauses clauses) (set_behind view e)
          (λ s out. first_false (meets_clauses clauses s) (lie (set_at view) s []) out) stand.misses;
    }

pub alone_separates : (c : Circuit) (view : List Entry) (goal : Goal) (clauses : List (List Lit)) (uses : List Use) → uses ≡ []
    → ObligationsTell c → IsGoodList c view
    → AreOver (length c.latches) clauses → All (holds_initial c) clauses
    → Stands (record { circuit = c; view = view; start = Initial }) goal clauses uses
    → Separates (record { circuit = c; view = view; start = Initial }) goal (closed_entry Initial clauses uses)
alone_separates c view goal clauses uses none tell good over base stand =
    let q : Question = record { circuit = c; view = view; start = Initial } in
    subst (λ us. Separates q goal (closed_entry Initial clauses us)) (sym none)
    (alone c view goal clauses tell good over base (subst (Stands q goal clauses) none stand))
