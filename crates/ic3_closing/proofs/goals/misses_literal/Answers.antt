use Rattle.std.proofs.Common.{[], ◌∷◌, refl, sym, ap, ◌∙◌}
use Rattle.cdcl.specs.Solving.{HasNoModel}
use Rattle.fair_semantics.specs.States.{meets_clauses}
use Rattle.entry.specs.CheckedEntries.{viewed}
use Rattle.ic3_closing.specs.Goals.{MissesLiteral, goal_set}
use Rattle.ic3_closing.proofs.Ends.{on_flag}
use Rattle.ic3_questions.proofs.ReadVariables.{read_from}
use Rattle.ic3_closing.proofs.Missing.{goal_missed}
use Rattle.ic3_closing.proofs.goals.misses_literal.Goals as goal

pub returns-clause-misses : goal.returns-clause-misses
returns-clause-misses c =
    on_flag c.is_refused-refused.result
    (HasNoModel c.in_ok-solver.solver.added (c.literal_in_block.result ∷ []))
    (MissesLiteral (record { circuit = c.args.c.now; view = viewed c.args.view.now; start = c.args.start.now }) c.args.literal c.args.avoid.now
    (meets_clauses c.args.clauses.now))
    (goal_missed c.args.c.now (viewed c.args.view.now) c.args.start.now c.args.literal c.args.avoid.now c.args.clauses.now (goal_set c.args.clauses.now c.args.avoid.now)
    (c.literal_in_block.result ∷ []) c.in_ok-solver.solver.added
    c.max-limits.ensures.checked c.one_valuation.ensures c.requires.view
    (read_from c.args.c.now _ (sym c.is_read.ensures ∙ c.if-not-is_read.false))
    c.requires.avoid c.requires.over refl c.in_ok-solver.ensures
    (ap (λ l. l ∷ []) c.literal_in_block.ensures))
    c.is_refused-refused.ensures.refused
