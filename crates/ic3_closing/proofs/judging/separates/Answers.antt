use Rattle.std.proofs.Common.{◌<◌, [], length, sym, subst}
use Rattle.std.specs.List.{All}
use Rattle.std.proofs.lemmas.List.Elements.{All-nil}
use Rattle.entry.specs.CheckedEntries.{viewed}
use Rattle.ic3_semantics.specs.declared.questions.Start.TheVariants.{Initial}
use Rattle.ic3_semantics.specs.Searching.{Separates, closed_entry}
use Rattle.ic3_closing.specs.Standing.{Stands}
use Rattle.ic3_closing.proofs.Alone.{alone_separates}
use Rattle.ic3_closing.proofs.Ends.{on_flag}
use Rattle.ic3_closing.proofs.judging.separates.Goals as goal

pub stands-requires-clause-present : goal.stands-requires-clause-present
stands-requires-clause-present c =
    subst (All (λ u. u.entry < length c.args.view.now)) (sym (c.is_reach_set.ensures.none c.if-not-is_reach_set.false))
    (All-nil (λ u. u.entry < length c.args.view.now))

pub returns-clause-separates : goal.returns-clause-separates
returns-clause-separates c =
    let k = c.args.c.now in
    let set = c.args.set.now in
    let fits = c.if-not-is_reach_set.false in
    on_flag c.stands.result
    (Stands (record { circuit = k; view = viewed c.args.view.now; start = Initial }) c.args.goal.now set.clauses set.uses)
    (Separates (record { circuit = k; view = viewed c.args.view.now; start = Initial }) c.args.goal.now (closed_entry Initial set.clauses set.uses))
    (alone_separates k (viewed c.args.view.now) c.args.goal.now set.clauses set.uses (c.is_reach_set.ensures.none fits)
    c.obligations_tell.ensures c.requires.view (c.is_reach_set.ensures.over fits) (c.is_reach_set.ensures.base fits))
    c.stands.ensures.stands
