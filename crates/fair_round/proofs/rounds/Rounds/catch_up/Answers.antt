use Rattle.std.proofs.Common.{List, sym, ap, ◌∙◌, subst}
use Rattle.fair_semantics.specs.Entries.{Entry}
use Rattle.entry.specs.CheckedEntries.{viewed, GoesOnFrom}
use Rattle.skeleton.specs.Finding.{Asking}
use Rattle.fair_round.proofs.Kept.{goes-on-then, caught-grows, on-err, avoid-grows, fit-grows}
use Rattle.fair_round.proofs.rounds.Rounds.catch_up.Goals as goal

pub invariant_of-self : goal.invariant_of-self
invariant_of-self c =
    let s = c.self.inside in
    let before : List Entry = viewed c.self.inside.seen in
    let after : List Entry = viewed c.catch_up.new.seen in
    let on : GoesOnFrom before (viewed c.args.view.now) =
    subst (λ xs. GoesOnFrom xs (viewed c.args.view.now)) (sym (ap (λ (a : Asking). a.seen) c.self.view_is)) c.requires.on
    in
    let grows : GoesOnFrom before after = caught-grows c.catch_up.result before after (viewed c.args.view.now) c.catch_up.ensures.seen
    (on-err c.catch_up.result (λ e. ap viewed e) c.catch_up.ensures.kept) on
    in
    record {
      circuit = c.self.invariant.circuit;
      on = goes-on-then s.query.seen before after c.self.invariant.on grows;
      runs = c.self.invariant.runs;
      avoid = avoid-grows c.never_stays.ensures s.query.circuit s.query.property before after s.avoid grows c.self.invariant.avoid;
      search = fit-grows s.query.circuit before after s.search grows c.self.invariant.search;
    }

pub returns-clause-kept : goal.returns-clause-kept
returns-clause-kept c =
    on-err c.catch_up.result
    (λ e. ap (λ (xs : List Entry). record { circuit = c.self.inside.query.circuit; property = c.self.inside.query.property; seen = xs }) (ap viewed e) ∙ c.self.view_is)
    c.catch_up.ensures.kept
