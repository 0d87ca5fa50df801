use Rattle.std.proofs.Common.{sym, subst, length}
use Rattle.entry.specs.CheckedEntries.{viewed}
use Rattle.ic3_semantics.specs.Stepping.{Stepping, IsOver}
use Rattle.ic3.proofs.Holding.{may_held}
use Rattle.ic3.proofs.steps.Steps.hold.Goals as goal

pub invariant_of-self : goal.invariant_of-self
invariant_of-self c =
    let st : Stepping = record {
      question = record { circuit = c.self.inside.c.now; view = viewed c.self.inside.view.now; start = c.self.inside.start.now };
      avoid = c.self.inside.avoid.now;
      lemmas = c.self.inside.lemmas.items;
    }
    in
    record {
      whole = c.self.invariant.whole;
      by =
          may_held st c.self.inside.questions c.hold_lemma.new.s c.args.level c.args.clause.now c.hold_lemma.new.lemmas.items c.self.invariant.by
          (subst (λ (x : Stepping). IsOver (length x.question.circuit.latches) c.args.clause.now) (sym c.self.view_is) c.requires) c.hold_lemma.ensures.kept;
    }
