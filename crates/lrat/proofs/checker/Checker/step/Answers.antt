use Rattle.std.proofs.Common.{subst, rules}
use Rattle.proof_semantics.specs.Proofs.{IsSound, judge, ids_of}
use Rattle.proof_semantics.proofs.Soundness.{addition_keeps, deletion_keeps}
use Rattle.lrat.specs.Judging.{Judges}
use Rattle.lrat.proofs.CheckerLaws.{sound_after, implied_after}
use Rattle.lrat.proofs.checker.Checker.step.Goals as goal

pub invariant_of-self-in-Some-Addition : goal.invariant_of-self-in-Some-Addition
invariant_of-self-in-Some-Addition c = record {
  unmarked = c.add_judged.ensures.marks;
  sound = sound_after c.add_judged.result c.self.inside.store c.add_judged.new.store _ c.add_judged.ensures.judged c.add_judged.ensures.err c.self.invariant.sound
      (λ t e. addition_keeps c.self.inside.store t c.in-Some-Addition.id c.as_slice.result.now c.as_slice-in-Some-Addition.result.now c.self.invariant.sound e);
}

pub invariant_of-self-in-Some-Deletion : goal.invariant_of-self-in-Some-Deletion
invariant_of-self-in-Some-Deletion c = record {
  unmarked = c.self.invariant.unmarked;
  sound = sound_after c.delete_judged.result c.self.inside.store c.delete_judged.new.store _ c.delete_judged.ensures.judged c.delete_judged.ensures.err c.self.invariant.sound
      (λ t e. deletion_keeps c.self.inside.store t (ids_of c.as_slice-in-Some-Deletion.result.now) c.self.invariant.sound e);
}

pub returns-in-Some-Addition-clause-implied : goal.returns-in-Some-Addition-clause-implied
returns-in-Some-Addition-clause-implied c =
    let judged : Judges c.add_judged.result (judge c.args.self.now c.args.line.now) c.add_judged.new.store = search rules in
    implied_after c.add_judged.result c.args.self.now c.add_judged.new.store c.args.line.now judged (subst IsSound c.self.view_is c.self.invariant.sound)
