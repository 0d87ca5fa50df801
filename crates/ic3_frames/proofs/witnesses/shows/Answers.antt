use Rattle.std.proofs.Common.{rules, sym, ap, ◌∙◌}
use Rattle.std.specs.Option.{option_copied}
use Rattle.proof_semantics.specs.Clauses.{clauses_value, values_of}
use Rattle.ic3_frames.specs.Frames.{frame_at}
use Rattle.ic3_frames.proofs.Witnessing.{breaks_found}
use Rattle.ic3_frames.proofs.witnesses.shows.Goals as goal

pub returns-in-Some : goal.returns-in-Some
returns-in-Some c = λ q each shown.
    let found = sym c.get.ensures.value ∙ ap option_copied c.in-Some.is in
    let breaks = breaks_found q c.args.lemma.now _ c.in-Some.step.now found (each c.args.lemma.now) in
    record {
      step = c.in-Some.step.now;
      arena = breaks.arena;
      from = (search rules);
      breaks = breaks.next;
    }
