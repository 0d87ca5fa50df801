use Rattle.std.proofs.Common.{◌<◌, length, sym, subst}
use Rattle.std.specs.Arc.{arc_value}
use Rattle.aig_semantics.specs.Circuits.{Circuit}
use Rattle.skeleton.proofs.Growing.{nothing_begun}
use Rattle.skeleton.proofs.query.Query.new.Goals as goal

pub invariant_of-result : goal.invariant_of-result
invariant_of-result c =
    let keeps = c.in_ok-known.ensures in
    record {
      property = subst (λ (a : Circuit). c.args.j < length a.justice) (sym c.in_ok-circuit.ensures) c.requires;
      begun = nothing_begun (arc_value c.in_ok-circuit.circuit) c.args.j c.in_ok-known.known keeps.added keeps.whole;
    }
