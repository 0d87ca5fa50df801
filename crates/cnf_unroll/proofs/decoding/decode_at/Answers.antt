use Rattle.std.proofs.Common.{◌<◌, ◌^◌, subst, sym}
use Rattle.std.specs.List.{All}
use Rattle.cnf_unroll.proofs.Bounds.{inputs_bound}
use Rattle.cnf_unroll.proofs.decoding.decode_at.Goals as goal

pub input_values-requires-clause-inputs : goal.input_values-requires-clause-inputs
input_values-requires-clause-inputs c =
    subst (λ inputs. All (λ v. v < 2 ^ 32) inputs) (sym c.inputs.ensures)
    (inputs_bound c.args.c.now c.max-limits.ensures.checked c.max-limits.ensures.limits)
