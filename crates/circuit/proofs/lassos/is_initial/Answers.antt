use Rattle.std.proofs.Common.{sym, ap, ◌∙◌}
use Rattle.circuit.specs.Following.{all_agree}
use Rattle.circuit.proofs.Following.{all_agree-told, all_agree-from}
use Rattle.circuit.proofs.lassos.is_initial.Goals as goal

pub returns : goal.returns
returns c =
    let is = c.all_agree.ensures ∙ ap (λ latches. all_agree latches c.args.latches.now) c.latches.ensures in (
      λ yes. all_agree-told c.args.c.now.latches c.args.latches.now (sym is ∙ yes),
      λ initial. is ∙ all_agree-from c.args.c.now.latches c.args.latches.now initial,
    )
