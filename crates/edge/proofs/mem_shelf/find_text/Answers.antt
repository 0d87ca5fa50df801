use Rattle.std.proofs.Common.{Some, ap, ◌∙◌}
use Rattle.std.specs.Prelude.{option_copied}
use Rattle.edge.proofs.Named.{text_of-found}
use Rattle.edge.proofs.mem_shelf.find_text.Goals as goal

pub returns : goal.returns
returns c = ap Some c.as_slice.ensures.value ∙ text_of-found c.args.texts.now c.args.name.now _ c.in_ok-pair.ensures

pub returns-in_err-pair : goal.returns-in_err-pair
returns-in_err-pair c = ap option_copied c.from_residual.ensures ∙ text_of-found c.args.texts.now c.args.name.now _ c.in_err-pair.ensures
