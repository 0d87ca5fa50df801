use Rattle.std.proofs.Common.{◌∙◌, ap}
use Rattle.waves.specs.Names.{escaped}
use Rattle.waves.proofs.KeptLaws.{inserted}
use Rattle.waves.proofs.symbols.keep_name.Goals as goal

pub returns : goal.returns
returns c =
    inserted c.args.names.now c.insert.new.self c.args.symbol.now c.in_ok-name.name (c.in_ok-name.ensures ∙ ap escaped c.as_slice.ensures) c.in_ok-insert.ensures.updates.0
