use Rattle.std.proofs.Common.{◌∙◌, sym}
use Rattle.waves.proofs.SourceLaws.{source_kept}
use Rattle.waves.proofs.named.keep_source.Goals as goal

pub returns : goal.returns
returns c =
    source_kept c.args.sources.now c.insert.new.self c.args.named.now c.in-Some.literal c.in_ok-name.name (sym c.in-Some.ensures)
    (c.in_ok-name.ensures.items ∙ c.as_slice.ensures) c.in_ok-insert.ensures.updates.0
