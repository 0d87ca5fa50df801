use Rattle.std.proofs.Common.{◌∙◌, Some, sym, ap}
use Rattle.certificate_lines.specs.Uses.{uses_of}
use Rattle.certificate_lines.proofs.UseLaws.{no_use, empty_is}
use Rattle.certificate_lines.proofs.uses.read_uses.Goals as goal

pub returns-then-is_empty : goal.returns-then-is_empty
returns-then-is_empty c =
    ap Some c.new.ensures ∙ sym (ap (uses_of c.args.version) (empty_is c.args.line.now (sym c.if-is_empty.ensures)) ∙ no_use c.args.version)
