use Rattle.std.proofs.Common.{◌++◌, ◌∙◌, ap, codes}
use Rattle.std.specs.Prelude.{decimal}
use Rattle.waves.proofs.Lines.{line_written}
use Rattle.waves.proofs.dumps.push_comment.Goals as goal

pub returns : goal.returns
returns c =
    line_written c.args.out.now.items (codes "$comment fairlive j") (decimal c.args.j) (codes " $end") c.extend_from_slice.new.self.items
    c.push_number.new.out.items c.extend_from_slice-2.new.self.items c.in_ok-extend_from_slice.ensures.items
    (c.in_ok-push_number.ensures.ok ∙ ap (λ n. c.extend_from_slice.new.self.items ++ decimal n) c.from.ensures) c.in_ok-extend_from_slice-2.ensures.items
