use Rattle.std.proofs.Common.{[], ◌∷◌, refl, map, codes}
use Rattle.waves.specs.Dumps.{var_line, comment_line}
use Rattle.waves.proofs.Lines.{header_written}
use Rattle.waves.proofs.dumps.push_header.Goals as goal

pub returns : goal.returns
returns c =
    header_written c.args.out.now.items (codes "$timescale 1ns $end\n") (codes "$scope module fairlive $end\n") (codes "$scope module fairlive $end" ∷ [])
    (map var_line c.args.signals.now) (codes "$timescale 1ns $end" ∷ []) (codes "$upscope $end" ∷ codes "$enddefinitions $end" ∷ []) (comment_line c.args.j)
    c.extend_from_slice.new.self.items c.push_comment.new.out.items c.extend_from_slice-2.new.self.items c.push_vars.new.out.items c.extend_from_slice-3.new.self.items
    c.in_ok-extend_from_slice.ensures.items c.in_ok-push_comment.ensures c.in_ok-extend_from_slice-2.ensures.items c.in_ok-push_vars.ensures
    c.in_ok-extend_from_slice-3.ensures.items refl refl
