use Rattle.std.proofs.Common.{◌++◌, ap, ◌∙◌}
use Rattle.std.specs.Prelude.{decimal}
use Rattle.cdcl_log.specs.IdsOf.{id_in}
use Rattle.cdcl_log.proofs.SpellingLaws.{text_written}
use Rattle.cdcl_log.proofs.spelling.write_line.Goals as goal

pub returns : goal.returns
returns c =
    text_written (id_in c.args.ids.now) c.args.id c.args.clause.now c.args.hints.now
    c.push_number.new.out.items c.push.new.self.items c.push_literals.new.out.items c.push-2.new.self.items c.push-3.new.self.items c.push_hints.new.out.items c.push-4.new.self.items
    (c.in_ok-push_number.ensures.ok ∙ ap (λ zs. zs ++ decimal c.args.id) c.requires)
    c.in_ok-push.ensures.items c.in_ok-push_literals.ensures c.in_ok-push-2.ensures.items c.in_ok-push-3.ensures.items c.in_ok-push_hints.ensures c.in_ok-push-4.ensures.items
