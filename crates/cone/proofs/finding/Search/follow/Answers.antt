use Rattle.std.proofs.Common.{sym, ◌∙◌}
use Rattle.cone.proofs.Searches.{first-inside, second-inside, follows, nearer, follows-nothing}
use Rattle.cone.proofs.finding.Search.follow.Goals as goal

pub put-requires : goal.put-requires
put-requires c =
    first-inside c.args.c.now c.args.j c.args.table.now c.max-limits.ensures.limits c.requires.table c.args.self.now.marks.items c.args.self.now.stack.items
    c.requires.search c.args.v c.requires.last c.drop_last.new.stack.items c.drop_last.ensures
    c.in-Some.reads (sym c.reads_at.ensures ∙ c.in-Some.is)

pub put-requires-in-Some : goal.put-requires-in-Some
put-requires-in-Some c =
    second-inside c.args.c.now c.args.j c.args.table.now c.max-limits.ensures.limits c.requires.table c.args.self.now.marks.items c.args.self.now.stack.items
    c.requires.search c.args.v c.requires.last c.drop_last.new.stack.items c.drop_last.ensures
    c.in-Some.reads (sym c.reads_at.ensures ∙ c.in-Some.is) c.put.new.self.marks.items c.put.new.self.stack.items c.in_ok-put.ensures

pub returns-in_ok-put-2-clause-search : goal.returns-in_ok-put-2-clause-search
returns-in_ok-put-2-clause-search c =
    follows c.args.c.now c.args.j c.args.table.now c.max-limits.ensures.limits c.requires.table c.args.self.now.marks.items c.args.self.now.stack.items
    c.requires.search c.args.v c.requires.last c.drop_last.new.stack.items c.drop_last.ensures
    c.in-Some.reads (sym c.reads_at.ensures ∙ c.in-Some.is) c.put.new.self.marks.items c.put.new.self.stack.items c.in_ok-put.ensures
    c.put-in-Some.new.self.marks.items c.put-in-Some.new.self.stack.items c.in_ok-put-2.ensures

pub returns-in_ok-put-2-clause-nearer : goal.returns-in_ok-put-2-clause-nearer
returns-in_ok-put-2-clause-nearer c =
    nearer c.args.c.now c.args.j c.args.table.now c.max-limits.ensures.limits c.requires.table c.args.self.now.marks.items c.args.self.now.stack.items
    c.requires.search c.args.v c.requires.last c.drop_last.new.stack.items c.drop_last.ensures
    c.in-Some.reads (sym c.reads_at.ensures ∙ c.in-Some.is) c.put.new.self.marks.items c.put.new.self.stack.items c.in_ok-put.ensures
    c.put-in-Some.new.self.marks.items c.put-in-Some.new.self.stack.items c.in_ok-put-2.ensures

pub returns-in_default-clause-search : goal.returns-in_default-clause-search
returns-in_default-clause-search c =
    follows-nothing c.args.c.now c.args.j c.args.table.now c.max-limits.ensures.limits c.requires.table c.args.self.now.marks.items c.args.self.now.stack.items
    c.requires.search c.args.v c.requires.last c.drop_last.new.stack.items c.drop_last.ensures
    (sym c.reads_at.ensures ∙ c.in_default.is)
