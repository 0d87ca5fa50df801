use Rattle.std.proofs.Common.{rules, ◌≡◌, ◌++◌, ◌∙◌, codes}
use Rattle.std.specs.Prelude.{decimal}
use Rattle.plain_commands.specs.Texts.{limit_number}
use Rattle.plain_commands.proofs.Grouping.{regrouped}
use Rattle.plain_commands.proofs.reports.push_lasso.Goals as goal

pub returns : goal.returns
returns c =
    let spent = c.args.spent.now in
    let flat : c.push.new.self.items ≡ c.args.text.now.items ++ codes "c worker " ++ decimal c.args.w ++ codes " conflicts " ++ decimal spent.conflicts
    ++ codes " of " ++ decimal (limit_number spent.conflict_limit) ++ codes " depth " ++ decimal c.args.done ++ codes " of " ++ decimal c.args.depth
    ++ codes "\n" = search rules in
    flat ∙ regrouped c.args.text.now.items (codes "c worker ") (decimal c.args.w) (codes " conflicts ") (decimal spent.conflicts) (codes " of ")
    (decimal (limit_number spent.conflict_limit)) (codes " depth ") (decimal c.args.done) (codes " of ") (decimal c.args.depth) (codes "\n")
