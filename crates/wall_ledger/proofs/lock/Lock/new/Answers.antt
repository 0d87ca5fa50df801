use Rattle.std.proofs.Common.{rules, ◌≡◌, [], ◌∷◌, Some, List, Option, subst, sym}
use Rattle.atomic_table.specs.Table.{opening}
use Rattle.wall_ledger.specs.Tickets.{most_tickets, Queued, idle}
use Rattle.wall_ledger.proofs.Tickets.{opens}
use Rattle.wall_ledger.proofs.lock.Lock.new.Goals as goal

pub new-requires : goal.new-requires
new-requires g c =
    let items : c.push.new.self.items ≡ Some c.args.value ∷ [] = search rules in
    subst (λ (xs : List (Option g.row.T.Denot)).
    Queued g.P.Rule.size g.P.Rule.active (g.P.Rule.holds c.args.about.now)
    (opening (0 ∷ 0 ∷ 0 ∷ []) xs (idle most_tickets (g.P.Rule.first c.args.about.now)))) (sym items)
    (opens g.P.Rule.size g.P.Rule.active (g.P.Rule.holds c.args.about.now) c.args.value (g.P.Rule.first c.args.about.now)
    c.requires.size c.requires.rule)
