use Rattle.std.proofs.Common.{sym, ap, subst}
use Rattle.std.specs.List.{All}
use Rattle.entry.specs.CheckedEntries.{viewed}
use Rattle.skeleton.specs.Finding.{Asking, BeginsNone}
use Rattle.fair_round.proofs.Kept.{avoid-as}
use Rattle.fair_round.proofs.rounds.Rounds.avoided.Goals as goal

pub returns : goal.returns
returns c =
    let s = c.self.inside in
    let a = c.args.self.now in
    subst (λ cubes. All (BeginsNone c.args.self.now.circuit c.args.self.now.property c.args.self.now.seen) cubes) (sym c.as_slice.ensures)
    (avoid-as s.query.circuit a.circuit s.query.property a.property (viewed s.seen) a.seen s.avoid (ap (λ (b : Asking). b.circuit) c.self.view_is)
    (ap (λ (b : Asking). b.property) c.self.view_is) (ap (λ (b : Asking). b.seen) c.self.view_is) c.self.invariant.avoid)
