use Rattle.std.proofs.Common.{List, take, get_or, sym, subst, ap, ◌∙◌, arith}
use Rattle.proof_semantics.specs.declared.literals.Lit.{Lit}
use Rattle.lrat.specs.ArenaOf.{clauses_at, IsPacked}
use Rattle.lrat.specs.declared.arena.Place.{Place}
use Rattle.lrat.proofs.ArenaLaws.{clauses-cut, IsPacked-cut}
use Rattle.lrat.proofs.arena.cut.Goals as goal

pub returns-then-kept-len-clause-clauses : goal.returns-then-kept-len-clause-clauses
returns-then-kept-len-clause-clauses c =
    let ls = c.args.arena.now.literals.items in
    let ps = c.args.arena.now.places.items in
    let literals = c.truncate.ensures.items ∙ ap (λ (p : Place). take p.start ls) c.index.ensures in
    (λ i. clauses_at (literals i) (c.truncate-then-kept-len.ensures.items i))
    ∙ clauses-cut ls ps c.args.kept c.index.result.now c.requires.packed (omega arith)

pub returns-then-kept-len-clause-packed : goal.returns-then-kept-len-clause-packed
returns-then-kept-len-clause-packed c =
    let ls = c.args.arena.now.literals.items in
    let ps = c.args.arena.now.places.items in
    let literals = c.truncate.ensures.items ∙ ap (λ (p : Place). take p.start ls) c.index.ensures in
    subst (λ (xs : List Lit). IsPacked xs c.truncate-then-kept-len.new.self.items) (sym literals)
    (subst (λ (qs : List Place). IsPacked (take (get_or ps c.args.kept c.index.result.now).start ls) qs) (sym c.truncate-then-kept-len.ensures.items)
    (IsPacked-cut ls ps c.args.kept c.index.result.now c.requires.packed (omega arith)))
