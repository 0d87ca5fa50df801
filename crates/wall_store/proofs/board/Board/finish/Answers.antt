use Rattle.std.proofs.Common.{List, sym, subst}
use Rattle.wall_store.specs.declared.outcomes.Served.{Served}
use Rattle.wall_store.specs.Boards.{BoardState, IsBoard, IsTrueOf}
use Rattle.wall_store.specs.Keeping.{seen_as}
use Rattle.wall_store.proofs.Kept.{finished_keeps}
use Rattle.wall_store.proofs.board.Board.finish.Goals as goal

pub invariant_of-self : goal.invariant_of-self
invariant_of-self c =
    let b : BoardState = seen_as c.self.inside in
    let true_of : IsTrueOf b.circuit b.entries c.args.property c.args.outcome =
    subst (λ (x : BoardState). IsTrueOf x.circuit x.entries c.args.property c.args.outcome) (sym c.self.view_is) c.requires.outcome
    in
    record {
      board =
          subst (λ (served : List Served). IsBoard (record b { served = served })) (sym c.keep_in.ensures.after)
          (finished_keeps b c.args.property c.args.outcome c.keep_in.result c.self.invariant.board true_of);
      room = c.self.invariant.room;
      scratch = c.self.invariant.scratch;
    }
