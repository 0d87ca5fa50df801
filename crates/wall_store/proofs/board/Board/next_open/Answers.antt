use Rattle.std.proofs.Common.{List, refl, sym, ap, ◌∙◌, subst}
use Rattle.wall_store.specs.declared.outcomes.Served.{Served}
use Rattle.wall_store.specs.Boards.{BoardState}
use Rattle.wall_store.specs.Events.{OpensNext, IsNextOpen}
use Rattle.wall_store.specs.Scanning.{least_in, next_in}
use Rattle.wall_store.proofs.Serving.{next_right}
use Rattle.wall_store.proofs.board.Board.next_open.Goals as goal

pub returns : goal.returns
returns c =
    let served = c.self.inside.served.items in
    subst (λ (b : BoardState). OpensNext b c.args.from c.next_in.result b) c.self.view_is
    (record {
      answer =
          subst (IsNextOpen served c.args.from)
          (sym (c.next_in.ensures ∙ ap (λ (s : List Served). next_in (least_in c.args.from s) (least_in 0 s)) c.deref.ensures.value))
          (next_right served c.args.from c.self.invariant.board.ascend);
      after = refl;
    })
