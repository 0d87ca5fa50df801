use Rattle.std.proofs.Common.{◌≡◌, [], ◌∷◌, map, sym, ap, ◌∙◌, subst}
use Rattle.std.specs.Arc.{arc_value}
use Rattle.wall_store.specs.Boards.{BoardState, IsBoard, first_board, properties_of}
use Rattle.wall_ledger.specs.Rules.{Kept, first_faces}
use Rattle.wall_ledger.specs.Seats.{IsStart}
use Rattle.wall_ledger.proofs.NewPasses.{starts, begins, first_properties, begun_with}
use Rattle.wall_ledger.proofs.ledger.Ledger.new.Goals as goal

pub new-requires-2-clause-rule : goal.new-requires-2-clause-rule
new-requires-2-clause-rule c =
    let b : BoardState = c.in_ok-board.board in
    let given = map arc_value c.args.given.now in
    let first : BoardState = first_board (arc_value c.args.circuit.now) c.args.properties.now c.args.workers c.args.limit given in
    let e : b ≡ first = c.in_ok-board.ensures in
    subst (λ (z : BoardState). Kept z 0 b (first_faces z ∷ [])) (sym c.of-first.ensures)
    (begins b (subst IsStart (sym e)
    (starts (arc_value c.args.circuit.now) c.args.properties.now c.args.workers c.args.limit given c.requires.origins (subst IsBoard e c.holds.ensures))))

pub seat_all-requires-clause-start : goal.seat_all-requires-clause-start
seat_all-requires-clause-start c =
    let b : BoardState = c.in_ok-board.board in
    let given = map arc_value c.args.given.now in
    let first : BoardState = first_board (arc_value c.args.circuit.now) c.args.properties.now c.args.workers c.args.limit given in
    let e : b ≡ first = c.in_ok-board.ensures in
    subst IsStart (sym (c.of-first.ensures ∙ e))
    (starts (arc_value c.args.circuit.now) c.args.properties.now c.args.workers c.args.limit given c.requires.origins (subst IsBoard e c.holds.ensures))

pub seat_all-requires-clause-properties : goal.seat_all-requires-clause-properties
seat_all-requires-clause-properties c =
    ap (λ (b : BoardState). properties_of b.served) (c.of-first.ensures ∙ c.in_ok-board.ensures) ∙ first_properties c.args.properties.now

pub returns : goal.returns
returns c =
    begun_with _ _ c.of-first.result.value (arc_value c.args.circuit.now) c.args.properties.now c.args.workers c.args.limit (map arc_value c.args.given.now) _
    (ap (λ z. z.value) c.in_ok-gate.ensures.key) (c.of-first.ensures ∙ c.in_ok-board.ensures) c.in_ok-passes.ensures
