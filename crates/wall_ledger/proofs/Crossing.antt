-- A pass may go to another thread: a search finds this of each of its parts, but not of all at once.
use Rattle.std.proofs.Common.{rules}
use denote.Param.Send.{IsSend, view_send, sendable}
use denote.Param.SendFields.{declared_send}
use Rattle.std.proofs.Crossing.{crosses}
use Rattle.std.specs.contracts.option.Option as Option
use Rattle.std.specs.contracts.snapshot.Snapshot as Snapshot
use Rattle.atomic_table.proofs.shared.Seat.TheSendSync as seat
use Rattle.atomic_table.specs.contracts.shared.Seat as Seat
use Rattle.entry.proofs.checked.Checked.TheSendSync as checked
use Rattle.wall_store.specs.contracts.board.Board as Board
use Rattle.wall_store.proofs.board.Board.TheSendSync as board
use Rattle.wall_ledger.specs.contracts.lock.Doing as Doing
use Rattle.wall_ledger.specs.contracts.faces.Faces as Faces
use Rattle.wall_ledger.specs.contracts.pass.Hand as Hand
use Rattle.wall_ledger.specs.contracts.ledger.Pass as Pass
use Rattle.wall_ledger.specs.contracts.ledger.Pass.TheInside as Inside

board_send : IsSend (Option.the_row Board.the_row)
board_send = search (board.the_send, rules, sendable, crosses) depth 20

place_send : IsSend (Seat.the_row (Option.the_row Board.the_row) (Doing.the_row Board.the_row Faces.the_row))
place_send = seat.the_send (Option.the_row Board.the_row) (Doing.the_row Board.the_row Faces.the_row) board_send

first_send : IsSend (Snapshot.the_row (Snapshot.the_row Board.the_row))
first_send = search (rules, sendable, crosses) depth 20

hand_send : IsSend Hand.the_row
hand_send = declared_send Hand.the_type (
  place_send,
  (
    first_send,
    (
      search (rules, sendable, crosses) depth 20,
      (
        search (checked.the_send, checked.the_sync, rules, sendable, crosses) depth 20,
        (search (rules, sendable, crosses) depth 20, (search (rules, sendable, crosses) depth 20, (search (rules, sendable, crosses) depth 20, tt))),
      ),
    ),
  ),
)

inside_send : IsSend Inside.the_row
inside_send = declared_send Inside.the_type (hand_send, tt)

pub pass_send : IsSend Pass.the_row
pass_send = view_send _ _ _ _ _ inside_send
