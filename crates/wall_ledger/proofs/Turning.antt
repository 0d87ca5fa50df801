-- A pass in memory, as it takes and ends its turns.
use Rattle.std.proofs.Common.{◌≡◌, ◌+◌, ◌<◌, ◌^◌, inl, List, [], ◌∷◌, sym, subst}
use Rattle.wall_store.specs.Boards.{BoardState}
use Rattle.wall_ledger.specs.declared.pass.Hand.{Hand}
use Rattle.wall_ledger.specs.Tickets.{IsLeaving, IsLeavingLonger, Turns}
use Rattle.wall_ledger.specs.Rules.{Face, Kept, IsNumbered, added}
use Rattle.wall_ledger.specs.Hands.{face_in, board_in, ticket_in, IsResting, HasTurn, IsEnding}
use Rattle.wall_ledger.proofs.Events.{event_keeps}

-- a pass may take turns
pub may_turn : (s : Hand) → IsResting s → IsNumbered s.place.me.0.client
may_turn s r = subst IsNumbered (sym r.only) (s.number, inl r.mirror.number)

-- ---- the end of a turn

module _ (first : BoardState) (s : Hand) (h : HasTurn s) (y : BoardState) (g : Face) (ending : IsEnding s y g) (after : List Face) (picked : after ≡ g ∷ []) where
  turns_on : Turns (Kept first) s.place.id s.place.me.0.client (ticket_in s) (board_in s) y after
  turns_on = subst (λ (z : List Face × List Face). Turns (Kept first) s.place.id z.0 (ticket_in s) (board_in s) y z.1)
      (λ i. (sym h.only i, sym picked i)) (event_keeps first (ticket_in s) (board_in s) y s.number (face_in s) g ending.event s.place.id)

  pub leaves : added y ≡ added (board_in s) → IsLeaving (Kept first) added after y s.place
  leaves same = (ticket_in s, board_in s, h.stage, h.out, same, turns_on)

  pub leaves_longer : added y ≡ added (board_in s) + 1 → added y < 2 ^ 64 → IsLeavingLonger (Kept first) added after y s.place
  leaves_longer more below = (ticket_in s, board_in s, h.stage, h.out, more, below, turns_on)
