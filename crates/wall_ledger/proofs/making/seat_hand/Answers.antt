use Rattle.std.proofs.Common.{◌≡◌, ◌≤◌, List, [], ◌∷◌, map, vec_capacity, refl, sym, ap, ◌∙◌, subst, arith}
use Rattle.wall_store.specs.Boards.{BoardState, properties_of}
use Rattle.wall_ledger.specs.declared.pass.Hand.{Hand}
use Rattle.wall_ledger.specs.Passes.{new_pass}
use Rattle.wall_ledger.specs.Rules.{Face, fresh, blank_marks}
use Rattle.wall_ledger.specs.Seats.{IsStart, head_of}
use Rattle.wall_ledger.specs.Shows.{blank_shown}
use Rattle.wall_ledger.specs.Tickets.{view_of}
use Rattle.wall_ledger.specs.Hands.{ledger_of}
use Rattle.wall_ledger.proofs.NewPasses.{cut_off, cut_left, cut_right, new_rests, new_state}
use Rattle.wall_ledger.proofs.making.seat_hand.Goals as goal

pub split-seat-requires-clause-forks : goal.split-seat-requires-clause-forks
split-seat-requires-clause-forks c =
    cut_off c.args.gate.now.table.shared.key.value c.args.first.now.value c.args.place.now.id c.args.number (view_of c.args.place.now)
    c.requires.number c.requires.faces

pub returns-clause-idle : goal.returns-clause-idle
returns-clause-idle c = (ap (λ z. z.0.stage) c.split-seat.ensures.left, ap (λ z. z.1) c.split-seat.ensures.left)

pub returns-clause-budget : goal.returns-clause-budget
returns-clause-budget c = let b = ap (λ z. z.0.budget) c.split-seat.ensures.left in let a = c.requires.budget in omega arith

pub returns-clause-faces : goal.returns-clause-faces
returns-clause-faces c =
    ap (λ z. z.0.client) c.split-seat.ensures.left
    ∙ cut_left c.args.first.now.value c.args.number (view_of c.args.place.now) c.requires.number c.requires.faces

pub returns-clause-resting : goal.returns-clause-resting
returns-clause-resting c =
    let first : BoardState = c.args.first.now.value in
    let v : List Face = view_of c.args.place.now in
    let eq : c.of-copy.result.value.value ≡ first = ap (λ z. z.value) c.of-copy.ensures in
    new_rests _ (subst IsStart (sym eq) c.requires.start) (head_of v) c.split-seat.ensures.right.1
    (subst (λ (z : BoardState). head_of v ≡ fresh z (blank_marks z) c.args.number ∷ []) (sym eq) (cut_right first c.args.number v c.requires.number c.requires.faces))
    refl refl
    (c.requires.entries ∙ ap (λ (b : BoardState). b.entries) (sym eq))
    (c.requires.marks ∙ ap (λ (b : BoardState). map blank_shown (properties_of b.served)) (sym eq))
    (subst (λ (b : BoardState). b.limit ≤ vec_capacity c.args.entries) (sym eq) c.requires.room)

pub returns-clause-state : goal.returns-clause-state
returns-clause-state c =
    let first : BoardState = c.args.first.now.value in
    let v : List Face = view_of c.args.place.now in
    let hand : Hand = record {
      place = c.split-seat.result;
      first = c.of-copy.result;
      number = c.args.number;
      entries = c.args.entries;
      stamp = 0;
      turns = 0;
      marks = c.args.marks;
    } in
    let eq : c.of-copy.result.value.value ≡ first = ap (λ z. z.value) c.of-copy.ensures in
    new_state hand (subst IsStart (sym eq) c.requires.start) (head_of v) c.split-seat.ensures.right.1
    (subst (λ (z : BoardState). head_of v ≡ fresh z (blank_marks z) c.args.number ∷ []) (sym eq) (cut_right first c.args.number v c.requires.number c.requires.faces))
    ∙ (λ i. new_pass (ledger_of ((c.split-seat.ensures.right.0 ∙ c.requires.own) i) (eq i)) c.args.number)
