-- What blocking keeps, from one moment to the next and on from there.
use Rattle.std.proofs.Common.{◌+◌, ◌≤◌, List, length, subst, ◌∙◌, arith}
use Rattle.proof_semantics.specs.declared.literals.Lit.{Lit}
use Rattle.edge.specs.Units.{Spendings}
use Rattle.ic3_frames.specs.Room.{room}
use Rattle.ic3_semantics.specs.Searching.{Question, CountsUpTo}
use Rattle.ic3_semantics.specs.Stepping.{Stepping}
use Rattle.ic3_loops.specs.Sound.{KeepsQuestion}
use Rattle.ic3_loops.specs.Keeping.{Keeps, Bounds}
use Rattle.ic3_loops.proofs.Sounds.{Levels}
use Rattle.ic3_loops.proofs.Stuck.{narrow_on}
use Rattle.ic3_loops.proofs.Ended.{keeps_on, up_to_on}

pub keeps_then : (starts : List Lit) (a b c : Stepping) (x y z : Levels) (l m n : Spendings) → KeepsQuestion a b → Keeps starts a b x y l m
    → Keeps starts b c y z m n → Keeps starts a c x z l n
keeps_then starts a b c x y z l m n same first second = record {
  search = second.search;
  number = second.number ∙ first.number;
  narrows = narrow_on x y z first.narrows second.narrows;
  paid =
      let less =
      subst (λ (q : Question). n.steps + room (length q.circuit.latches) z ≤ m.steps + room (length q.circuit.latches) y) same.question second.paid
      in
      omega (arith, less, first.paid);
}

pub bounds_then : (starts : List Lit) (a b c : Stepping) (x y : Levels) (l m n : Spendings) → Keeps starts a b x y l m → Bounds a b x l m
    → Bounds b c y m n → Bounds a c x l n
bounds_then starts a b c x y l m n kept first second = record {
  question = keeps_on a b c first.question second.question;
  counted =
      up_to_on (room (length a.question.circuit.latches) x) (room (length a.question.circuit.latches) y) l m n first.counted kept.paid
      (subst (λ (q : Question). CountsUpTo (room (length q.circuit.latches) y) m n) first.question.question second.counted);
}
