-- Searches that go on over narrower frames; and lemmas as cubes that may miss the starts.
use Rattle.std.proofs.Common.{◌≡◌, ℕ, ◌+◌, ◌<◌, ◌≤◌, Bool, true, false, not, ◌&&◌, ◌||◌, nat_eq, List, [], ◌∷◌, map, length, refl, sym, ap, ap₂, subst, ◌∙◌, arith}
use Rattle.proof_semantics.specs.declared.literals.Lit.{Lit}
use Rattle.proof_semantics.specs.Clauses.{bool_eq, lit_eq, negation, has_literal}
use Rattle.ic3_frames.specs.Frames.{with_lemma}
use Rattle.ic3_frames.specs.Room.{room}
use Rattle.ic3_frames.proofs.Meaning.{number-stays}
use Rattle.ic3_frames.proofs.Rooms.{lemmas-make-none}
use Rattle.ic3_semantics.specs.Searching.{Question}
use Rattle.ic3_semantics.specs.Stepping.{Stepping}
use Rattle.ic3_loops.specs.Sound.{IsSearch, KeepsQuestion, has_one_of}
use Rattle.ic3_generalise.specs.Cubes.{misses_starts}
use Rattle.ic3_loops.specs.Propagating.{IsNarrower}
use Rattle.ic3_loops.proofs.Sounds.{Levels}
use Rattle.ic3_loops.proofs.Stuck.{narrow_on}
use Rattle.ic3_loops.proofs.Excluded.{put-narrows}
use Rattle.ic3_loops.proofs.Ended.{keeps_on}

pub narrower_none : (starts : List Lit) (st : Stepping) (levels : Levels) → IsSearch starts st levels → IsNarrower starts st st levels levels
narrower_none starts st levels search = record {
  search = search;
  question = record { question = refl; avoid = refl };
  number = refl;
  narrows = λ k s allowed. allowed;
  room = omega arith;
}

pub narrower_same : (starts : List Lit) (old new : Stepping) (levels : Levels) → new ≡ old → IsSearch starts old levels
    → IsNarrower starts old new levels levels
narrower_same starts old new levels same search =
    subst (λ st. IsNarrower starts old st levels levels) (sym same) (narrower_none starts old levels search)

pub narrower_on : (starts : List Lit) (a b c : Stepping) (x y z : Levels) → IsNarrower starts a b x y → IsNarrower starts b c y z
    → IsNarrower starts a c x z
narrower_on starts a b c x y z first second = record {
  search = second.search;
  question = keeps_on a b c first.question second.question;
  number = second.number ∙ first.number;
  narrows = narrow_on x y z first.narrows second.narrows;
  room =
      let less =
      subst (λ (q : Question). room (length q.circuit.latches) z ≤ room (length q.circuit.latches) y) first.question.question second.room
      in
      omega (arith, less, first.room);
}

pub narrower_with : (starts : List Lit) (old new : Stepping) (levels after : Levels) (n : ℕ) (c : List Lit) → IsSearch starts new after
    → KeepsQuestion old new → n < length levels → after ≡ with_lemma levels n c → IsNarrower starts old new levels after
narrower_with starts old new levels after n c search question inside is =
    let width : ℕ = length old.question.circuit.latches in
    record {
      search = search;
      question = question;
      number = ap length is ∙ number-stays levels n c;
      narrows = put-narrows levels after n c inside is;
      room = subst (λ those. room width those ≤ room width levels) (sym is) (lemmas-make-none width levels n c inside);
    }

-- ---- a lemma that holds a literal of the starts: its cube misses them

both-not : (a b : Bool) → bool_eq (not a) (not b) ≡ bool_eq a b
both-not true true = refl
both-not true false = refl
both-not false true = refl
both-not false false = refl

same-negated : (a b : Lit) → lit_eq (negation a) (negation b) ≡ lit_eq a b
same-negated a b = ap (λ x. nat_eq a.var b.var && x) (both-not a.positive b.positive)

has-negated : (clause : List Lit) (a : Lit) → has_literal (map negation clause) (negation a) ≡ has_literal clause a
has-negated [] a = refl
has-negated (b ∷ clause) a = ap₂ (λ x y. x || y) (same-negated a b) (has-negated clause a)

one-negated : (starts lemma : List Lit) → misses_starts starts (map negation lemma) ≡ has_one_of starts lemma
one-negated [] lemma = refl
one-negated (a ∷ starts) lemma = ap₂ (λ x y. x || y) (has-negated lemma a) (one-negated starts lemma)

pub misses-lemma : (starts lemma : List Lit) → has_one_of starts lemma ≡ true → misses_starts starts (map negation lemma) ≡ true
misses-lemma starts lemma some = one-negated starts lemma ∙ some
