-- Laws of the answers of a checker.
use Rattle.std.proofs.Common.{◌≡◌, ℕ, List, Some, Ok, Err, Result, sym, subst}
use Rattle.std.specs.Prelude.{OnOk, OnErr}
use Rattle.proof_semantics.specs.Clauses.{IsImplied}
use Rattle.proof_semantics.specs.Lines.{addition, line_of}
use Rattle.proof_semantics.specs.Proofs.{ProofState, IsSound, judge, start}
use Rattle.proof_semantics.specs.declared.literals.Lit.{Lit}
use Rattle.proof_semantics.specs.declared.faults.LratFault.{LratFault}
use Rattle.proof_semantics.proofs.Soundness.{judge-implied, start-IsSound}
use Rattle.std.specs.declared.alloc.AllocError.{AllocError}
use Rattle.lrat.specs.Judging.{Judges}
use Rattle.lrat.specs.declared.faults.LratEnd.{LratEnd}

-- a state is sound after an answer, if it was before and the judgement keeps it so
pub sound_after : (r : Result (Unit {0}) LratEnd) (old new : ProofState) (judgement : Result ProofState LratFault) → Judges r judgement new → OnErr r (new ≡ old)
    → IsSound old → ((t : ProofState) → judgement ≡ Ok t → IsSound t) → IsSound new
sound_after (Ok done) old new judgement judged same sound keeps = keeps new judged
sound_after (Err end) old new judgement judged same sound keeps = subst IsSound (sym same) sound

-- what is added is implied
pub implied_after : (r : Result (Unit {0}) LratEnd) (old new : ProofState) (line : List ℕ) → Judges r (judge old line) new → IsSound old
    → OnOk r ((id : ℕ) (clause hints : List Lit) → line_of line ≡ Some (addition id clause hints) → IsImplied old.given clause)
implied_after (Ok done) old new line judged sound = λ id clause hints is. judge-implied old new line id clause hints sound judged is
implied_after (Err end) old new line judged sound = tt

-- a new start is sound, and a refused one leaves what was
pub sound_restart : (r : Result (Unit {0}) AllocError) (old new : ProofState) (given : List (List Lit)) → OnOk r (new ≡ start given) → OnErr r (new ≡ old)
    → IsSound old → IsSound new
sound_restart (Ok done) old new given begun same sound = subst IsSound (sym begun) (start-IsSound given)
sound_restart (Err refused) old new given begun same sound = subst IsSound (sym same) sound
