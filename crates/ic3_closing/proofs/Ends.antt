-- What follows from the flag of an answer.
use Rattle.std.proofs.Common.{◌≡◌, Bool, true, Result, Ok, Err}
use Rattle.std.specs.Result.{IfOk}

-- what follows from the flag
pub on_flag : {E : Type 0} (r : Result Bool E) (P Q : Type 0) → (P → Q) → IfOk r (λ b. b ≡ true → P) → IfOk r (λ b. b ≡ true → Q)
on_flag (Ok b) P Q f h = λ is. f (h is)
on_flag (Err e) P Q f h = h
