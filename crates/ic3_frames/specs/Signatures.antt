-- Signatures of clauses (Eén and Biere, *Effective preprocessing in SAT through variable and clause elimination*, 2005): those of
-- a part have no bit that those of the whole have not.
use Rattle.std.specs.Prelude.{ℕ, ◌+◌, ◌*◌, ◌^◌, ◌%◌, Bool, true, false, List, [], ◌∷◌, if◌then◌else◌}
use Rattle.std.specs.Int.Bits.{bit_or}
use Rattle.proof_semantics.specs.declared.literals.Lit.{Lit}

-- one of 64 bits: two for each remainder of the variable by 32, the upper one where the literal is positive
abbrev pub bit_of : Lit → ℕ
bit_of a = 2 ^ (2 * (a.var % 32) + (if a.positive then 1 else 0))

-- the bits of all literals
abbrev pub signature_of : List Lit → ℕ
signature_of [] = 0
signature_of (a ∷ clause) = bit_or (bit_of a) (signature_of clause)
