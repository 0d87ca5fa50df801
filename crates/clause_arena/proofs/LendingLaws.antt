-- Laws of what stays lent.
use Rattle.std.proofs.Common.{List, ◌∙◌}
use Rattle.clause_arena.specs.Lending.{StaysLent}

pub stays_longer : {T : Type 0} (a b c : List T) → StaysLent a b → StaysLent b c → StaysLent a c
stays_longer a b c first later place is_ref =
    let in_b = first place is_ref in
    let in_c = later place in_b.0 in
    (in_c.0, in_c.1 ∙ in_b.1)
