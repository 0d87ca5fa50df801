use Rattle.std.proofs.Common.{◌≡◌, take}
use Rattle.std.specs.List.{flat_map}
use Rattle.cnf_unroll.specs.Numbers.{state_place, set_at_place}
use Rattle.cnf_unroll.specs.Lending.{lent_all}
use Rattle.k_live.proofs.states.state_cnf.Given as goal

abbrev pub invariant-loop-u : goal.invariant-loop-u
invariant-loop-u l = l.db.clauses ≡ flat_map (λ u. set_at_place (state_place l.c 0) u.entry.clauses) (lent_all (take l.u-index l.used))
