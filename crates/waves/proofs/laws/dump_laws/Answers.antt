use Rattle.waves.proofs.Unrolling.{loops_are_unrolled}
use Rattle.waves.proofs.Apart.{names_are_apart, identifiers_are_apart}
use Rattle.waves.proofs.Spelled.{are_spelled}
use Rattle.waves.proofs.BusLaws.{buses_are_named}
use Rattle.waves.proofs.ReadBack.{values_are_read}
use Rattle.waves.proofs.laws.dump_laws.Goals as goal

pub returns-clause-names : goal.returns-clause-names
returns-clause-names c = names_are_apart

pub returns-clause-identifiers : goal.returns-clause-identifiers
returns-clause-identifiers c = identifiers_are_apart

pub returns-clause-spelled : goal.returns-clause-spelled
returns-clause-spelled c = are_spelled

pub returns-clause-buses : goal.returns-clause-buses
returns-clause-buses c = buses_are_named

pub returns-clause-values : goal.returns-clause-values
returns-clause-values c = values_are_read

pub returns-clause-unrolled : goal.returns-clause-unrolled
returns-clause-unrolled c = loops_are_unrolled
