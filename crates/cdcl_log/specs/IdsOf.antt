-- Scaffolding of inner functions. The id that a clause has in a proof, as far as it is written.
use Rattle.std.specs.Prelude.{ℕ}
use Rattle.std.specs.Option.{unwrap_or}
use Rattle.std.specs.Ordering.{nat_cmp}
use Rattle.std.specs.BTreeMap as tree
use Rattle.cdcl_log.specs.Ids.{given_id}
use Rattle.cdcl_log.specs.declared.ids.Ids.{Ids}

-- the id that a clause has
abbrev pub id_in : Ids → ℕ → ℕ
id_in ids n = unwrap_or (tree.get nat_cmp ids.written n) (given_id ids.given.now ids.added ids.units n)
