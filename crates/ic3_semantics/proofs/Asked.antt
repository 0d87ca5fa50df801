-- Which entries a start restricts.
use Rattle.std.proofs.Common.{◌≡◌, Bool, true, List, refl}
use Rattle.std.proofs.lemmas.Bool.{false≢true}
use Rattle.fair_semantics.specs.declared.entries.Kind.{Kind}
use Rattle.fair_semantics.specs.declared.entries.Kind.TheVariants.{Reach, Wall}
use Rattle.ic3_semantics.specs.Arenas.{restricts}
use Rattle.ic3_semantics.specs.declared.questions.Start.TheVariants.{Initial, State}

pub every_kind : (from : List Bool) (kind : Kind) → restricts (State from) kind ≡ true
every_kind from Reach = refl
every_kind from Wall = refl

pub reach_alone : (kind : Kind) → restricts Initial kind ≡ true → kind ≡ Reach
reach_alone Reach h = refl
reach_alone Wall h = absurd (false≢true h)
