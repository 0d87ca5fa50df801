-- Lists of the entries that restrict the steps, made entry by entry.
use Rattle.std.proofs.Common.{ℕ, List}
use Rattle.std.specs.List.{filter}
use Rattle.fair_semantics.specs.Entries.{Entry, Numbered, numbered_from}
use Rattle.ic3_semantics.specs.declared.questions.Start.{Start}
use Rattle.ic3_semantics.specs.Arenas.{restricts}

-- the entries from place m on that restrict the steps
abbrev pub restricting_from : Start → ℕ → List Entry → List Numbered
restricting_from start m es = filter (λ e. restricts start e.entry.kind) (numbered_from m es)
