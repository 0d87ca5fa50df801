-- Scaffolding of inner functions: where an empty clause was given to a proof.
use Rattle.std.specs.Prelude.{Bool, false, List}
use Rattle.std.specs.List.{list_any}
use Rattle.proof_semantics.specs.declared.literals.Lit.{Lit}
use Rattle.proof_semantics.specs.Proofs.{is_empty}
use Rattle.fair_semantics.specs.declared.entries.Kind.{Kind}
use Rattle.fair_semantics.specs.declared.entries.Kind.TheVariants.{Reach, Wall}
use Rattle.fair_semantics.specs.Entries.{Entry, Numbered}

-- one of the clauses is empty
abbrev pub has_empty : List (List Lit) → Bool
has_empty clauses = list_any is_empty clauses

-- a used entry gives an empty clause: a reach entry with one does
abbrev pub entry_empties : Entry → Kind → Bool
entry_empties e Reach = has_empty e.clauses
entry_empties e Wall = false

abbrev pub uses_empty : List Numbered → Bool
uses_empty us = list_any (λ u. entry_empties u.entry u.entry.kind) us
