use Rattle.std.proofs.Common.{◌≡◌, drop}
use Rattle.fair_semantics.specs.Entries.{used_entries}
use Rattle.cnf_unroll.specs.Obligations.{shared_clauses}
use Rattle.entry.specs.Listing.{entries_of}
use Rattle.entry.specs.Proved.{obligation_of}
use Rattle.entry.specs.Faults.{proofs_fault}
use Rattle.entry.specs.Entries.{said}
use Rattle.entry.proofs.entries.first_refused.Given as goal

abbrev pub invariant-loop-i : goal.invariant-loop-i
invariant-loop-i l = record {
  fault : proofs_fault (obligation_of l.c (entries_of l.list) (said l.e)) l.i (drop l.i l.e.proofs) ≡ proofs_fault (obligation_of l.c (entries_of l.list) (said l.e)) 0 l.e.proofs;
  shared : l.judge.shared ≡ shared_clauses l.c (used_entries (entries_of l.list) l.e.uses) l.e.uses l.e.set;
}
