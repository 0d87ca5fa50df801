use Rattle.std.proofs.Common.{ℕ, List, [], get_or}
use Rattle.fair_semantics.specs.declared.entries.Kind.TheVariants.{Reach}
use Rattle.certificate_texts.specs.declared.certificates.Written.{Written}
use Rattle.cert_tools.specs.Trimmed.{IsTrimmedEntry}
use Rattle.cert_tools.proofs.EntryProofs.{entries_next, get_there}
use Rattle.cert_tools.proofs.entries.trimmed_entries.Goals as goal

abbrev none : Written
none = record { kind = Reach; clauses = []; uses = []; proofs = [] }

pub loop-k-preserved : goal.loop-k-preserved
loop-k-preserved c = λ d all among proved are.
    let k : ℕ = c.loop-k.k in
    let entries : List Written = c.args.entries.now in
    entries_next (IsTrimmedEntry d all among) c.args.needed.now.numbers entries k none c.loop-k.kept c.add_entry.new.kept c.loop-k-test.true (c.loop-k.invariant d all among proved are)
    (c.in_ok-add_entry.ensures d all among (get_or entries k none) (proved, get_there entries k none c.loop-k-test.true) are)
