use Rattle.std.proofs.Common.{◌≡◌, List, sym, ap, ◌∙◌, subst}
use Rattle.proof_semantics.specs.declared.literals.Lit.{Lit}
use Rattle.entry.specs.declared.list.Listed.{Listed}
use Rattle.entry.specs.Listing.{entry_of, entries_of}
use Rattle.certificate_texts.specs.declared.certificates.Written.{Written}
use Rattle.certificate.specs.Certificates.{AreClausesOf, entry_with}
use Rattle.cert_tools.proofs.ListedEntries.{entry_clauses, listed_next, listed_done}
use Rattle.cert_tools.proofs.listing.listed.Goals as goal

pub listed_entry-requires : goal.listed_entry-requires
listed_entry-requires c =
    let e : Written = c.e-item.result in
    let there = entry_clauses c.args.c.now c.args.entries.now c.requires.0 c.loop-e.e-index e c.requires.1 c.loop-e-test.true in
    (there.0, subst (λ (x : Written). AreClausesOf c.args.c.now x.clauses there.0) (sym c.e-item.is) there.1)

pub loop-e-preserved : goal.loop-e-preserved
loop-e-preserved c = λ all proved.
    let e : Written = c.e-item.result in
    let l : Listed = c.in_ok-listed_entry.field-0 in
    let is = subst (λ (x : Written). (set : List (List Lit)) → AreClausesOf c.args.c.now x.clauses set → entry_of l ≡ entry_with x set) c.e-item.is c.in_ok-listed_entry.ensures in
    ap entries_of c.in_ok-push.ensures.items ∙ listed_next c.args.c.now c.args.entries.now all c.loop-e.list.items l c.loop-e.e-index e proved c.loop-e-test.true (c.loop-e.invariant all proved) is

pub returns : goal.returns
returns c = λ all proved. listed_done c.args.c.now c.args.entries.now all c.loop-e.list.items c.loop-e.e-index proved c.loop-e-test.false (c.loop-e.invariant all proved)
