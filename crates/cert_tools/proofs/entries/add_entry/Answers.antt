use Rattle.std.proofs.Common.{◌≡◌, ℕ, List, length, sym, ap, ◌∙◌, subst, Some}
use Rattle.certificate_texts.specs.declared.certificates.Written.{Written}
use Rattle.cert_tools.specs.Trimmed.{IsTrimmedEntry}
use Rattle.cert_tools.specs.TrimmingEntries.{ArePlaces, GetsEntry}
use Rattle.cert_tools.proofs.EntryProofs.{at_index}
use Rattle.cert_tools.proofs.entries.add_entry.Goals as goal

pub returns-in_ok-push : goal.returns-in_ok-push
returns-in_ok-push c = λ d all among e h are.
    let k : ℕ = c.args.k in
    let there : Written = c.index-entries-k.result in
    let to : Written = c.in_ok-trimmed_entry.field-0 in
    let same : e ≡ there = at_index c.args.entries.now k there e h.1 c.index-entries-k.is c.requires.inside in
    let places = subst (λ (ps : List ℕ). ArePlaces among (length c.args.entries.now) ps) (sym c.as_slice.ensures.value) are in
    let trimmed : IsTrimmedEntry d all among (k, there) to = c.in_ok-trimmed_entry.ensures d all among k (h.0, h.1 ∙ ap (λ (x : Written). Some x) same) places in
    subst (λ b. GetsEntry (IsTrimmedEntry d all among) b (k, e) c.args.kept.now c.push.new.self) (sym c.if-has.true ∙ c.has.ensures)
    (to, subst (λ (x : Written). IsTrimmedEntry d all among (k, x) to) (sym same) trimmed, c.in_ok-push.ensures.ok)
