use Rattle.std.proofs.Common.{◌≡◌, ℕ, List, [], length, refl, sym, ap₂, ◌∙◌, subst}
use Rattle.std.specs.List.{AllZip}
use Rattle.aig_semantics.specs.Circuits.{Circuit}
use Rattle.fair_semantics.specs.declared.entries.Use.{Use}
use Rattle.fair_semantics.specs.Entries.{Entry, used_entries}
use Rattle.cnf_unroll.specs.Obligations.{skeleton_clauses}
use Rattle.certificate_texts.specs.declared.certificates.Written.{Written}
use Rattle.certificate_texts.specs.declared.certificates.Certificate.{Certificate}
use Rattle.certificate.specs.Certificates.{AreProvedBehind, IsGoodCertificate}
use Rattle.cert_tools.specs.Trimmed.{Numbered, IsTrimmedEntry}
use Rattle.cert_tools.specs.TrimmingEntries.{needed_entries, ArePlaces, at_places, any_empties}
use Rattle.cert_tools.proofs.EntryProofs.{refuting_bare, few_entries, certificate_trimmed}
use Rattle.cert_tools.proofs.trimming.trimmed_holds.Goals as goal

pub needed-requires-clause-few : goal.needed-requires-clause-few
needed-requires-clause-few c = few_entries c.args._circuit.now c.args.property c.args.whole.now c.requires

pub needed-requires-clause-proved : goal.needed-requires-clause-proved
needed-requires-clause-proved c = (c.args._circuit.now, c.requires.entries, c.requires.proved)

pub kept_proof-requires : goal.kept_proof-requires
kept_proof-requires c =
    let whole : Certificate = c.args.whole.now in
    let good : IsGoodCertificate c.args._circuit.now c.args.property whole = c.requires in
    let empty : c.uses_empty-given_empty.result ≡ any_empties whole.entries whole.uses = c.uses_empty-given_empty.ensures ∙ ap₂ any_empties c.as_slice-entries.ensures c.as_slice-3.ensures in (
      skeleton_clauses c.args._circuit.now c.args.property (used_entries good.entries whole.uses),
      good.refuted.refutes,
      refuting_bare c.args._circuit.now c.args.property whole good ∙ sym empty,
    )

pub trimmed_entries-requires : goal.trimmed_entries-requires
trimmed_entries-requires c =
    (c.args._circuit.now, c.requires.entries, subst (λ (es : List Written). AreProvedBehind c.args._circuit.now [] es c.requires.entries) (sym c.as_slice-entries.ensures) c.requires.proved)

pub returns : goal.returns
returns c =
    let whole : Certificate = c.args.whole.now in
    let places : List ℕ = c.in_ok-needed.needed.places.items in
    let numbers = c.in_ok-needed.needed.numbers in
    let uses : List Use = c.in_ok-uses.uses in
    let named : uses ≡ at_places places whole.uses = c.in_ok-uses.ensures ∙ ap₂ at_places c.as_slice-2.ensures.value c.as_slice.ensures in
    let empty : c.uses_empty-given_empty.result ≡ any_empties whole.entries whole.uses = c.uses_empty-given_empty.ensures ∙ ap₂ any_empties c.as_slice-entries.ensures c.as_slice-3.ensures in
    let each = subst (λ (es : List Written). (d : Circuit) (all : List Entry) (among : List Numbered) → AreProvedBehind d [] es all → ArePlaces among (length es) places
    → AllZip (IsTrimmedEntry d all among) (needed_entries numbers es) c.in_ok-entries.entries) c.as_slice-entries.ensures c.in_ok-entries.ensures in
    let made = certificate_trimmed c.args._circuit.now c.args.property whole numbers places uses c.uses_empty-given_empty.result c.in_ok-entries.entries c.in_ok-proof.proof c.requires
    c.in_ok-needed.ensures.exact c.in_ok-needed.ensures.places named empty c.in_ok-proof.ensures each in
    (refl, made.0, made.1, made.2)
