use Rattle.std.proofs.Common.{◌≡◌, ℕ, List, sym, ap, ◌∙◌, subst}
use Rattle.std.specs.List.{list_any}
use Rattle.proof_semantics.specs.declared.literals.Lit.{Lit}
use Rattle.proof_semantics.specs.Proofs.{is_empty}
use Rattle.fair_semantics.specs.Entries.{entry_at}
use Rattle.entry.specs.Proved.{obligation_of}
use Rattle.cert_tools.specs.TrimmedProofs.{AreTrimmedProofs}
use Rattle.cert_tools.specs.TrimmingProofs.{AreRefuted}
use Rattle.cert_tools.specs.TrimmingEntries.{at_places}
use Rattle.cert_tools.proofs.EntryProofs.{entry_refuted, entry_bare, entry_trimmed}
use Rattle.cert_tools.proofs.entries.trimmed_entry.Goals as goal

pub kept_proofs-requires : goal.kept_proofs-requires
kept_proofs-requires c =
    let all = c.requires.1 in
    let k = c.requires.2 in
    let obligation : ℕ → List (List Lit) = obligation_of c.requires.0 all (entry_at all k) in (
      obligation,
      subst (λ (ps : List (List (List ℕ))). AreRefuted obligation 0 ps) (sym c.as_slice.ensures) (entry_refuted c.requires.0 c.args.entries.now all k c.args.e.now c.requires.3),
      λ i. entry_bare c.requires.0 c.args.entries.now all k c.args.e.now c.requires.3 i ∙ sym c.given_empty-empty.ensures,
    )

pub returns : goal.returns
returns c = λ d all among k h are.
    let trims = subst (λ (ps : List (List (List ℕ))). (obligation : ℕ → List (List Lit)) → AreRefuted obligation 0 ps → ((i : ℕ) → list_any is_empty (obligation i) ≡ c.given_empty-empty.result) → AreTrimmedProofs obligation 0 ps c.in_ok-proofs.proofs)
    c.as_slice.ensures c.in_ok-proofs.ensures in
    let base = entry_trimmed d c.args.entries.now all among k c.args.e.now c.args.places.now c.given_empty-empty.result c.in_ok-proofs.proofs h are c.given_empty-empty.ensures trims in
    record {
      kind = base.kind;
      clauses = c.in_ok-clauses.ensures ∙ c.as_slice-2.ensures;
      uses = c.in_ok-uses.ensures ∙ ap (at_places c.args.places.now) c.as_slice-3.ensures ∙ base.uses;
      proofs = base.proofs;
    }
