use Rattle.std.proofs.Common.{◌≡◌, ◌++◌, ◌∷◌, [], true, length, List, sym, ap, subst, ◌∙◌}
use Rattle.std.specs.Arc.{arc_value}
use Rattle.aig_semantics.specs.Circuits.{Circuit}
use Rattle.fair_semantics.specs.Entries.{Entry}
use Rattle.fair_semantics.specs.Skeletons.{excludes}
use Rattle.fair_semantics.specs.Validity.{IsValid}
use Rattle.entry.specs.CheckedEntries.{viewed}
use Rattle.entry.specs.Laws.{IsGoodList}
use Rattle.entry.specs.Proved.{IsProved}
use Rattle.proved_entries.proofs.claiming.certified.Goals as goal

pub certify-requires-clause-valid : goal.certify-requires-clause-valid
certify-requires-clause-valid c =
    let known = c.args.known in
    let before : List Entry = viewed c.args.view.now in
    subst (λ (e : Entry). IsValid (arc_value c.args.shared.now) before e) (sym c.requires.same)
    (subst (λ (d : Circuit). IsValid d before known.entry) c.deref-c.ensures
    (c.proved_entries_are_valid.ensures before known.entry known.proofs
    (subst (λ (d : Circuit). IsGoodList d before) (sym c.deref-c.ensures) c.requires.view)
    (subst (λ (d : Circuit). IsProved d before known.entry known.proofs) (sym c.deref-c.ensures) c.requires.proved)))

pub certify-requires-clause-apart : goal.certify-requires-clause-apart
certify-requires-clause-apart c =
    let before : List Entry = viewed c.args.view.now in
    subst (λ (es : List Entry). excludes es (length before) c.args.claim.skeleton ≡ true)
    (ap viewed c.as_slice.ensures.value ∙ c.in_ok-longer.ensures ∙ ap (λ (e : Entry). before ++ e ∷ []) (sym c.requires.same)) (c.is_apart.ensures c.if-not-is_apart.false)
