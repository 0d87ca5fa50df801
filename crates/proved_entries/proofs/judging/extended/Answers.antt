use Rattle.std.proofs.Common.{◌++◌, ◌∷◌, [], List, sym, ap, subst}
use Rattle.std.specs.Arc.{arc_value}
use Rattle.aig_semantics.specs.Circuits.{Circuit}
use Rattle.fair_semantics.specs.Entries.{Entry}
use Rattle.entry.specs.CheckedEntries.{viewed}
use Rattle.entry.specs.Laws.{IsGoodList}
use Rattle.entry.specs.Proved.{IsProved}
use Rattle.proved_entries.proofs.judging.extended.Goals as goal

pub returns : goal.returns
returns c =
    let before : List Entry = viewed c.args.view.items in
    let last = c.in_ok-last.last in
    record {
      view =
          subst (IsGoodList (arc_value c.args.shared.now)) (sym c.in_ok-with_last.ensures)
          (subst (λ (d : Circuit). IsGoodList d (before ++ last.entry ∷ [])) c.deref.ensures
          (c.good_lists_grow.ensures.more before last.entry last.proofs
          (subst (λ (d : Circuit). IsGoodList d before) (sym c.deref.ensures) c.requires.view)
          (subst (λ (d : Circuit). IsProved d before last.entry last.proofs) (sym c.deref.ensures)
          (subst (λ (es : List Entry). IsProved (arc_value c.args.shared.now) es last.entry last.proofs) (ap viewed c.as_slice.ensures.value) c.in_ok-last.ensures.proved))));
    }
