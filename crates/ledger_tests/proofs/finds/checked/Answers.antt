use Rattle.std.proofs.Common.{◌≡◌, ◌∷◌, true, [], sym, subst}
use Rattle.aig_semantics.specs.Circuits.{Circuit}
use Rattle.fair_semantics.specs.Validity.{IsValid}
use Rattle.entry.specs.Entries.{said}
use Rattle.fair_semantics.specs.Entries.{Entry}
use Rattle.fair_semantics.specs.Skeletons.{excludes}
use Rattle.fair_semantics.specs.declared.skeletons.Skeleton.{Skeleton}
use Rattle.ledger_tests.specs.Passes.{target}
use Rattle.ledger_tests.proofs.Modelling.{apart}
use Rattle.ledger_tests.proofs.finds.checked.Goals as goal

pub new-requires-clause-valid : goal.new-requires-clause-valid
new-requires-clause-valid c =
    subst (λ (d : Circuit). IsValid d [] (said c.args.e)) c.deref-c.ensures
    (c.proved_entries_are_valid.ensures [] (said c.args.e) c.args.e.proofs c.good_lists_grow.ensures.none c.in_ok-judge.ensures)

pub new-requires-clause-apart : goal.new-requires-clause-apart
new-requires-clause-apart c =
    subst (λ (s : Skeleton). excludes (said c.args.e ∷ []) 0 s ≡ true) (sym c.in_ok-skeleton.ensures)
    (subst (λ (e : Entry). excludes (e ∷ []) 0 (target c.args.k) ≡ true) (sym c.requires.said) (apart c.args.k c.requires.latch))
