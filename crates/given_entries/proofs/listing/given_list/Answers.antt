use Rattle.std.proofs.Common.{rules, ◌≡◌, ◌∙◌, map, sym, subst}
use Rattle.std.proofs.lemmas.List.{length-map}
use Rattle.std.proofs.lemmas.Result.{IfOk-weaker}
use Rattle.std.specs.Arc.{arc_value}
use Rattle.aig_semantics.specs.Circuits.{Circuit}
use Rattle.entry.specs.Laws.{ProvedIsValid, GoodListsGrow}
use Rattle.given_entries.proofs.Lists.{sound, all_given, as_many_listed}
use Rattle.given_entries.proofs.listing.given_list.Goals as goal

pub returns-clause-count : goal.returns-clause-count
returns-clause-count c =
    IfOk-weaker c.listed.result _ _
    (λ list h. sym (length-map list.items arc_value) ∙ as_many_listed (arc_value c.args.circuit.now) c.args.entries (map arc_value list.items) h) c.listed.ensures

pub returns-clause-sound : goal.returns-clause-sound
returns-clause-sound c =
    let valid : c.deref.result.now ≡ arc_value c.args.circuit.now = search rules in
    let grow : c.deref-2.result.now ≡ arc_value c.args.circuit.now = search rules in
    IfOk-weaker c.listed.result _ _
    (λ list h.
    sound (arc_value c.args.circuit.now) c.args.entries (map arc_value list.items) (subst (λ (k : Circuit). ProvedIsValid k) valid c.proved_entries_are_valid.ensures)
    (subst (λ (k : Circuit). GoodListsGrow k) grow c.good_lists_grow.ensures) c.requires h) c.listed.ensures

pub returns-clause-origins : goal.returns-clause-origins
returns-clause-origins c =
    IfOk-weaker c.listed.result _ _ (λ list h. all_given (arc_value c.args.circuit.now) c.args.entries (map arc_value list.items) h) c.listed.ensures
