-- Facts of each entry of a list and of those before it.
use Rattle.std.proofs.Common.{◌≡◌, List, [], ◌∷◌, ◌++◌, refl, sym, ap, subst}
use Rattle.std.proofs.lemmas.List.{map-append}
use Rattle.aig_semantics.specs.Circuits.{Circuit}
use Rattle.fair_semantics.specs.Entries.{Entry}
use Rattle.entry.specs.Proved.{IsGoodRefutation}
use Rattle.entry.specs.CheckedEntries.{CheckedEntry, RefutationsStay}
use Rattle.wall_store.specs.declared.outcomes.Outcome.TheVariants.{Lasso, Holds}
use Rattle.wall_store.specs.Boards.{EachBehind, IsSound, plain}
use Rattle.wall_store.specs.Laws.{OutcomesStay, SoundListsGrow}

pub none_behind : (P : List CheckedEntry → CheckedEntry → Type 0) → EachBehind P []
none_behind P [] after e same = absurd cc
none_behind P (b ∷ before) after e same = absurd cc

pub each_push : (P : List CheckedEntry → CheckedEntry → Type 0) (entries : List CheckedEntry) (e : CheckedEntry)
    → EachBehind P entries → P entries e → EachBehind P (entries ++ e ∷ [])
each_push P [] e each last [] after f same = (let here : e ≡ f = cc in subst (P []) here last)
each_push P [] e each last (b ∷ before) after f same = absurd (let rest : [] ≡ before ++ f ∷ after = cc in none_behind (λ x y. ⊥) before after f rest)
each_push P (x ∷ entries) e each last [] after f same =
    (let here : x ≡ f = cc in subst (P []) here (each [] entries x refl))
each_push P (x ∷ entries) e each last (b ∷ before) after f same =
    let here : x ≡ b = cc in
    let rest : entries ++ e ∷ [] ≡ before ++ f ∷ after = cc in
    let Q : List CheckedEntry → CheckedEntry → Type 0 = λ front g. P (x ∷ front) g in
    let inner : EachBehind Q entries = λ front behind g split. each (x ∷ front) behind g (ap (λ (es : List CheckedEntry). x ∷ es) split) in
    subst (λ (g : CheckedEntry). P (g ∷ before) f) here (each_push Q entries e inner last before after f rest)

pub outcomes_stay : (c : Circuit) → RefutationsStay c → OutcomesStay c
outcomes_stay c stay entries after j (Lasso lasso) h = h
outcomes_stay c stay entries after j (Holds r) h =
    subst (λ (es : List Entry). IsGoodRefutation c es j r.uses r.proof) (sym (map-append (λ (e : CheckedEntry). e.entry) entries after))
    (stay (plain entries) (plain after) j r.uses r.proof h)

pub sound_lists_grow : (c : Circuit) → SoundListsGrow c
sound_lists_grow c = record {
  none = none_behind (IsSound c);
  more = λ before e sound last. each_push (IsSound c) before e sound last;
}
