-- What may be posted of the circuit whose latch stays at 0.
use Rattle.std.proofs.Common.{◌≡◌, ℕ, Bool, true, List, [], ◌∷◌, take, refl, sym, ◌∙◌, subst, arith}
use Rattle.std.specs.List.{Any}
use Rattle.std.proofs.lemmas.List.Elements.{All-nil, All-cons}
use Rattle.aig_semantics.specs.Circuits.{Circuit}
use Rattle.aig_semantics.specs.Examples.{stuck}
use Rattle.aig_semantics.specs.Valuations.{value_beside, given_value, value_through, values_below, valuation}
use Rattle.aig_semantics.specs.Runs.{MeetsConstraints, literal_at, successor}
use Rattle.aig_semantics.proofs.Lassos.{constraints-met}
use Rattle.fair_semantics.specs.declared.skeletons.Situation.{Situation}
use Rattle.fair_semantics.specs.Entries.{Numbered}
use Rattle.fair_semantics.specs.Skeletons.{IsSkeleton, IsSituation}
use Rattle.fair_semantics.specs.Examples.{one_situation}
use Rattle.entry.specs.declared.origins.Origin.{Origin}
use Rattle.entry.specs.CheckedEntries.{CheckedEntry, StandIn}
use Rattle.wall_store.specs.declared.outcomes.Outcome.{Outcome}
use Rattle.wall_store.specs.declared.outcomes.Served.{Served}
use Rattle.wall_store.specs.declared.outcomes.Finished.{Finished}
use Rattle.wall_store.specs.declared.outcomes.Finished.TheVariants as ends
use Rattle.wall_store.specs.Boards.{BoardState, FromWorker, Allow, plain, properties_of}
use Rattle.wall_store.specs.Events.{MayPost, IsPostOf, served_after}
use Rattle.wall_store.proofs.Serving.{properties_stay}
use Rattle.ledger_tests.specs.Boards.{IsFindOf, IsUnseen}

stuck-possible : (b : Bool) → MeetsConstraints stuck (record { latches = b ∷ []; inputs = [] })
unfolding value_beside given_value value_through values_below valuation
stuck-possible b = constraints-met stuck (record { latches = b ∷ []; inputs = [] }) refl refl refl

is_one : literal_at stuck (record { latches = true ∷ []; inputs = [] }) 2 ≡ true
unfolding value_beside given_value value_through values_below valuation
is_one = refl

stays : successor stuck (record { latches = true ∷ []; inputs = [] }) ≡ true ∷ []
unfolding value_beside given_value value_through values_below valuation
stays = refl

pub is_skeleton : IsSkeleton stuck 0 (one_situation true true)
is_skeleton =
    let here : Situation = record { position = record { latches = true ∷ []; inputs = [] }; successor = true ∷ [] } in
    record {
      property = omega arith;
      size = refl;
      situations =
          All-cons (IsSituation stuck) here []
          (record { possible = stuck-possible true; next = sym stays }) (All-nil (IsSituation stuck));
      fair = (is_one, tt);
    }

pub may_post : (b : BoardState) (w : ℕ) (e : CheckedEntry) → IsUnseen b w → IsFindOf w e → MayPost b w e
may_post b w e unseen found =
    let one : Any (λ (j : ℕ). IsSkeleton stuck j (one_situation true true)) (0 ∷ []) = (0, 0, (omega arith), refl, is_skeleton) in
    let of_board : Any (λ (j : ℕ). IsSkeleton b.circuit j (one_situation true true)) (properties_of b.served) =
    subst (λ (js : List ℕ). Any (λ (j : ℕ). IsSkeleton b.circuit j (one_situation true true)) js) (sym unseen.served)
    (subst (λ (c : Circuit). Any (λ (j : ℕ). IsSkeleton c j (one_situation true true)) (0 ∷ [])) (sym unseen.circuit) one)
    in
    subst (λ (o : Origin). FromWorker o (IsPostOf b w e)) (sym found.origin)
    (record {
      circuit = found.circuit ∙ sym unseen.circuit;
      author = refl;
      uses = subst (λ (used : List Numbered). StandIn (plain b.entries) used) (sym found.used) (λ k d inside. absurd (omega (arith, inside)));
      skeleton = of_board;
      allowed = subst (λ (n : ℕ). Allow (take n b.entries) (one_situation true true)) (sym unseen.seen) refl;
    })

pub finished_properties : (served : List Served) (j : ℕ) (o : Outcome) (r : Finished) → properties_of (served_after served j o r) ≡ properties_of served
finished_properties served j o ends.Won = properties_stay served j o
finished_properties served j o ends.Closed = refl
