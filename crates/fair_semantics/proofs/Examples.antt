-- Steps of circuits of one latch, and entries without uses, for the worked rows.
use Rattle.std.proofs.Common.{◌≡◌, ◌<◌, Bool, true, false, List, [], ◌∷◌, length, refl, sym, ap, ◌∙◌, subst, arith}
use Rattle.std.proofs.lemmas.List.Elements.{All-nil, All-cons}
use Rattle.aig_semantics.specs.declared.traces.Position.{Position}
use Rattle.aig_semantics.specs.Valuations.{value_beside, given_value, value_through, values_below, valuation}
use Rattle.aig_semantics.specs.Runs.{successor, MeetsConstraints}
use Rattle.aig_semantics.specs.Examples.{stuck}
use Rattle.aig_semantics.proofs.Lassos.{constraints-met}
use Rattle.fair_semantics.specs.declared.entries.Use.{Use}
use Rattle.fair_semantics.specs.States.{IsStep}
use Rattle.std.specs.List.{All}
use Rattle.fair_semantics.specs.declared.entries.Kind.TheVariants.{Reach, Wall}
use Rattle.fair_semantics.specs.Entries.{Entry, AreClosed, IsSigned, Uses, entry_at}
use Rattle.fair_semantics.specs.Validity.{IsValid, set_behind}
use Rattle.fair_semantics.specs.Examples.{rises, risen}

-- an entry may have no uses
pub no_uses : (entries : List Entry) → AreClosed entries []
no_uses entries = record {
  ascend = λ i j d lt below. absurd (omega arith);
  present = λ k d inside. absurd (omega arith);
  walls = λ k d inside. absurd (omega arith);
  closed = λ k d inside. absurd (omega arith);
}

-- and one use, of an entry without uses
pub one_use : (entries : List Entry) (u : Use) → u.entry < length entries → (IsSigned u → (entry_at entries u.entry).kind ≡ Wall)
    → (entry_at entries u.entry).uses ≡ [] → AreClosed entries (u ∷ [])
one_use entries u present wall plain =
    let Named : Use → Type 0 = λ named. IsSigned named → (named.entry < u.entry) × Uses (u ∷ []) named.entry in
    record {
      ascend = λ i j d lt below. absurd (omega arith);
      present = All-cons (λ v. v.entry < length entries) u [] present (All-nil _);
      walls = All-cons (λ v. IsSigned v → (entry_at entries v.entry).kind ≡ Wall) u [] wall (All-nil _);
      closed = All-cons (λ v. All (λ named. IsSigned named → (named.entry < v.entry) × Uses (u ∷ []) named.entry) (entry_at entries v.entry).uses) u []
          (subst (All Named) (sym plain) (All-nil Named)) (All-nil _);
    }

-- the value of the one latch
pub one_value : (s : List Bool) → length s ≡ 1 → (b : Bool) × (s ≡ b ∷ [])
one_value [] size = absurd (omega arith)
one_value (b ∷ []) size = (b, refl)
one_value (b ∷ d ∷ s) size = absurd (omega arith)

-- ---- the rising latch

rises-next : (latches inputs : List Bool) → length latches ≡ 1 → length inputs ≡ 0 → successor rises (record { latches = latches; inputs = inputs }) ≡ true ∷ []
unfolding value_beside given_value value_through values_below valuation
rises-next [] inputs size none = absurd (omega arith)
rises-next (b ∷ d ∷ latches) inputs size none = absurd (omega arith)
rises-next (b ∷ []) [] size none = refl
rises-next (b ∷ []) (i ∷ inputs) size none = absurd (omega arith)

-- the state before a step has one value, and the state after it is 1
pub rises-step : (s t : List Bool) → IsStep rises s t → (length s ≡ 1) × (t ≡ true ∷ [])
rises-step s t step =
    let p : Position = step.position in
    let lengths = step.possible.position in (
      subst (λ l. length l ≡ 1) step.begins lengths.latches,
      sym step.ends ∙ rises-next p.latches p.inputs lengths.latches lengths.inputs,
    )

pub rises-possible : (b : Bool) → MeetsConstraints rises (record { latches = b ∷ []; inputs = [] })
unfolding value_beside given_value value_through values_below valuation
rises-possible b = constraints-met rises (record { latches = b ∷ []; inputs = [] }) refl refl refl

pub rises-begins : IsStep rises (false ∷ []) (true ∷ [])
unfolding value_beside given_value value_through values_below valuation
rises-begins = record {
  position = record { latches = false ∷ []; inputs = [] };
  possible = rises-possible false;
  begins = refl;
  ends = refl;
}

-- what is asked of reach entries is not asked of walls
pub no_reach : {X : Type 0} → Wall ≡ Reach → X
no_reach e = absurd (cc)

pub risen_valid : IsValid rises [] risen
risen_valid = record {
  uses = no_uses [];
  closed = λ s t step able inside. ap (set_behind [] risen) (rises-step s t step).1;
  reach = no_reach;
}

-- ---- the stuck latch

stuck-next : (latches inputs : List Bool) → length latches ≡ 1 → length inputs ≡ 0 → successor stuck (record { latches = latches; inputs = inputs }) ≡ latches
unfolding value_beside given_value value_through values_below valuation
stuck-next [] inputs size none = absurd (omega arith)
stuck-next (b ∷ d ∷ latches) inputs size none = absurd (omega arith)
stuck-next (b ∷ []) [] size none = refl
stuck-next (b ∷ []) (i ∷ inputs) size none = absurd (omega arith)

pub stuck-step : (s t : List Bool) → IsStep stuck s t → t ≡ s
stuck-step s t step =
    let p : Position = step.position in
    let lengths = step.possible.position in
    sym step.ends ∙ stuck-next p.latches p.inputs lengths.latches lengths.inputs ∙ step.begins
