-- The circuits whose latch stays at 0: a skeleton, and what may be posted.
use Rattle.std.proofs.Common.{◌≡◌, ℕ, zero, suc, ◌<◌, ◌≤◌, ◌==◌, Bool, true, false, List, [], ◌∷◌, map, length, refl, sym, ap, ◌∙◌, subst, arith}
use Rattle.std.proofs.lemmas.List.{length-map}
use Rattle.entry.specs.CheckedEntries.{entry_in}
use Rattle.entry.specs.Entries.{said}
use Rattle.entry.specs.declared.entries.Entry.{Entry as WithProofs}
use Rattle.fair_semantics.specs.Entries.{numbered}
use Rattle.fair_semantics.specs.Skeletons.{places, excludes}
use Rattle.std.proofs.lemmas.List.Elements.{All-nil, All-cons}
use Rattle.aig_semantics.specs.Circuits.{Circuit}
use Rattle.aig_semantics.specs.Valuations.{value_beside, given_value, value_through, values_below, valuation}
use Rattle.aig_semantics.specs.Runs.{MeetsConstraints, literal_at, successor}
use Rattle.aig_semantics.proofs.Lassos.{constraints-met}
use Rattle.aig_semantics.specs.declared.traces.Position.{Position}
use Rattle.proof_semantics.specs.declared.literals.Lit.{Lit}
use Rattle.cnf_unroll.specs.Laws.{AreOver}
use Rattle.std.specs.List.{All}
use Rattle.fair_semantics.specs.Skeletons.{IsSkeleton, IsSituation}
use Rattle.fair_semantics.specs.Entries.{Entry}
use Rattle.fair_semantics.specs.declared.skeletons.Skeleton.{Skeleton}
use Rattle.fair_semantics.specs.Allowing.{allow}
use Rattle.std.specs.Arc.{arc_value}
use Rattle.std.specs.declared.sync.Arc.{Arc}
use Rattle.entry.specs.CheckedEntries.{CheckedEntry, viewed}
use Rattle.wall_store.specs.Boards.{Allow}
use Rattle.wall_store.specs.Scanning.{NoneWithin}
use Rattle.wall_store.proofs.Excluding.{none_excludes, viewed-plain}
use Rattle.ledger_tests.specs.Passes.{model, with_justice, at_0, target}

-- the values of the latches behind the first do not matter
module _ (a b c d e : Bool) where
  abbrev here : Position
  here = record { latches = true ∷ a ∷ b ∷ c ∷ d ∷ e ∷ []; inputs = [] }

  possible : (two : Bool) → MeetsConstraints (model two) here
  unfolding value_beside given_value value_through values_below valuation
  possible false = constraints-met (model false) here refl refl refl
  possible true = constraints-met (model true) here refl refl refl

  is_one : (two : Bool) → literal_at (model two) here 2 ≡ true
  unfolding value_beside given_value value_through values_below valuation
  is_one false = refl
  is_one true = refl

  stays : (two : Bool) → successor (model two) here ≡ true ∷ a ∷ b ∷ c ∷ d ∷ e ∷ []
  unfolding value_beside given_value value_through values_below valuation
  stays false = refl
  stays true = refl

  abbrev whole : Skeleton
  whole = record { situations = record { position = here; successor = true ∷ a ∷ b ∷ c ∷ d ∷ e ∷ [] } ∷ [] }

  is_whole : (two : Bool) → IsSkeleton (model two) 0 whole
  is_whole false = record {
    property = omega arith;
    size = refl;
    situations =
        All-cons (IsSituation (model false)) (record { position = here; successor = true ∷ a ∷ b ∷ c ∷ d ∷ e ∷ [] }) []
        (record { possible = possible false; next = sym (stays false) }) (All-nil (IsSituation (model false)));
    fair = (is_one false, tt);
  }
  is_whole true = record {
    property = omega arith;
    size = refl;
    situations =
        All-cons (IsSituation (model true)) (record { position = here; successor = true ∷ a ∷ b ∷ c ∷ d ∷ e ∷ [] }) []
        (record { possible = possible true; next = sym (stays true) }) (All-nil (IsSituation (model true)));
    fair = (is_one true, tt);
  }

pub is_skeleton : (two : Bool) (k : ℕ) → IsSkeleton (model two) 0 (target k)
is_skeleton two k = is_whole (k == 1) (k == 2) (k == 3) (k == 4) (k == 5) two

-- the find excludes what it was made for
pub apart : (k : ℕ) → k < 6 → excludes (at_0 k ∷ []) 0 (target k) ≡ true
apart zero below = refl
apart (suc zero) below = refl
apart (suc (suc zero)) below = refl
apart (suc (suc (suc zero))) below = refl
apart (suc (suc (suc (suc zero)))) below = refl
apart (suc (suc (suc (suc (suc zero))))) below = refl
apart (suc (suc (suc (suc (suc (suc k)))))) below = absurd (omega (arith, below))

pub over_latches : (k n : ℕ) (set : List (List Lit)) → set ≡ (record { var = k; positive = false } ∷ []) ∷ [] → k < n → AreOver n set
over_latches k n set is below =
    let one : All (λ (l : Lit). l.var < n) (record { var = k; positive = false } ∷ []) =
    All-cons (λ (l : Lit). l.var < n) (record { var = k; positive = false }) [] below (All-nil (λ (l : Lit). l.var < n)) in
    subst (AreOver n) (sym is)
    (All-cons (λ (clause : List Lit). All (λ (l : Lit). l.var < n) clause) (record { var = k; positive = false } ∷ []) [] one
    (All-nil (λ (clause : List Lit). All (λ (l : Lit). l.var < n) clause)))

pub over_said : (k n : ℕ) (e : WithProofs) → said e ≡ at_0 k → k < 6 → n ≡ 6 → AreOver n e.set
over_said k n e is below six = over_latches k n e.set (ap (λ (z : Entry). z.clauses) is) (omega (arith, below, six))

pub latches_of : (d : Circuit) → (two : Bool) × (d ≡ model two) → length d.latches ≡ 6
latches_of d (false, same) = ap (λ (c : Circuit). length c.latches) same
latches_of d (true, same) = ap (λ (c : Circuit). length c.latches) same

pub model_with : (two : Bool) (js : List (List ℕ)) (d : Circuit) → js ≡ (model two).justice → d ≡ with_justice js → d ≡ model two
model_with false js d same made = made ∙ ap with_justice same
model_with true js d same made = made ∙ ap with_justice same

pub allowed_by : {Z : Type 0} (view : List (Arc CheckedEntry Z)) (skeleton : Skeleton) → NoneWithin (viewed view) skeleton 0 (length view)
    → Allow (map (λ (e : Arc CheckedEntry Z). arc_value {X = CheckedEntry} e) view) skeleton
allowed_by view skeleton none =
    let count = length-map view entry_in in
    subst (λ (es : List Entry). allow (numbered es) (places skeleton) ≡ true) (viewed-plain view)
    (none_excludes (viewed view) skeleton (λ m below. none m (omega arith) (omega (arith, below, count))))
