-- The first fault of a stimulus is one alone, and excludes a lasso.
use Rattle.std.proofs.Common.{◌≡◌, ℕ, zero, suc, ◌+◌, ◌<◌, ◌≤◌, inl, inr, Bool, List, [], ◌∷◌, length, take, slice_get, subst, refl, sym, ap, ◌∙◌, Some, All, Result, Ok, Err, IfOk, arith}
use Rattle.std.specs.Prelude.{IsOk}
use Rattle.std.specs.List.{AllZip}
use Rattle.std.proofs.lemmas.Bool.{cases_lt, false≢true}
use Rattle.std.proofs.lemmas.List.{take-take}
use Rattle.std.proofs.lemmas.List.Elements.{All-take, All-get_or}
use Rattle.std.proofs.lemmas.Option.{same_Some}
use Rattle.aig_semantics.specs.declared.parts.Latch.{Latch}
use Rattle.aig_semantics.specs.declared.traces.Stimulus.{Stimulus}
use Rattle.aig_semantics.specs.declared.traces.Lasso.{Lasso}
use Rattle.aig_semantics.specs.Circuits.{Circuit}
use Rattle.aig_semantics.specs.Runs.{AgreesWith, IsInitial, MeetsConstraints}
use Rattle.aig_semantics.specs.Stimuli.{simulated, FitsCircuit, HasLasso, StandsFor}
use Rattle.stimulus.specs.declared.ends.ReplayFault.{ReplayFault}
use Rattle.stimulus.specs.declared.ends.ReplayFault.TheVariants.{Shape, Width, NotInitial, Constraint, NoFairLoop, NoProperty}
use Rattle.stimulus.specs.declared.ends.ReplayEnd.{ReplayEnd}
use Rattle.stimulus.specs.declared.ends.ReplayEnd.TheVariants.{Fault, Memory}
use Rattle.stimulus.specs.Ends.{IfFault}
use Rattle.unless_memory.specs.Answers.{Gives, GivesSome, GivesExactlyWhere}
use Rattle.stimulus.specs.Faults.{IsFirstMisfit, AgreesAt, IsFirstWrong, IsFirstForbidden, HasNoLasso, HasReplayFault}
use Rattle.stimulus.proofs.RunLemmas.{simulated-take}
use Rattle.stimulus.proofs.TrackLemmas.{can_begin, run_of_lasso}

-- where all items fit there is no misfit
pub no_misfit : (c : Circuit) (s : Stimulus) (item : ℕ) → FitsCircuit c s → IsFirstMisfit c s item → ⊥
no_misfit c s zero fits a = a.misfits fits.latches
no_misfit c s (suc k) fits a = a.misfits (All-get_or (λ values. length values ≡ length c.inputs) s.inputs k [] (omega (arith, a.inside)) fits.inputs)

-- the latches of an initial state may begin with their values
all_agree_at : (latches : List Latch) (values : List Bool) (n : ℕ) (latch : Latch) (value : Bool) → AllZip (λ latch value. AgreesWith latch.reset value) latches values → slice_get latches n ≡ Some latch → slice_get values n ≡ Some value → AgreesWith latch.reset value
all_agree_at [] values n latch value h at on = cc
all_agree_at (l ∷ latches) [] n latch value h at on = absurd h
all_agree_at (l ∷ latches) (v ∷ values) zero latch value h at on =
    subst (λ x. AgreesWith x.reset value) (same_Some l latch at) (subst (λ x. AgreesWith l.reset x) (same_Some v value on) h.0)
all_agree_at (l ∷ latches) (v ∷ values) (suc n) latch value h at on = all_agree_at latches values n latch value h.1 at on

pub no_wrong : (c : Circuit) (values : List Bool) (latch : ℕ) → IsInitial c values → IsFirstWrong c values latch → ⊥
no_wrong c values latch initial a = a.wrong (λ l v at on. all_agree_at c.latches values latch l v initial at on)

-- the first of two places is one
pub one_misfit : (c : Circuit) (s : Stimulus) (m n : ℕ) → IsFirstMisfit c s m → IsFirstMisfit c s n → m ≡ n
one_misfit c s m n a b =
    elim (cases_lt m n) [
      | inl below ↦ absurd (a.misfits (b.before m below))
      | inr above ↦ elim (cases_lt n m) [ inl below ↦ absurd (b.misfits (a.before n below)) | inr other ↦ omega arith ]
    ]

pub one_wrong : (c : Circuit) (values : List Bool) (m n : ℕ) → IsFirstWrong c values m → IsFirstWrong c values n → m ≡ n
one_wrong c values m n a b =
    elim (cases_lt m n) [
      | inl below ↦ absurd (a.wrong (b.before m below))
      | inr above ↦ elim (cases_lt n m) [ inl below ↦ absurd (b.wrong (a.before n below)) | inr other ↦ omega arith ]
    ]

-- the first positions of those that meet the constraints meet them
pub fewer_meet : (c : Circuit) (s : Stimulus) (m n : ℕ) → m ≤ n → All (MeetsConstraints c) (simulated c s.latches (take n s.inputs)) → All (MeetsConstraints c) (simulated c s.latches (take m s.inputs))
fewer_meet c s m n fewer met =
    subst (All (MeetsConstraints c)) (sym (simulated-take c m s.latches (take n s.inputs)) ∙ ap (simulated c s.latches) (take-take m n s.inputs fewer))
    (All-take (MeetsConstraints c) m (simulated c s.latches (take n s.inputs)) met)

pub first_positions_meet : (c : Circuit) (s : Stimulus) (m : ℕ) → All (MeetsConstraints c) (simulated c s.latches s.inputs) → All (MeetsConstraints c) (simulated c s.latches (take m s.inputs))
first_positions_meet c s m met = subst (All (MeetsConstraints c)) (sym (simulated-take c m s.latches s.inputs)) (All-take (MeetsConstraints c) m (simulated c s.latches s.inputs) met)

one_forbidden : (c : Circuit) (j : ℕ) (s : Stimulus) (m n : ℕ) → IsFirstForbidden c j s m → IsFirstForbidden c j s n → m ≡ n
one_forbidden c j s m n a b =
    elim (cases_lt m n) [
      | inl below ↦ absurd (a.forbidden (fewer_meet c s (m + 1) n (omega arith) b.before))
      | inr above ↦ elim (cases_lt n m) [ inl below ↦ absurd (b.forbidden (fewer_meet c s (n + 1) m (omega arith) a.before)) | inr other ↦ omega arith ]
    ]

not_both : (c : Circuit) (j : ℕ) (s : Stimulus) (m : ℕ) → IsFirstForbidden c j s m → HasNoLasso c j s → ⊥
not_both c j s m a b = a.forbidden (first_positions_meet c s (m + 1) b.allowed)

forbids_lasso : (c : Circuit) (j : ℕ) (s : Stimulus) (m k from : ℕ) → IsFirstForbidden c j s m → HasLasso c j s k from → ⊥
forbids_lasso c j s m k from a has =
    elim (cases_lt m k) [
      | inl past ↦ a.forbidden (fewer_meet c s (m + 1) k (omega arith) (run_of_lasso c j s k from has))
      | inr few ↦ a.none k from few has
    ]

-- a stimulus with a fault has no lasso
pub fault-no_lasso : (c : Circuit) (j : ℕ) (s : Stimulus) (fault : ReplayFault) (k from : ℕ) → HasReplayFault c j s fault → HasLasso c j s k from → ⊥
fault-no_lasso c j s (Shape line) k from a has = a
fault-no_lasso c j s (Width item) k from a has = no_misfit c s item has.fits a.1
fault-no_lasso c j s (NotInitial latch) k from a has = no_wrong c s.latches latch (can_begin c j s k from has).initial a.2
fault-no_lasso c j s (Constraint position) k from a has = forbids_lasso c j s position k from a.1 has
fault-no_lasso c j s NoFairLoop k from a has = a.1.none k from has
fault-no_lasso c j s NoProperty k from a has = absurd (omega (arith, a, has.lasso.property))

-- a stimulus has one first fault
pub one_fault : (c : Circuit) (j : ℕ) (s : Stimulus) (f g : ReplayFault) → HasReplayFault c j s f → HasReplayFault c j s g → f ≡ g
one_fault c j s (Shape line) g a b = absurd a
one_fault c j s f (Shape line) a b = absurd b
one_fault c j s NoProperty NoProperty a b = refl
one_fault c j s NoProperty (Width item) a b = absurd (omega (arith, a, b.0))
one_fault c j s NoProperty (NotInitial latch) a b = absurd (omega (arith, a, b.0))
one_fault c j s NoProperty (Constraint position) a b = absurd (omega (arith, a, b.0.property))
one_fault c j s NoProperty NoFairLoop a b = absurd (omega (arith, a, b.0.property))
one_fault c j s (Width item) NoProperty a b = absurd (omega (arith, b, a.0))
one_fault c j s (Width item) (Width other) a b = ap Width (one_misfit c s item other a.1 b.1)
one_fault c j s (Width item) (NotInitial latch) a b = absurd (no_misfit c s item b.1 a.1)
one_fault c j s (Width item) (Constraint position) a b = absurd (no_misfit c s item b.0.fits a.1)
one_fault c j s (Width item) NoFairLoop a b = absurd (no_misfit c s item b.0.fits a.1)
one_fault c j s (NotInitial latch) NoProperty a b = absurd (omega (arith, b, a.0))
one_fault c j s (NotInitial latch) (Width item) a b = absurd (no_misfit c s item a.1 b.1)
one_fault c j s (NotInitial latch) (NotInitial other) a b = ap NotInitial (one_wrong c s.latches latch other a.2 b.2)
one_fault c j s (NotInitial latch) (Constraint position) a b = absurd (no_wrong c s.latches latch b.0.initial a.2)
one_fault c j s (NotInitial latch) NoFairLoop a b = absurd (no_wrong c s.latches latch b.0.initial a.2)
one_fault c j s (Constraint position) NoProperty a b = absurd (omega (arith, b, a.0.property))
one_fault c j s (Constraint position) (Width item) a b = absurd (no_misfit c s item a.0.fits b.1)
one_fault c j s (Constraint position) (NotInitial latch) a b = absurd (no_wrong c s.latches latch a.0.initial b.2)
one_fault c j s (Constraint position) (Constraint other) a b = ap Constraint (one_forbidden c j s position other a.1 b.1)
one_fault c j s (Constraint position) NoFairLoop a b = absurd (not_both c j s position a.1 b.1)
one_fault c j s NoFairLoop NoProperty a b = absurd (omega (arith, b, a.0.property))
one_fault c j s NoFairLoop (Width item) a b = absurd (no_misfit c s item a.0.fits b.1)
one_fault c j s NoFairLoop (NotInitial latch) a b = absurd (no_wrong c s.latches latch a.0.initial b.2)
one_fault c j s NoFairLoop (Constraint position) a b = absurd (not_both c j s position b.1 a.1)
one_fault c j s NoFairLoop NoFairLoop a b = refl

-- the laws of replay, by how it ended
fault_whenever : (r : Result Lasso ReplayEnd) (c : Circuit) (j : ℕ) (s : Stimulus)
    → IfOk r (λ lasso. StandsFor c j s (length lasso.inputs) lasso.from) → IfFault r (HasReplayFault c j s)
    → (fault : ReplayFault) → HasReplayFault c j s fault → Gives {T = Result Lasso ReplayEnd} (Err Memory) (Err (Fault fault)) r
fault_whenever (Ok lasso) c j s found fault f has = absurd (fault-no_lasso c j s f (length lasso.inputs) lasso.from has found.has)
fault_whenever (Err (Fault g)) c j s found fault f has = inl (ap (λ x. Err (Fault x)) (one_fault c j s g f fault has))
fault_whenever (Err Memory) c j s found fault f has = inr refl

same_end : (f g : ReplayFault) → ◌≡◌ {A = Result Lasso ReplayEnd} (Err (Fault f)) (Err (Fault g)) → f ≡ g
same_end f g e = cc

fault_only : (r : Result Lasso ReplayEnd) (c : Circuit) (j : ℕ) (s : Stimulus) → IfFault r (HasReplayFault c j s)
    → (fault : ReplayFault) → r ≡ Err (Fault fault) → HasReplayFault c j s fault
fault_only (Ok lasso) c j s fault f e = absurd cc
fault_only (Err (Fault g)) c j s fault f e = subst (HasReplayFault c j s) (same_end g f e) fault
fault_only (Err Memory) c j s fault f e = absurd cc

pub replays_fault : (r : Result Lasso ReplayEnd) (c : Circuit) (j : ℕ) (s : Stimulus)
    → IfOk r (λ lasso. StandsFor c j s (length lasso.inputs) lasso.from) → IfFault r (HasReplayFault c j s)
    → (fault : ReplayFault) → GivesExactlyWhere {T = Result Lasso ReplayEnd} (Err Memory) (Err (Fault fault)) (HasReplayFault c j s fault) r
replays_fault r c j s found fault f = record { only = fault_only r c j s fault f; whenever = fault_whenever r c j s found fault f }

pub replays_every : (r : Result Lasso ReplayEnd) (c : Circuit) (j : ℕ) (s : Stimulus) → IfFault r (HasReplayFault c j s)
    → (k from : ℕ) → HasLasso c j s k from → GivesSome {T = Result Lasso ReplayEnd} (Err Memory) IsOk r
replays_every (Ok lasso) c j s fault k from has = inl refl
replays_every (Err (Fault f)) c j s fault k from has = absurd (fault-no_lasso c j s f k from fault has)
replays_every (Err Memory) c j s fault k from has = inr refl

pub initial_from : (c : Circuit) (values : List Bool) → length values ≡ length c.latches → ((n : ℕ) → n < length c.latches → AgreesAt c values n) → IsInitial c values
initial_from c values e may = all_from c.latches values e (λ n l v inside at on. may n inside l v at on)
  where
    all_from : (latches : List Latch) (values : List Bool) → length values ≡ length latches
        → ((n : ℕ) (latch : Latch) (value : Bool) → n < length latches → slice_get latches n ≡ Some latch → slice_get values n ≡ Some value → AgreesWith latch.reset value)
        → AllZip (λ latch value. AgreesWith latch.reset value) latches values
    all_from [] [] e may = tt
    all_from [] (v ∷ values) e may = absurd (omega arith)
    all_from (l ∷ latches) [] e may = absurd (omega arith)
    all_from (l ∷ latches) (v ∷ values) e may = (may 0 l v (omega arith) refl refl, all_from latches values (omega arith) (λ n latch value inside at on. may (suc n) latch value (omega arith) at on))

-- an answer or want of memory is no fault
pub never_a_fault : (r : Result Lasso ReplayEnd) (end : ReplayEnd) (fault : ReplayFault) → r ≡ Err end → end ≡ Fault fault
    → GivesSome (Err Memory) IsOk r → ⊥
never_a_fault r end fault is was (inl ok) = false≢true (subst IsOk is ok)
never_a_fault r end fault is was (inr memory) =
    let same : end ≡ Memory = cc in
    let apart : Fault fault ≡ Memory = sym was ∙ same in
    cc
