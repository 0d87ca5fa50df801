-- Lists of faces, marks, and charts.
use Rattle.std.proofs.Common.{◌≡◌, ◌≢◌, ℕ, ◌<◌, ◌≤◌, inl, inr, List, [], ◌∷◌, ◌++◌, refl, sym, ap, ◌∙◌, subst, arith, append-nil, append_assoc}
use Rattle.std.specs.Prelude.{Option, Some, None, IfSome}
use Rattle.std.specs.List.{AllByRecursion}
use native.Mathlib.Decide.{dec_le}
use Rattle.entry.specs.CheckedEntries.{CheckedEntry}
use Rattle.wall_store.specs.declared.outcomes.Outcome.{Outcome}
use Rattle.wall_store.specs.declared.outcomes.Served.{Served}
use Rattle.wall_store.specs.Boards.{outcome_of}
use Rattle.wall_ledger.specs.Passes.{Mark, blank, won, closed, Marked, StartsWith, IsMarkOf, AreMarksOf}
use Rattle.wall_ledger.specs.Turns.{HasWon}
use Rattle.wall_ledger.specs.Rules.{Face, AmongThem}

-- ---- lists of faces

pub weaken : {P Q : Face → Type 0} (fs : List Face) → ((f : Face) → P f → Q f) → AllByRecursion P fs → AllByRecursion Q fs
weaken [] h a = tt
weaken (f ∷ fs) h a = (h f a.0, weaken fs h a.1)

pub all_append : (P : Face → Type 0) (fs gs : List Face) → AllByRecursion P fs → AllByRecursion P gs → AllByRecursion P (fs ++ gs)
all_append P [] gs a b = b
all_append P (f ∷ fs) gs a b = (a.0, all_append P fs gs a.1 b)

pub among_left : (P : Face → Type 0) (fs gs : List Face) → AmongThem P fs → AmongThem P (fs ++ gs)
among_left P [] gs a = absurd a
among_left P (f ∷ fs) gs (inl p) = inl p
among_left P (f ∷ fs) gs (inr a) = inr (among_left P fs gs a)

pub among_right : (P : Face → Type 0) (fs gs : List Face) → AmongThem P gs → AmongThem P (fs ++ gs)
among_right P [] gs a = a
among_right P (f ∷ fs) gs a = inr (among_right P fs gs a)

pub if_some : {A : Type 0} (o : Option A) (P Q : A → Type 0) → ((x : A) → P x → Q x) → IfSome o P → IfSome o Q
if_some None P Q h a = tt
if_some (Some x) P Q h a = h x a

-- ---- marks

some_or : (o : Option Outcome) → o ≢ None → (p : Outcome) × (o ≡ Some p)
some_or None h = absurd (h refl)
some_or (Some p) h = (p, refl)

not_none : (o : Option Outcome) (p : Outcome) → o ≡ Some p → o ≢ None
not_none None p e h = cc
not_none (Some q) p e h = cc

pub mark_stays : (m : Mark) (a b : Option Outcome) → ((o : Outcome) → a ≡ Some o → b ≡ Some o) → IsMarkOf m a → IsMarkOf m b
mark_stays blank a b stay h = tt
mark_stays (won o) a b stay h = stay o h
mark_stays closed a b stay h = let p = some_or a h in not_none b p.0 (stay p.0 p.1)

pub marks_stay : (marks : List Marked) (old new : List Served) → ((j : ℕ) (o : Outcome) → outcome_of old j ≡ Some o → outcome_of new j ≡ Some o)
    → AreMarksOf marks old → AreMarksOf marks new
marks_stay [] old new stay a = tt
marks_stay (m ∷ marks) old new stay a =
    (mark_stays m.mark (outcome_of old m.property) (outcome_of new m.property) (stay m.property) a.0, marks_stay marks old new stay a.1)

pub won_true : (marks : List Marked) (served : List Served) (j : ℕ) (o : Outcome) → AreMarksOf marks served → HasWon j o marks
    → outcome_of served j ≡ Some o
won_true [] served j o a h = absurd h
won_true (m ∷ marks) served j o a (inl h) =
    ap (outcome_of served) (sym h.0) ∙ subst (λ (k : Mark). IsMarkOf k (outcome_of served m.property)) h.1 a.0
won_true (m ∷ marks) served j o a (inr h) = won_true marks served j o a.1 h

-- ---- charts

abbrev pick : {P : Type 0} → Dec P → ℕ → ℕ → ℕ
pick (yes _) a b = a
pick (no _) a b = b

-- the lengths after one more turn
pub reach_after : (ℕ → ℕ) → ℕ → ℕ → ℕ → ℕ
reach_after f n m i = pick (dec_le i n) (f i) m

pub reach_low : (f : ℕ → ℕ) (n m i : ℕ) → i ≤ n → reach_after f n m i ≡ f i
unfolding reach_after
reach_low f n m i below = go (dec_le i n)
  where
    go : (d : Dec (i ≤ n)) → pick d (f i) m ≡ f i
    go (yes _) = refl
    go (no h) = absurd (h below)

pub reach_high : (f : ℕ → ℕ) (n m i : ℕ) → n < i → reach_after f n m i ≡ m
unfolding reach_after
reach_high f n m i above = go (dec_le i n)
  where
    go : (d : Dec (i ≤ n)) → pick d (f i) m ≡ m
    go (yes h) = absurd (omega arith)
    go (no _) = refl

reach_within_at : (f : ℕ → ℕ) (n m i : ℕ) → Dec (i ≤ n) → f i ≤ m → reach_after f n m i ≤ m
reach_within_at f n m i (yes h) below = subst (λ (k : ℕ). k ≤ m) (sym (reach_low f n m i h)) below
reach_within_at f n m i (no h) below = subst (λ (k : ℕ). k ≤ m) (sym (reach_high f n m i (omega arith))) (omega arith)

pub reach_within : (f : ℕ → ℕ) (n m i : ℕ) → f i ≤ m → reach_after f n m i ≤ m
reach_within f n m i below = reach_within_at f n m i (dec_le i n) below

reach_rising_at : (f : ℕ → ℕ) (n m i j : ℕ) → Dec (j ≤ n) → ((i j : ℕ) → i ≤ j → f i ≤ f j) → ((i : ℕ) → f i ≤ m) → i ≤ j
    → reach_after f n m i ≤ reach_after f n m j
reach_rising_at f n m i j (yes h) rising below le =
    let a = reach_low f n m j h in let b = reach_low f n m i (omega arith) in let c = rising i j le in omega arith
reach_rising_at f n m i j (no h) rising below le =
    let a = reach_high f n m j (omega arith) in let b = reach_within f n m i (below i) in omega arith

pub reach_rising : (f : ℕ → ℕ) (n m i j : ℕ) → ((i j : ℕ) → i ≤ j → f i ≤ f j) → ((i : ℕ) → f i ≤ m) → i ≤ j
    → reach_after f n m i ≤ reach_after f n m j
reach_rising f n m i j rising below le = reach_rising_at f n m i j (dec_le j n) rising below le

-- who won a property that had this outcome before the turn of k
abbrev pub champion_of : Option Outcome → ℕ → ℕ → ℕ
champion_of None k old = k
champion_of (Some o) k old = old

-- ---- lists of entries

pub starts_more : (a b more : List CheckedEntry) → StartsWith a b → StartsWith a (b ++ more)
starts_more a b more h = (h.0 ++ more, ap (λ (l : List CheckedEntry). l ++ more) h.1 ∙ append_assoc a h.0 more)

pub starts_whole : (a b : List CheckedEntry) → b ≡ a → StartsWith a b
starts_whole a b e = ([], e ∙ sym (append-nil a))
