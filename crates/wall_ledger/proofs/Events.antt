-- A turn of a pass keeps what passes and the board keep.
use Rattle.std.proofs.Common.{◌≡◌, ◌≢◌, ℕ, zero, suc, ◌+◌, ◌<◌, ◌≤◌, ◌⊎◌, inl, inr, ⊎_elim, List, [], ◌∷◌, ◌++◌, length, take, drop, set, refl, sym, ap, ◌∙◌, subst, arith}
use Rattle.std.specs.Prelude.{Option, Some, None, IfSome}
use Rattle.std.specs.List.{AllByRecursion}
use mathlib.Core.Logic.{dite}
use mathlib.Core.Option.{some, some-injective, some-ne-none}
use native.Mathlib.Decide.{ℕ_discrete}
use lib.ListN.{get_elem?}
use Rattle.atomic_table.proofs.Lists.{at_set, set_else}
use Rattle.std.proofs.lemmas.List.{take-append-le, length-append, take_all, take-append-drop}
use Rattle.entry.specs.CheckedEntries.{CheckedEntry}
use Rattle.wall_store.specs.declared.outcomes.Outcome.{Outcome}
use Rattle.wall_store.specs.Boards.{BoardState, outcome_of, found_by}
use Rattle.wall_store.specs.Events.{seen_by}
use Rattle.wall_ledger.specs.Passes.{Marked, PassState, StartsWith, AreMarksOf, GoesOn}
use Rattle.wall_ledger.specs.Turns.{HasWon}
use Rattle.wall_ledger.specs.Tickets.{Turns, Learns}
use Rattle.wall_ledger.specs.Rules.{Face, IsFrom, IsOwned, Chart, IsSeated, Fits, AmongThem, Kept, IsTold, Told, Event}
use Rattle.wall_ledger.proofs.Charts.{weaken, if_some, marks_stay, won_true, reach_after, reach_low, reach_high, reach_within, reach_rising, champion_of, starts_more, starts_whole}

whole : (l : List CheckedEntry) → take (length l) l ≡ l
whole l = take_all (length l) l (omega arith)

set_at : (vs : List (List Face)) (i : ℕ) (v w : List Face) → get_elem? vs i ≡ some v → get_elem? (set vs i w) i ≡ some w
set_at [] i v w at = absurd (some-ne-none v (sym at))
set_at (x ∷ xs) zero v w at = refl
set_at (x ∷ xs) (suc i) v w at = set_at xs i v w at

option_cases : (o : Option Outcome) → (o ≡ None) ⊎ ((p : Outcome) × (o ≡ Some p))
option_cases None = inl refl
option_cases (Some p) = inr (p, refl)

pub some_same : {A : Type 0} (a b : A) → Some a ≡ Some b → a ≡ b
some_same a b e = cc

pub none_not_some : {A : Type 0} (o : Option A) (a : A) → o ≡ None → o ≡ Some a → ⊥
none_not_some o a e f = cc

-- what is so of the number of a face
pub at_number : (f : Face) (k : ℕ) (P : ℕ → Type 0) → f.number ≡ Some k → IfSome f.number P → P k
at_number f k P e h = subst (λ (o : Option ℕ). IfSome o P) e h

pub to_number : (f : Face) (k : ℕ) (P : ℕ → Type 0) → f.number ≡ Some k → P k → IfSome f.number P
to_number f k P e h = subst (λ (o : Option ℕ). IfSome o P) (sym e) h

module _ (first : BoardState) (n : ℕ) (x y : BoardState) (k : ℕ) (f g : Face) (e : Event n x y k f g) where
  abbrev after : Chart → Chart
  after c = record {
    owner = c.owner;
    reach = reach_after c.reach n (length y.entries);
    champion = λ j. champion_of (outcome_of x.served j) k (c.champion j);
  }

  grown : length x.entries ≤ length y.entries
  grown = let l : length y.entries ≡ length x.entries + length e.more = ap length e.longer ∙ length-append x.entries e.more in omega arith

  -- the list of an old stamp stays
  list_stays : (c : Chart) (list : List CheckedEntry) (stamp : ℕ) → ((i : ℕ) → c.reach i ≤ length x.entries) → stamp ≤ n
      → list ≡ take (c.reach stamp) x.entries → list ≡ take ((after c).reach stamp) y.entries
  list_stays c list stamp within below is =
      is ∙ sym (ap (λ (l : List CheckedEntry). take ((after c).reach stamp) l) e.longer
      ∙ (ap (λ (m : ℕ). take m (x.entries ++ e.more)) (reach_low c.reach n (length y.entries) stamp below)
      ∙ take-append-le (c.reach stamp) x.entries e.more (within stamp)))

  old_champion : (c : Chart) (j : ℕ) (o : Outcome) → outcome_of x.served j ≡ Some o → (after c).champion j ≡ c.champion j
  old_champion c j o is = ap (λ (p : Option Outcome). champion_of p k (c.champion j)) is

  new_champion : (c : Chart) (j : ℕ) → outcome_of x.served j ≡ None → (after c).champion j ≡ k
  new_champion c j is = ap (λ (p : Option Outcome). champion_of p k (c.champion j)) is

  owned_stays : (h : Face) (w : ℕ) → w ≢ k → IsOwned x h w → IsOwned y h w
  owned_stays h w other o = record {
    below = (let b = o.below in let s = e.workers in omega arith);
    seen = subst (λ (m : ℕ). m ≤ length h.list) (sym (e.others_seen w other)) o.seen;
    own = e.others_found w other ∙ o.own;
    marks = marks_stay h.marks x.served y.served e.stay o.marks;
  }

  others_fit : (c : Chart) (seat i : ℕ) → i ≢ seat → c.owner k ≡ seat → ((i : ℕ) → c.reach i ≤ length x.entries) → (h : Face)
      → Fits first x n c i h → Fits first y (suc n) (after c) i h
  others_fit c seat i other mine within h fits = record {
    home = fits.home;
    list = list_stays c h.list h.stamp within fits.stamp fits.list;
    stamp = (let s = fits.stamp in omega arith);
    owned = if_some h.number (λ w. IsOwned x h w × IsSeated c i h w) (λ w. IsOwned y h w × IsSeated (after c) i h w)
        (λ w p. (
          owned_stays h w (λ z. other (sym p.1.at ∙ (ap c.owner z ∙ mine))) p.0,
          record {
            at = p.1.at;
            champions = λ j o has. old_champion c j o (won_true h.marks x.served j o p.0.marks has) ∙ p.1.champions j o has;
          },
        )) fits.owned;
  }

  mine_fits : (c : Chart) (seat : ℕ) → ((i : ℕ) → c.reach i ≤ length x.entries) → Fits first x n c seat f → Fits first y (suc n) (after c) seat g
  mine_fits c seat within fits = let old = at_number f k (λ w. IsOwned x f w × IsSeated c seat f w) e.was fits.owned in record {
    home = e.home ∙ fits.home;
    list = ⊎_elim (λ (s : (g.list ≡ y.entries) × (g.stamp ≡ suc n)).
        s.0 ∙ sym (ap (λ (m : ℕ). take ((after c).reach m) y.entries) s.1
        ∙ (ap (λ (m : ℕ). take m y.entries) (reach_high c.reach n (length y.entries) (suc n) (omega arith)) ∙ whole y.entries)))
        (λ (s : (g.list ≡ f.list) × (g.stamp ≡ f.stamp)).
        s.0 ∙ (list_stays c f.list f.stamp within fits.stamp fits.list
        ∙ ap (λ (m : ℕ). take ((after c).reach m) y.entries) (sym s.1))) e.shown;
    stamp = ⊎_elim (λ (s : (g.list ≡ y.entries) × (g.stamp ≡ suc n)). let t = s.1 in omega arith)
        (λ (s : (g.list ≡ f.list) × (g.stamp ≡ f.stamp)). let t = s.1 in let u = fits.stamp in omega arith) e.shown;
    owned = to_number g k (λ w. IsOwned y g w × IsSeated (after c) seat g w) e.number (
      record { below = (let b = old.0.below in let s = e.workers in omega arith); seen = e.seen; own = e.own; marks = e.marks },
      record {
        at = old.1.at;
        champions = λ j o has. ⊎_elim
            (λ (h : HasWon j o f.marks). old_champion c j o (won_true f.marks x.served j o old.0.marks h) ∙ old.1.champions j o h)
            (λ (h : outcome_of x.served j ≡ None). new_champion c j h) (e.new_wins j o has);
      },
    );
  }

  -- the winner of a property, where its pass has this number
  abbrev Winner : Chart → List (List Face) → BoardState → ℕ → Outcome → ℕ → Type 0
  Winner c views b j o w = (w < b.workers)
      × ((fs : List Face) × (get_elem? views (c.owner w) ≡ some fs) × AmongThem (λ h. HasWon j o h.marks) fs)

  old_winner : (c : Chart) (seat : ℕ) (views : List (List Face)) (j : ℕ) (o : Outcome) (w : ℕ) → get_elem? views seat ≡ some (f ∷ [])
      → Winner c views x j o w → Winner c (set views seat (g ∷ [])) y j o w
  old_winner c seat views j o w at h =
      let below : w < y.workers = (let b = h.0 in let s = e.workers in omega arith) in
      dite (ℕ_discrete (c.owner w) seat)
      (λ here. let only : h.1.0 ≡ f ∷ [] = some-injective h.1.0 (f ∷ []) (sym h.1.1 ∙ (ap (get_elem? views) here ∙ at)) in
      let mine = subst (AmongThem (λ (z : Face). HasWon j o z.marks)) only h.1.2 in (
        below,
        (
          g ∷ [],
          ap (get_elem? (set views seat (g ∷ []))) here ∙ set_at views seat (f ∷ []) (g ∷ []) at,
          ⊎_elim (λ (t : HasWon j o f.marks). inl (e.old_wins j o t)) (λ (t : ⊥). absurd t) mine,
        ),
      ))
      (λ other. (below, (h.1.0, set_else views seat (c.owner w) (g ∷ []) other ∙ h.1.1, h.1.2)))

  pub event_keeps : (seat : ℕ) → Turns (Kept first) seat (f ∷ []) n x y (g ∷ [])
  event_keeps seat views kept at =
      let c : Chart = kept.chart in
      let mine : Fits first x n c seat f = (kept.seats seat (f ∷ []) at).0 in
      let old = at_number f k (λ w. IsOwned x f w × IsSeated c seat f w) e.was mine.owned in
      record {
        chart = after c;
        origin = record {
          circuit = e.circuit ∙ kept.origin.circuit;
          properties = e.properties ∙ kept.origin.properties;
          workers = e.workers ∙ kept.origin.workers;
          limit = e.limit ∙ kept.origin.limit;
          given = e.given ∙ kept.origin.given;
          front = (let s = starts_more first.entries x.entries e.more kept.origin.front in (s.0, e.longer ∙ s.1));
        };
        rising = λ i j le. reach_rising c.reach n (length y.entries) i j kept.rising (λ m. (let a = kept.within m in let b = grown in omega arith)) le;
        within = λ i. reach_within c.reach n (length y.entries) i (let a = kept.within i in let b = grown in omega arith);
        seats = λ i fs there. ⊎_elim
            (λ (t : (i ≡ seat) × (g ∷ [] ≡ fs)). subst (λ (z : ℕ × List Face). AllByRecursion (Fits first y (suc n) (after c) z.0) z.1)
            (λ d. (sym t.0 d, t.1 d)) (mine_fits c seat kept.within mine, tt))
            (λ (t : (i ≢ seat) × (get_elem? views i ≡ some fs)).
            weaken fs (λ h fits. others_fit c seat i t.0 old.1.at kept.within h fits) (kept.seats i fs t.1))
            (at_set views seat i (g ∷ []) fs there);
        winners = λ j o is. ⊎_elim
            (λ (none : outcome_of x.served j ≡ None).
            subst (Winner c (set views seat (g ∷ [])) y j o) (sym (new_champion c j none)) (
              (let b = old.0.below in let s = e.workers in omega arith),
              (
                g ∷ [],
                ap (get_elem? (set views seat (g ∷ []))) old.1.at ∙ set_at views seat (f ∷ []) (g ∷ []) at,
                ⊎_elim (λ (was : outcome_of x.served j ≡ Some o). absurd (none_not_some (outcome_of x.served j) o none was))
                    (λ (has : HasWon j o g.marks). inl has) (e.outcomes j o is),
              ),
            ))
            (λ (p : (p : Outcome) × (outcome_of x.served j ≡ Some p)).
            let same : p.0 ≡ o = some_same p.0 o (sym (e.stay j p.0 p.1) ∙ is) in
            let was : outcome_of x.served j ≡ Some o = p.1 ∙ ap (λ (z : Outcome). Some z) same in
            subst (Winner c (set views seat (g ∷ [])) y j o) (sym (old_champion c j o was))
            (old_winner c seat views j o (c.champion j) at (kept.winners j o was)))
            (option_cases (outcome_of x.served j));
      }

  -- the board goes on from what the pass then knows
  pub event_goes : (q : PassState) → q.number ≡ k → q.list ≡ g.list → q.marks ≡ g.marks → StartsWith f.list x.entries → GoesOn q y
  event_goes q number list marks told = record {
    list = subst (λ (l : List CheckedEntry). StartsWith l y.entries) (sym list)
        (⊎_elim (λ (s : (g.list ≡ y.entries) × (g.stamp ≡ suc n)). starts_whole g.list y.entries (sym s.0))
        (λ (s : (g.list ≡ f.list) × (g.stamp ≡ f.stamp)).
        let t = starts_more f.list x.entries e.more told in
        subst (λ (l : List CheckedEntry). StartsWith l y.entries) (sym s.0) (t.0, e.longer ∙ t.1)) e.shown);
    seen = subst (λ (z : ℕ × List CheckedEntry). seen_by y z.0 ≤ length z.1) (λ d. (sym number d, sym list d)) e.seen;
    own = subst (λ (z : ℕ × List CheckedEntry). found_by z.0 y.entries ≡ found_by z.0 z.1) (λ d. (sym number d, sym list d)) e.own;
    marks = subst (λ (z : List Marked). AreMarksOf z y.served) (sym marks) e.marks;
  }

-- ---- what is found when the turn comes

tells_face : (first x : BoardState) (n : ℕ) (c : Chart) (seat : ℕ) (f : Face) → IsFrom first x → ((i : ℕ) → c.reach i ≤ length x.entries)
    → Fits first x n c seat f → IsTold n x f
tells_face first x n c seat f origin within fits = record {
  origin = subst (λ (z : BoardState). IsFrom z x) (sym fits.home) origin;
  list = (drop (c.reach f.stamp) x.entries, sym (take-append-drop (c.reach f.stamp) x.entries) ∙ ap (λ (l : List CheckedEntry). l ++ drop (c.reach f.stamp) x.entries) (sym fits.list));
  stamp = fits.stamp;
  owned = if_some f.number (λ w. IsOwned x f w × IsSeated c seat f w) (IsOwned x f) (λ w p. p.0) fits.owned;
}

pub tells : (first : BoardState) (seat : ℕ) (fs : List Face) → Learns (Kept first) seat fs Told
tells first seat fs n x views kept at =
    weaken fs (λ f fits. tells_face first x n kept.chart seat f kept.origin kept.within fits) (kept.seats seat fs at)
