-- Seats that are split, joined, and that meet; and the end.
use Rattle.std.proofs.Common.{◌≡◌, ◌≢◌, ℕ, zero, suc, ◌<◌, ◌≤◌, ◌⊎◌, inl, inr, ⊎_elim, List, [], ◌∷◌, ◌++◌, length, take, drop, set, refl, sym, ap, ◌∙◌, subst, arith, append-nil}
use Rattle.std.specs.Prelude.{Option, Some, None, IfSome}
use Rattle.std.specs.List.{AllByRecursion}
use mathlib.Core.Logic.{dite}
use mathlib.Core.Option.{some, some-injective, some-ne-none}
use native.Mathlib.Decide.{ℕ_discrete}
use lib.ListN.{get_elem?}
use Rattle.atomic_table.proofs.Lists.{at_set, set_else, set_again, at_longer}
use Rattle.std.proofs.lemmas.List.{take-append-drop, length-append}
use Rattle.std.proofs.lemmas.List.Elements.{filter-append}
use Rattle.entry.specs.CheckedEntries.{CheckedEntry}
use Rattle.wall_store.specs.declared.outcomes.Outcome.{Outcome}
use Rattle.wall_store.specs.Boards.{BoardState, is_by, found_by}
use Rattle.wall_ledger.specs.Passes.{StartsWith}
use Rattle.wall_ledger.specs.Turns.{HasWon}
use Rattle.wall_ledger.specs.Tickets.{Forks, Merges, Sees, IsAlone}
use Rattle.wall_ledger.specs.Rules.{Face, IsOwned, Chart, IsSeated, Fits, AmongThem, HasNumber, IsNumbered, Kept}
use Rattle.wall_ledger.specs.Seats.{note_of, AreMeeting}
use Rattle.wall_ledger.proofs.Tickets.{put, put_here, put_else}
use Rattle.wall_ledger.proofs.Charts.{weaken, all_append, among_left, among_right, if_some}

at_end : {A : Type 0} (l : List A) (a b : A) (j : ℕ) → get_elem? (l ++ a ∷ []) j ≡ some b → (get_elem? l j ≡ some b) ⊎ ((j ≡ length l) × (a ≡ b))
at_end [] a b zero e = inr (refl, some-injective a b e)
at_end [] a b (suc j) e = absurd (some-ne-none b (sym e))
at_end (x ∷ xs) a b zero e = inl e
at_end (x ∷ xs) a b (suc j) e = ⊎_elim (λ (t : get_elem? xs j ≡ some b). inl t) (λ (t : (j ≡ length xs) × (a ≡ b)). inr (ap suc t.0, t.1)) (at_end xs a b j e)

set_at : (vs : List (List Face)) (i : ℕ) (v w : List Face) → get_elem? vs i ≡ some v → get_elem? (set vs i w) i ≡ some w
set_at [] i v w at = absurd (some-ne-none v (sym at))
set_at (x ∷ xs) zero v w at = refl
set_at (x ∷ xs) (suc i) v w at = set_at xs i v w at

-- one of these that is so, with what is so of all
among_all : (P Q : Face → Type 0) (fs : List Face) → AllByRecursion P fs → AmongThem Q fs → (f : Face) × P f × Q f
among_all P Q [] a h = absurd h
among_all P Q (f ∷ fs) a (inl q) = (f, a.0, q)
among_all P Q (f ∷ fs) a (inr h) = among_all P Q fs a.1 h

both_all : (P Q R : Face → Type 0) (fs : List Face) → ((f : Face) → P f → Q f → R f) → AllByRecursion P fs → AllByRecursion Q fs → AllByRecursion R fs
both_all P Q R [] h a b = tt
both_all P Q R (f ∷ fs) h a b = (h f a.0 b.0, both_all P Q R fs h a.1 b.1)

-- where the numbers keep their seats, faces fit in a chart with other owners
reseat : (first b : BoardState) (n : ℕ) (c : Chart) (owner : ℕ → ℕ) (i j : ℕ) (f : Face)
    → IfSome f.number (λ w. c.owner w ≡ i → owner w ≡ j) → Fits first b n c i f
    → Fits first b n (record { owner = owner; reach = c.reach; champion = c.champion }) j f
reseat first b n c owner i j f moves fits = record {
  home = fits.home;
  list = fits.list;
  stamp = fits.stamp;
  owned = both f.number moves fits.owned;
}
  where
    both : (o : Option ℕ) → IfSome o (λ w. c.owner w ≡ i → owner w ≡ j) → IfSome o (λ w. IsOwned b f w × IsSeated c i f w)
        → IfSome o (λ w. IsOwned b f w × IsSeated (record { owner = owner; reach = c.reach; champion = c.champion }) j f w)
    both None m h = tt
    both (Some w) m h = (h.0, record { at = m h.1.at; champions = h.1.champions })

-- ---- a pass is cut off

-- a face without a mark that was won
abbrev pub WonNothing : Face → Type 0
WonNothing f = (j : ℕ) (o : Outcome) → HasWon j o f.marks → ⊥

module _ (first : BoardState) (seat k : ℕ) (f : Face) (fs : List Face) (number : f.number ≡ Some k)
    (apart : AllByRecursion (λ g. IfSome g.number (λ w. w ≢ k)) fs) (blank : WonNothing f) (blanks : AllByRecursion WonNothing fs) where
  nobody_won : (j : ℕ) (o : Outcome) → AmongThem (λ h. HasWon j o h.marks) (f ∷ fs) → ⊥
  nobody_won j o (inl h) = blank j o h
  nobody_won j o (inr h) = let z = among_all WonNothing (λ g. HasWon j o g.marks) fs blanks h in z.1 j o z.2

  pub cuts : Forks (Kept first) seat (f ∷ fs) fs (f ∷ [])
  cuts n x views kept at =
      let c : Chart = kept.chart in
      let new : ℕ = length (set views seat fs) in
      let owner : ℕ → ℕ = put c.owner k new in
      let all = kept.seats seat (f ∷ fs) at in
      let mine : c.owner k ≡ seat = (subst (λ (o : Option ℕ). IfSome o (λ w. IsOwned x f w × IsSeated c seat f w)) number all.0.owned).1.at in
      let own : (w i : ℕ) → w ≢ k → c.owner w ≡ i → owner w ≡ i = λ w i other e. put_else c.owner k new w other ∙ e in
      record {
        chart = record { owner = owner; reach = c.reach; champion = c.champion };
        origin = kept.origin;
        rising = kept.rising;
        within = kept.within;
        seats = λ i gs there. ⊎_elim
            (λ (old : get_elem? (set views seat fs) i ≡ some gs). ⊎_elim
            (λ (t : (i ≡ seat) × (fs ≡ gs)).
            subst (λ (z : ℕ × List Face). AllByRecursion (Fits first x n (record { owner = owner; reach = c.reach; champion = c.champion }) z.0) z.1)
            (λ d. (sym t.0 d, t.1 d))
            (both_all (λ g. IfSome g.number (λ w. w ≢ k)) (Fits first x n c seat)
            (Fits first x n (record { owner = owner; reach = c.reach; champion = c.champion }) seat) fs
            (λ g away fits. reseat first x n c owner seat seat g (if_some g.number (λ w. w ≢ k) (λ w. c.owner w ≡ seat → owner w ≡ seat) (λ w other. own w seat other) away) fits)
            apart all.1))
            (λ (t : (i ≢ seat) × (get_elem? views i ≡ some gs)).
            weaken gs (λ g fits. reseat first x n c owner i i g
            (other_numbers g c.owner owner i (λ w e. own w i (λ same. t.0 (sym e ∙ (ap c.owner same ∙ mine))) e)) fits) (kept.seats i gs t.1))
            (at_set views seat i fs gs old))
            (λ (t : (i ≡ new) × (f ∷ [] ≡ gs)).
            subst (λ (z : ℕ × List Face). AllByRecursion (Fits first x n (record { owner = owner; reach = c.reach; champion = c.champion }) z.0) z.1)
            (λ d. (sym t.0 d, t.1 d))
            (reseat first x n c owner seat new f (subst (λ (o : Option ℕ). IfSome o (λ w. c.owner w ≡ seat → owner w ≡ new)) (sym number) (λ e. put_here c.owner k new k refl)) all.0, tt))
            (at_end (set views seat fs) (f ∷ []) gs i there);
        winners = λ j o is. let w = kept.winners j o is in
            let far : c.owner (c.champion j) ≢ seat = λ e. nobody_won j o
            (subst (AmongThem (λ (h : Face). HasWon j o h.marks)) (some-injective w.1.0 (f ∷ fs) (sym w.1.1 ∙ (ap (get_elem? views) e ∙ at))) w.1.2) in
            let other : c.champion j ≢ k = λ e. far (ap c.owner e ∙ mine) in
            let same : owner (c.champion j) ≡ c.owner (c.champion j) = put_else c.owner k new (c.champion j) other in (
              w.0,
              (
                w.1.0,
                ap (get_elem? (set views seat fs ++ (f ∷ []) ∷ [])) same
                    ∙ at_longer (set views seat fs) ((f ∷ []) ∷ []) (c.owner (c.champion j)) w.1.0 (set_else views seat (c.owner (c.champion j)) fs far ∙ w.1.1),
                w.1.2,
              ),
            );
      }
    where
      other_numbers : (g : Face) (old new : ℕ → ℕ) (i : ℕ) → ((w : ℕ) → old w ≡ i → new w ≡ i) → IfSome g.number (λ w. old w ≡ i → new w ≡ i)
      other_numbers g old new i h = go g.number
        where
          go : (o : Option ℕ) → IfSome o (λ w. old w ≡ i → new w ≡ i)
          go None = tt
          go (Some w) = h w

-- ---- a note

pub notes : (first : BoardState) (seat : ℕ) (fs : List Face) → Forks (Kept first) seat fs fs (note_of fs)
notes first seat fs n x views kept at =
    let c : Chart = kept.chart in
    let same : set views seat fs ≡ views = set_again views seat fs at in
    record {
      chart = c;
      origin = kept.origin;
      rising = kept.rising;
      within = kept.within;
      seats = λ i gs there. ⊎_elim (λ (old : get_elem? (set views seat fs) i ≡ some gs). kept.seats i gs (ap (λ (vs : List (List Face)). get_elem? vs i) (sym same) ∙ old))
          (λ (t : (i ≡ length (set views seat fs)) × (note_of fs ≡ gs)). subst (AllByRecursion (Fits first x n c i)) t.1 (noted fs i (kept.seats seat fs at)))
          (at_end (set views seat fs) (note_of fs) gs i there);
      winners = λ j o is. let w = kept.winners j o is in
          (w.0, (w.1.0, at_longer (set views seat fs) (note_of fs ∷ []) (c.owner (c.champion j)) w.1.0 (ap (λ (vs : List (List Face)). get_elem? vs (c.owner (c.champion j))) same ∙ w.1.1), w.1.2));
    }
  where
    noted : (gs : List Face) (i : ℕ) → AllByRecursion (Fits first x n kept.chart seat) gs → AllByRecursion (Fits first x n kept.chart i) (note_of gs)
    noted [] i a = tt
    noted (g ∷ gs) i a = (record { home = a.0.home; list = a.0.list; stamp = a.0.stamp; owned = tt }, tt)

-- ---- a seat is taken in

pub merges : (first : BoardState) (seat other : ℕ) (fs gs : List Face) → Merges (Kept first) seat fs other gs (fs ++ gs) []
merges first seat other fs gs n x views kept at apart there =
    let c : Chart = kept.chart in
    let vs : List (List Face) = set views seat (fs ++ gs) in
    let theirs : get_elem? views other ≡ some gs = sym (set_else views seat other (fs ++ gs) apart) ∙ there in
    let owner : ℕ → ℕ = λ w. put (λ i. i) other seat (c.owner w) in
    let stays : (w i : ℕ) → i ≢ other → c.owner w ≡ i → owner w ≡ i = λ w i away e. ap (put (λ i. i) other seat) e ∙ put_else (λ i. i) other seat i away in
    let moves : (w : ℕ) → c.owner w ≡ other → owner w ≡ seat = λ w e. put_here (λ i. i) other seat (c.owner w) e in
    let c' : Chart = record { owner = owner; reach = c.reach; champion = c.champion } in
    record {
      chart = c';
      origin = kept.origin;
      rising = kept.rising;
      within = kept.within;
      seats = λ i hs found. ⊎_elim
          (λ (t : (i ≡ other) × ([] ≡ hs)). subst (AllByRecursion (Fits first x n c' i)) t.1 tt)
          (λ (t : (i ≢ other) × (get_elem? vs i ≡ some hs)). ⊎_elim
          (λ (u : (i ≡ seat) × (fs ++ gs ≡ hs)).
          subst (λ (z : ℕ × List Face). AllByRecursion (Fits first x n c' z.0) z.1) (λ d. (sym u.0 d, u.1 d))
          (all_append (Fits first x n c' seat) fs gs
          (weaken fs (λ g fits. reseat first x n c owner seat seat g (for_number g.number (λ w. c.owner w ≡ seat → owner w ≡ seat) (λ w. stays w seat (λ e. apart (sym e)))) fits) (kept.seats seat fs at))
          (weaken gs (λ g fits. reseat first x n c owner other seat g (for_number g.number (λ w. c.owner w ≡ other → owner w ≡ seat) moves) fits) (kept.seats other gs theirs))))
          (λ (u : (i ≢ seat) × (get_elem? views i ≡ some hs)).
          weaken hs (λ g fits. reseat first x n c owner i i g (for_number g.number (λ w. c.owner w ≡ i → owner w ≡ i) (λ w. stays w i t.0)) fits) (kept.seats i hs u.1))
          (at_set views seat i (fs ++ gs) hs t.1))
          (at_set vs other i [] hs found);
      winners = λ j o is. let w = kept.winners j o is in let who : ℕ = c.champion j in
          let here : get_elem? (set vs other []) seat ≡ some (fs ++ gs) = set_else vs other seat [] (λ e. apart (sym e)) ∙ set_at views seat fs (fs ++ gs) at in
          dite (ℕ_discrete (c.owner who) other)
          (λ (e : c.owner who ≡ other).
          let theirs_won = subst (AmongThem (λ (h : Face). HasWon j o h.marks)) (some-injective w.1.0 gs (sym w.1.1 ∙ (ap (get_elem? views) e ∙ theirs))) w.1.2 in
          (w.0, (fs ++ gs, ap (get_elem? (set vs other [])) (moves who e) ∙ here, among_right (λ h. HasWon j o h.marks) fs gs theirs_won)))
          (λ (away : c.owner who ≢ other). dite (ℕ_discrete (c.owner who) seat)
          (λ (e : c.owner who ≡ seat).
          let mine_won = subst (AmongThem (λ (h : Face). HasWon j o h.marks)) (some-injective w.1.0 fs (sym w.1.1 ∙ (ap (get_elem? views) e ∙ at))) w.1.2 in
          (w.0, (fs ++ gs, ap (get_elem? (set vs other [])) (stays who seat (λ z. apart (sym z)) e) ∙ here, among_left (λ h. HasWon j o h.marks) fs gs mine_won)))
          (λ (far : c.owner who ≢ seat). (
            w.0,
            (
              w.1.0,
              ap (get_elem? (set vs other [])) (stays who (c.owner who) away refl)
                  ∙ (set_else vs other (c.owner who) [] away ∙ (set_else views seat (c.owner who) (fs ++ gs) far ∙ w.1.1)),
              w.1.2,
            ),
          )));
    }
  where
    for_number : (o : Option ℕ) (P : ℕ → Type 0) → ((w : ℕ) → P w) → IfSome o P
    for_number None P h = tt
    for_number (Some w) P h = h w

-- ---- passes that meet

nothing_behind : {A : Type 0} (xs ys zs : List A) → (xs ++ ys) ++ zs ≡ xs → ys ≡ []
nothing_behind xs [] zs e = refl
nothing_behind xs (y ∷ ys) zs e =
    absurd (let a = ap length e in let b = length-append (xs ++ y ∷ ys) zs in let c = length-append xs (y ∷ ys) in
    let d : length (y ∷ ys) ≡ suc (length ys) = refl in omega arith)

-- a longer list has no more entries of a worker, where the whole has no more
pub found_between : (k : ℕ) (a b whole : List CheckedEntry) → StartsWith a b → StartsWith b whole → found_by k whole ≡ found_by k a
    → found_by k whole ≡ found_by k b
found_between k a b whole ab bw same =
    let test = λ (e : CheckedEntry). is_by k e.origin in
    let fb : found_by k b ≡ found_by k a ++ found_by k ab.0 = ap (found_by k) ab.1 ∙ filter-append test a ab.0 in
    let fw : found_by k whole ≡ found_by k b ++ found_by k bw.0 = ap (found_by k) bw.1 ∙ filter-append test b bw.0 in
    let sum : (found_by k a ++ found_by k ab.0) ++ found_by k bw.0 ≡ found_by k a = ap (λ (l : List CheckedEntry). l ++ found_by k bw.0) (sym fb) ∙ (sym fw ∙ same) in
    let none : found_by k ab.0 ≡ [] = nothing_behind (found_by k a) (found_by k ab.0) (found_by k bw.0) sum in
    same ∙ sym (fb ∙ (ap (λ (l : List CheckedEntry). found_by k a ++ l) none ∙ append-nil (found_by k a)))

-- the list of a stamp stands in front of that of a greater stamp
takes_start : {A : Type 0} (m n : ℕ) (l : List A) → m ≤ n → (rest : List A) × (take n l ≡ take m l ++ rest)
takes_start zero n l le = (take n l, refl)
takes_start (suc m) zero l le = absurd (omega arith)
takes_start (suc m) (suc n) [] le = ([], refl)
takes_start (suc m) (suc n) (x ∷ l) le = let r = takes_start m n l (omega arith) in (r.0, ap (λ (ys : List _). x ∷ ys) r.1)

pub lists_start : (first b : BoardState) (n : ℕ) (c : Chart) (i j : ℕ) (f g : Face) → ((i j : ℕ) → i ≤ j → c.reach i ≤ c.reach j)
    → Fits first b n c i f → Fits first b n c j g → f.stamp ≤ g.stamp → StartsWith f.list g.list
lists_start first b n c i j f g rising one other le =
    let t = takes_start (c.reach f.stamp) (c.reach g.stamp) b.entries (rising f.stamp g.stamp le) in
    (t.0, other.list ∙ (t.1 ∙ ap (λ (l : List CheckedEntry). l ++ t.0) (sym one.list)))

pub whole_start : (first b : BoardState) (n : ℕ) (c : Chart) (i : ℕ) (f : Face) → Fits first b n c i f → StartsWith f.list b.entries
whole_start first b n c i f fits =
    (drop (c.reach f.stamp) b.entries, sym (take-append-drop (c.reach f.stamp) b.entries) ∙ ap (λ (l : List CheckedEntry). l ++ drop (c.reach f.stamp) b.entries) (sym fits.list))

starts_length : (a b : List CheckedEntry) → StartsWith a b → length a ≤ length b
starts_length a b h = let e = ap length h.1 in let l = length-append a h.0 in omega arith

pub meets : (first : BoardState) (seat : ℕ) (f g : Face) → f.stamp ≤ g.stamp → WonNothing g → Sees (Kept first) seat (f ∷ g ∷ []) AreMeeting
meets first seat f g le blank n x views kept at =
    let c : Chart = kept.chart in
    let all = kept.seats seat (f ∷ g ∷ []) at in
    let starts : StartsWith f.list g.list = lists_start first x n c seat seat f g kept.rising all.0 all.1.0 le in
    let whole : StartsWith g.list x.entries = whole_start first x n c seat g all.1.0 in
    let h : Face = record f { list = g.list; stamp = g.stamp } in (
      h ∷ [],
      record {
        chart = c;
        origin = kept.origin;
        rising = kept.rising;
        within = kept.within;
        seats = λ i gs there. ⊎_elim
            (λ (t : (i ≡ seat) × (h ∷ [] ≡ gs)). subst (λ (z : ℕ × List Face). AllByRecursion (Fits first x n c z.0) z.1) (λ d. (sym t.0 d, t.1 d)) (
              record {
                home = all.0.home;
                list = all.1.0.list;
                stamp = all.1.0.stamp;
                owned = if_some f.number (λ w. IsOwned x f w × IsSeated c seat f w) (λ w. IsOwned x h w × IsSeated c seat h w)
                    (λ w p. (
                      record {
                        below = p.0.below;
                        seen = (let s = p.0.seen in let l = starts_length f.list g.list starts in omega arith);
                        own = found_between w f.list g.list x.entries starts whole p.0.own;
                        marks = p.0.marks;
                      },
                      record { at = p.1.at; champions = p.1.champions },
                    )) all.0.owned;
              },
              tt,
            ))
            (λ (t : (i ≢ seat) × (get_elem? views i ≡ some gs)). kept.seats i gs t.1)
            (at_set views seat i (h ∷ []) gs there);
        winners = λ j o is. let w = kept.winners j o is in
            dite (ℕ_discrete (c.owner (c.champion j)) seat)
            (λ (e : c.owner (c.champion j) ≡ seat).
            let mine = subst (AmongThem (λ (z : Face). HasWon j o z.marks)) (some-injective w.1.0 (f ∷ g ∷ []) (sym w.1.1 ∙ (ap (get_elem? views) e ∙ at))) w.1.2 in (
              w.0,
              (
                h ∷ [],
                ap (get_elem? (set views seat (h ∷ []))) e ∙ set_at views seat (f ∷ g ∷ []) (h ∷ []) at,
                ⊎_elim (λ (t : HasWon j o f.marks). inl t) (λ (t : HasWon j o g.marks ⊎ ⊥). absurd (⊎_elim (λ (u : HasWon j o g.marks). blank j o u) (λ (u : ⊥). u) t)) mine,
              ),
            ))
            (λ (far : c.owner (c.champion j) ≢ seat). (w.0, (w.1.0, set_else views seat (c.owner (c.champion j)) (h ∷ []) far ∙ w.1.1, w.1.2)));
      },
      (
        refl,
        record {
          front = starts;
          same = λ e. all.0.list ∙ (ap (λ (m : ℕ). take (c.reach m) x.entries) e ∙ sym all.1.0.list);
          own = if_some f.number (λ w. IsOwned x f w × IsSeated c seat f w) (λ w. found_by w g.list ≡ found_by w f.list)
              (λ w p. sym (found_between w f.list g.list x.entries starts whole p.0.own) ∙ p.0.own) all.0.owned;
        },
      ),
    )

-- ---- the end

pub number_seat : (first b : BoardState) (n : ℕ) (c : Chart) (i k : ℕ) (fs : List Face) → AllByRecursion (Fits first b n c i) fs → HasNumber k fs
    → (k < b.workers) × (c.owner k ≡ i)
number_seat first b n c i k fs all has =
    let z = among_all (Fits first b n c i) (λ f. f.number ≡ Some k) fs all has in
    let o = subst (λ (m : Option ℕ). IfSome m (λ w. IsOwned b z.0 w × IsSeated c i z.0 w)) z.2 z.1.owned in
    (o.0.below, o.1.at)

pub alone : (first : BoardState) (seat : ℕ) (fs : List Face) → ((k : ℕ) → k < first.workers → HasNumber k fs) → IsAlone (Kept first) IsNumbered seat fs
alone first seat fs all n x views kept at i gs there numbered =
    let one = number_seat first x n kept.chart i numbered.0 gs (kept.seats i gs there) numbered.1 in
    let two = number_seat first x n kept.chart seat numbered.0 fs (kept.seats seat fs at)
    (all numbered.0 (subst (λ (w : ℕ). numbered.0 < w) kept.origin.workers one.0)) in
    sym one.1 ∙ two.1
