-- Each step of the lock keeps what the lock keeps.
use Rattle.std.proofs.Common.{◌≡◌, ◌≢◌, ℕ, zero, suc, ◌+◌, ◌-◌, ◌%◌, ◌^◌, ◌<◌, ◌≤◌, Bool, true, false, List, [], ◌∷◌, ◌++◌, map, get_or, set, sym, refl, ap, ◌∙◌, subst, ⊎_elim, arith, Option, Some}
use Rattle.std.proofs.Math.Nat.{mod-eq_of_lt}
use Rattle.std.proofs.lemmas.Bool.{true≢false, false_from_ne_true}
use mathlib.Core.Logic.{dite}
use mathlib.Core.Option.{none, some, some-injective, some-ne-none}
use mathlib.Core.Option as maybe
use mathlib.Core.List.{map-append}
use native.Mathlib.Decide.{ℕ_discrete}
use lib.ListN.{get_elem?}
use lib.Seq.{set-get_or, map-set}
use Rattle.atomic_table.specs.Table.{State, Me, step, keeps, takes, gives, put_back, rest, Allows, Splits, Joins, opening, Final, Seen}
use Rattle.atomic_table.proofs.Lists.{at_set, set_else, set_again, at_snoc, at_map, at_longer}
use Rattle.wall_ledger.specs.declared.lock.Doing.{Doing}
use Rattle.wall_ledger.specs.declared.lock.Stage.{Stage}
use Rattle.wall_ledger.specs.declared.lock.Stage.TheVariants.{Idle, Waiting, Holding, Raised}
use Rattle.wall_ledger.specs.Tickets.{most_tickets, Plan, next_turn, home_of, budgets, client, Knows, IsAtWork, Queued, ticket_of, raise_of, idle, waiting, staged, drawn, found, raised, passed, learned, Learns, Turns, Sees, Forks, Merges, IsAlone, IsLast}

-- ---- who drew which ticket

abbrev pick : {P : Type 0} → Dec P → ℕ → ℕ → ℕ
pick (yes _) a b = a
pick (no _) a b = b

pub put : (ℕ → ℕ) → ℕ → ℕ → ℕ → ℕ
put f i c j = pick (ℕ_discrete j i) c (f j)

pub put_here : (f : ℕ → ℕ) (i c j : ℕ) → j ≡ i → put f i c j ≡ c
unfolding put
put_here f i c j e = go (ℕ_discrete j i)
  where
    go : (d : Dec (j ≡ i)) → pick d c (f j) ≡ c
    go (yes _) = refl
    go (no n) = absurd (n e)

pub put_else : (f : ℕ → ℕ) (i c j : ℕ) → j ≢ i → put f i c j ≡ f j
unfolding put
put_else f i c j other = go (ℕ_discrete j i)
  where
    go : (d : Dec (j ≡ i)) → pick d c (f j) ≡ f j
    go (yes e) = absurd (other e)
    go (no _) = refl

-- ---- numbers

more : (n : ℕ) → n < 18446744073709551615 → (n + 1) % 2 ^ 64 ≡ suc n
more n h = mod-eq_of_lt (omega arith) ∙ omega arith

-- a word that is read, in a row of three
word_0 : (ws : List ℕ) (a b c : ℕ) → ws ≡ a ∷ b ∷ c ∷ [] → get_or ws 0 0 ≡ a
word_0 ws a b c e = ap (λ (l : List ℕ). get_or l 0 0) e

word_1 : (ws : List ℕ) (a b c : ℕ) → ws ≡ a ∷ b ∷ c ∷ [] → get_or ws 1 0 ≡ b
word_1 ws a b c e = ap (λ (l : List ℕ). get_or l 1 0) e

word_2 : (ws : List ℕ) (a b c : ℕ) → ws ≡ a ∷ b ∷ c ∷ [] → get_or ws 2 0 ≡ c
word_2 ws a b c e = ap (λ (l : List ℕ). get_or l 2 0) e

new_0 : (ws : List ℕ) (a b c x y : ℕ) → ws ≡ a ∷ b ∷ c ∷ [] → x ≡ y → set ws 0 x ≡ y ∷ b ∷ c ∷ []
new_0 ws a b c x y e f = ap (λ (l : List ℕ). set l 0 x) e ∙ ap (λ (z : ℕ). z ∷ b ∷ c ∷ []) f

new_1 : (ws : List ℕ) (a b c x y : ℕ) → ws ≡ a ∷ b ∷ c ∷ [] → x ≡ y → set ws 1 x ≡ a ∷ y ∷ c ∷ []
new_1 ws a b c x y e f = ap (λ (l : List ℕ). set l 1 x) e ∙ ap (λ (z : ℕ). a ∷ z ∷ c ∷ []) f

new_2 : (ws : List ℕ) (a b c x y : ℕ) → ws ≡ a ∷ b ∷ c ∷ [] → x ≡ y → set ws 2 x ≡ a ∷ b ∷ y ∷ []
new_2 ws a b c x y e f = ap (λ (l : List ℕ). set l 2 x) e ∙ ap (λ (z : ℕ). a ∷ b ∷ z ∷ []) f

turn_below : (b : Bool) (serving t : ℕ) → b ≡ true → next_turn b serving ≤ t → suc serving ≤ t
turn_below b serving t e h = subst (λ (c : Bool). next_turn c serving ≤ t) e h

turn_from : (b : Bool) (serving t : ℕ) → next_turn b serving ≤ t → serving ≤ t
turn_from true serving t h = omega arith
turn_from false serving t h = h

-- whoever waits for the ticket that is served finds that no turn is held
is_free : (b : Bool) (serving t : ℕ) → next_turn b serving ≤ t → t ≡ serving → b ≡ false
is_free true serving t h e = absurd (omega arith)
is_free false serving t h e = refl

not_both : (b : Bool) → b ≡ true → b ≡ false → ⊥
not_both b e f = true≢false (sym e ∙ f)

module _ {T V : Type 0} where
  budgets_set : (vs : List (Doing T V)) (me : ℕ) (v w : Doing T V) → get_elem? vs me ≡ some v → budgets (set vs me w) + v.budget ≡ budgets vs + w.budget
  budgets_set [] me v w at = absurd (some-ne-none v (sym at))
  budgets_set (x ∷ xs) zero v w at = let e : x.budget ≡ v.budget = ap (λ (d : Doing T V). d.budget) (some-injective x v at) in omega arith
  budgets_set (x ∷ xs) (suc me) v w at = let e = budgets_set xs me v w at in omega arith

  budgets_more : (vs : List (Doing T V)) (w : Doing T V) → budgets (vs ++ w ∷ []) ≡ budgets vs + w.budget
  budgets_more [] w = omega arith
  budgets_more (x ∷ xs) w = let e = budgets_more xs w in omega arith

  set_at : (vs : List (Doing T V)) (i : ℕ) (v w : Doing T V) → get_elem? vs i ≡ some v → get_elem? (set vs i w) i ≡ some w
  set_at [] i v w at = absurd (some-ne-none v (sym at))
  set_at (x ∷ xs) zero v w at = refl
  set_at (x ∷ xs) (suc i) v w at = set_at xs i v w at

  clients_set : (vs : List (Doing T V)) (me : ℕ) (v w : Doing T V) → w.client ≡ v.client → get_elem? vs me ≡ some v → map client (set vs me w) ≡ map client vs
  clients_set vs me v w e at = map-set client vs me w ∙ set_again (map client vs) me w.client (at_map client vs me v at ∙ ap (λ (x : V). some x) (sym e))

module _ {T V : Type 0} (size : T → ℕ) (active : V → Type 0) where
  abbrev K : Plan T → ℕ → V → Stage T → Type 0
  K p seat v st = Knows size active p seat v st

  -- ---- what the other seats know stays true

  others_draw : (p : Plan T) (me j : ℕ) (v : V) → next_turn p.busy p.serving ≤ p.ticket → (st : Stage T) → K p j v st
      → K (record p { ticket = suc p.ticket; holder = put p.holder p.ticket me }) j v st
  others_draw p me j v q Idle k = tt
  others_draw p me j v q (Waiting t) k = let l = k.1 in (k.0, omega arith, put_else p.holder p.ticket me t (λ e. omega arith) ∙ k.2, k.3)
  others_draw p me j v q (Holding t x) k = let l = turn_below p.busy p.serving p.ticket k.0 q in let e = k.1 in
      (k.0, k.1, put_else p.holder p.ticket me t (λ e. omega arith) ∙ k.2, k.3, k.4)
  others_draw p me j v q (Raised t x) k = let l = turn_below p.busy p.serving p.ticket k.0 q in let e = k.1 in
      (k.0, k.1, put_else p.holder p.ticket me t (λ e. omega arith) ∙ k.2, k.3, k.4)

  others_take : (p : Plan T) (me j : ℕ) (v : V) → j ≢ me → p.busy ≡ false → p.holder p.serving ≡ me → (st : Stage T) → K p j v st
      → K (record p { busy = true }) j v st
  others_take p me j v other free mine Idle k = tt
  others_take p me j v other free mine (Waiting t) k = let l = turn_from p.busy p.serving t k.0 in
      let n : t ≢ p.serving = λ e. other (sym k.2 ∙ (ap p.holder e ∙ mine)) in (omega arith, k.1, k.2, k.3)
  others_take p me j v other free mine (Holding t x) k = absurd (not_both p.busy k.0 free)
  others_take p me j v other free mine (Raised t x) k = absurd (not_both p.busy k.0 free)

  others_raise : (p : Plan T) (front me j : ℕ) (v : V) → j ≢ me → p.holder p.serving ≡ me → (st : Stage T) → K p j v st
      → K (record p { front = front }) j v st
  others_raise p front me j v other mine Idle k = tt
  others_raise p front me j v other mine (Waiting t) k = k
  others_raise p front me j v other mine (Holding t x) k = absurd (other (sym k.2 ∙ (ap p.holder k.1 ∙ mine)))
  others_raise p front me j v other mine (Raised t x) k = absurd (other (sym k.2 ∙ (ap p.holder k.1 ∙ mine)))

  others_pass : (p : Plan T) (y : T) (me j : ℕ) (v : V) → j ≢ me → p.busy ≡ true → p.holder p.serving ≡ me → (st : Stage T) → K p j v st
      → K (record p { serving = suc p.serving; busy = false; value = y }) j v st
  others_pass p y me j v other held mine Idle k = tt
  others_pass p y me j v other held mine (Waiting t) k = (turn_below p.busy p.serving t held k.0, k.1, k.2, k.3)
  others_pass p y me j v other held mine (Holding t x) k = absurd (other (sym k.2 ∙ (ap p.holder k.1 ∙ mine)))
  others_pass p y me j v other held mine (Raised t x) k = absurd (other (sym k.2 ∙ (ap p.holder k.1 ∙ mine)))

module _ {T V : Type 0} (size : T → ℕ) (active : V → Type 0) (holds : ℕ → T → List V → Type 0) where
  abbrev Do : Type 0
  Do = Doing T V

  abbrev St : Type 0
  St = State (Option T) Do

  abbrev M : Type 0
  M = Me (Option T) Do

  abbrev Rule : St → Type 0
  Rule = Queued size active holds

  knows : (s : St) (r : Rule s) (id : ℕ) (d : Do) (st : Stage T) → get_elem? s.views id ≡ some d → d.stage ≡ st → Knows size active r.plan id d.client st
  knows s r id d st at is = subst (Knows size active r.plan id d.client) is (r.seats id d at)

  -- the seats after a step of one of them
  seats_stay : (p : Plan T) (vs : List Do) (me : ℕ) (w : Do) → Knows size active p me w.client w.stage
      → ((j : ℕ) (d : Do) → j ≢ me → get_elem? vs j ≡ some d → Knows size active p j d.client d.stage)
      → (j : ℕ) (d : Do) → get_elem? (set vs me w) j ≡ some d → Knows size active p j d.client d.stage
  seats_stay p vs me w mine others j d e = ⊎_elim (λ (t : (j ≡ me) × (w ≡ d)). subst (λ (x : ℕ × Do). Knows size active p x.0 x.1.client x.1.stage) (λ i. (sym t.0 i, t.1 i)) mine)
      (λ (t : (j ≢ me) × (get_elem? vs j ≡ some d)). others j d t.0 t.1) (at_set vs me j w d e)

  -- a state with the same words and views
  unmoved : (s : St) (r : Rule s) (i id : ℕ) (d : Do) → get_elem? s.views id ≡ some d → Rule record { words = set s.words i (get_or s.words i 0); homes = s.homes; views = set s.views id d }
  unmoved s r i id d at = subst (λ (ws : List ℕ). Rule record { words = ws; homes = s.homes; views = set s.views id d }) (sym (set-get_or s.words i 0))
      (subst (λ (vs : List Do). Rule record { words = s.words; homes = s.homes; views = vs }) (sym (set_again s.views id d at)) r)

  -- the seat at work is none that is idle
  still_at_work : (s : St) (r : Rule s) (id : ℕ) (d w : Do) → d.stage ≡ Idle → get_elem? s.views id ≡ some d → r.plan.busy ≡ true
      → (b : Do) × (get_elem? (set s.views id w) (r.plan.holder r.plan.serving) ≡ some b) × IsAtWork b.stage × active b.client
  still_at_work s r id d w is at held = let b = r.at_work held in let i : ℕ = r.plan.holder r.plan.serving in
      let other : i ≢ id = λ z. subst IsAtWork (ap (λ (x : Do). x.stage) (some-injective b.0 d (sym b.1 ∙ (ap (get_elem? s.views) z ∙ at))) ∙ is) b.2 in
      (b.0, set_else s.views id i w other ∙ b.1, b.2, b.3)

  pub draws : (slots : ℕ) (id : ℕ) (m : M) → m.0.stage ≡ Idle → 0 < m.0.budget → active m.0.client
      → Allows Rule slots id m 0 (λ n. (n + 1) % 2 ^ 64) (drawn (step slots 0 1 0 none) m)
  draws slots id m is some_left acts s r deep at small = let p : Plan T = r.plan in let n : ℕ = get_or s.words 0 0 in let e : n ≡ p.ticket = word_0 s.words p.ticket p.serving p.front r.words in
      let w : Do = waiting m.0 n in let p' : Plan T = record p { ticket = suc p.ticket; holder = put p.holder p.ticket id } in
      let room = r.room in let set_room : budgets (set s.views id w) + m.0.budget ≡ budgets s.views + (m.0.budget - 1) = budgets_set s.views id m.0 w at in
      let low : n < 18446744073709551615 = omega arith in (
        w,
        keeps,
        tt,
        record {
          plan = p';
          words = new_0 s.words p.ticket p.serving p.front ((n + 1) % 2 ^ 64) (suc p.ticket) r.words (more n low ∙ ap suc e);
          homes = r.homes;
          queue = let q = r.queue in omega arith;
          room = omega arith;
          at_front = r.at_front;
          seats = seats_stay p' s.views id w
              (subst (λ (t : ℕ). next_turn p.busy p.serving ≤ t) (sym e) r.queue, omega arith, put_here p.holder p.ticket id n e, acts)
              (λ j d other there. others_draw size active p id j d.client r.queue d.stage (r.seats j d there));
          at_work = λ held. let b = r.at_work held in let l = turn_below p.busy p.serving p.ticket held r.queue in
              let same : put p.holder p.ticket id p.serving ≡ p.holder p.serving = put_else p.holder p.ticket id p.serving (λ z. omega arith) in
              let other : p.holder p.serving ≢ id = λ z. subst IsAtWork (ap (λ (d : Do). d.stage) (some-injective b.0 m.0 (sym b.1 ∙ (ap (get_elem? s.views) z ∙ at))) ∙ is) b.2 in
              (b.0, ap (get_elem? (set s.views id w)) same ∙ (set_else s.views id (p.holder p.serving) w other ∙ b.1), b.2, b.3);
          kept = subst (holds p.serving p.value) (sym (clients_set s.views id m.0 w refl at)) r.kept;
        },
        (refl, omega arith),
      )

  pub watches : (slots : ℕ) (fact : ℕ → V → T → Type 0) (id : ℕ) (m : M) (t : ℕ) → m.0.stage ≡ Waiting t → Learns holds id m.0.client fact
      → Allows Rule slots id m 1 (λ n. n) (found fact (step slots 1 0 0 none) m)
  watches slots fact id m t₀ is₀ learns s r deep at small = let p : Plan T = r.plan in let n : ℕ = get_or s.words 1 0 in let e : n ≡ p.serving = word_1 s.words p.ticket p.serving p.front r.words in
      let t : ℕ = ticket_of m.0.stage in let is : m.0.stage ≡ Waiting t = is₀ ∙ ap (λ (z : ℕ). Waiting z) (sym (ap ticket_of is₀)) in
      let k = knows s r id m.0 (Waiting t) at is in
      dite (ℕ_discrete n t)
      (λ hit. let now : t ≡ p.serving = sym hit ∙ e in let free : p.busy ≡ false = is_free p.busy p.serving t k.0 now in
      let w : Do = staged m.0 (Holding t p.value) in let p' : Plan T = record p { busy = true } in
      let homes : s.homes ≡ home_of false p.value = r.homes ∙ ap (λ (b : Bool). home_of b p.value) free in
      let mine : p.holder p.serving ≡ id = ap p.holder (sym now) ∙ k.2 in
      let set_room : budgets (set s.views id w) + m.0.budget ≡ budgets s.views + m.0.budget = budgets_set s.views id m.0 w at in
      let room = r.room in let below = k.1 in (
        w,
        takes 0 (Some p.value),
        ap (λ (hs : List (maybe.Option (Option T))). get_elem? hs 0) homes,
        record {
          plan = p';
          words = new_1 s.words p.ticket p.serving p.front n p.serving r.words e;
          homes = ap (λ (hs : List (maybe.Option (Option T))). set hs 0 none) homes;
          queue = omega arith;
          room = omega arith;
          at_front = λ z. absurd (true≢false z);
          seats = seats_stay p' s.views id w (refl, now, k.2, refl, r.at_front free)
              (λ j d other there. others_take size active p id j d.client other free mine d.stage (r.seats j d there));
          at_work = λ _. (w, ap (get_elem? (set s.views id w)) mine ∙ set_at s.views id m.0 w at, tt, k.3);
          kept = subst (holds p.serving p.value) (sym (clients_set s.views id m.0 w refl at)) r.kept;
        },
        (
          (λ _. (p.value, refl, subst (λ (z : ℕ). fact z m.0.client p.value) (sym now) (learns p.serving p.value (map client s.views) r.kept (at_map client s.views id m.0 at)))),
          (λ other. absurd (other hit)),
        ),
      ))
      (λ miss. (m.0, keeps, tt, unmoved s r 1 id m.0 at, ((λ hit. absurd (miss hit)), (λ _. refl))))

  pub raises : (slots : ℕ) (id : ℕ) (m : M) (t : ℕ) (x : T) → m.0.stage ≡ Holding t x → size x < 18446744073709551615
      → Allows Rule slots id m 2 (λ n. (n + 1) % 2 ^ 64) (raised (step slots 2 1 0 none) m)
  raises slots id m t x is fits s r deep at small = let p : Plan T = r.plan in let n : ℕ = get_or s.words 2 0 in let e : n ≡ p.front = word_2 s.words p.ticket p.serving p.front r.words in
      let k = knows s r id m.0 (Holding t x) at is in let w : Do = staged m.0 (raise_of m.0.stage) in let stage : w.stage ≡ Raised t x = ap raise_of is in
      let front : n ≡ size x = e ∙ (k.4 ∙ ap size (sym k.3)) in let front' : (n + 1) % 2 ^ 64 ≡ suc p.front = more n (omega arith) ∙ ap suc e in
      let p' : Plan T = record p { front = suc p.front } in let mine : p.holder p.serving ≡ id = ap p.holder (sym k.1) ∙ k.2 in
      let set_room : budgets (set s.views id w) + m.0.budget ≡ budgets s.views + m.0.budget = budgets_set s.views id m.0 w at in let room = r.room in let raised_front = k.4 in (
        w,
        keeps,
        tt,
        record {
          plan = p';
          words = new_2 s.words p.ticket p.serving p.front ((n + 1) % 2 ^ 64) (suc p.front) r.words front';
          homes = r.homes;
          queue = r.queue;
          room = omega arith;
          at_front = λ z. absurd (not_both p.busy k.0 z);
          seats = seats_stay p' s.views id w (subst (Knows size active p' id m.0.client) (sym stage) (k.0, k.1, k.2, k.3, omega arith))
              (λ j d other there. others_raise size active p (suc p.front) id j d.client other mine d.stage (r.seats j d there));
          at_work = λ held. let b = r.at_work held in
              let me : b.0 ≡ m.0 = some-injective b.0 m.0 (sym b.1 ∙ (ap (get_elem? s.views) mine ∙ at)) in
              (w, ap (get_elem? (set s.views id w)) mine ∙ set_at s.views id m.0 w at, subst IsAtWork (sym stage) tt, subst (λ (d : Do). active d.client) me b.3);
          kept = subst (holds p.serving p.value) (sym (clients_set s.views id m.0 w refl at)) r.kept;
        },
        refl,
      )

  -- the turn is passed on, whatever was done in it
  passes_from : (slots : ℕ) (id : ℕ) (m : M) (t : ℕ) (x y : T) (after : V) → m.1 ≡ (0, Some y) ∷ [] → Turns holds id m.0.client t x y after
      → ((p : Plan T) → Knows size active p id m.0.client m.0.stage → (p.busy ≡ true) × (t ≡ p.serving) × (p.holder t ≡ id) × (x ≡ p.value) × (p.front ≡ size y))
      → Allows Rule slots id m 1 (λ n. (n + 1) % 2 ^ 64) (passed after (step slots 1 1 0 none) m)
  passes_from slots id m t x y after held turn known s r deep at small = let p : Plan T = r.plan in let n : ℕ = get_or s.words 1 0 in let e : n ≡ p.serving = word_1 s.words p.ticket p.serving p.front r.words in
      let k = known p (r.seats id m.0 at) in let w : Do = idle m.0.budget after in let p' : Plan T = record p { serving = suc p.serving; busy = false; value = y } in
      let mine : p.holder p.serving ≡ id = ap p.holder (sym k.1) ∙ k.2 in let below : suc p.serving ≤ p.ticket = turn_below p.busy p.serving p.ticket k.0 r.queue in
      let set_room : budgets (set s.views id w) + m.0.budget ≡ budgets s.views + m.0.budget = budgets_set s.views id m.0 w at in let room = r.room in
      let homes : s.homes ≡ home_of true p.value = r.homes ∙ ap (λ (b : Bool). home_of b p.value) k.0 in (
        w,
        gives,
        tt,
        record {
          plan = p';
          words = new_1 s.words p.ticket p.serving p.front ((n + 1) % 2 ^ 64) (suc p.serving) r.words (more n (omega arith) ∙ ap suc e);
          homes = λ i. put_back (homes i) (held i);
          queue = below;
          room = omega arith;
          at_front = λ _. k.4;
          seats = seats_stay p' s.views id w tt (λ j d other there. others_pass size active p y id j d.client other k.0 mine d.stage (r.seats j d there));
          at_work = λ z. absurd (true≢false (sym z));
          kept = subst (holds (suc p.serving) y) (sym (map-set client s.views id w))
              (subst (λ (z : ℕ). holds (suc z) y (set (map client s.views) id after)) k.1
              (turn (map client s.views) (subst (λ (z : ℕ × T). holds z.0 z.1 (map client s.views)) (λ i. (sym k.1 i, sym k.3 i)) r.kept) (at_map client s.views id m.0 at)));
        },
        (λ i. (w, rest (held i))),
      )

  pub passes : (slots : ℕ) (id : ℕ) (m : M) (t : ℕ) (x y : T) (after : V) → m.0.stage ≡ Holding t x → m.1 ≡ (0, Some y) ∷ [] → size y ≡ size x → Turns holds id m.0.client t x y after
      → Allows Rule slots id m 1 (λ n. (n + 1) % 2 ^ 64) (passed after (step slots 1 1 0 none) m)
  passes slots id m t x y after is held same turn = passes_from slots id m t x y after held turn
      (λ p h. let k = subst (Knows size active p id m.0.client) is h in (k.0, k.1, k.2, k.3, k.4 ∙ (ap size (sym k.3) ∙ sym same)))

  pub passes_raised : (slots : ℕ) (id : ℕ) (m : M) (t : ℕ) (x y : T) (after : V) → m.0.stage ≡ Raised t x → m.1 ≡ (0, Some y) ∷ [] → size y ≡ size x + 1 → Turns holds id m.0.client t x y after
      → Allows Rule slots id m 1 (λ n. (n + 1) % 2 ^ 64) (passed after (step slots 1 1 0 none) m)
  passes_raised slots id m t x y after is held same turn = passes_from slots id m t x y after held turn
      (λ p h. let k = subst (Knows size active p id m.0.client) is h in (k.0, k.1, k.2, k.3, k.4 ∙ (ap (λ (z : T). size z + 1) (sym k.3) ∙ sym same)))

  -- a load that changes nothing but what the seat's user knows
  pub sees : (slots : ℕ) (then : V → V → Type 0) (id : ℕ) (m : M) (i : ℕ) → m.0.stage ≡ Idle → Sees holds id m.0.client then
      → Allows Rule slots id m i (λ n. n) (learned then (step slots i 0 0 none) m)
  sees slots then id m i is seen s r deep at small = let p : Plan T = r.plan in let h = seen p.serving p.value (map client s.views) r.kept (at_map client s.views id m.0 at) in
      let w : Do = record { stage = m.0.stage; budget = m.0.budget; client = h.0 } in
      let set_room : budgets (set s.views id w) + m.0.budget ≡ budgets s.views + m.0.budget = budgets_set s.views id m.0 w at in let room = r.room in (
        w,
        keeps,
        tt,
        record {
          plan = p;
          words = set-get_or s.words i 0 ∙ r.words;
          homes = r.homes;
          queue = r.queue;
          room = omega arith;
          at_front = r.at_front;
          seats = seats_stay p s.views id w (subst (Knows size active p id h.0) (sym is) tt) (λ j d other there. r.seats j d there);
          at_work = still_at_work s r id m.0 w is at;
          kept = subst (holds p.serving p.value) (sym (map-set client s.views id w)) h.1;
        },
        (h.0, h.2, refl),
      )

  pub splits : (id : ℕ) (d : Do) (left right : V) (part : ℕ) → d.stage ≡ Idle → part ≤ d.budget → Forks holds id d.client left right
      → Splits Rule id d record { stage = d.stage; budget = d.budget - part; client = left } (idle part right)
  splits id d left right part is enough forks s r at = let p : Plan T = r.plan in let w : Do = record { stage = d.stage; budget = d.budget - part; client = left } in let o : Do = idle part right in
      let set_room : budgets (set s.views id w) + d.budget ≡ budgets s.views + (d.budget - part) = budgets_set s.views id d w at in
      let with_new : budgets (set s.views id w ++ o ∷ []) ≡ budgets (set s.views id w) + part = budgets_more (set s.views id w) o in let room = r.room in record {
        plan = p;
        words = r.words;
        homes = r.homes;
        queue = r.queue;
        room = omega arith;
        at_front = r.at_front;
        seats = λ j e there. ⊎_elim (seats_stay p s.views id w (subst (Knows size active p id left) (sym is) tt) (λ i x other h. r.seats i x h) j e)
            (λ (z : o ≡ e). subst (λ (x : Do). Knows size active p j x.client x.stage) z tt) (at_snoc (set s.views id w) o e j there);
        at_work = λ held. let b = still_at_work s r id d w is at held in (b.0, at_longer (set s.views id w) (o ∷ []) (p.holder p.serving) b.0 b.1, b.2, b.3);
        kept = subst (holds p.serving p.value) (sym (map-append client (set s.views id w) (o ∷ []) ∙ ap (λ (l : List V). l ++ right ∷ []) (map-set client s.views id w)))
            (forks p.serving p.value (map client s.views) r.kept (at_map client s.views id d at));
      }

  pub joins : (id : ℕ) (d : Do) (other : ℕ) (e : Do) (both spent : V) → d.stage ≡ Idle → e.stage ≡ Idle → Merges holds id d.client other e.client both spent
      → Joins Rule id d other e record { stage = d.stage; budget = d.budget + e.budget; client = both } (idle 0 spent)
  joins id d other e both spent is is' merges s r at apart there = let p : Plan T = r.plan in let w : Do = record { stage = d.stage; budget = d.budget + e.budget; client = both } in let o : Do = idle 0 spent in
      let vs : List Do = set s.views id w in let same : map client vs ≡ set (map client s.views) id both = map-set client s.views id w in
      let one : budgets vs + d.budget ≡ budgets s.views + (d.budget + e.budget) = budgets_set s.views id d w at in
      let two : budgets (set vs other o) + e.budget ≡ budgets vs + 0 = budgets_set vs other e o there in let room = r.room in record {
        plan = p;
        words = r.words;
        homes = r.homes;
        queue = r.queue;
        room = omega arith;
        at_front = r.at_front;
        seats = seats_stay p vs other o tt (λ j x _. seats_stay p s.views id w (subst (Knows size active p id both) (sym is) tt) (λ i y _ h. r.seats i y h) j x);
        at_work = λ held. let b = still_at_work s r id d w is at held in
            let far : p.holder p.serving ≢ other = λ z. subst IsAtWork (ap (λ (x : Do). x.stage) (some-injective b.0 e (sym b.1 ∙ (ap (get_elem? vs) z ∙ there))) ∙ is') b.2 in
            (b.0, set_else vs other (p.holder p.serving) o far ∙ b.1, b.2, b.3);
        kept = subst (holds p.serving p.value) (sym (map-set client vs other o ∙ ap (λ (l : List V). set l other spent) same))
            (merges p.serving p.value (map client s.views) r.kept (at_map client s.views id d at) apart (subst (λ (l : List V). get_elem? l other ≡ some e.client) same (at_map client vs other e there)));
      }

  pub opens : (x : T) (v : V) → size x ≡ 0 → holds 0 x (v ∷ []) → Rule (opening (0 ∷ 0 ∷ 0 ∷ []) (Some x ∷ []) (idle most_tickets v))
  opens x v none_yet h = record {
    plan = record { ticket = 0; serving = 0; front = 0; busy = false; value = x; holder = λ _. 0 };
    words = refl;
    homes = refl;
    queue = omega arith;
    room = refl;
    at_front = λ _. sym none_yet;
    seats = only;
    at_work = λ z. absurd (true≢false (sym z));
    kept = h;
  }
    where
      only : (i : ℕ) (d : Do) → get_elem? (idle most_tickets v ∷ []) i ≡ some d → Knows size active (record { ticket = 0; serving = 0; front = 0; busy = false; value = x; holder = λ _. 0 }) i d.client d.stage
      only zero d e = subst (λ (z : Do). Knows size active (record { ticket = 0; serving = 0; front = 0; busy = false; value = x; holder = λ _. 0 }) 0 z.client z.stage) (some-injective (idle most_tickets v) d e) tt
      only (suc i) d e = absurd (some-ne-none d (sym e))

  -- the end: who is alone finds the value at home
  pub lasts : (id : ℕ) (d : Do) (ws : List ℕ) (xs : List (Option T)) (z : Option T) → d.stage ≡ Idle → IsAlone holds active id d.client → Final (Seen Rule id d) ws xs → get_elem? xs 0 ≡ some z
      → (x : T) × (z ≡ Some x) × IsLast holds id d.client x
  lasts id d ws xs z is alone f there = let s : St = f.0 in let r : Rule s = f.1.0 in let at : get_elem? s.views id ≡ some d = f.1.1 in let p : Plan T = r.plan in
      let free : p.busy ≡ false = false_from_ne_true p.busy (λ held. let b = r.at_work held in
      let mine : p.holder p.serving ≡ id = alone p.serving p.value (map client s.views) r.kept (at_map client s.views id d at) (p.holder p.serving) b.0.client (at_map client s.views (p.holder p.serving) b.0 b.1) b.3 in
      subst IsAtWork (ap (λ (x : Do). x.stage) (some-injective b.0 d (sym b.1 ∙ (ap (get_elem? s.views) mine ∙ at))) ∙ is) b.2) in
      let homes : s.homes ≡ home_of false p.value = r.homes ∙ ap (λ (b : Bool). home_of b p.value) free in (
        p.value,
        some-injective z (Some p.value) (sym there ∙ f.4 0 (Some p.value) (ap (λ (hs : List (maybe.Option (Option T))). get_elem? hs 0) homes)),
        (p.serving, map client s.views, r.kept, at_map client s.views id d at),
      )
