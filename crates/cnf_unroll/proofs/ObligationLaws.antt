-- Where an obligation is satisfiable.
use Rattle.std.proofs.Common.{◌≡◌, ℕ, ◌+◌, ◌<◌, Bool, true, false, not, ◌&&◌, ◌||◌, List, [], ◌∷◌, ◌++◌, map, length, get_or, refl, sym, ap, ◌∙◌, inr, arith}
use Rattle.std.specs.List.{All, AllByRecursion, Contains, list_all}
use Rattle.std.proofs.lemmas.Bool.{and_parts, and_from}
use Rattle.std.proofs.lemmas.List.{length-map}
use Rattle.aig_semantics.specs.Circuits.{Circuit, IsChecked, defined}
use Rattle.aig_semantics.specs.Valuations.{HasOneValuation}
use Rattle.proof_semantics.specs.declared.literals.Lit.{Lit}
use Rattle.proof_semantics.specs.Clauses.{literal_value, clause_value, clauses_value, values_of, negation}
use Rattle.proof_semantics.proofs.LiteralLaws.{literal_value-negation}
use Rattle.fair_semantics.specs.declared.skeletons.Situation.{Situation}
use Rattle.fair_semantics.specs.Skeletons.{IsSituation}
use Rattle.fair_semantics.specs.Entries.{Entry, Numbered, sets_of, lies_on}
use Rattle.fair_semantics.specs.Allowing.{allow}
use Rattle.cnf_unroll.specs.Numbers.{block_size, number, next_number, state_place, successor_place, block_places, literal_at_place, clause_at_place, set_at_place}
use Rattle.cnf_unroll.specs.Blocks.{step_clauses}
use Rattle.cnf_unroll.specs.Uses.{free_from, named_sides, uses_clauses}
use Rattle.cnf_unroll.specs.Obligations.{units, step_with_uses, after_step, shared_clauses, broken_literals, obligation_clauses}
use Rattle.cnf_unroll.specs.Situations.{situation_in}
use Rattle.cnf_unroll.specs.Laws.{IsSatisfiable, AreOver, IsUnderstood, BreaksClause, walls_among}
use Rattle.cnf_unroll.proofs.Truth.{both, together, clause_there, set_there}
use Rattle.cnf_unroll.proofs.UseLaws.{states_at, names_here, read_uses}
use Rattle.cnf_unroll.proofs.UseWriting.{nothing, written}
use Rattle.cnf_unroll.proofs.BlockReading.{each, latches_defined, read_in_range, block_read}
use Rattle.cnf_unroll.proofs.BlockWriting.{block_value, block_shown, block_true, shown_latches}

or_false : (a : Bool) → (a || false) ≡ a
or_false true = refl
or_false false = refl

units_value : (v : ℕ → Bool) (names : List Lit) → clauses_value v (units names) ≡ list_all (literal_value v) names
units_value v [] = refl
units_value v (name ∷ names) = ap (λ x. x && clauses_value v (units names)) (or_false (literal_value v name)) ∙ ap (λ y. literal_value v name && y) (units_value v names)

not_or : (a b : Bool) → (not a && not b) ≡ not (a || b)
not_or true b = refl
not_or false b = refl

broken_value : (v : ℕ → Bool) (place : List ℕ) (clause : List Lit) → list_all (literal_value v) (map (λ l. negation (literal_at_place place l)) clause) ≡ not (clause_value v (clause_at_place place clause))
broken_value v place [] = refl
broken_value v place (l ∷ clause) =
    ap (λ x. x && list_all (literal_value v) (map (λ k. negation (literal_at_place place k)) clause)) (literal_value-negation v (literal_at_place place l))
    ∙ ap (λ y. not (literal_value v (literal_at_place place l)) && y) (broken_value v place clause)
    ∙ not_or (literal_value v (literal_at_place place l)) (clause_value v (clause_at_place place clause))

not_true : (a : Bool) → not a ≡ true → a ≡ false
not_true true h = sym h
not_true false h = refl

-- ---- the places of a block

pub state_length : (c : Circuit) (base : ℕ) → length (state_place c base) ≡ length c.latches
state_length c base = length-map c.latches (λ latch. number base latch.var)

pub successor_length : (c : Circuit) (base : ℕ) → length (successor_place c base) ≡ length c.latches
successor_length c base = length-map c.latches (λ latch. next_number c base latch.var)

all_of_map : {X : Type 0} (P : ℕ → Type 0) (f : X → ℕ) (xs : List X) → AllByRecursion (λ x. P (f x)) xs → AllByRecursion P (map f xs)
all_of_map P f [] h = tt
all_of_map P f (x ∷ xs) h = (h.0, all_of_map P f xs h.1)

pub state_below : (c : Circuit) → IsChecked c → (base free : ℕ) → base + block_size c < free → AllByRecursion (λ k. k < free) (state_place c base)
state_below c checked base free room =
    all_of_map (λ k. k < free) (λ latch. number base latch.var) c.latches
    (each (λ latch. Contains (defined c) latch.var) (λ latch. number base latch.var < free) (λ latch there. let below = read_in_range c checked latch.var (inr there) in omega arith) c.latches (latches_defined c))

pub successor_below : (c : Circuit) → IsChecked c → (base free : ℕ) → base + block_size c < free → AllByRecursion (λ k. k < free) (successor_place c base)
successor_below c checked base free room =
    all_of_map (λ k. k < free) (λ latch. next_number c base latch.var) c.latches
    (each (λ latch. Contains (defined c) latch.var) (λ latch. next_number c base latch.var < free) (λ latch there. let below = read_in_range c checked latch.var (inr there) in omega arith) c.latches (latches_defined c))

pub over_there : (n m : ℕ) (set : List (List Lit)) → n ≡ m → AreOver m set → AreOver n set
over_there n m set e over = λ k b below. λ i l inside. let x = over k b below i l inside in omega arith

module _ (c : Circuit) (checked : IsChecked c) (law : HasOneValuation c) (us : List Numbered) (e : Entry) (i : ℕ) (known : IsUnderstood c us e) (there : i < length e.clauses) where
  abbrev clause : List Lit
  clause = get_or e.clauses i []

  abbrev here : List ℕ
  here = state_place c 0

  abbrev next : List ℕ
  next = successor_place c 0

  long : AllByRecursion (λ p. length p ≡ length c.latches) (block_places c 0)
  long = (state_length c 0, (successor_length c 0, tt))

  clause_over : All (λ l. l.var < length (successor_place c 0)) (get_or e.clauses i [])
  clause_over = λ k l inside. let x = known.over i [] there k l inside in let n = successor_length c 0 in omega arith

  set_over_state : AreOver (length (state_place c 0)) e.clauses
  set_over_state = over_there (length (state_place c 0)) (length c.latches) e.clauses (state_length c 0) known.over

  pub obligation_read : IsSatisfiable (obligation_clauses c us e.uses e.clauses i) → BreaksClause c us e i
  obligation_read (v, h) =
      let names = named_sides (after_step c us).sides e.uses in
      let uses = uses_clauses (block_places c 0) (free_from (block_size c + 1)) us in
      let last = both v (shared_clauses c us e.uses e.clauses) (units (broken_literals c clause)) h in
      let set = both v (step_with_uses c us ++ units names) (set_at_place here e.clauses) last.0 in
      let sides = both v (step_with_uses c us) (units names) set.0 in
      let step = both v (step_clauses c) uses sides.0 in
      let situation = block_read c checked law 0 v step.0 in
      let read = read_uses v (length c.latches) (λ n s. false) (free_from (block_size c + 1)) [] [] (block_places c 0) us known.used long (nothing v (block_places c 0)) step.1 in
      let kept = names_here v (sets_of us) (after_step c us).sides read.more (walls_among [] us) (block_places c 0) read.agrees e.uses known.named in
      record {
        from = map v (state_place c 0);
        to = map v (successor_place c 0);
        step = record { position = (situation_in c 0 v).position; possible = situation.possible; begins = refl; ends = sym situation.next };
        allowed = read.allowed;
        inside = and_from _ _ (sym (set_there v here e.clauses set_over_state) ∙ set.1) (sym kept.0 ∙ (sym (units_value v names) ∙ sides.1));
        broken = sym (clause_there v next clause clause_over) ∙ not_true (clause_value v (clause_at_place next clause)) (sym (broken_value v next clause) ∙ (sym (units_value v (broken_literals c clause)) ∙ last.1));
      }

  pub obligation_written : BreaksClause c us e i → IsSatisfiable (obligation_clauses c us e.uses e.clauses i)
  obligation_written b =
      let s : Situation = record { position = b.step.position; successor = b.to } in
      let is : IsSituation c (record { position = b.step.position; successor = b.to }) = record { possible = b.step.possible; next = sym b.step.ends } in
      let v : ℕ → Bool = block_value c 0 s in
      let shows = block_shown c checked 0 s is v (λ n low high. refl) in
      let free = block_size c + 1 in
      let states : states_at v (block_places c 0) ≡ b.from ∷ b.to ∷ [] =
      ap (λ x. x ∷ map v (successor_place c 0) ∷ []) (shown_latches c checked law 0 s is v shows ∙ b.step.begins) ∙ ap (λ y. b.from ∷ y ∷ []) shows.next
      in
      let below : AllByRecursion (λ p. AllByRecursion (λ k. k < block_size c + 1) p) (block_places c 0) =
      (state_below c checked 0 (block_size c + 1) (omega arith), (successor_below c checked 0 (block_size c + 1) (omega arith), tt))
      in
      let w = written (length c.latches) us v (block_size c + 1) (state_place c 0) (successor_place c 0 ∷ []) known.used long below (ap (λ ss. allow us ss) states ∙ b.allowed) in
      let shown = block_shown c checked 0 s is w.value (λ n low high. w.keeps n (omega arith)) in
      let from : map w.value (state_place c 0) ≡ b.from = shown_latches c checked law 0 s is w.value shown ∙ b.step.begins in
      let to : map w.value (successor_place c 0) ≡ b.to = shown.next in
      let names = named_sides (after_step c us).sides e.uses in
      let uses = uses_clauses (block_places c 0) (free_from (block_size c + 1)) us in
      let kept = names_here w.value (sets_of us) (after_step c us).sides w.uses.more (walls_among [] us) (block_places c 0) w.uses.agrees e.uses known.named in
      let inside = and_parts (clauses_value (values_of b.from) e.clauses) (list_all (λ u. lies_on u.side (sets_of us u.entry b.from)) e.uses) b.inside in (
        w.value,
        together w.value (shared_clauses c us e.uses e.clauses) (units (broken_literals c clause))
            (together w.value (step_with_uses c us ++ units names) (set_at_place here e.clauses)
            (together w.value (step_with_uses c us) (units names)
            (together w.value (step_clauses c) uses (block_true c checked law 0 s is w.value shown) w.uses.holds)
            (units_value w.value names ∙ (kept.0 ∙ (ap (λ x. list_all (λ u. lies_on u.side (sets_of us u.entry x)) e.uses) from ∙ inside.1))))
            (set_there w.value here e.clauses set_over_state ∙ (ap (λ x. clauses_value (values_of x) e.clauses) from ∙ inside.0)))
            (units_value w.value (broken_literals c clause)
            ∙ (broken_value w.value next clause
            ∙ ap not (clause_there w.value next clause clause_over ∙ (ap (λ x. clause_value (values_of x) clause) to ∙ b.broken)))),
      )
