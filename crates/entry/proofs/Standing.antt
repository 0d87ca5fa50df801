-- An entry behind other entries, among which those that it uses stand: it has the same set and the same obligations.
use Rattle.std.proofs.Common.{◌≡◌, ℕ, ◌+◌, ◌<◌, Bool, false, not, List, [], ◌∷◌, ◌++◌, map, length, get_or, refl, sym, ap, ap₂, ◌∙◌, subst, arith, length-append}
use Rattle.std.specs.Prelude.{Option}
use Rattle.std.proofs.Math.Path.{fun_ext}
use Rattle.std.specs.List.{All}
use Rattle.std.proofs.lemmas.List.Elements.{All-head, All-tail, All-cons, All-nil, All-map}
use Rattle.aig_semantics.specs.Circuits.{Circuit}
use Rattle.proof_semantics.specs.declared.literals.Lit.{Lit}
use Rattle.proof_semantics.specs.Proofs.{Refutes}
use Rattle.fair_semantics.specs.declared.entries.Kind.{Kind}
use Rattle.fair_semantics.specs.declared.entries.Kind.TheVariants.{Reach, Wall}
use Rattle.fair_semantics.specs.declared.entries.Side.{Side}
use Rattle.fair_semantics.specs.declared.entries.Side.TheVariants as sides
use Rattle.fair_semantics.specs.declared.entries.Use.{Use}
use Rattle.fair_semantics.specs.declared.skeletons.Skeleton.{Skeleton}
use Rattle.fair_semantics.specs.Entries.{Entry, Numbered, used_entries, entry_at, set_over, NamesUsed, AreClosed}
use Rattle.fair_semantics.specs.Allowing.{allows_by}
use Rattle.fair_semantics.specs.Skeletons.{places, excludes}
use Rattle.fair_semantics.specs.Validity.{set_behind, IsValid}
use Rattle.fair_semantics.specs.Laws.{named_use, named_uses, SayTheSame}
use Rattle.fair_semantics.proofs.Sets.{sets_of-at, entry_at-place, entry_at-earlier}
use Rattle.fair_semantics.proofs.Alone.{uses_stand_alone}
use Rattle.fair_semantics.proofs.Staying.{SayThere, sets-says, stays_valid}
use Rattle.cnf_unroll.specs.Numbers.{block_size, state_place, block_places, set_at_place}
use Rattle.cnf_unroll.specs.Blocks.{step_clauses}
use Rattle.cnf_unroll.specs.Uses.{Numbering, free_from, named_literal, named_sides, reach_clauses, wall_clauses, use_clauses, after_use, uses_clauses, after_uses}
use Rattle.cnf_unroll.specs.Obligations.{units, broken_literals, skeleton_clauses}
use Rattle.entry.specs.Proved.{obligation_of, IsProved, IsGoodRefutation}
use Rattle.entry.specs.declared.origins.Origin.{Origin}
use Rattle.entry.specs.declared.origins.Origin.TheVariants.{Given, Worker}
use Rattle.entry.specs.CheckedEntries.{checked_behind, StandIn, ExcludesFrom, HoldsWhereUsesStand}

-- ---- the sets of used entries that say the same

set-elsewhere : (before other : List Entry) (e : Entry) (s : List Bool)
    → AreClosed before e.uses → AreClosed other e.uses → SayThere other before e.uses
    → set_behind other e s ≡ set_behind before e s
set-elsewhere before other e s here there same =
    sym ((uses_stand_alone other e.uses there).entry e refl s)
    ∙ ap (λ (known : ℕ → List Bool → Bool). set_over known e s) (sets-says (λ n t. false) before other e.uses same)
    ∙ (uses_stand_alone before e.uses here).entry e refl s

-- ---- the clauses of used entries that say the same

literal-alone : (known : ℕ → Option ℕ) (u : Use) (side : Side) (rest : List Use) → u.side ≡ side
    → named_sides known (named_use side u ++ rest) ≡ named_literal u.side (known u.entry) ++ named_sides known rest
literal-alone known u sides.Any rest same = ap (λ side. named_literal side (known u.entry) ++ named_sides known rest) (sym same)
literal-alone known u sides.In rest same = refl
literal-alone known u sides.Out rest same = refl

literals-alone : (known : ℕ → Option ℕ) (uses : List Use) → named_sides known (named_uses uses) ≡ named_sides known uses
literals-alone known [] = refl
literals-alone known (u ∷ uses) =
    literal-alone known u u.side (named_uses uses) refl ∙ ap (λ ls. named_literal u.side (known u.entry) ++ ls) (literals-alone known uses)

literals-says : (known : ℕ → Option ℕ) (e f : Entry) → SayTheSame e f → named_sides known e.uses ≡ named_sides known f.uses
literals-says known e f same = sym (literals-alone known e.uses) ∙ ap (named_sides known) same.named ∙ literals-alone known f.uses

clauses-kind : (at : List (List ℕ)) (n : Numbering) (e f : Entry) (kind : Kind) → SayTheSame e f → use_clauses at n e kind ≡ use_clauses at n f kind
clauses-kind at n e f Reach same = ap (λ set. reach_clauses set at) same.clauses
clauses-kind at n e f Wall same = ap₂ (λ names set. wall_clauses n.free names set at) (literals-says n.sides e f same) same.clauses

clauses-says : (at : List (List ℕ)) (n : Numbering) (e f : Entry) → SayTheSame e f → use_clauses at n e e.kind ≡ use_clauses at n f f.kind
clauses-says at n e f same = clauses-kind at n e f e.kind same ∙ ap (use_clauses at n f) same.kind

after-kind : (at : List (List ℕ)) (n : Numbering) (number : ℕ) (e f : Entry) (kind : Kind) → SayTheSame e f
    → after_use at n (record { number = number; entry = e }) kind ≡ after_use at n (record { number = number; entry = f }) kind
after-kind at n number e f Reach same = refl
after-kind at n number e f Wall same =
    ap (λ (set : List (List Lit)). after_use at n (record { number = number; entry = record { kind = Wall; clauses = set; uses = [] } }) Wall) same.clauses

after-says : (at : List (List ℕ)) (n : Numbering) (number : ℕ) (e f : Entry) → SayTheSame e f
    → after_use at n (record { number = number; entry = e }) e.kind ≡ after_use at n (record { number = number; entry = f }) f.kind
after-says at n number e f same =
    after-kind at n number e f e.kind same ∙ ap (after_use at n (record { number = number; entry = f })) same.kind

uses-says : (at : List (List ℕ)) (n : Numbering) (before other : List Entry) (uses : List Use) → SayThere other before uses
    → (uses_clauses at n (used_entries other uses) ≡ uses_clauses at n (used_entries before uses))
    × (after_uses at n (used_entries other uses) ≡ after_uses at n (used_entries before uses))
uses-says at n before other [] h = (refl, refl)
uses-says at n before other (u ∷ uses) h =
    let P : Use → Type 0 = λ v. SayTheSame (entry_at other v.entry) (entry_at before v.entry) in
    let here : Entry = entry_at before u.entry in
    let there : Entry = entry_at other u.entry in
    let same : SayTheSame there here = All-head P u uses h in
    let next : Numbering = after_use at n (record { number = u.entry; entry = here }) here.kind in
    let moved = after-says at n u.entry there here same in
    let rest = uses-says at next before other uses (All-tail P u uses h) in (
      ap₂ (λ xs ys. xs ++ ys) (clauses-says at n there here same)
          (ap (λ (m : Numbering). uses_clauses at m (used_entries other uses)) moved ∙ rest.0),
      ap (λ (m : Numbering). after_uses at m (used_entries other uses)) moved ∙ rest.1,
    )

obligation-elsewhere : (c : Circuit) (before other : List Entry) (e : Entry) (i : ℕ) → SayThere other before e.uses
    → obligation_of c other e i ≡ obligation_of c before e i
obligation-elsewhere c before other e i same =
    let both = uses-says (block_places c 0) (free_from (block_size c + 1)) before other e.uses same in
    ap₂ (λ (clauses : List (List Lit)) (n : Numbering).
    ((step_clauses c ++ clauses) ++ units (named_sides n.sides e.uses) ++ set_at_place (state_place c 0) e.clauses)
    ++ units (broken_literals c (get_or e.clauses i []))) both.0 both.1

-- ---- what an entry excludes

excludes-value : (before : List Entry) (e : Entry) (after : List Entry) (skeleton : Skeleton)
    → excludes (before ++ e ∷ after) (length before) skeleton ≡ not (allows_by e.kind (set_behind before e) (places skeleton))
excludes-value before e after skeleton =
    ap₂ (λ (kind : Kind) (set : List Bool → Bool). not (allows_by kind set (places skeleton)))
    (ap (λ (f : Entry). f.kind) (entry_at-place before e after)) (fun_ext (λ s. sets_of-at before e after s))

apart-elsewhere : (before other : List Entry) (e : Entry) (origin : Origin) (after : List Entry)
    → ((s : List Bool) → set_behind other e s ≡ set_behind before e s)
    → ExcludesFrom origin (before ++ e ∷ []) (length before) → ExcludesFrom origin (other ++ e ∷ after) (length other)
apart-elsewhere before other e Given after same h = tt
apart-elsewhere before other e (Worker work) after same h =
    excludes-value other e after work.skeleton
    ∙ ap (λ (set : List Bool → Bool). not (allows_by e.kind set (places work.skeleton))) (fun_ext same)
    ∙ sym (excludes-value before e [] work.skeleton) ∙ h

-- ---- checked entries

All-mapped : {X Y : Type 0} (P : X → Type 0) (f : Y → X) (ys : List Y) → All P (map f ys) → All (λ y. P (f y)) ys
All-mapped P f [] h = All-nil (λ y. P (f y))
All-mapped P f (y ∷ ys) h =
    All-cons (λ z. P (f z)) y ys (All-head P (f y) (map f ys) h) (All-mapped P f ys (All-tail P (f y) (map f ys) h))

abbrev at_use : List Entry → Use → Numbered
at_use before u = record { number = u.entry; entry = entry_at before u.entry }

abbrev Stands : List Entry → Numbered → Type 0
Stands entries u = (u.number < length entries) × SayTheSame (entry_at entries u.number) u.entry

pub holds-elsewhere : (c : Circuit) (before : List Entry) (e : Entry) (proofs : List (List (List ℕ))) (origin : Origin)
    → IsValid c before e → IsProved c before e proofs → ExcludesFrom origin (before ++ e ∷ []) (length before)
    → HoldsWhereUsesStand (checked_behind c before e proofs origin)
holds-elsewhere c before e proofs origin valid proved apart other stand =
    let there : All (λ u. (u.entry < length other) × SayTheSame (entry_at other u.entry) (entry_at before u.entry)) e.uses =
    All-mapped (Stands other) (at_use before) e.uses stand
    in
    let same : SayThere other before e.uses = λ k d inside. (there k d inside).1 in
    let stays : IsValid c other e = stays_valid c before other e valid there in
    let set : (s : List Bool) → set_behind other e s ≡ set_behind before e s =
    λ s. set-elsewhere before other e s valid.uses stays.uses same
    in
    record {
      valid = stays;
      proved = record {
        closed = stays.uses;
        over = proved.over;
        reach = λ is_reach. record { uses = (stays.reach is_reach).uses; clauses = (proved.reach is_reach).clauses };
        each = record {
          count = proved.each.count;
          refute = λ i below.
              subst (λ (clauses : List (List Lit)). Refutes clauses (get_or proofs i []))
              (sym (obligation-elsewhere c before other e i same)) (proved.each.refute i below);
        };
      };
      apart = λ after. apart-elsewhere before other e origin after set apart;
    }

-- the entry as it is kept, equal to what was checked
pub kept : (c d : Circuit) (before : List Entry) (e f : Entry) (proofs : List (List (List ℕ))) (origin : Origin) (used : List Numbered) (seen : ℕ)
    → d ≡ c → f ≡ e → used ≡ used_entries before e.uses → seen ≡ length before
    → IsValid c before e → IsProved c before e proofs → ExcludesFrom origin (before ++ e ∷ []) (length before)
    → HoldsWhereUsesStand (record { circuit = d; entry = f; proofs = proofs; used = used; origin = origin; seen = seen })
kept c d before e f proofs origin used seen same_circuit same_entry same_used same_seen valid proved apart =
    let back_circuit : c ≡ d = sym same_circuit in
    let back_entry : e ≡ f = sym same_entry in
    let back_used : used_entries before e.uses ≡ used = sym same_used in
    let back_seen : length before ≡ seen = sym same_seen in
    let path : checked_behind c before e proofs origin ≡ record { circuit = d; entry = f; proofs = proofs; used = used; origin = origin; seen = seen } =
    λ i. record { circuit = back_circuit i; entry = back_entry i; proofs = proofs; used = back_used i; origin = origin; seen = back_seen i }
    in
    subst HoldsWhereUsesStand path (holds-elsewhere c before e proofs origin valid proved apart)

-- ---- lists that go on

pub stand_on : (before after : List Entry) (used : List Numbered) → StandIn before used → StandIn (before ++ after) used
stand_on before after used stand = λ k d inside.
    let h = stand k d inside in
    let below : (get_or used k d).number < length before = h.0 in (
      omega (arith, below, length-append before after),
      subst (λ (f : Entry). SayTheSame f (get_or used k d).entry) (sym (entry_at-earlier before after _ below)) h.1,
    )

pub closed_uses_stand : (before : List Entry) (uses : List Use) → AreClosed before uses → StandIn before (used_entries before uses)
closed_uses_stand before uses closed =
    All-map (Stands before) (at_use before) uses
    (λ k d inside. (closed.present k d inside, record { kind = refl; clauses = refl; named = refl }))

used-on : (before after : List Entry) (uses : List Use) → All (λ u. u.entry < length before) uses
    → used_entries (before ++ after) uses ≡ used_entries before uses
used-on before after [] h = refl
used-on before after (u ∷ uses) h =
    let P : Use → Type 0 = λ v. v.entry < length before in
    ap₂ (λ (e : Entry) (us : List Numbered). record { number = u.entry; entry = e } ∷ us)
    (entry_at-earlier before after u.entry (All-head P u uses h)) (used-on before after uses (All-tail P u uses h))

closed-on : (before after : List Entry) (uses : List Use) → AreClosed before uses → AreClosed (before ++ after) uses
closed-on before after uses h =
    record {
      ascend = h.ascend;
      present = λ k d inside. (let below : (get_or uses k d).entry < length before = h.present k d inside in omega (arith, below, length-append before after));
      walls = λ k d inside signed.
          ap (λ (f : Entry). f.kind) (entry_at-earlier before after _ (h.present k d inside)) ∙ h.walls k d inside signed;
      closed = λ k d inside.
          subst (λ (f : Entry). NamesUsed uses (get_or uses k d).entry f)
          (sym (entry_at-earlier before after _ (h.present k d inside))) (h.closed k d inside);
    }

pub refutations_stay : (c : Circuit) (entries after : List Entry) (j : ℕ) (uses : List Use) (proof : List (List ℕ))
    → IsGoodRefutation c entries j uses proof → IsGoodRefutation c (entries ++ after) j uses proof
refutations_stay c entries after j uses proof good =
    record {
      closed = closed-on entries after uses good.closed;
      unsigned = good.unsigned;
      refutes =
          subst (λ (us : List Numbered). Refutes (skeleton_clauses c j us) proof)
          (sym (used-on entries after uses good.closed.present)) good.refutes;
    }
