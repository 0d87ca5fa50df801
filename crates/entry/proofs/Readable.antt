-- Closed uses of a good list can be understood by themselves.
use Rattle.std.proofs.Common.{◌≡◌, ℕ, zero, suc, ◌<◌, List, [], ◌∷◌, length, get_or, take, drop, refl, sym, ap, subst, ◌∙◌, inl, inr, ◌⊎◌, arith}
use Rattle.std.specs.List.{All, AllPairs, Contains}
use Rattle.std.proofs.lemmas.List.{take-append-drop}
use Rattle.std.proofs.lemmas.List.Elements.{All-head, All-tail}
use Rattle.aig_semantics.specs.Circuits.{Circuit}
use Rattle.fair_semantics.specs.declared.entries.Kind.{Kind}
use Rattle.fair_semantics.specs.declared.entries.Kind.TheVariants.{Reach, Wall}
use Rattle.fair_semantics.specs.declared.entries.Use.{Use}
use Rattle.fair_semantics.specs.Entries.{Entry, entry_at, used_entries, IsSigned, Uses, AreClosed}
use Rattle.fair_semantics.specs.Validity.{IsValid, AreValid}
use Rattle.fair_semantics.proofs.Sets.{entry_at-earlier, Uses-least}
use Rattle.cnf_unroll.specs.Laws.{NameKnown, walls_with, walls_among, IsReadable, AreReadable}
use Rattle.cnf_unroll.proofs.Readable.{uses-cases, named_by}
use Rattle.fair_semantics.proofs.Lists.{valid-at}
use Rattle.entry.specs.Laws.{IsGoodList}

-- ---- what is good of each entry of the list

reach-not-wall : (kind : Kind) → kind ≡ Reach → kind ≡ Wall → ⊥
reach-not-wall Reach r w = cc
reach-not-wall Wall r w = cc

-- the entry names sides of earlier walls alone, and of none if it is a reach entry
pub record NamesWalls (entries : List Entry) (n : ℕ) : Type 0 where
  pub walls : All (λ v. IsSigned v → (entry_at entries v.entry).kind ≡ Wall) (entry_at entries n).uses
  pub reach : (entry_at entries n).kind ≡ Reach → All (λ v. IsSigned v → ⊥) (entry_at entries n).uses

front-kind : (entries : List Entry) (n m : ℕ) → m < length (take n entries) → entry_at (take n entries) m ≡ entry_at entries m
front-kind entries n m below = sym (entry_at-earlier (take n entries) (drop n entries) m below) ∙ ap (λ es. entry_at es m) (take-append-drop n entries)

pub names_walls : (c : Circuit) (entries : List Entry) (n : ℕ) → AreValid c entries → n < length entries → NamesWalls entries n
names_walls c entries n valid below =
    let e : Entry = entry_at entries n in
    let here : IsValid c (take n entries) e = valid-at c entries n valid below in
    record {
      walls = λ k d inside signed.
          ap (λ f. f.kind) (sym (front-kind entries n _ (here.uses.present k d inside))) ∙ here.uses.walls k d inside signed;
      reach = λ is k d inside signed. reach-not-wall _ ((here.reach is).uses k d inside) (here.uses.walls k d inside signed);
    }

-- ---- lists of walls

contains-tail : (x : ℕ) (xs : List ℕ) (n : ℕ) → Contains xs n → Contains (x ∷ xs) n
contains-tail x xs n (k, inside, at) = (suc k, omega arith, at)

contains-cases : (x : ℕ) (xs : List ℕ) (n : ℕ) → Contains (x ∷ xs) n → (x ≡ n) ⊎ Contains xs n
contains-cases x xs n (zero, inside, at) = inl at
contains-cases x xs n (suc k, inside, at) = inr (k, omega arith, at)

with-kept : (kind : Kind) (m : ℕ) (walls : List ℕ) (n : ℕ) → Contains walls n → Contains (walls_with kind m walls) n
with-kept Reach m walls n there = there
with-kept Wall m walls n there = contains-tail m walls n there

with-new : (kind : Kind) (m : ℕ) (walls : List ℕ) → kind ≡ Wall → Contains (walls_with kind m walls) m
with-new Reach m walls is = absurd (reach-not-wall Reach refl is)
with-new Wall m walls is = (0, omega arith, refl)

among-kept : (entries : List Entry) (walls : List ℕ) (uses : List Use) (n : ℕ) → Contains walls n → Contains (walls_among walls (used_entries entries uses)) n
among-kept entries walls [] n there = there
among-kept entries walls (u ∷ uses) n there =
    among-kept entries (walls_with (entry_at entries u.entry).kind u.entry walls) uses n (with-kept (entry_at entries u.entry).kind u.entry walls n there)

pub among-used : (entries : List Entry) (walls : List ℕ) (uses : List Use) (n : ℕ) → Uses uses n → (entry_at entries n).kind ≡ Wall
    → Contains (walls_among walls (used_entries entries uses)) n
among-used entries walls [] n (k, v, inside, at, same) is = absurd (omega arith)
among-used entries walls (u ∷ uses) n (zero, v, inside, at, same) is =
    let e : u.entry ≡ n = ap (λ x. x.entry) at ∙ same in
    let wall : (entry_at entries u.entry).kind ≡ Wall = ap (λ m. (entry_at entries m).kind) e ∙ is in
    let new : Contains (walls_with (entry_at entries u.entry).kind u.entry walls) u.entry = with-new (entry_at entries u.entry).kind u.entry walls wall in
    subst (λ m. Contains (walls_among walls (used_entries entries (u ∷ uses))) m) e
    (among-kept entries (walls_with (entry_at entries u.entry).kind u.entry walls) uses u.entry new)
among-used entries walls (u ∷ uses) n (suc k, v, inside, at, same) is =
    among-used entries (walls_with (entry_at entries u.entry).kind u.entry walls) uses n (k, v, omega arith, at, same) is

-- ---- used entries

abbrev pub Ascend : List Use → Type 0
Ascend uses = AllPairs (λ u v. u.entry < v.entry) uses

-- a named entry is a known wall or among the uses to come
abbrev pub IsNamedWell : List Entry → List ℕ → List Use → Use → Type 0
IsNamedWell entries walls uses u =
    All (λ v. IsSigned v → (v.entry < u.entry) × (Contains walls v.entry ⊎ Uses uses v.entry)) (entry_at entries u.entry).uses

pub readable : (c : Circuit) (entries : List Entry) (seen walls : List ℕ) (uses : List Use) → IsGoodList c entries
    → Ascend uses → All (λ u. u.entry < length entries) uses
    → ((n : ℕ) → Contains seen n → All (λ u. n < u.entry) uses)
    → All (IsNamedWell entries walls uses) uses
    → AreReadable (length c.latches) seen walls (used_entries entries uses)
readable c entries seen walls [] good ascend present older named = tt
readable c entries seen walls (u ∷ uses) good ascend present older named =
    let e : Entry = entry_at entries u.entry in
    let there : u.entry < length entries = All-head (λ x. x.entry < length entries) u uses present in
    let names : NamesWalls entries u.entry = names_walls c entries u.entry good.valid there in
    let mine : IsNamedWell entries walls (u ∷ uses) u = All-head (IsNamedWell entries walls (u ∷ uses)) u uses named in
    let known : All (λ v. IsSigned v → Contains walls v.entry) e.uses =
    λ k d inside signed.
    let h = mine k d inside signed in
    elim h.1 [
      | inl is ↦ is
      | inr later ↦ (let low = Uses-least u uses _ ascend later in absurd (omega (arith, h.0)))
    ]
    in
    let more : List ℕ = walls_with e.kind u.entry walls in
    let later_older = (λ (n : ℕ) (is : Contains (u.entry ∷ seen) n).
    let goal : All (λ x. n < x.entry) uses =
    elim (contains-cases u.entry seen n is) [
      | inl same ↦ (λ k d inside. (let r = ascend 0 (suc k) d (omega arith) (omega arith) in omega arith))
      | inr old ↦ All-tail (λ x. n < x.entry) u uses (older n old)
    ] in goal) in
    let later_named : All (IsNamedWell entries more uses) uses =
    λ k d inside i f within signed.
    let w : Use = get_or uses k d in
    let h = named (suc k) d (omega arith) i f within signed in
    let walls_of = names_walls c entries w.entry good.valid (present (suc k) d (omega arith)) in
    let n : ℕ = (get_or (entry_at entries w.entry).uses i f).entry in
    let place : Contains more n ⊎ Uses uses n =
    elim h.1 [
      | inl is ↦ inl (with-kept e.kind u.entry walls n is)
      | inr used ↦
          elim (uses-cases u uses n used) [
            | inl same ↦
                let wall : e.kind ≡ Wall = ap (λ m. (entry_at entries m).kind) same ∙ walls_of.walls i f within signed in
                inl (subst (Contains more) same (with-new e.kind u.entry walls wall))
            | inr later ↦ inr later
          ]
    ]
    in
    (h.0, place)
    in
    let first : IsReadable (length c.latches) seen walls (record { number = u.entry; entry = e }) = record {
      fresh = λ is. (let r = All-head (λ x. u.entry < x.entry) u uses (older u.entry is) in omega arith);
      over = good.over u.entry (record { kind = Reach; clauses = []; uses = [] }) there;
      named = named_by e.kind walls e.uses names.reach known;
    }
    in (
      first,
      readable c entries (u.entry ∷ seen) more uses good
          (λ i j d lt inside. ascend (suc i) (suc j) d (omega arith) (omega arith))
          (All-tail (λ x. x.entry < length entries) u uses present) later_older later_named,
    )

pub uses_readable : (c : Circuit) (entries : List Entry) (uses : List Use) → IsGoodList c entries → AreClosed entries uses
    → AreReadable (length c.latches) [] [] (used_entries entries uses)
uses_readable c entries uses good closed =
    readable c entries [] [] uses good closed.ascend closed.present
    (λ n is. (let none : is.0 < 0 = is.1 in absurd (omega arith)))
    (λ k d inside i f within signed. (let h = closed.closed k d inside i f within signed in (h.0, inr h.1)))

uses-itself : (uses : List Use) (k : ℕ) (d : Use) → k < length uses → Uses uses (get_or uses k d).entry
uses-itself [] k d below = absurd (omega arith)
uses-itself (u ∷ uses) zero d below = (zero, u, omega arith, refl, refl)
uses-itself (u ∷ uses) (suc k) d below =
    let rest = uses-itself uses k d (omega arith) in
    (suc rest.0, rest.1, (let r = rest.2 in omega arith), rest.3, rest.4)

pub own_named : (entries : List Entry) (uses : List Use) → AreClosed entries uses → NameKnown (walls_among [] (used_entries entries uses)) uses
own_named entries uses closed k d inside signed =
    among-used entries [] uses (get_or uses k d).entry (uses-itself uses k d inside) (closed.walls k d inside signed)
