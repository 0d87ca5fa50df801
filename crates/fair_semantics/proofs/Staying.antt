-- Entries in other lists: an entry stays valid where the entries that it uses say the same, and the front of a list
-- allows what the list allows.
use Rattle.std.proofs.Common.{◌≡◌, ℕ, ◌<◌, Bool, true, false, ◌&&◌, List, [], ◌∷◌, ◌++◌, length, get_or, refl, sym, ap, ap₂, ◌∙◌, subst, arith, length-append}
use Rattle.std.specs.Prelude.{◌==◌, if◌then◌else◌}
use Rattle.std.proofs.Math.Path.{fun_ext}
use Rattle.std.specs.List.{All, list_all}
use Rattle.std.proofs.lemmas.List.Elements.{All-head, All-tail, All-cons, All-nil}
use Rattle.aig_semantics.specs.Circuits.{Circuit}
use Rattle.fair_semantics.specs.declared.entries.Side.{Side}
use Rattle.fair_semantics.specs.declared.entries.Side.TheVariants as sides
use Rattle.fair_semantics.specs.declared.entries.Use.{Use}
use Rattle.fair_semantics.specs.States.{meets_clauses}
use Rattle.fair_semantics.specs.Entries.{Entry, Numbered, numbered, used_entries, entry_at, lies_on, set_over, with_set, sets_after, sets_of, IsSigned, Uses, AreClosed}
use Rattle.fair_semantics.specs.Allowing.{allows_by, all_allow, allow}
use Rattle.fair_semantics.specs.Validity.{set_behind, IsValid}
use Rattle.fair_semantics.specs.Laws.{named_use, named_uses, SayTheSame}
use Rattle.fair_semantics.proofs.Sets.{sets_of-earlier, entry_at-earlier}
use Rattle.fair_semantics.proofs.Alone.{numbered-at, numbered-all, uses_stand_alone}

-- ---- entries that say the same have the same sets

-- the side that a use names is all that it asks of a state
side-alone : (sets : ℕ → List Bool → Bool) (s : List Bool) (u : Use) (side : Side) (rest : List Use) → u.side ≡ side
    → list_all (λ v. lies_on v.side (sets v.entry s)) (named_use side u ++ rest)
    ≡ (lies_on u.side (sets u.entry s) && list_all (λ v. lies_on v.side (sets v.entry s)) rest)
side-alone sets s u sides.Any rest same =
    ap (λ side. lies_on side (sets u.entry s) && list_all (λ v. lies_on v.side (sets v.entry s)) rest) (sym same)
side-alone sets s u sides.In rest same = refl
side-alone sets s u sides.Out rest same = refl

sides-alone : (sets : ℕ → List Bool → Bool) (s : List Bool) (uses : List Use)
    → list_all (λ u. lies_on u.side (sets u.entry s)) (named_uses uses) ≡ list_all (λ u. lies_on u.side (sets u.entry s)) uses
sides-alone sets s [] = refl
sides-alone sets s (u ∷ uses) =
    side-alone sets s u u.side (named_uses uses) refl ∙ ap (λ b. lies_on u.side (sets u.entry s) && b) (sides-alone sets s uses)

set_over-says : (sets : ℕ → List Bool → Bool) (e f : Entry) → SayTheSame e f → set_over sets e ≡ set_over sets f
set_over-says sets e f same = fun_ext (λ s.
    let sides : list_all (λ u. lies_on u.side (sets u.entry s)) e.uses ≡ list_all (λ u. lies_on u.side (sets u.entry s)) f.uses =
    sym (sides-alone sets s e.uses) ∙ ap (λ us. list_all (λ u. lies_on u.side (sets u.entry s)) us) same.named ∙ sides-alone sets s f.uses
    in
    ap₂ (λ cs b. meets_clauses cs s && b) same.clauses sides)

abbrev pub SayThere : List Entry → List Entry → List Use → Type 0
SayThere other before uses = All (λ u. SayTheSame (entry_at other u.entry) (entry_at before u.entry)) uses

pub sets-says : (sets : ℕ → List Bool → Bool) (before other : List Entry) (uses : List Use) → SayThere other before uses
    → sets_after sets (used_entries other uses) ≡ sets_after sets (used_entries before uses)
sets-says sets before other [] h = refl
sets-says sets before other (u ∷ uses) h =
    let P : Use → Type 0 = λ v. SayTheSame (entry_at other v.entry) (entry_at before v.entry) in
    let here : Numbered = record { number = u.entry; entry = entry_at before u.entry } in
    let there : Numbered = record { number = u.entry; entry = entry_at other u.entry } in
    let set : set_over sets there.entry ≡ set_over sets here.entry = set_over-says sets there.entry here.entry (All-head P u uses h) in
    let first : with_set sets there ≡ with_set sets here = λ i n s. if n == u.entry then set i s else sets n s in
    ap (λ known. sets_after known (used_entries other uses)) first ∙ sets-says (with_set sets here) before other uses (All-tail P u uses h)

allow-says : (sets : ℕ → List Bool → Bool) (before other : List Entry) (uses : List Use) (states : List (List Bool)) → SayThere other before uses
    → all_allow sets (used_entries other uses) states ≡ all_allow sets (used_entries before uses) states
allow-says sets before other [] states h = refl
allow-says sets before other (u ∷ uses) states h =
    let P : Use → Type 0 = λ v. SayTheSame (entry_at other v.entry) (entry_at before v.entry) in
    let first : SayTheSame (entry_at other u.entry) (entry_at before u.entry) = All-head P u uses h in
    ap₂ (λ kind b. allows_by kind (sets u.entry) states && b) first.kind (allow-says sets before other uses states (All-tail P u uses h))

-- ---- closed uses

signed-use : (P : Use → Type 0) (u : Use) (side : Side) (rest : List Use) → u.side ≡ side → (IsSigned u → P u) → All P rest → All P (named_use side u ++ rest)
signed-use P u sides.Any rest same h all = all
signed-use P u sides.In rest same h all = All-cons P u rest (h (λ any. (let clash : sides.In ≡ sides.Any = sym same ∙ any in cc))) all
signed-use P u sides.Out rest same h all = All-cons P u rest (h (λ any. (let clash : sides.Out ≡ sides.Any = sym same ∙ any in cc))) all

signed-named : (P : Use → Type 0) (uses : List Use) → All (λ u. IsSigned u → P u) uses → All P (named_uses uses)
signed-named P [] h = All-nil P
signed-named P (u ∷ uses) h =
    let Q : Use → Type 0 = λ v. IsSigned v → P v in
    signed-use P u u.side (named_uses uses) refl (All-head Q u uses h) (signed-named P uses (All-tail Q u uses h))

use-signed : (P : Use → Type 0) (u : Use) (side : Side) (rest : List Use) → u.side ≡ side → All P (named_use side u ++ rest) → (IsSigned u → P u) × All P rest
use-signed P u sides.Any rest same h = (λ signed. absurd (signed same), h)
use-signed P u sides.In rest same h = (λ signed. All-head P u rest h, All-tail P u rest h)
use-signed P u sides.Out rest same h = (λ signed. All-head P u rest h, All-tail P u rest h)

named-signed : (P : Use → Type 0) (uses : List Use) → All P (named_uses uses) → All (λ u. IsSigned u → P u) uses
named-signed P [] h = All-nil (λ u. IsSigned u → P u)
named-signed P (u ∷ uses) h =
    let parts = use-signed P u u.side (named_uses uses) refl h in
    All-cons (λ v. IsSigned v → P v) u uses parts.0 (named-signed P uses parts.1)

closed-says : (before other : List Entry) (uses : List Use) → AreClosed before uses
    → All (λ u. u.entry < length other) uses → SayThere other before uses → AreClosed other uses
closed-says before other uses h present same =
    record {
      ascend = h.ascend;
      present = present;
      walls = λ k d inside signed. (same k d inside).kind ∙ h.walls k d inside signed;
      closed = λ k d inside.
          let number : ℕ = (get_or uses k d).entry in
          let Named : Use → Type 0 = λ named. (named.entry < number) × Uses uses named.entry in
          let here : All Named (named_uses (entry_at before number).uses) = signed-named Named (entry_at before number).uses (h.closed k d inside) in
          named-signed Named (entry_at other number).uses (subst (All Named) (sym (same k d inside).named) here);
    }

-- ---- the laws

pub stays_valid : (c : Circuit) (before other : List Entry) (e : Entry) → IsValid c before e
    → All (λ u. (u.entry < length other) × SayTheSame (entry_at other u.entry) (entry_at before u.entry)) e.uses → IsValid c other e
stays_valid c before other e valid there =
    let present : All (λ u. u.entry < length other) e.uses = λ k d inside. (there k d inside).0 in
    let same : SayThere other before e.uses = λ k d inside. (there k d inside).1 in
    let uses : AreClosed other e.uses = closed-says before other e.uses valid.uses present same in
    let here = uses_stand_alone before e.uses valid.uses in
    let elsewhere = uses_stand_alone other e.uses uses in
    let sets : sets_of (used_entries other e.uses) ≡ sets_of (used_entries before e.uses) = sets-says (λ n s. false) before other e.uses same in
    let set : (s : List Bool) → set_behind other e s ≡ set_behind before e s =
    λ s. sym (elsewhere.entry e refl s) ∙ ap (λ known. set_over known e s) sets ∙ here.entry e refl s
    in
    let allowed : (states : List (List Bool)) →
    all_allow (sets_of (numbered other)) (used_entries other e.uses) states ≡ all_allow (sets_of (numbered before)) (used_entries before e.uses) states =
    λ states.
    sym (elsewhere.allowed states) ∙ allow-says (sets_of (used_entries other e.uses)) before other e.uses states same
    ∙ ap (λ known. all_allow known (used_entries before e.uses) states) sets ∙ here.allowed states
    in
    record {
      uses = uses;
      closed = λ s t step able inside. set t ∙ valid.closed s t step (sym (allowed (s ∷ t ∷ [])) ∙ able) (sym (set s) ∙ inside);
      reach = λ is_reach.
          let base = valid.reach is_reach in
          record {
            initial = λ s initial. set s ∙ base.initial s initial;
            uses = λ k d inside. (same k d inside).kind ∙ base.uses k d inside;
          };
    }

pub front_allows : (before after : List Entry) (states : List (List Bool))
    → allow (numbered (before ++ after)) states ≡ true → allow (numbered before) states ≡ true
front_allows before after states h =
    let entries : List Entry = before ++ after in
    let whole : Numbered → Bool = λ e. allows_by e.entry.kind (sets_of (numbered entries) e.number) states in
    let front : Numbered → Bool = λ e. allows_by e.entry.kind (sets_of (numbered before) e.number) states in
    numbered-all front 0 before (λ k i below place.
    let here : i < length before = omega arith in
    let inside : k < length entries = omega (arith, length-append before after) in
    let able : allows_by (entry_at entries k).kind (sets_of (numbered entries) i) states ≡ true = numbered-at whole 0 entries k i inside place h in
    let set : sets_of (numbered entries) i ≡ sets_of (numbered before) i = fun_ext (λ s. sets_of-earlier before after i s here) in
    let kind = ap (λ e. e.kind) (entry_at-earlier before after k below) in
    sym (ap₂ (λ a b. allows_by a b states) kind set) ∙ able)
