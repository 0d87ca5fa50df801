-- Lists of valid entries: what holds of each entry by what stands before it.
use Rattle.std.proofs.Common.{◌≡◌, ℕ, ◌<◌, Bool, List, [], ◌∷◌, ◌++◌, length, sym, ap, subst, inl, inr, arith, append_assoc, append-nil, length-append}
use Rattle.std.proofs.Math.Path.{fun_ext, subst₂}
use Rattle.std.proofs.lemmas.Bool.{cases_lt}
use Rattle.std.specs.List.{All}
use Rattle.std.proofs.lemmas.List.{length-take-le, get_or-take}
use Rattle.std.proofs.Common.{zero, suc, ◌∙◌, take, get_or}
use Rattle.fair_semantics.specs.declared.entries.Kind.TheVariants.{Reach, Wall}
use Rattle.fair_semantics.specs.declared.entries.Use.{Use}
use Rattle.fair_semantics.specs.Entries.{IsSigned}
use Rattle.aig_semantics.specs.Circuits.{Circuit}
use Rattle.fair_semantics.specs.declared.entries.Kind.{Kind}
use Rattle.fair_semantics.specs.Entries.{Entry, numbered, entry_at, sets_of}
use Rattle.fair_semantics.specs.Validity.{set_behind, IsValid, AreValidBehind, AreValid}
use Rattle.fair_semantics.proofs.Sets.{sets_of-at, sets_of-earlier, entry_at-place, entry_at-earlier}

-- Q holds of each entry's kind and set
abbrev pub Each : (Kind → (List Bool → Bool) → Type 0) → List Entry → Type 0
Each Q entries = (n : ℕ) → n < length entries → Q (entry_at entries n).kind (sets_of (numbered entries) n)

each-push : (Q : Kind → (List Bool → Bool) → Type 0) (before : List Entry) (e : Entry)
    → Each Q before → Q e.kind (set_behind before e) → Each Q (before ++ e ∷ [])
each-push Q before e h last n below =
    let entries : List Entry = before ++ e ∷ [] in
    elim (cases_lt n (length before)) [
      | inl earlier ↦
          let kind : (entry_at before n).kind ≡ (entry_at entries n).kind = ap (λ f. f.kind) (sym (entry_at-earlier before (e ∷ []) n earlier)) in
          let set : sets_of (numbered before) n ≡ sets_of (numbered entries) n = fun_ext (λ s. sym (sets_of-earlier before (e ∷ []) n s earlier)) in
          subst₂ Q kind set (h n earlier)
      | inr past ↦
          let place : length before ≡ n = omega (arith, length-append before (e ∷ [])) in
          let kind : e.kind ≡ (entry_at entries (length before)).kind = ap (λ f. f.kind) (sym (entry_at-place before e [])) in
          let set : set_behind before e ≡ sets_of (numbered entries) (length before) = fun_ext (λ s. sym (sets_of-at before e [] s)) in
          subst (λ k. Q (entry_at entries k).kind (sets_of (numbered entries) k)) place (subst₂ Q kind set last)
    ]

-- what holds of a valid entry where it holds of those before it holds of each
pub each-valid : (c : Circuit) (Q : Kind → (List Bool → Bool) → Type 0)
    → ((before : List Entry) (e : Entry) → IsValid c before e → Each Q before → Q e.kind (set_behind before e))
    → (before after : List Entry) → Each Q before → AreValidBehind c before after → Each Q (before ++ after)
each-valid c Q step before [] h valid = subst (Each Q) (sym (append-nil before)) h
each-valid c Q step before (e ∷ after) h valid =
    let more : Each Q (before ++ e ∷ []) = each-push Q before e h (step before e valid.0 h) in
    subst (Each Q) (append_assoc before (e ∷ []) after) (each-valid c Q step (before ++ e ∷ []) after more valid.1)

-- ---- one more entry

pub valid-push : (c : Circuit) (before after : List Entry) (e : Entry)
    → AreValidBehind c before after → IsValid c (before ++ after) e → AreValidBehind c before (after ++ e ∷ [])
valid-push c before [] e valid last = (subst (λ es. IsValid c es e) (append-nil before) last, tt)
valid-push c before (f ∷ after) e valid last =
    (valid.0, valid-push c (before ++ f ∷ []) after e valid.1 (subst (λ es. IsValid c es e) (sym (append_assoc before (f ∷ []) after)) last))

-- ---- the entry at a place

valid-split : (c : Circuit) (before after : List Entry) (n : ℕ) → AreValidBehind c before after → n < length after
    → IsValid c (before ++ take n after) (entry_at after n)
valid-split c before [] n valid below = absurd (omega arith)
valid-split c before (e ∷ after) zero valid below = subst (λ es. IsValid c es e) (sym (append-nil before)) valid.0
valid-split c before (e ∷ after) (suc n) valid below =
    subst (λ es. IsValid c es (entry_at after n)) (append_assoc before (e ∷ []) (take n after))
    (valid-split c (before ++ e ∷ []) after n valid.1 (omega arith))

-- each entry of a valid list is valid behind those before it
pub valid-at : (c : Circuit) (entries : List Entry) (n : ℕ) → AreValid c entries → n < length entries → IsValid c (take n entries) (entry_at entries n)
valid-at c entries n valid below = valid-split c [] entries n valid below

-- and the entries of which it names sides are walls before it
pub valid-names : (c : Circuit) (entries : List Entry) (n : ℕ) → AreValid c entries → n < length entries
    → All (λ u. IsSigned u → (u.entry < n) × ((entry_at entries u.entry).kind ≡ Wall)) (entry_at entries n).uses
valid-names c entries n valid below k d inside signed =
    let is = valid-at c entries n valid below in
    let u : Use = get_or (entry_at entries n).uses k d in
    let size : length (take n entries) ≡ n = length-take-le n entries (omega arith) in
    let lower : u.entry < n = subst (λ m. u.entry < m) size (is.uses.present k d inside) in
    let same : entry_at (take n entries) u.entry ≡ entry_at entries u.entry = get_or-take n entries u.entry _ lower in
    (lower, ap (λ e. e.kind) (sym same) ∙ is.uses.walls k d inside signed)

-- so a reach entry names no side
pub reach-unnamed : (c : Circuit) (entries : List Entry) (n : ℕ) → AreValid c entries → n < length entries → (entry_at entries n).kind ≡ Reach
    → All (λ u. IsSigned u → ⊥) (entry_at entries n).uses
reach-unnamed c entries n valid below kind k d inside signed =
    let is = valid-at c entries n valid below in
    let clash : Reach ≡ Wall = sym ((is.reach kind).uses k d inside) ∙ is.uses.walls k d inside signed in
    absurd (cc)
