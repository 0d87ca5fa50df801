-- Steps that stay in an arena are those that the entries allow.
use Rattle.std.proofs.Common.{◌≡◌, ℕ, Bool, true, false, ◌&&◌, ◌||◌, not, cond, List, [], ◌∷◌, refl, ap, ◌∙◌}
use Rattle.std.specs.List.{list_all, filter}
use Rattle.std.proofs.lemmas.Bool.{false≢true, and_parts}
use Rattle.proof_semantics.specs.Clauses.{bool_eq}
use Rattle.fair_semantics.specs.declared.entries.Kind.{Kind}
use Rattle.fair_semantics.specs.declared.entries.Kind.TheVariants.{Reach, Wall}
use Rattle.fair_semantics.specs.Entries.{Numbered, numbered, set_at}
use Rattle.fair_semantics.specs.Allowing.{allows_by, all_allow}
use Rattle.ic3_semantics.specs.declared.questions.Start.{Start}
use Rattle.ic3_semantics.specs.declared.questions.Start.TheVariants.{Initial, State}
use Rattle.ic3_semantics.specs.Arenas.{restricts, keeps_to}
use Rattle.ic3_semantics.specs.Laws.{StepsKeepToArena}

in_set : (s t rest : Bool) → s ≡ true → ((s && (t && true)) && rest) ≡ (t && rest)
in_set true true rest e = refl
in_set true false rest e = refl
in_set false t rest e = absurd (false≢true e)

same_side : (from s t : Bool) → bool_eq from s ≡ true → ((s && (t && true)) || (not s && (not t && true))) ≡ bool_eq from t
same_side true true true e = refl
same_side true true false e = refl
same_side true false t e = absurd (false≢true e)
same_side false true t e = absurd (false≢true e)
same_side false false true e = refl
same_side false false false e = refl

-- one entry, in front of others
one_allows : (start : Start) (kind : Kind) (set : List Bool → Bool) (s t : List Bool) (rest : Bool)
    → keeps_to start kind set s ≡ true
    → cond (restricts start kind) (allows_by kind set (s ∷ t ∷ []) && rest) rest ≡ (keeps_to start kind set t && rest)
one_allows Initial Reach set s t rest here = in_set (set s) (set t) rest here
one_allows Initial Wall set s t rest here = refl
one_allows (State from) Reach set s t rest here = in_set (set s) (set t) rest here
one_allows (State from) Wall set s t rest here = ap (λ b. b && rest) (same_side (set from) (set s) (set t) here)

cond_under : (test : List Numbered → Bool) (b : Bool) (es fs : List Numbered) → test (cond b es fs) ≡ cond b (test es) (test fs)
cond_under test true es fs = refl
cond_under test false es fs = refl

all_keep : (sets : ℕ → List Bool → Bool) (start : Start) (s t : List Bool) (es : List Numbered)
    → list_all (λ e. keeps_to start e.entry.kind (sets e.number) s) es ≡ true
    → all_allow sets (filter (λ e. restricts start e.entry.kind) es) (s ∷ t ∷ [])
    ≡ list_all (λ e. keeps_to start e.entry.kind (sets e.number) t) es
all_keep sets start s t [] h = refl
all_keep sets start s t (e ∷ es) h =
    let parts = and_parts (keeps_to start e.entry.kind (sets e.number) s) (list_all (λ f. keeps_to start f.entry.kind (sets f.number) s) es) h in
    let others = filter (λ f. restricts start f.entry.kind) es in
    cond_under (λ fs. all_allow sets fs (s ∷ t ∷ [])) (restricts start e.entry.kind) (e ∷ others) others
    ∙ one_allows start e.entry.kind (sets e.number) s t (all_allow sets others (s ∷ t ∷ [])) parts.0
    ∙ ap (λ b. keeps_to start e.entry.kind (sets e.number) t && b) (all_keep sets start s t es parts.1)

pub steps_keep : StepsKeepToArena
steps_keep view start s t h = all_keep (set_at view) start s t (numbered view) h
