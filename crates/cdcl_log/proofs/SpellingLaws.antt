-- Laws of the text of a proof line.
use Rattle.std.proofs.Common.{◌≡◌, ℕ, ◌+◌, ◌<◌, List, [], ◌∷◌, ◌++◌, length, get_or, take, map, refl, ap, sym, ◌∙◌, append_assoc}
use Rattle.std.specs.Prelude.{decimal}
use Rattle.std.specs.List.{join_with_byte}
use Rattle.std.proofs.lemmas.List.{take_more, map-append}
use Rattle.proof_semantics.specs.Lines.{signed_text, text_of}
use Rattle.proof_semantics.specs.declared.literals.Lit.{Lit}
use Rattle.cdcl_log.specs.Writing.{spaced_fields, hint_by, line_by}

pub spaced_append : (xs ys : List (List ℕ)) → spaced_fields (xs ++ ys) ≡ spaced_fields xs ++ spaced_fields ys
spaced_append [] ys = refl
spaced_append (x ∷ xs) ys = ap (λ zs. x ++ 32 ∷ zs) (spaced_append xs ys) ∙ sym (append_assoc x (32 ∷ spaced_fields xs) (spaced_fields ys))

join_spaced : (xs : List (List ℕ)) (last : List ℕ) → join_with_byte 32 (xs ++ last ∷ []) ≡ spaced_fields xs ++ last
join_spaced [] last = refl
join_spaced (x ∷ []) last = sym (append_assoc x (32 ∷ []) last)
join_spaced (x ∷ y ∷ xs) last = ap (λ zs. x ++ 32 ∷ zs) (join_spaced (y ∷ xs) last) ∙ sym (append_assoc x (32 ∷ spaced_fields (y ∷ xs)) last)

-- one more of the fields that a loop writes
pub field_more : {X : Type 0} (f : X → List ℕ) (before out : List ℕ) (xs : List X) (i : ℕ) (d : X) → i < length xs
    → out ≡ (before ++ spaced_fields (map f (take i xs))) ++ f (get_or xs i d) ++ 32 ∷ []
    → out ≡ before ++ spaced_fields (map f (take (i + 1) xs))
field_more f before out xs i d below e =
    e ∙ append_assoc (before ++ spaced_fields (map f (take i xs))) (f (get_or xs i d)) (32 ∷ []) ∙ append_assoc before (spaced_fields (map f (take i xs))) (f (get_or xs i d) ++ 32 ∷ [])
    ∙ ap (λ zs. before ++ zs)
    (sym (spaced_append (map f (take i xs)) (f (get_or xs i d) ∷ []))
    ∙ ap spaced_fields (sym (map-append f (take i xs) (get_or xs i d ∷ [])) ∙ ap (map f) (sym (take_more xs i d below))))

text_parts : (id : List ℕ) (xs ys : List (List ℕ)) → ((((((id ++ 32 ∷ []) ++ spaced_fields xs) ++ 48 ∷ []) ++ 32 ∷ []) ++ spaced_fields ys) ++ 48 ∷ [])
    ≡ join_with_byte 32 (id ∷ (xs ++ (48 ∷ []) ∷ (ys ++ (48 ∷ []) ∷ [])))
text_parts id xs ys =
    let fields = id ∷ (xs ++ (48 ∷ []) ∷ ys) in
    let whole : spaced_fields fields ≡ ((((id ++ 32 ∷ []) ++ spaced_fields xs) ++ 48 ∷ []) ++ 32 ∷ []) ++ spaced_fields ys =
    ap (λ zs. id ++ 32 ∷ zs) (spaced_append xs ((48 ∷ []) ∷ ys)) ∙ regroup id (spaced_fields xs) (spaced_fields ys) in
    ap (λ zs. zs ++ 48 ∷ []) (sym whole) ∙ sym (join_spaced fields (48 ∷ []))
    ∙ ap (λ zs. join_with_byte 32 (id ∷ zs)) (append_assoc xs ((48 ∷ []) ∷ ys) ((48 ∷ []) ∷ []))
  where
    regroup : (id a b : List ℕ) → id ++ 32 ∷ (a ++ 48 ∷ 32 ∷ b) ≡ ((((id ++ 32 ∷ []) ++ a) ++ 48 ∷ []) ++ 32 ∷ []) ++ b
    regroup id a b = sym (simp append_assoc)

-- What is written in turn is the text of the line.
pub text_written : (ids : ℕ → ℕ) (id : ℕ) (clause : List Lit) (hints a b c d e f g : List ℕ) → a ≡ decimal id → b ≡ a ++ 32 ∷ []
    → c ≡ b ++ spaced_fields (map signed_text clause) → d ≡ c ++ 48 ∷ [] → e ≡ d ++ 32 ∷ []
    → f ≡ e ++ spaced_fields (map signed_text (map (hint_by ids) hints)) → g ≡ f ++ 48 ∷ []
    → g ≡ text_of (line_by ids id clause hints)
text_written ids id clause hints a b c d e f g p q r s t u v =
    v ∙ ap (λ zs. zs ++ 48 ∷ []) (u ∙ ap (λ zs. zs ++ spaced_fields hs) (t ∙ ap (λ zs. zs ++ 32 ∷ []) (s ∙ ap (λ zs. zs ++ 48 ∷ []) (r ∙ ap (λ zs. zs ++ spaced_fields ls) (q ∙ ap (λ zs. zs ++ 32 ∷ []) p)))))
    ∙ text_parts (decimal id) ls hs
  where
    ls : List (List ℕ)
    ls = map signed_text clause

    hs : List (List ℕ)
    hs = map signed_text (map (hint_by ids) hints)

map_twice : {X Y Z : Type 0} (g : Y → Z) (f : X → Y) (xs : List X) → map g (map f xs) ≡ map (λ x. g (f x)) xs
map_twice g f [] = refl
map_twice g f (x ∷ xs) = ap (λ ys. g (f x) ∷ ys) (map_twice g f xs)

-- one more of the hints
pub hint_more : (ids : ℕ → ℕ) (before old out : List ℕ) (xs : List ℕ) (i d : ℕ) (a : Lit) → i < length xs
    → old ≡ before ++ spaced_fields (map signed_text (map (hint_by ids) (take i xs))) → a ≡ hint_by ids (get_or xs i d)
    → out ≡ old ++ signed_text a ++ 32 ∷ []
    → out ≡ before ++ spaced_fields (map signed_text (map (hint_by ids) (take (i + 1) xs)))
hint_more ids before old out xs i d a below so_far is e =
    field_more (λ n. signed_text (hint_by ids n)) before out xs i d below
    (e ∙ ap (λ b. old ++ signed_text b ++ 32 ∷ []) is
    ∙ ap (λ zs. zs ++ signed_text (hint_by ids (get_or xs i d)) ++ 32 ∷ []) (so_far ∙ ap (λ zs. before ++ spaced_fields zs) (map_twice signed_text (hint_by ids) (take i xs))))
    ∙ ap (λ zs. before ++ spaced_fields zs) (sym (map_twice signed_text (hint_by ids) (take (i + 1) xs)))
