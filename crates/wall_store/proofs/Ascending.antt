-- The turns in which a worker found its entries of a list.
use Rattle.std.proofs.Common.{◌≡◌, ℕ, suc, ◌+◌, ◌<◌, ◌≤◌, true, false, List, [], ◌∷◌, ◌++◌, map, get_or, refl, sym, ap, ◌∙◌, subst, arith}
use Rattle.std.specs.List.{All, AllPairs}
use Rattle.std.proofs.lemmas.List.{append-nil}
use Rattle.std.proofs.lemmas.List.Elements.{All-weaker, All-append, All-cons, All-nil, filter-append}
use Rattle.std.proofs.lemmas.List.Quantifiers.{all_pairs_push}
use Rattle.entry.specs.declared.origins.Origin.TheVariants.{Given}
use Rattle.entry.specs.CheckedEntries.{CheckedEntry}
use Rattle.wall_store.specs.Boards.{is_by, found_by, turn_of, Ascend}

-- ---- no entry of the worker

pub none_found : (k : ℕ) (l : List CheckedEntry) → All (λ e. e.origin ≡ Given) l → found_by k l ≡ []
none_found k [] a = refl
none_found k (e ∷ l) a =
    let mine : is_by k e.origin ≡ false = ap (is_by k) (a 0 e (omega arith)) in
    rw mine (none_found k l (λ i d below. a (suc i) d (omega arith)))

pub ascend_empty : (k : ℕ) (l : List CheckedEntry) (t : ℕ) → found_by k l ≡ [] → Ascend k l t
ascend_empty k l t none =
    subst (λ (es : List CheckedEntry). AllPairs (λ i j. i < j) (map (λ e. turn_of e.origin) es) × All (λ e. turn_of e.origin < t) es) (sym none)
    ((λ i j d less below. absurd (omega arith)), All-nil (λ e. turn_of e.origin < t))

-- ---- the same entries of the worker, and later turns

pub ascend_later : (k : ℕ) (l m : List CheckedEntry) (t u : ℕ) → found_by k m ≡ found_by k l → t ≤ u → Ascend k l t → Ascend k m u
ascend_later k l m t u same later a =
    subst (λ (es : List CheckedEntry). AllPairs (λ i j. i < j) (map (λ e. turn_of e.origin) es) × All (λ e. turn_of e.origin < u) es) (sym same)
    (a.0, All-weaker (λ (e : CheckedEntry). turn_of e.origin < t) (λ (e : CheckedEntry). turn_of e.origin < u) (λ e h. omega (arith, h, later)) (found_by k l) a.1)

-- ---- one more entry of the worker

all_map : (l : List CheckedEntry) (t : ℕ) → All (λ e. turn_of e.origin < t) l → All (λ n. n < t) (map (λ e. turn_of e.origin) l)
all_map [] t a = All-nil (λ n. n < t)
all_map (e ∷ l) t a =
    All-cons (λ n. n < t) (turn_of e.origin) (map (λ z. turn_of z.origin) l) (a 0 e (omega arith)) (all_map l t (λ k d below. a (suc k) d (omega arith)))

map_push : (l : List CheckedEntry) (e : CheckedEntry) → map (λ z. turn_of z.origin) (l ++ e ∷ []) ≡ map (λ z. turn_of z.origin) l ++ turn_of e.origin ∷ []
map_push [] e = refl
map_push (x ∷ l) e = ap (λ (ns : List ℕ). turn_of x.origin ∷ ns) (map_push l e)

pub ascend_push : (k : ℕ) (l m : List CheckedEntry) (e : CheckedEntry) (t : ℕ) → found_by k m ≡ found_by k l ++ e ∷ [] → turn_of e.origin ≡ t
    → Ascend k l t → Ascend k m (t + 1)
ascend_push k l m e t same at a =
    subst (λ (es : List CheckedEntry). AllPairs (λ i j. i < j) (map (λ z. turn_of z.origin) es) × All (λ z. turn_of z.origin < t + 1) es) (sym same) (
      subst (AllPairs (λ i j. i < j)) (sym (map_push (found_by k l) e))
          (all_pairs_push (λ i j. i < j) (map (λ z. turn_of z.origin) (found_by k l)) (turn_of e.origin) a.0
          (λ i d below. subst (λ (n : ℕ). get_or (map (λ z. turn_of z.origin) (found_by k l)) i d < n) (sym at) (all_map (found_by k l) t a.1 i d below))),
      All-append (λ z. turn_of z.origin < t + 1) (found_by k l) (e ∷ [])
          (All-weaker (λ (z : CheckedEntry). turn_of z.origin < t) (λ (z : CheckedEntry). turn_of z.origin < t + 1) (λ z below. omega arith) (found_by k l) a.1)
          (All-cons (λ z. turn_of z.origin < t + 1) e [] (omega arith) (All-nil (λ z. turn_of z.origin < t + 1))),
    )

pub found_own : (k : ℕ) (l : List CheckedEntry) (e : CheckedEntry) → is_by k e.origin ≡ true → found_by k (l ++ e ∷ []) ≡ found_by k l ++ e ∷ []
found_own k l e mine = filter-append (λ (z : CheckedEntry). is_by k z.origin) l (e ∷ []) ∙ ap (λ (es : List CheckedEntry). found_by k l ++ es) (rw mine refl)

-- ---- more entries of another worker

none_by : (k : ℕ) (l : List CheckedEntry) → All (λ e. is_by k e.origin ≡ false) l → found_by k l ≡ []
none_by k [] a = refl
none_by k (e ∷ l) a =
    let other : is_by k e.origin ≡ false = a 0 e (omega arith) in
    rw other (none_by k l (λ i d below. a (suc i) d (omega arith)))

pub found_others : (k : ℕ) (l more : List CheckedEntry) → All (λ e. is_by k e.origin ≡ false) more → found_by k (l ++ more) ≡ found_by k l
found_others k l more a =
    filter-append (λ (z : CheckedEntry). is_by k z.origin) l more ∙ ap (λ (es : List CheckedEntry). found_by k l ++ es) (none_by k more a) ∙ append-nil (found_by k l)
