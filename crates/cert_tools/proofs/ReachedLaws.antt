-- The numbers that are reached through nodes.
use Rattle.std.proofs.Common.{◌≡◌, ◌⊎◌, ℕ, zero, suc, ◌+◌, ◌-◌, ◌<◌, ◌≤◌, Bool, true, false, ◌||◌, List, [], ◌∷◌, ◌++◌, length, take, drop, get_or, take-append-drop, refl, sym, ap, ◌∙◌, subst, inl, inr, arith}
use Rattle.std.specs.Prelude.{◌==◌, ◌↔◌}
use Rattle.std.specs.List.{All, Contains}
use Rattle.std.proofs.lemmas.Bool.{eqb-true, eq-eqb, or_left, or_right}
use Rattle.std.proofs.lemmas.List.{drop_more}
use Rattle.std.proofs.lemmas.List.Elements.{All-contains}
use Rattle.cert_tools.specs.declared.reaching.Node.{Node}
use Rattle.cert_tools.specs.declared.reaching.Numbers.{Numbers}
use Rattle.cert_tools.specs.Kept.{LeadsThrough}
use Rattle.cert_tools.specs.Reaching.{is_in, HasMore, Links, LeadDown, IsReachedFrom, Follows, AreFollowed, IsMarked}
use Rattle.cert_tools.proofs.KeptLaws.{reaches_more}

-- ---- one more number

contains_none : (n : ℕ) → Contains [] n → ⊥
contains_none n (k, below, same) = omega (arith, below)

contains_push : (xs : List ℕ) (x n : ℕ) → Contains (xs ++ x ∷ []) n → Contains xs n ⊎ (n ≡ x)
contains_push [] x n (zero, below, same) = inr (sym same)
contains_push [] x n (suc k, below, same) = absurd (omega (arith, below))
contains_push (y ∷ xs) x n (zero, below, same) = inl (0, omega arith, same)
contains_push (y ∷ xs) x n (suc k, below, same) = elim (contains_push xs x n (k, omega (arith, below), same)) [
  | inl at ↦ inl (suc at.0, omega (arith, at.1), at.2)
  | inr is ↦ inr is
]

contains_front : (xs : List ℕ) (x n : ℕ) → Contains xs n → Contains (xs ++ x ∷ []) n
contains_front [] x n at = absurd (contains_none n at)
contains_front (y ∷ xs) x n (zero, below, same) = (0, omega arith, same)
contains_front (y ∷ xs) x n (suc k, below, same) = let at = contains_front xs x n (k, omega (arith, below), same) in (suc at.0, omega (arith, at.1), at.2)

contains_last : (xs : List ℕ) (x : ℕ) → Contains (xs ++ x ∷ []) x
contains_last [] x = (0, omega arith, refl)
contains_last (y ∷ xs) x = let at = contains_last xs x in (suc at.0, omega (arith, at.1), at.2)

or_cases : (a b : Bool) → (a || b) ≡ true → (a ≡ true) ⊎ (b ≡ true)
or_cases true b e = inl refl
or_cases false b e = inr e

pub none_more : (old : Numbers) → HasMore old [] old
none_more old n = (λ e. inr e, λ h. elim h [ inl at ↦ absurd (contains_none n at) | inr e ↦ e ])

pub one_more : (old mid new : Numbers) (xs : List ℕ) (x : ℕ) → HasMore old xs mid → ((n : ℕ) → is_in new n ≡ (n == x || is_in mid n)) → HasMore old (xs ++ x ∷ []) new
one_more old mid new xs x so_far one n = (there, back)
  where
    there : is_in new n ≡ true → Contains (xs ++ x ∷ []) n ⊎ (is_in old n ≡ true)
    there e = elim (or_cases (n == x) (is_in mid n) (sym (one n) ∙ e)) [
      | inl is ↦ inl (subst (λ m. Contains (xs ++ x ∷ []) m) (sym (eqb-true n x is)) (contains_last xs x))
      | inr was ↦ elim ((so_far n).0 was) [ inl at ↦ inl (contains_front xs x n at) | inr h ↦ inr h ]
    ]

    back : Contains (xs ++ x ∷ []) n ⊎ (is_in old n ≡ true) → is_in new n ≡ true
    back (inl at) = elim (contains_push xs x n at) [
      | inl was ↦ one n ∙ or_right (n == x) (is_in mid n) ((so_far n).1 (inl was))
      | inr is ↦ one n ∙ or_left (n == x) (is_in mid n) (eq-eqb n x is)
    ]
    back (inr was) = one n ∙ or_right (n == x) (is_in mid n) ((so_far n).1 (inr was))

-- ---- following

-- a node of the rest has a greater number than this
number_above : (least : ℕ) (rest : List Node) → LeadDown least rest → (k : ℕ) (d : Node) → k < length rest → least ≤ (get_or rest k d).number
number_above least [] down k d below = absurd (omega (arith, below))
number_above least (n ∷ rest) down zero d below = down.0
number_above least (n ∷ rest) down (suc k) d below =
    let h = number_above (n.number + 1) rest down.2 k d (omega (arith, below)) in let g = down.0 in omega (arith, h, g)

-- the rest stays followed where only numbers below its own are put
still_followed : (old new : Numbers) (least : ℕ) (rest : List Node) → LeadDown least rest → ((n : ℕ) → is_in old n ≡ true → is_in new n ≡ true)
    → ((n : ℕ) → least ≤ n → is_in new n ≡ true → is_in old n ≡ true) → AreFollowed old rest → AreFollowed new rest
still_followed old new least [] down more fewer h = tt
still_followed old new least (n ∷ rest) down more fewer h = (
  λ e w at. more w (h.0 (fewer n.number down.0 e) w at),
  still_followed old new (n.number + 1) rest down.2 more (λ m above e. fewer m (let g = down.0 in omega (arith, above, g)) e) h.1,
)

down_from : (least : ℕ) (front : List Node) (n : Node) (rest : List Node) → LeadDown least (front ++ n ∷ rest) → All (λ w. w < n.number) n.further × LeadDown (n.number + 1) rest
down_from least [] n rest down = (down.1, down.2)
down_from least (x ∷ front) n rest down = down_from (x.number + 1) front n rest down.2

-- a node of the list with what it leads to
link_at : (front : List Node) (n : Node) (rest : List Node) (w : ℕ) → Contains n.further w → Links (front ++ n ∷ rest) n.number w
link_at [] n rest w at = (0, n, omega arith, refl, (refl, at))
link_at (x ∷ front) n rest w at = let (k, y, below, same, h) = link_at front n rest w at in (suc k, y, omega (arith, below), same, h)

from_more : (nodes : List Node) (from : List ℕ) (v w : ℕ) → IsReachedFrom nodes from v → Links nodes v w → IsReachedFrom nodes from w
from_more nodes from v w (k, x, below, same, h) link = (k, x, below, same, reaches_more (Links nodes) x v w h link)

pub marked_next : (nodes : List Node) (from : List ℕ) (least : ℕ) (front : List Node) (n : Node) (rest : List Node) (old new : Numbers) → LeadDown least nodes → nodes ≡ front ++ n ∷ rest
    → IsMarked nodes from old rest → Follows old n new → IsMarked nodes from new (n ∷ rest)
marked_next nodes from least front n rest old new down split m (inl (there, more)) =
    let low = down_from least front n rest (subst (LeadDown least) split down) in
    record {
      begun = λ v at. (more v).1 (inr (m.begun v at));
      sound = λ v e. elim ((more v).0 e) [
        | inl at ↦ from_more nodes from n.number v (m.sound n.number there) (subst (λ ns. Links ns n.number v) (sym split) (link_at front n rest v at))
        | inr was ↦ m.sound v was
      ];
      followed = (
        λ e w at. (more w).1 (inl at),
        still_followed old new (n.number + 1) rest low.1 (λ v e. (more v).1 (inr e))
            (λ v above e. elim ((more v).0 e) [
              | inl at ↦ (let small = All-contains (λ w. w < n.number) n.further v low.0 at in absurd (omega (arith, small, above)))
              | inr was ↦ was
            ]) m.followed,
      );
    }
marked_next nodes from least front n rest old new down split m (inr (none, same)) =
    let low = down_from least front n rest (subst (LeadDown least) split down) in
    record {
      begun = λ v at. same v ∙ m.begun v at;
      sound = λ v e. m.sound v (sym (same v) ∙ e);
      followed = (
        λ e w at. absurd (none (sym (same n.number) ∙ e)),
        still_followed old new (n.number + 1) rest low.1 (λ v e. same v ∙ e) (λ v above e. sym (same v) ∙ e) m.followed,
      );
    }

-- ---- all of them

followed_at : (numbers : Numbers) (nodes : List Node) (v w : ℕ) → AreFollowed numbers nodes → Links nodes v w → is_in numbers v ≡ true → is_in numbers w ≡ true
followed_at numbers [] v w h (k, x, below, same, (number, at)) e = absurd (omega (arith, below))
followed_at numbers (n ∷ nodes) v w h (zero, x, below, same, (number, at)) e =
    h.0 (ap (λ (y : Node). is_in numbers y.number) same ∙ ap (is_in numbers) number ∙ e) w (subst (λ (y : Node). Contains y.further w) (sym same) at)
followed_at numbers (n ∷ nodes) v w h (suc k, x, below, same, (number, at)) e =
    followed_at numbers nodes v w h.1 (k, x, omega (arith, below), same, (number, at)) e

through_in : (numbers : Numbers) (nodes : List Node) (v : ℕ) (through : List ℕ) (w : ℕ) → AreFollowed numbers nodes → LeadsThrough (Links nodes) v through w → is_in numbers v ≡ true
    → is_in numbers w ≡ true
through_in numbers nodes v [] w h same e = sym (ap (is_in numbers) same) ∙ e
through_in numbers nodes v (u ∷ through) w h (first, others) e = through_in numbers nodes u through w h others (followed_at numbers nodes v u h first e)

pub marked_all : (nodes : List Node) (from : List ℕ) (numbers : Numbers) → IsMarked nodes from numbers nodes → (n : ℕ) → (is_in numbers n ≡ true) ↔ IsReachedFrom nodes from n
marked_all nodes from numbers m n =
    (m.sound n, λ h. let (k, v, below, same, (through, leads)) = h in through_in numbers nodes v through n m.followed leads (m.begun v (k, below, same)))

pub marked_start : (nodes : List Node) (from : List ℕ) (old new : Numbers) → ((n : ℕ) → is_in old n ≡ false) → HasMore old from new → IsMarked nodes from new []
marked_start nodes from old new none more = record {
  begun = λ n at. (more n).1 (inl at);
  sound = λ n e. elim ((more n).0 e) [
    | inl at ↦ (at.0, n, at.1, at.2, ([], refl))
    | inr was ↦ absurd (let wrong : false ≡ true = sym (none n) ∙ was in cc wrong)
  ];
  followed = tt;
}

-- ---- from the last node to the first

pub marked_more : (nodes : List Node) (from : List ℕ) (least k : ℕ) (d : Node) (old new : Numbers) → LeadDown least nodes → k < length nodes → IsMarked nodes from old (drop (length nodes - k) nodes)
    → Follows old (get_or nodes (length nodes - 1 - k) d) new → IsMarked nodes from new (drop (length nodes - (k + 1)) nodes)
marked_more nodes from least k d old new down below m follows =
    let i : ℕ = length nodes - 1 - k in
    let inside : i < length nodes = omega (arith, below) in
    let last : length nodes - k ≡ i + 1 = omega (arith, below) in
    let next : i ≡ length nodes - (k + 1) = omega (arith, below) in
    let front : nodes ≡ take i nodes ++ get_or nodes i d ∷ drop (i + 1) nodes =
    sym (take-append-drop i nodes) ∙ ap (λ (ns : List Node). take i nodes ++ ns) (drop_more nodes i d inside) in
    subst (λ j. IsMarked nodes from new (drop j nodes)) next
    (subst (λ ns. IsMarked nodes from new ns) (sym (drop_more nodes i d inside))
    (marked_next nodes from least (take i nodes) (get_or nodes i d) (drop (i + 1) nodes) old new down front (subst (λ j. IsMarked nodes from old (drop j nodes)) last m) follows))
