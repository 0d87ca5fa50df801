-- Rounds that end as early as they can are as many as there can be.
use Rattle.std.proofs.Common.{◌≡◌, ℕ, zero, suc, ◌+◌, ◌<◌, ◌≤◌, ◌⊎◌, Bool, true, false, cond, ◌||◌, List, [], ◌∷◌, ◌++◌, length, get_or, drop, replicate, refl, sym, ap, ◌∙◌, subst, inl, inr, arith, length-append, IsTrue}
use Rattle.std.specs.List.{All, Any, list_all}
use Rattle.std.proofs.lemmas.Bool.{and_parts, and_from, or_cases, or_left, or_right, false≢true}
use Rattle.std.proofs.lemmas.List.{append_assoc, drop_more, length-replicate}
use Rattle.std.proofs.lemmas.List.Elements.{All-nil, All-cons, All-head, All-tail}
use Rattle.aig_semantics.specs.declared.traces.Position.{Position}
use Rattle.aig_semantics.specs.Circuits.{Circuit, fair_literals}
use Rattle.aig_semantics.specs.Runs.{literal_at, valuation_at}
use Rattle.circuit.specs.Following.{seen_with}
use Rattle.fair_semantics.specs.Rounds.{HasRounds}
use Rattle.circuit.specs.Rounds.{IsMostRounds}
use Rattle.circuit.specs.RoundsAlong.{none_seen, ends_with, seen_next, more_if, rounds_along}

-- what is so of an element, and of those behind it, is so of those from it on
pub all_on : {A : Type 0} (P : A → Type 0) (xs : List A) (k : ℕ) (x : A) → k < length xs → x ≡ get_or xs k x → P x → (All P (drop k xs) → All P xs)
    → All P (drop (k + 1) xs) → All P xs
all_on P xs k x below is h back rest =
    back (subst (All P) (sym (drop_more xs k x below)) (All-cons P (get_or xs k x) (drop (k + 1) xs) (subst P is h) rest))

-- ---- each literal was seen, or is true at one of these positions

abbrev pub Soon : Circuit → List ℕ → List Bool → List Position → Type 0
Soon c [] [] run = Unit {0}
Soon c [] (s ∷ seens) run = ⊥
Soon c (l ∷ literals) [] run = ⊥
Soon c (l ∷ literals) (s ∷ seens) run = ((s ≡ true) ⊎ Any (λ p. IsTrue (literal_at c p l)) run) × Soon c literals seens run

pub any_head : {X : Type 0} (P : X → Type 0) (x : X) (xs : List X) → P x → Any P (x ∷ xs)
any_head P x xs h = (0, x, omega arith, refl, h)

pub any_tail : {X : Type 0} (P : X → Type 0) (x : X) (xs : List X) → Any P xs → Any P (x ∷ xs)
any_tail P x xs (k, y, inside, at, h) = (suc k, y, omega (arith, inside), at, h)

pub any_cases : {X : Type 0} (P : X → Type 0) (x : X) (xs : List X) → Any P (x ∷ xs) → P x ⊎ Any P xs
any_cases P x xs (zero, y, inside, at, h) = inl (subst P (sym at) h)
any_cases P x xs (suc k, y, inside, at, h) = inr (k, y, omega (arith, inside), at, h)

pub none_any : {X : Type 0} (P : X → Type 0) → Any P [] → ⊥
none_any P (k, x, inside, at, h) = omega (arith, inside)

pub length-seen_with : (values : List Bool) (literals : List ℕ) (seens : List Bool) → length seens ≡ length literals → length (seen_with values literals seens) ≡ length literals
length-seen_with values [] seens l = refl
length-seen_with values (literal ∷ literals) [] l = absurd (omega (arith, l))
length-seen_with values (literal ∷ literals) (s ∷ seens) l = omega (arith, length-seen_with values literals seens (omega (arith, l)))

length-by : (n : ℕ) (e : Bool) (xs ys : List Bool) → length xs ≡ n → length ys ≡ n → length (cond e xs ys) ≡ n
length-by n true xs ys l m = l
length-by n false xs ys l m = m

pub length-seen_next : (values : List Bool) (literals : List ℕ) (seens : List Bool) → length seens ≡ length literals → length (seen_next values literals seens) ≡ length literals
length-seen_next values literals seens l =
    length-by (length literals) (ends_with values literals seens) (none_seen literals) (seen_with values literals seens)
    (length-replicate (length literals) false) (length-seen_with values literals seens l)

-- what is true at the first position was seen behind it
pub soon_on : (c : Circuit) (p : Position) (run : List Position) (literals : List ℕ) (seens : List Bool)
    → Soon c literals seens (p ∷ run) → Soon c literals (seen_with (valuation_at c p) literals seens) run
soon_on c p run [] [] h = tt
soon_on c p run [] (s ∷ seens) h = absurd h
soon_on c p run (l ∷ literals) [] h = absurd h
soon_on c p run (l ∷ literals) (s ∷ seens) h =
    let P : Position → Type 0 = λ q. IsTrue (literal_at c q l) in
    let here : ((s || literal_at c p l) ≡ true) ⊎ Any P run = elim h.0 [
      | inl seen ↦ inl (or_left s (literal_at c p l) seen)
      | inr some ↦ elim (any_cases P p run some) [
        | inl now ↦ inl (or_right s (literal_at c p l) now)
        | inr later ↦ inr later
      ]
    ] in
    (here, soon_on c p run literals seens h.1)

pub soon_back : (c : Circuit) (p : Position) (run : List Position) (literals : List ℕ) (seens : List Bool) → length seens ≡ length literals
    → Soon c literals (seen_with (valuation_at c p) literals seens) run → Soon c literals seens (p ∷ run)
soon_back c p run [] [] l h = tt
soon_back c p run [] (s ∷ seens) l h = absurd (omega (arith, l))
soon_back c p run (l ∷ literals) [] e h = absurd (omega (arith, e))
soon_back c p run (l ∷ literals) (s ∷ seens) e h =
    let P : Position → Type 0 = λ q. IsTrue (literal_at c q l) in
    let here : (s ≡ true) ⊎ Any P (p ∷ run) = elim h.0 [
      | inl either ↦ elim (or_cases s (literal_at c p l) either) [
        | inl seen ↦ inl seen
        | inr now ↦ inr (any_head P p run now)
      ]
      | inr later ↦ inr (any_tail P p run later)
    ] in
    (here, soon_back c p run literals seens (omega (arith, e)) h.1)

pub soon_none : (c : Circuit) (literals : List ℕ) (seens : List Bool) → Soon c literals seens [] → list_all (λ b. b) seens ≡ true
soon_none c [] [] h = refl
soon_none c [] (s ∷ seens) h = absurd h
soon_none c (l ∷ literals) [] h = absurd h
soon_none c (l ∷ literals) (s ∷ seens) h =
    let here : s ≡ true = elim h.0 [
      | inl seen ↦ seen
      | inr some ↦ absurd (none_any (λ p. IsTrue (literal_at c p l)) some)
    ] in
    and_from s (list_all (λ b. b) seens) here (soon_none c literals seens h.1)

pub soon_all : (c : Circuit) (literals : List ℕ) (seens : List Bool) (run : List Position) → length seens ≡ length literals → list_all (λ b. b) seens ≡ true → Soon c literals seens run
soon_all c [] [] run l e = tt
soon_all c [] (s ∷ seens) run l e = absurd (omega (arith, l))
soon_all c (l ∷ literals) [] run e f = absurd (omega (arith, e))
soon_all c (l ∷ literals) (s ∷ seens) run e f =
    let parts = and_parts s (list_all (λ b. b) seens) f in
    (inl parts.0, soon_all c literals seens run (omega (arith, e)) parts.1)

-- nothing was seen yet: each literal is true at one of the positions
pub soon_fair : (c : Circuit) (literals : List ℕ) (run : List Position)
    → Soon c literals (replicate (length literals) false) run → All (λ literal. Any (λ p. IsTrue (literal_at c p literal)) run) literals
soon_fair c [] run h = All-nil _
soon_fair c (l ∷ literals) run h =
    let Met : ℕ → Type 0 = λ literal. Any (λ p. IsTrue (literal_at c p literal)) run in
    let here : Met l = elim h.0 [
      | inl seen ↦ absurd (false≢true seen)
      | inr some ↦ some
    ] in
    All-cons Met l literals here (soon_fair c literals run h.1)

-- where each literal is true somewhere, nothing needs to be seen before
pub fair_soon : (c : Circuit) (literals : List ℕ) (seens : List Bool) (run : List Position) → length seens ≡ length literals
    → All (λ literal. Any (λ p. IsTrue (literal_at c p literal)) run) literals → Soon c literals seens run
fair_soon c [] [] run l all = tt
fair_soon c [] (s ∷ seens) run l all = absurd (omega (arith, l))
fair_soon c (l ∷ literals) [] run e all = absurd (omega (arith, e))
fair_soon c (l ∷ literals) (s ∷ seens) run e all =
    let Met : ℕ → Type 0 = λ literal. Any (λ p. IsTrue (literal_at c p literal)) run in
    (inr (All-head Met l literals all), fair_soon c literals seens run (omega (arith, e)) (All-tail Met l literals all))

abbrev head_or : Position → List Position → Position
head_or d [] = d
head_or d (x ∷ xs) = x

module _ (c : Circuit) (j : ℕ) where
  abbrev literals : List ℕ
  literals = fair_literals c j

  -- ---- rounds of parts

  pub rounds-fewer : (n m : ℕ) (run : List Position) → n ≤ m → HasRounds c j m run → HasRounds c j n run
  rounds-fewer zero m run le h = tt
  rounds-fewer (suc n) zero run le h = absurd (omega (arith, le))
  rounds-fewer (suc n) (suc m) run le (front, segment, rest, split, is, more) =
      (front, segment, rest, split, is, rounds-fewer n m rest (omega (arith, le)) more)

  rounds-behind : (n : ℕ) (before run : List Position) → HasRounds c j n run → HasRounds c j n (before ++ run)
  rounds-behind zero before run h = tt
  rounds-behind (suc n) before run (front, segment, rest, split, is, more) = (
    before ++ front,
    segment,
    rest,
    ap (λ xs. before ++ xs) split ∙ sym (append_assoc before (front ++ segment) rest) ∙ ap (λ xs. xs ++ rest) (sym (append_assoc before front segment)),
    is,
    more,
  )

  -- n rounds, of which the first has begun and these literals were seen in it
  abbrev HasFrom : List Bool → ℕ → List Position → Type 0
  HasFrom seens zero run = Unit {0}
  HasFrom seens (suc n) run =
      (segment : List Position) × (rest : List Position) × (run ≡ segment ++ rest) × (0 < length segment) × Soon c literals seens segment × HasRounds c j n rest

  from-none : (n : ℕ) (run : List Position) → HasFrom (none_seen literals) n run → HasRounds c j n run
  from-none zero run h = tt
  from-none (suc n) run (segment, rest, split, some, soon, more) =
      ([], segment, rest, split, record { some = some; fair = soon_fair c literals segment soon }, more)

  -- one position more in front of which the round does not end
  from-on : (p : Position) (n : ℕ) (seens : List Bool) (run : List Position) → length seens ≡ length literals
      → HasFrom (seen_with (valuation_at c p) literals seens) n run → HasFrom seens n (p ∷ run)
  from-on p zero seens run l h = tt
  from-on p (suc n) seens run l (segment, rest, split, some, soon, more) =
      (p ∷ segment, rest, ap (λ xs. p ∷ xs) split, omega arith, soon_back c p segment literals seens l soon, more)

  has-by : (p : Position) (run : List Position) (seens : List Bool) (e : Bool) → length seens ≡ length literals → ends_with (valuation_at c p) literals seens ≡ e
      → ((next : List Bool) → length next ≡ length literals → HasFrom next (rounds_along c literals next run) run)
      → HasFrom seens (more_if e (rounds_along c literals (cond e (none_seen literals) (seen_with (valuation_at c p) literals seens)) run)) (p ∷ run)
  has-by p run seens true l ends each =
      let n : ℕ = rounds_along c literals (none_seen literals) run in
      let now : Soon c literals seens (p ∷ []) =
      soon_back c p [] literals seens l
      (soon_all c literals (seen_with (valuation_at c p) literals seens) [] (length-seen_with (valuation_at c p) literals seens l) ends)
      in
      (p ∷ [], run, refl, omega arith, now, from-none n run (each (none_seen literals) (length-replicate (length literals) false)))
  has-by p run seens false l ends each =
      let next : List Bool = seen_with (valuation_at c p) literals seens in
      from-on p (rounds_along c literals next run) seens run l (each next (length-seen_with (valuation_at c p) literals seens l))

  -- there are as many rounds as are counted
  has : (run : List Position) (seens : List Bool) → length seens ≡ length literals → HasFrom seens (rounds_along c literals seens run) run
  has [] seens l = tt
  has (p ∷ run) seens l =
      let e : Bool = ends_with (valuation_at c p) literals seens in
      has-by p run seens e l refl (λ next size. has run next size)

  -- ---- and no more

  abbrev AtMost : List Position → Type 0
  AtMost run = (seens : List Bool) (m : ℕ) → length seens ≡ length literals → HasRounds c j m run → m ≤ rounds_along c literals seens run

  -- with the first round begun
  abbrev AtMostFrom : List Position → Type 0
  AtMostFrom run =
      (seens : List Bool) (m : ℕ) (segment rest : List Position) → length seens ≡ length literals → run ≡ segment ++ rest → 0 < length segment
      → Soon c literals seens segment → HasRounds c j m rest → m + 1 ≤ rounds_along c literals seens run

  -- by whether the round ends at the first position
  most-from-by : (p : Position) (run : List Position) (seens : List Bool) (e : Bool) (m : ℕ) (segment rest : List Position) → length seens ≡ length literals
      → ends_with (valuation_at c p) literals seens ≡ e → run ≡ segment ++ rest → Soon c literals seens (p ∷ segment) → HasRounds c j m rest
      → AtMost run → AtMostFrom run
      → m + 1 ≤ more_if e (rounds_along c literals (cond e (none_seen literals) (seen_with (valuation_at c p) literals seens)) run)
  most-from-by p run seens true m segment rest l ends split soon more most from =
      let a = most (none_seen literals) m (length-replicate (length literals) false)
      (subst (HasRounds c j m) (sym split) (rounds-behind m segment rest more))
      in
      omega (arith, a)
  most-from-by p run seens false m [] rest l ends split soon more most from =
      let all = soon_none c literals (seen_with (valuation_at c p) literals seens) (soon_on c p [] literals seens soon) in
      absurd (false≢true (sym ends ∙ all))
  most-from-by p run seens false m (q ∷ segment) rest l ends split soon more most from =
      let next : List Bool = seen_with (valuation_at c p) literals seens in
      let a = from next m (q ∷ segment) rest (length-seen_with (valuation_at c p) literals seens l) split (omega arith) (soon_on c p (q ∷ segment) literals seens soon) more in
      omega (arith, a)

  -- a position in front takes no round away
  most-on : (p : Position) (run : List Position) (seens : List Bool) (e : Bool) (m : ℕ) → length seens ≡ length literals → HasRounds c j m run → AtMost run
      → m ≤ more_if e (rounds_along c literals (cond e (none_seen literals) (seen_with (valuation_at c p) literals seens)) run)
  most-on p run seens true m l h most =
      let a = most (none_seen literals) m (length-replicate (length literals) false) h in
      omega (arith, a)
  most-on p run seens false m l h most =
      let a = most (seen_with (valuation_at c p) literals seens) m (length-seen_with (valuation_at c p) literals seens l) h in
      omega (arith, a)

  same-head : (p q : Position) (xs ys : List Position) → p ∷ xs ≡ q ∷ ys → (p ≡ q) × (xs ≡ ys)
  same-head p q xs ys e = (ap (head_or p) e, ap (drop 1) e)

  most-nil : AtMost []
  most-nil seens zero l h = omega arith
  most-nil seens (suc m) l (front, segment, rest, split, is, more) =
      let size = ap length split in
      let a = length-append (front ++ segment) rest in
      let b = length-append front segment in
      let some = is.some in
      absurd (omega (arith, size, a, b, some))

  from-nil : AtMostFrom []
  from-nil seens m segment rest l split some soon more =
      let size = ap length split in
      let a = length-append segment rest in
      absurd (omega (arith, size, a, some))

  from-cons : (p : Position) (run : List Position) → AtMost run → AtMostFrom run → AtMostFrom (p ∷ run)
  from-cons p run most from seens m [] rest l split some soon more = absurd (omega (arith, some))
  from-cons p run most from seens m (q ∷ segment) rest l split some soon more =
      let parts = same-head p q run (segment ++ rest) split in
      let e : Bool = ends_with (valuation_at c p) literals seens in
      most-from-by p run seens e m segment rest l refl parts.1 (subst (λ x. Soon c literals seens (x ∷ segment)) (sym parts.0) soon) more most from

  most-cons : (p : Position) (run : List Position) → AtMost run → AtMostFrom (p ∷ run) → AtMost (p ∷ run)
  most-cons p run most from seens zero l h = omega arith
  most-cons p run most from seens (suc m) l ([], segment, rest, split, is, more) =
      let a = from seens m segment rest l split is.some (fair_soon c literals seens segment l is.fair) more in
      omega (arith, a)
  most-cons p run most from seens (suc m) l (q ∷ front, segment, rest, split, is, more) =
      let parts = same-head p q run (front ++ segment ++ rest) split in
      let h : HasRounds c j (suc m) run = (front, segment, rest, parts.1, is, more) in
      most-on p run seens (ends_with (valuation_at c p) literals seens) (suc m) l h most

  most-of : (run : List Position) → AtMost run × AtMostFrom run
  most-of [] = (most-nil, from-nil)
  most-of (p ∷ run) =
      let later = most-of run in
      let from = from-cons p run later.0 later.1 in
      (most-cons p run later.0 from, from)

  -- ---- what is counted

  none-length : length (none_seen literals) ≡ length literals
  none-length = length-replicate (length literals) false

  pub counted : (run : List Position) → IsMostRounds c j run (rounds_along c literals (none_seen literals) run)
  counted run = record {
    has = from-none (rounds_along c literals (none_seen literals) run) run (has run (none_seen literals) none-length);
    most = λ m h. (most-of run).0 (none_seen literals) m none-length h;
  }

  pub told : (run : List Position) (given : List ℕ) (seens : List Bool) (n : ℕ) → n ≡ rounds_along c given seens run → given ≡ literals → seens ≡ none_seen given
      → IsMostRounds c j run n
  told run given seens n is same none =
      let e : n ≡ rounds_along c literals (none_seen literals) run =
      is ∙ ap (λ s. rounds_along c given s run) none ∙ ap (λ ls. rounds_along c ls (none_seen ls) run) same
      in
      subst (IsMostRounds c j run) (sym e) (counted run)
