-- Runs that end at a bad position, loops, and which literals were seen or will be.
use Rattle.std.proofs.Common.{◌≡◌, ℕ, zero, suc, ◌+◌, ◌-◌, Bool, true, false, ◌||◌, List, [], ◌∷◌, ◌++◌, map, length, drop, replicate, refl, sym, ap, ◌∙◌, subst, arith, length-append, Some, slice_get}
use Rattle.std.specs.List.{AllZip, Any}
use Rattle.std.proofs.lemmas.Bool.{and_parts, and_from}
use Rattle.std.proofs.lemmas.Option.{same_Some, none-some}
use Rattle.aig_semantics.specs.declared.parts.Latch.{Latch}
use Rattle.aig_semantics.specs.declared.traces.Position.{Position}
use Rattle.aig_semantics.specs.Circuits.{Circuit}
use Rattle.aig_semantics.specs.Runs.{valuation_at, literal_at, successor, AgreesWith, ClosesAt}
use Rattle.fair_semantics.proofs.Runs.{end_of, get-seam}
use Rattle.circuit.specs.Following.{seen_with}
use Rattle.circuit.proofs.RoundsAlong.{Soon, soon_on, soon_back}
use Rattle.live_to_safe.specs.Watching.{numbered, zero_latch}
use Rattle.live_to_safe.proofs.Valued.{same_bool, same_lists, seen_after}

-- ---- values of lists

same_bool-self : (b : Bool) → same_bool b b ≡ true
same_bool-self true = refl
same_bool-self false = refl

same_bool-equal : (a b : Bool) → same_bool a b ≡ true → a ≡ b
same_bool-equal true b e = sym e
same_bool-equal false true e = let x : false ≡ true = e in cc
same_bool-equal false false e = refl

pub same_lists-self : (xs : List Bool) → same_lists xs xs ≡ true
same_lists-self [] = refl
same_lists-self (x ∷ xs) = and_from (same_bool x x) (same_lists xs xs) (same_bool-self x) (same_lists-self xs)

pub same_lists-equal : (xs ys : List Bool) → length xs ≡ length ys → same_lists xs ys ≡ true → xs ≡ ys
same_lists-equal [] [] l e = refl
same_lists-equal [] (y ∷ ys) l e = absurd (omega (arith, l))
same_lists-equal (x ∷ xs) [] l e = absurd (omega (arith, l))
same_lists-equal (x ∷ xs) (y ∷ ys) l e =
    let parts = and_parts (same_bool x y) (same_lists xs ys) e in
    ap (λ b. b ∷ xs) (same_bool-equal x y parts.0) ∙ ap (λ bs. y ∷ bs) (same_lists-equal xs ys (omega (arith, l)) parts.1)

pub length-seen_after : (on : Bool) (seens values : List Bool) → length seens ≡ length values → length (seen_after on seens values) ≡ length seens
length-seen_after on [] values l = refl
length-seen_after on (s ∷ seens) [] l = absurd (omega (arith, l))
length-seen_after on (s ∷ seens) (v ∷ values) l = omega (arith, length-seen_after on seens values (omega (arith, l)))

pub seen_after-off : (n : ℕ) (values : List Bool) → n ≡ length values → seen_after false (replicate n false) values ≡ replicate n false
seen_after-off zero values l = refl
seen_after-off (suc n) [] l = absurd (omega (arith, l))
seen_after-off (suc n) (v ∷ values) l = ap (λ xs. false ∷ xs) (seen_after-off n values (omega (arith, l)))

pub last_split : (n : ℕ) (xs : List Bool) → length xs ≡ n + 1 → (ys : List Bool) × (x : Bool) × (xs ≡ ys ++ x ∷ []) × (length ys ≡ n)
last_split n [] l = absurd (omega (arith, l))
last_split zero (x ∷ []) l = ([], x, refl, refl)
last_split zero (x ∷ y ∷ xs) l = absurd (omega (arith, l))
last_split (suc n) (x ∷ xs) l =
    let rest = last_split n xs (omega (arith, l)) in
    (x ∷ rest.0, rest.1, ap (λ zs. x ∷ zs) rest.2, omega (arith, rest.3))

-- ---- each literal was seen, or is true at one of these positions

after-is : (c : Circuit) (p : Position) (literals : List ℕ) (seens : List Bool)
    → seen_after true seens (map (literal_at c p) literals) ≡ seen_with (valuation_at c p) literals seens
after-is c p [] [] = refl
after-is c p [] (s ∷ seens) = refl
after-is c p (l ∷ literals) [] = refl
after-is c p (l ∷ literals) (s ∷ seens) = ap (λ xs. (s || literal_at c p l) ∷ xs) (after-is c p literals seens)

-- what is true at the first position was seen behind it
pub soon_next : (c : Circuit) (p : Position) (run : List Position) (literals : List ℕ) (seens : List Bool)
    → Soon c literals seens (p ∷ run) → Soon c literals (seen_after true seens (map (literal_at c p) literals)) run
soon_next c p run literals seens h = subst (λ xs. Soon c literals xs run) (sym (after-is c p literals seens)) (soon_on c p run literals seens h)

pub soon_before : (c : Circuit) (p : Position) (run : List Position) (literals : List ℕ) (seens : List Bool) → length seens ≡ length literals
    → Soon c literals (seen_after true seens (map (literal_at c p) literals)) run → Soon c literals seens (p ∷ run)
soon_before c p run literals seens l h = soon_back c p run literals seens l (subst (λ xs. Soon c literals xs run) (after-is c p literals seens) h)

-- what is so of one of a list of one element is so of it
pub any_one : {X : Type 0} (P : X → Type 0) (x : X) → Any P (x ∷ []) → P x
any_one P x (zero, y, inside, at, h) = subst P (sym at) h
any_one P x (suc k, y, inside, at, h) = absurd (omega (arith, inside))

-- ---- runs with a bad last position

abbrev pub EndsBad : Circuit → ℕ → List Position → Type 0
EndsBad t bad [] = ⊥
EndsBad t bad (p ∷ []) = literal_at t p bad ≡ true
EndsBad t bad (p ∷ q ∷ run) = EndsBad t bad (q ∷ run)

pub ends-cons : (t : Circuit) (bad : ℕ) (p : Position) (run : List Position) → EndsBad t bad run → EndsBad t bad (p ∷ run)
ends-cons t bad p [] h = absurd h
ends-cons t bad p (q ∷ run) h = h

pub ends-last : (t : Circuit) (bad k : ℕ) (run : List Position) → suc k ≡ length run → EndsBad t bad run
    → (last : Position) × (slice_get run k ≡ Some last) × (literal_at t last bad ≡ true)
ends-last t bad k [] e h = absurd h
ends-last t bad zero (p ∷ []) e h = (p, refl, h)
ends-last t bad (suc k) (p ∷ []) e h = absurd (omega (arith, e))
ends-last t bad zero (p ∷ q ∷ run) e h = absurd (omega (arith, e))
ends-last t bad (suc k) (p ∷ q ∷ run) e h = ends-last t bad k (q ∷ run) (omega (arith, e)) h

pub last-ends : (t : Circuit) (bad k : ℕ) (run : List Position) (last : Position) → suc k ≡ length run → slice_get run k ≡ Some last
    → literal_at t last bad ≡ true → EndsBad t bad run
last-ends t bad k [] last e at h = absurd (omega (arith, e))
last-ends t bad zero (p ∷ []) last e at h = subst (λ q. literal_at t q bad ≡ true) (sym (same_Some p last at)) h
last-ends t bad (suc k) (p ∷ []) last e at h = absurd (omega (arith, e))
last-ends t bad zero (p ∷ q ∷ run) last e at h = absurd (omega (arith, e))
last-ends t bad (suc k) (p ∷ q ∷ run) last e at h = last-ends t bad k (q ∷ run) last (omega (arith, e)) at h

pub some-run : (run : List Position) (last : Position) → slice_get run (length run - 1) ≡ Some last → suc (length run - 1) ≡ length run
some-run [] last at = absurd (none-some last at)
some-run (p ∷ run) last at = omega arith

pub ends-some : (t : Circuit) (bad : ℕ) (run : List Position) → EndsBad t bad run → suc (length run - 1) ≡ length run
ends-some t bad [] h = absurd h
ends-some t bad (p ∷ run) h = omega arith

-- ---- loops

pub last-at : (c : Circuit) (s : List Bool) (run : List Position) (k : ℕ) → suc k ≡ length run
    → (last : Position) × (slice_get run k ≡ Some last) × (end_of c s run ≡ successor c last)
last-at c s [] k e = absurd (omega (arith, e))
last-at c s (p ∷ []) zero e = (p, refl, refl)
last-at c s (p ∷ []) (suc k) e = absurd (omega (arith, e))
last-at c s (p ∷ q ∷ run) zero e = absurd (omega (arith, e))
last-at c s (p ∷ q ∷ run) (suc k) e = last-at c (successor c p) (q ∷ run) k (omega (arith, e))

pub drop-seam : {X : Type 0} (xs ys : List X) → drop (length xs) (xs ++ ys) ≡ ys
drop-seam [] ys = refl
drop-seam (x ∷ xs) ys = drop-seam xs ys

end-behind : (c : Circuit) (s : List Bool) (stem : List Position) (p : Position) (more : List Position) → end_of c s (stem ++ p ∷ more) ≡ end_of c (successor c p) more
end-behind c s [] p more = refl
end-behind c s (q ∷ stem) p more = end-behind c (successor c q) stem p more

pub closes-behind : (c : Circuit) (s : List Bool) (stem : List Position) (p : Position) (more : List Position)
    → end_of c (successor c p) more ≡ p.latches → ClosesAt c (stem ++ p ∷ more) (length stem)
closes-behind c s stem p more ends =
    let whole : List Position = stem ++ p ∷ more in
    let size : suc (length whole - 1) ≡ length whole = omega (arith, length-append stem (p ∷ more)) in
    let last = last-at c s whole (length whole - 1) size in
    record {
      first = p;
      last = last.0;
      is_first = get-seam stem p more;
      is_last = last.1;
      closes = sym last.2 ∙ end-behind c s stem p more ∙ ends;
    }

-- ---- initial values

abbrev pub Begin : List Latch → List Bool → Type 0
Begin latches values = AllZip (λ latch value. AgreesWith latch.reset value) latches values

pub begin-length : (latches : List Latch) (values : List Bool) → Begin latches values → length values ≡ length latches
begin-length [] [] h = refl
begin-length [] (v ∷ values) h = absurd h
begin-length (l ∷ latches) [] h = absurd h
begin-length (l ∷ latches) (v ∷ values) h = omega (arith, begin-length latches values h.1)

pub begin-append : (latches more : List Latch) (values others : List Bool) → Begin latches values → Begin more others → Begin (latches ++ more) (values ++ others)
begin-append [] more [] others h g = g
begin-append [] more (v ∷ values) others h g = absurd h
begin-append (l ∷ latches) more [] others h g = absurd h
begin-append (l ∷ latches) more (v ∷ values) others h g = (h.0, begin-append latches more values others h.1 g)

pub begin-split : (latches more : List Latch) (values : List Bool) → Begin (latches ++ more) values
    → (front : List Bool) × (back : List Bool) × (values ≡ front ++ back) × Begin latches front × Begin more back
begin-split [] more values h = ([], values, refl, tt, h)
begin-split (l ∷ latches) more [] h = absurd h
begin-split (l ∷ latches) more (v ∷ values) h =
    let rest = begin-split latches more values h.1 in
    (v ∷ rest.0, rest.1, ap (λ xs. v ∷ xs) rest.2, (h.0, rest.3), rest.4)

pub begin-zero : (f g : ℕ → ℕ) (k n : ℕ) → Begin (numbered (λ i. zero_latch (f i) (g i)) k n) (replicate n false)
begin-zero f g k zero = tt
begin-zero f g k (suc n) = (refl, begin-zero f g (k + 1) n)

pub zero-begins : (f g : ℕ → ℕ) (k n : ℕ) (values : List Bool) → Begin (numbered (λ i. zero_latch (f i) (g i)) k n) values → values ≡ replicate n false
zero-begins f g k zero [] h = refl
zero-begins f g k zero (v ∷ values) h = absurd h
zero-begins f g k (suc n) [] h = absurd h
zero-begins f g k (suc n) (v ∷ values) h = ap (λ b. b ∷ values) h.0 ∙ ap (λ xs. false ∷ xs) (zero-begins f g (k + 1) n values h.1)
