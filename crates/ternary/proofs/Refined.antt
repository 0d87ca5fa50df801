-- Where an X of the latches or inputs becomes a value, the values of the simulation stay, but for those that are X.
use Rattle.std.proofs.Common.{◌≡◌, ℕ, zero, suc, ◌+◌, ◌==◌, ◌⊎◌, Bool, true, false, not, ◌&&◌, List, [], ◌∷◌, ◌++◌, map, length, Option, Some, None, unwrap_or, if◌then◌else◌, refl, sym, ap, ◌∙◌, subst, inl, inr}
use Rattle.std.specs.List.{AllZip, find}
use Rattle.std.proofs.lemmas.List.Elements.{AllZip-push}
use Rattle.std.proofs.lemmas.List.{map-append}
use Rattle.aig_semantics.specs.declared.parts.Gate.{Gate}
use Rattle.aig_semantics.specs.Literals.{variable_of, is_negated, literal_by}
use Rattle.aig_semantics.specs.Circuits.{Circuit}
use Rattle.aig_semantics.specs.Valuations.{conjunction, value_beside, given_value, gate_value, value_through, values_below, valuation}
use Rattle.ternary.specs.declared.values.Value3.{Value3}
use Rattle.ternary.specs.declared.values.Value3.TheVariants.{Zero, One, X}
use Rattle.ternary.specs.Values.{negation3, and3, known, literal3_by, IsCompletion}
use Rattle.ternary.specs.Simulation.{conjunction3, beside3, given3, gate_value3, value3_through, values3_below, simulation}

-- the first value is X, or is the second
abbrev pub MayBecome : Value3 → Value3 → Type 0
MayBecome a b = (a ≡ X) ⊎ (a ≡ b)

abbrev pub MayAllBecome : List Value3 → List Value3 → Type 0
MayAllBecome xs ys = AllZip MayBecome xs ys

-- ---- values

negation3-becomes : (a b : Value3) → MayBecome a b → MayBecome (negation3 a) (negation3 b)
negation3-becomes a b (inl e) = inl (ap negation3 e)
negation3-becomes a b (inr e) = inr (ap negation3 e)

and3-zero : (a : Value3) → and3 a Zero ≡ Zero
and3-zero Zero = refl
and3-zero One = refl
and3-zero X = refl

and3-becomes : (a b c d : Value3) → MayBecome a b → MayBecome c d → MayBecome (and3 a c) (and3 b d)
and3-becomes Zero b c d (inl e) k = absurd cc
and3-becomes Zero b c d (inr e) k = inr (ap (λ x. and3 x d) e)
and3-becomes One b c d (inl e) k = absurd cc
and3-becomes One b c d (inr e) k = subst (λ x. MayBecome c (and3 x d)) e k
and3-becomes X b Zero d h (inl e) = absurd cc
and3-becomes X b Zero d h (inr e) = inr (sym (and3-zero b) ∙ ap (λ x. and3 b x) e)
and3-becomes X b One d h k = inl refl
and3-becomes X b X d h k = inl refl

side-becomes : (n : Bool) (a b : Value3) → MayBecome a b → MayBecome (if n then negation3 a else a) (if n then negation3 b else b)
side-becomes true a b h = negation3-becomes a b h
side-becomes false a b h = h

pub literal3-becomes : (f g : ℕ → Value3) (literal : ℕ) → MayBecome (f (variable_of literal)) (g (variable_of literal)) → MayBecome (literal3_by f literal) (literal3_by g literal)
literal3-becomes f g literal h = side-becomes (is_negated literal) (f (variable_of literal)) (g (variable_of literal)) h

conjunction3-becomes : (f g : ℕ → Value3) (gate : Gate) → ((v : ℕ) → MayBecome (f v) (g v)) → MayBecome (conjunction3 f gate) (conjunction3 g gate)
conjunction3-becomes f g gate h =
    and3-becomes (literal3_by f gate.rhs0) (literal3_by g gate.rhs0) (literal3_by f gate.rhs1) (literal3_by g gate.rhs1)
    (literal3-becomes f g gate.rhs0 (h (variable_of gate.rhs0)))
    (literal3-becomes f g gate.rhs1 (h (variable_of gate.rhs1)))

-- ---- the simulation

abbrev MayBeGiven : Option Value3 → Option Value3 → Type 0
MayBeGiven None None = Unit {0}
MayBeGiven None (Some b) = ⊥
MayBeGiven (Some a) None = ⊥
MayBeGiven (Some a) (Some b) = MayBecome a b

unwrap-becomes : (o p : Option Value3) (a b : Value3) → MayBeGiven o p → MayBecome a b → MayBecome (unwrap_or o a) (unwrap_or p b)
unwrap-becomes None None a b h k = k
unwrap-becomes None (Some y) a b h k = absurd h
unwrap-becomes (Some x) None a b h k = absurd h
unwrap-becomes (Some x) (Some y) a b h k = h

gate-becomes : (f g : ℕ → Value3) (o : Option Gate) → ((v : ℕ) → MayBecome (f v) (g v)) → MayBecome (gate_value3 f o) (gate_value3 g o)
gate-becomes f g None h = inr refl
gate-becomes f g (Some gate) h = conjunction3-becomes f g gate h

through-becomes : (depth : ℕ) (gates : List Gate) (f g : ℕ → Option Value3) → ((v : ℕ) → MayBeGiven (f v) (g v)) → (v : ℕ) → MayBecome (value3_through depth gates f v) (value3_through depth gates g v)
unfolding value3_through
through-becomes zero gates f g h v = unwrap-becomes (f v) (g v) Zero Zero (h v) (inr refl)
through-becomes (suc depth) gates f g h v =
    let found : Option Gate = find (λ gate. gate.var == v) gates in
    unwrap-becomes (f v) (g v) (gate_value3 (value3_through depth gates f) found) (gate_value3 (value3_through depth gates g) found) (h v)
    (gate-becomes (value3_through depth gates f) (value3_through depth gates g) found (through-becomes depth gates f g h))

choose-becomes : (t : Bool) (a b : Value3) (o p : Option Value3) → MayBecome a b → MayBeGiven o p → MayBeGiven (if t then Some a else o) (if t then Some b else p)
choose-becomes true a b o p h k = h
choose-becomes false a b o p h k = k

beside3-becomes : (vs : List ℕ) (xs ys : List Value3) → MayAllBecome xs ys → (v : ℕ) → MayBeGiven (beside3 vs xs v) (beside3 vs ys v)
unfolding beside3
beside3-becomes [] xs ys h v = tt
beside3-becomes (u ∷ us) [] [] h v = tt
beside3-becomes (u ∷ us) [] (y ∷ ys) h v = absurd h
beside3-becomes (u ∷ us) (x ∷ xs) [] h v = absurd h
beside3-becomes (u ∷ us) (x ∷ xs) (y ∷ ys) h v =
    choose-becomes (u == v) x y (beside3 us xs v) (beside3 us ys v) h.0 (beside3-becomes us xs ys h.1 v)

pub becomes-append : (xs ys us vs : List Value3) → MayAllBecome xs ys → MayAllBecome us vs → MayAllBecome (xs ++ us) (ys ++ vs)
becomes-append [] [] us vs h k = k
becomes-append [] (y ∷ ys) us vs h k = absurd h
becomes-append (x ∷ xs) [] us vs h k = absurd h
becomes-append (x ∷ xs) (y ∷ ys) us vs h k = (h.0, becomes-append xs ys us vs h.1 k)

below-becomes : (n : ℕ) (f g : ℕ → Value3) → ((v : ℕ) → MayBecome (f v) (g v)) → MayAllBecome (values3_below n f) (values3_below n g)
unfolding values3_below
below-becomes zero f g h = tt
below-becomes (suc n) f g h =
    AllZip-push MayBecome (values3_below n f) (values3_below n g) (f n) (g n) (below-becomes n f g h) (h n)

-- less is known of latches and inputs: less is known of all variables
pub simulation-becomes : (c : Circuit) (latches inputs after inputs_after : List Value3) → MayAllBecome latches after → MayAllBecome inputs inputs_after → MayAllBecome (simulation c latches inputs) (simulation c after inputs_after)
unfolding simulation given3
simulation-becomes c latches inputs after inputs_after h k =
    below-becomes (c.max + 1) (value3_through (length c.gates) c.gates (given3 c latches inputs)) (value3_through (length c.gates) c.gates (given3 c after inputs_after))
    (through-becomes (length c.gates) c.gates (given3 c latches inputs) (given3 c after inputs_after)
    (beside3-becomes (c.inputs ++ map (λ latch. latch.var) c.latches) (inputs ++ latches) (inputs_after ++ after)
    (becomes-append inputs inputs_after latches after k h)))

-- ---- known values

known-negation : (b : Bool) → negation3 (known b) ≡ known (not b)
known-negation true = refl
known-negation false = refl

known-and : (a b : Bool) → and3 (known a) (known b) ≡ known (a && b)
known-and true b = refl
known-and false b = refl

known-side : (n b : Bool) → (if n then negation3 (known b) else known b) ≡ known (if n then not b else b)
known-side true b = known-negation b
known-side false b = refl

pub known-literal : (f : ℕ → Value3) (g : ℕ → Bool) (literal : ℕ) → f (variable_of literal) ≡ known (g (variable_of literal)) → literal3_by f literal ≡ known (literal_by g literal)
known-literal f g literal e =
    ap (λ x. if is_negated literal then negation3 x else x) e ∙ known-side (is_negated literal) (g (variable_of literal))

known-conjunction : (f : ℕ → Value3) (g : ℕ → Bool) (gate : Gate) → ((v : ℕ) → f v ≡ known (g v)) → conjunction3 f gate ≡ known (conjunction g gate)
known-conjunction f g gate e =
    ap (λ x. and3 x (literal3_by f gate.rhs1)) (known-literal f g gate.rhs0 (e (variable_of gate.rhs0)))
    ∙ (ap (λ x. and3 (known (literal_by g gate.rhs0)) x) (known-literal f g gate.rhs1 (e (variable_of gate.rhs1)))
    ∙ known-and (literal_by g gate.rhs0) (literal_by g gate.rhs1))

abbrev known_option : Option Bool → Option Value3
known_option None = None
known_option (Some b) = Some (known b)

known-unwrap : (o : Option Bool) (a : Value3) (b : Bool) → a ≡ known b → unwrap_or (known_option o) a ≡ known (unwrap_or o b)
known-unwrap None a b e = e
known-unwrap (Some x) a b e = refl

known-gate : (f : ℕ → Value3) (g : ℕ → Bool) (o : Option Gate) → ((v : ℕ) → f v ≡ known (g v)) → gate_value3 f o ≡ known (gate_value g o)
known-gate f g None e = refl
known-gate f g (Some gate) e = known-conjunction f g gate e

known-through : (depth : ℕ) (gates : List Gate) (f : ℕ → Option Value3) (g : ℕ → Option Bool) → ((v : ℕ) → f v ≡ known_option (g v)) → (v : ℕ) → value3_through depth gates f v ≡ known (value_through depth gates g v)
unfolding value3_through value_through
known-through zero gates f g e v = ap (λ o. unwrap_or o Zero) (e v) ∙ known-unwrap (g v) Zero false refl
known-through (suc depth) gates f g e v =
    let found : Option Gate = find (λ gate. gate.var == v) gates in
    ap (λ o. unwrap_or o (gate_value3 (value3_through depth gates f) found)) (e v)
    ∙ known-unwrap (g v) (gate_value3 (value3_through depth gates f) found) (gate_value (value_through depth gates g) found)
    (known-gate (value3_through depth gates f) (value_through depth gates g) found (known-through depth gates f g e))

known-choose : (t b : Bool) (o : Option Value3) (p : Option Bool) → o ≡ known_option p → (if t then Some (known b) else o) ≡ known_option (if t then Some b else p)
known-choose true b o p e = refl
known-choose false b o p e = e

known-beside : (vs : List ℕ) (bs : List Bool) (v : ℕ) → beside3 vs (map known bs) v ≡ known_option (value_beside vs bs v)
unfolding beside3 value_beside
known-beside [] bs v = refl
known-beside (u ∷ us) [] v = refl
known-beside (u ∷ us) (b ∷ bs) v = known-choose (u == v) b (beside3 us (map known bs) v) (value_beside us bs v) (known-beside us bs v)

known-below : (n : ℕ) (f : ℕ → Value3) (g : ℕ → Bool) → ((v : ℕ) → f v ≡ known (g v)) → values3_below n f ≡ map known (values_below n g)
unfolding values3_below values_below
known-below zero f g e = refl
known-below (suc n) f g e =
    ap (λ xs. xs ++ f n ∷ []) (known-below n f g e)
    ∙ (ap (λ x. map known (values_below n g) ++ x ∷ []) (e n)
    ∙ sym (map-append known (values_below n g) (g n ∷ [])))

-- of known latches and inputs the simulation is the valuation
pub simulation-known : (c : Circuit) (latches inputs : List Bool) → simulation c (map known latches) (map known inputs) ≡ map known (valuation c latches inputs)
unfolding simulation valuation given3 given_value
simulation-known c latches inputs =
    let vs : List ℕ = c.inputs ++ map (λ latch. latch.var) c.latches in
    known-below (c.max + 1) (value3_through (length c.gates) c.gates (given3 c (map known latches) (map known inputs))) (value_through (length c.gates) c.gates (given_value c latches inputs))
    (known-through (length c.gates) c.gates (given3 c (map known latches) (map known inputs)) (given_value c latches inputs)
    (λ v. ap (λ xs. beside3 vs xs v) (sym (map-append known inputs latches)) ∙ known-beside vs (inputs ++ latches) v))

-- ---- completions

pub completion-becomes : (xs : List Value3) (bs : List Bool) → IsCompletion xs bs → MayAllBecome xs (map known bs)
completion-becomes [] [] h = tt
completion-becomes [] (b ∷ bs) h = absurd h
completion-becomes (x ∷ xs) [] h = absurd h
completion-becomes (x ∷ xs) (b ∷ bs) h = (h.0, completion-becomes xs bs h.1)

pub becomes-completion : (xs : List Value3) (bs : List Bool) → MayAllBecome xs (map known bs) → IsCompletion xs bs
becomes-completion [] [] h = tt
becomes-completion [] (b ∷ bs) h = absurd h
becomes-completion (x ∷ xs) [] h = absurd h
becomes-completion (x ∷ xs) (b ∷ bs) h = (h.0, becomes-completion xs bs h.1)

-- a value of the simulation that is not X is that of each completion
pub simulation-sound : (c : Circuit) (latches inputs : List Value3) (state input_values : List Bool) → IsCompletion latches state → IsCompletion inputs input_values → IsCompletion (simulation c latches inputs) (valuation c state input_values)
simulation-sound c latches inputs state input_values h k =
    becomes-completion (simulation c latches inputs) (valuation c state input_values)
    (subst (λ ys. MayAllBecome (simulation c latches inputs) ys) (simulation-known c state input_values)
    (simulation-becomes c latches inputs (map known state) (map known input_values) (completion-becomes latches state h) (completion-becomes inputs input_values k)))
