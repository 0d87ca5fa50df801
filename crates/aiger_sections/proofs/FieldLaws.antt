-- The laws of numbers, fields and bytes of a model's text.
use Rattle.std.proofs.Common.{◌≡◌, ◌≢◌, ℕ, ◌+◌, ◌*◌, ◌%◌, ◌<◌, ◌≤◌, Bool, true, false, not, ◌&&◌, cond, eqb, leb, ltb, List, [], ◌∷◌, Option, Some, None, Ok, Err, refl, sym, ap, subst, ◌∙◌, arith, lit<, true≢false}
use Rattle.std.proofs.lemmas.Bool.{eqb-true, eq-eqb, leb-true, le-leb, ltb-true, lt-ltb, eqb-false, ne_eqb}
use Rattle.aig_semantics.specs.declared.limits.TheConstants.{MAX_NUMBER, MAX_PROPERTY_LITERALS}
use Rattle.aig_semantics.specs.Literals.{variable_of, is_negated}
use Rattle.circuit.specs.declared.faults.ModelFault.{ModelFault}
use Rattle.text_grammar.specs.Numerals.{IsNumeral, IsField, number_at}
use Rattle.text_grammar.proofs.NumeralLaws.{read_stands, stands_read, both}
use Rattle.aiger_grammar.specs.declared.sections.Test.{Test}
use Rattle.aiger_grammar.specs.declared.sections.Test.TheVariants as tests
use Rattle.aiger_grammar.specs.Reading.{Reader, ◌>>=◌, place, unfit, or_unfit, numeral_at, byte_at, passes, test_fault, value_at, field_at}
use Rattle.aiger_sections.proofs.ReaderLaws.{Reads, then_reads, done_reads, map_reads, said}

or_ok : {A : Type 0} (total : ℕ) (bytes : List ℕ) (o : Option A) (y : A) → or_unfit total bytes o ≡ Ok y → o ≡ Some y
or_ok total bytes (Some x) y e = cc
or_ok total bytes None y e = absurd cc

pub numeral_reads : (total : ℕ) → Reads (numeral_at total) (λ n bytes rest. IsNumeral MAX_NUMBER n bytes rest)
unfolding numeral_at
numeral_reads total = record {
  takes = λ n bytes rest e. read_stands MAX_NUMBER n bytes rest (lit< tt) (or_ok total bytes (number_at MAX_NUMBER bytes) (n, rest) e);
  again = λ n bytes rest s. ap (or_unfit total bytes) (stands_read MAX_NUMBER n bytes rest (lit< tt) s);
}

-- a test without a byte, with the fault where it fails
pub test_reads : {A : Type 0} (t : Bool) (x : A) (fault : List ℕ → ModelFault) → Reads (λ bytes. cond t (Ok (x, bytes)) (Err (fault bytes))) (λ y bytes rest. (t ≡ true) × (x ≡ y) × (bytes ≡ rest))
test_reads true x fault = let law = done_reads x in record {
  takes = λ y bytes rest e. let p = law.takes y bytes rest e in (refl, p.0, p.1);
  again = λ y bytes rest s. law.again y bytes rest (s.1, s.2);
}
test_reads false x fault = record { takes = λ y bytes rest e. absurd cc; again = λ y bytes rest s. absurd (true≢false (sym s.0)) }

byte_takes : (byte total : ℕ) (bytes rest : List ℕ) (x : Unit {0}) → byte_at byte total bytes ≡ Ok (x, rest) → bytes ≡ byte ∷ rest
unfolding byte_at
byte_takes byte total [] rest x e = absurd cc
byte_takes byte total (b ∷ bytes) rest x e =
    let p = (test_reads (eqb b byte) tt (λ _. unfit total (b ∷ bytes))).takes x bytes rest e in
    ap (λ n. n ∷ bytes) (eqb-true b byte p.0) ∙ ap (λ r. byte ∷ r) p.2

byte_again : (byte total : ℕ) (bytes rest : List ℕ) (x : Unit {0}) → bytes ≡ byte ∷ rest → byte_at byte total bytes ≡ Ok (x, rest)
unfolding byte_at
byte_again byte total bytes rest x s = ap (byte_at byte total) s ∙ ap (λ t. cond t (Ok (x, rest)) (Err (unfit total (byte ∷ rest)))) (eq-eqb byte byte refl)

pub byte_reads : (byte total : ℕ) → Reads (byte_at byte total) (λ _ bytes rest. bytes ≡ byte ∷ rest)
byte_reads byte total = record { takes = λ x bytes rest e. byte_takes byte total bytes rest x e; again = λ x bytes rest s. byte_again byte total bytes rest x s }

-- a number that passes the test stands in front
abbrev pub Passing : Test → ℕ → List ℕ → List ℕ → Type 0
Passing test n bytes rest = IsNumeral MAX_NUMBER n bytes rest × (passes test n ≡ true)

value_takes : (test : Test) (total n : ℕ) (bytes rest : List ℕ) → value_at test total bytes ≡ Ok (n, rest) → Passing test n bytes rest
unfolding value_at
value_takes test total n bytes rest e =
    let law = then_reads (numeral_at total) (λ m after. cond (passes test m) (Ok (m, after)) (Err (test_fault test (place total bytes)))) (numeral_reads total) (λ m. test_reads (passes test m) m (λ _. test_fault test (place total bytes))) in
    let s = law.takes n bytes rest e in
    subst (λ m. Passing test m bytes rest) s.3.1 (subst (λ r. IsNumeral MAX_NUMBER s.0 bytes r) s.3.2 s.2, s.3.0)

value_again : (test : Test) (total n : ℕ) (bytes rest : List ℕ) → Passing test n bytes rest → value_at test total bytes ≡ Ok (n, rest)
unfolding value_at
value_again test total n bytes rest s =
    let law = then_reads (numeral_at total) (λ m after. cond (passes test m) (Ok (m, after)) (Err (test_fault test (place total bytes)))) (numeral_reads total) (λ m. test_reads (passes test m) m (λ _. test_fault test (place total bytes))) in
    law.again n bytes rest (n, rest, s.0, (s.1, refl, refl))

pub value_reads : (test : Test) (total : ℕ) → Reads (value_at test total) (Passing test)
value_reads test total = record { takes = λ n bytes rest e. value_takes test total n bytes rest e; again = λ n bytes rest s. value_again test total n bytes rest s }

-- behind a value a byte
pub behind_reads : {A : Type 0} {Stands : A → List ℕ → List ℕ → Type 0} (read : Reader A) (stop total : ℕ) → Reads read Stands
    → Reads (λ bytes. read bytes >>= λ x after. byte_at stop total after >>= λ _ rest. Ok (x, rest)) (λ x bytes rest. Stands x bytes (stop ∷ rest))
behind_reads {Stands = Stands} read stop total law = said (then_reads _ _ law (λ x. map_reads (byte_at stop total) (λ _. x) (byte_reads stop total)))
    (λ x bytes rest s. subst (λ y. Stands y bytes (stop ∷ rest)) s.3.2 (subst (λ r. Stands s.0 bytes r) s.3.1 s.2))
    (λ x bytes rest s. (x, stop ∷ rest, s, (tt, refl, refl)))

-- a number that passes the test, and the byte that ends it
abbrev pub PassingField : Test → ℕ → ℕ → List ℕ → List ℕ → Type 0
PassingField test stop n bytes rest = IsField MAX_NUMBER n stop bytes rest × (passes test n ≡ true)

pub field_reads : (test : Test) (stop total : ℕ) → Reads (field_at test stop total) (PassingField test stop)
unfolding field_at
field_reads test stop total = behind_reads (value_at test total) stop total (value_reads test total)

-- ---- what the tests say

not-true : (b : Bool) → not b ≡ true → b ≡ false
not-true true e = sym e
not-true false e = refl

-- a variable of a circuit whose greatest is max
abbrev pub IsVariable : ℕ → ℕ → Type 0
IsVariable max v = (1 ≤ v) × (v ≤ max)

-- an even number above 0 of a variable up to max is twice that variable
pub variable_passes : (max n : ℕ) → passes (tests.Variable max) n ≡ true → (2 * variable_of n ≡ n) × IsVariable max (variable_of n)
variable_passes max n pass =
    let a = both (not (is_negated n)) (ltb 0 n && leb (variable_of n) max) pass in
    let b = both (ltb 0 n) (leb (variable_of n) max) a.1 in
    let even : eqb (n % 2) 1 ≡ false = not-true (eqb (n % 2) 1) a.0 in
    let odd : n % 2 ≢ 1 = eqb-false (n % 2) 1 even in
    let some : 0 < n = ltb-true 0 n b.0 in
    (omega arith, (omega arith, leb-true _ _ b.1))

pub passes_variable : (max v : ℕ) → IsVariable max v → (passes (tests.Variable max) (2 * v) ≡ true) × (variable_of (2 * v) ≡ v)
passes_variable max v fits =
    let low = fits.0 in
    let high = fits.1 in
    let even : eqb ((2 * v) % 2) 1 ≡ false = ne_eqb _ _ (omega arith) in
    let half : variable_of (2 * v) ≡ v = omega arith in (
      ap (λ t. not t && (ltb 0 (2 * v) && leb (variable_of (2 * v)) max)) even
          ∙ ap (λ t. t && leb (variable_of (2 * v)) max) (lt-ltb 0 (2 * v) (omega arith))
          ∙ le-leb (variable_of (2 * v)) max (omega arith),
      half,
    )

pub literal_passes : (max n : ℕ) → passes (tests.Literal max) n ≡ true → n ≤ 2 * max + 1
literal_passes max n pass = let low : variable_of n ≤ max = leb-true _ _ pass in omega arith

pub passes_literal : (max n : ℕ) → n ≤ 2 * max + 1 → passes (tests.Literal max) n ≡ true
passes_literal max n low = le-leb (variable_of n) max (omega arith)

pub size_passes : (fairness n : ℕ) → passes (tests.Size fairness) n ≡ true → n + fairness ≤ MAX_PROPERTY_LITERALS
size_passes fairness n pass = leb-true _ _ pass

pub passes_size : (fairness n : ℕ) → n + fairness ≤ MAX_PROPERTY_LITERALS → passes (tests.Size fairness) n ≡ true
passes_size fairness n low = le-leb _ _ low
