-- The laws of the lines of each section.
use Rattle.std.proofs.Common.{◌≡◌, ◌≢◌, ℕ, ◌+◌, ◌*◌, ◌≤◌, ◌⊎◌, Bool, true, false, ◌||◌, cond, eqb, leb, List, [], ◌∷◌, Result, Ok, Err, refl, sym, ap, subst, ◌∙◌, arith, inl, inr}
use Rattle.std.proofs.lemmas.Bool.{eqb-true, eq-eqb, eqb-false, ne_eqb, lt-leb}
use Rattle.std.proofs.Math.Bool.{or-true}
use Rattle.aig_semantics.specs.declared.limits.TheConstants.{MAX_NUMBER, MAX_PROPERTY_LITERALS}
use Rattle.aig_semantics.specs.declared.parts.Latch.{Latch}
use Rattle.aig_semantics.specs.declared.parts.Gate.{Gate}
use Rattle.aig_semantics.specs.declared.parts.Reset.{Reset}
use Rattle.aig_semantics.specs.declared.parts.Reset.TheVariants.{Zero, One, Free}
use Rattle.aig_semantics.specs.Literals.{variable_of}
use Rattle.text_grammar.specs.Numerals.{IsNumeral, IsField}
use Rattle.circuit.specs.declared.faults.ModelFault.{ModelFault}
use Rattle.aiger_grammar.specs.declared.sections.Test.TheVariants as tests
use Rattle.aiger_grammar.specs.Lines.{BeforeSpace, EndsLine, InputLine, LatchEnd, LatchLine, GateLine, reset_number}
use Rattle.aiger_grammar.specs.Reading.{◌>>=◌, unfit, passes, field_at}
use Rattle.aiger_grammar.specs.Sections.{input_at, reset_of, reset_at, next_at, latch_at, literal_at, size_at, gate_at}
use Rattle.aiger_sections.proofs.ReaderLaws.{Reads, Then, bind_ok, then_reads, done_reads, map_reads, said}
use Rattle.aiger_sections.proofs.FieldLaws.{Passing, PassingField, IsVariable, value_reads, field_reads, variable_passes, passes_variable, literal_passes, passes_literal, size_passes, passes_size}

variable_is : (max n v : ℕ) → passes (tests.Variable max) n ≡ true → variable_of n ≡ v → (n ≡ 2 * v) × IsVariable max v
variable_is max n v pass same =
    let p = variable_passes max n pass in
    let twice : 2 * variable_of n ≡ n = p.0 in
    let low : 1 ≤ variable_of n = p.1.0 in
    let high : variable_of n ≤ max = p.1.1 in
    (omega arith, (omega arith, omega arith))

input_there : (max v : ℕ) (bytes rest : List ℕ) → (n : ℕ) × PassingField (tests.Variable max) 10 n bytes rest × (variable_of n ≡ v) → InputLine v bytes rest × IsVariable max v
input_there max v bytes rest s =
    let p = variable_is max s.0 v s.1.1 s.2 in
    (subst (λ n. IsField MAX_NUMBER n 10 bytes rest) p.0 s.1.0, p.1)

pub input_reads : (max total : ℕ) → Reads (input_at max total) (λ v bytes rest. InputLine v bytes rest × IsVariable max v)
unfolding input_at
input_reads max total =
    said (map_reads (field_at (tests.Variable max) 10 total) variable_of (field_reads (tests.Variable max) 10 total)) (input_there max)
    (λ v bytes rest s. let p = passes_variable max v s.1 in (2 * v, (s.0, p.0), p.1))

pub literal_reads : (max total : ℕ) → Reads (literal_at max total) (λ n bytes rest. EndsLine n bytes rest × (n ≤ 2 * max + 1))
unfolding literal_at
literal_reads max total =
    said (field_reads (tests.Literal max) 10 total)
    (λ n bytes rest s. (s.0, literal_passes max n s.1))
    (λ n bytes rest s. (s.0, passes_literal max n s.1))

pub size_reads : (fairness total : ℕ) → Reads (size_at fairness total) (λ n bytes rest. EndsLine n bytes rest × (n + fairness ≤ MAX_PROPERTY_LITERALS))
unfolding size_at
size_reads fairness total =
    said (field_reads (tests.Size fairness) 10 total)
    (λ n bytes rest s. (s.0, size_passes fairness n s.1))
    (λ n bytes rest s. (s.0, passes_size fairness n s.1))

-- ---- a gate

pub record GateFits (max : ℕ) (gate : Gate) : Type 0 where
  pub variable : IsVariable max gate.var
  pub first : gate.rhs0 ≤ 2 * max + 1
  pub second : gate.rhs1 ≤ 2 * max + 1

abbrev made_gate : ℕ → ℕ → ℕ → Gate
made_gate literal first second = record { var = variable_of literal; rhs0 = first; rhs1 = second }

abbrev GateRead : ℕ → Gate → List ℕ → List ℕ → Type 0
GateRead max =
    Then (PassingField (tests.Variable max) 32) (λ literal. Then (PassingField (tests.Literal max) 32)
    (λ first gate bytes rest. (second : ℕ) × PassingField (tests.Literal max) 10 second bytes rest × (made_gate literal first second ≡ gate)))

gate_read : (max total : ℕ) → Reads (gate_at max total) (GateRead max)
unfolding gate_at
gate_read max total =
    then_reads _ _ (field_reads (tests.Variable max) 32 total) (λ literal.
    then_reads _ _ (field_reads (tests.Literal max) 32 total) (λ first.
    map_reads (field_at (tests.Literal max) 10 total) (made_gate literal first) (field_reads (tests.Literal max) 10 total)))

gate_there : (max : ℕ) (gate : Gate) (bytes rest : List ℕ) → GateRead max gate bytes rest → GateLine gate bytes rest × GateFits max gate
gate_there max gate bytes rest s =
    let p = variable_is max s.0 (variable_of s.0) s.2.1 refl in
    let t = s.3 in
    let u = t.3 in
    subst (λ g. GateLine g bytes rest × GateFits max g) u.2 (
      (s.1, t.1, subst (λ l. BeforeSpace l bytes s.1) p.0 s.2.0, t.2.0, u.1.0),
      record { variable = p.1; first = literal_passes max t.0 t.2.1; second = literal_passes max u.0 u.1.1 },
    )

gate_back : (max : ℕ) (gate : Gate) (bytes rest : List ℕ) → GateLine gate bytes rest × GateFits max gate → GateRead max gate bytes rest
gate_back max gate bytes rest s =
    let p = passes_variable max gate.var s.1.variable in
    let same : made_gate (2 * gate.var) gate.rhs0 gate.rhs1 ≡ gate = ap (λ v. record { var = v; rhs0 = gate.rhs0; rhs1 = gate.rhs1 }) p.1 in
    (2 * gate.var, s.0.0, (s.0.2, p.0), (gate.rhs0, s.0.1, (s.0.3, passes_literal max gate.rhs0 s.1.first), (gate.rhs1, (s.0.4, passes_literal max gate.rhs1 s.1.second), same)))

pub gate_reads : (max total : ℕ) → Reads (gate_at max total) (λ gate bytes rest. GateLine gate bytes rest × GateFits max gate)
gate_reads max total = said (gate_read max total) (gate_there max) (gate_back max)

-- ---- a latch

-- a line feed, or a space, the reset and a line feed
abbrev pub ResetEnd : ℕ → Reset → List ℕ → List ℕ → Type 0
ResetEnd literal r bytes rest =
    ((r ≡ Zero) × (bytes ≡ 10 ∷ rest))
    ⊎ ((n : ℕ) × (reset : List ℕ) × (bytes ≡ 32 ∷ reset) × EndsLine n reset rest × (passes (tests.Reset literal) n ≡ true) × (reset_of n ≡ r))

-- the reader of a reset, by the tests of the byte in front
shown_reset : ℕ → ℕ → List ℕ → Result (Reset × List ℕ) ModelFault
shown_reset literal total rest = field_at (tests.Reset literal) 10 total rest >>= λ n after. Ok (reset_of n, after)

by_byte : Bool → Bool → ℕ → ℕ → ℕ → List ℕ → Result (Reset × List ℕ) ModelFault
by_byte feed space literal total b rest = cond feed (Ok (Zero, rest)) (cond space (shown_reset literal total rest) (Err (unfit total (b ∷ rest))))

shown_reads : (literal total : ℕ) → Reads (shown_reset literal total) (λ r bytes rest. (n : ℕ) × (EndsLine n bytes rest × (passes (tests.Reset literal) n ≡ true)) × (reset_of n ≡ r))
unfolding shown_reset
shown_reads literal total = map_reads (field_at (tests.Reset literal) 10 total) reset_of (field_reads (tests.Reset literal) 10 total)

byte_takes : (feed space : Bool) (literal total b : ℕ) (bytes rest : List ℕ) (r : Reset) → eqb b 10 ≡ feed → eqb b 32 ≡ space → by_byte feed space literal total b bytes ≡ Ok (r, rest)
    → ResetEnd literal r (b ∷ bytes) rest
unfolding by_byte
byte_takes true space literal total b bytes rest r is_feed is_space e =
    let p = (done_reads Zero).takes r bytes rest e in
    inl (sym p.0, ap (λ n. n ∷ bytes) (eqb-true b 10 is_feed) ∙ ap (λ t. 10 ∷ t) p.1)
byte_takes false true literal total b bytes rest r is_feed is_space e =
    let p = (shown_reads literal total).takes r bytes rest e in
    inr (p.0, bytes, ap (λ n. n ∷ bytes) (eqb-true b 32 is_space), p.1.0, p.1.1, p.2)
byte_takes false false literal total b bytes rest r is_feed is_space e = absurd cc

reset_takes : (literal total : ℕ) (bytes rest : List ℕ) (r : Reset) → reset_at literal total bytes ≡ Ok (r, rest) → ResetEnd literal r bytes rest
unfolding reset_at by_byte shown_reset
reset_takes literal total [] rest r e = absurd cc
reset_takes literal total (b ∷ bytes) rest r e = byte_takes (eqb b 10) (eqb b 32) literal total b bytes rest r refl refl e

reset_again : (literal total : ℕ) (bytes rest : List ℕ) (r : Reset) → ResetEnd literal r bytes rest → reset_at literal total bytes ≡ Ok (r, rest)
unfolding reset_at shown_reset
reset_again literal total bytes rest r (inl s) = ap (reset_at literal total) s.1 ∙ ap (λ z. Ok (z, rest)) (sym s.0)
reset_again literal total bytes rest r (inr s) = ap (reset_at literal total) s.2 ∙ (shown_reads literal total).again r s.1 rest (s.0, (s.3, s.4), s.5)

reset_reads : (literal total : ℕ) → Reads (reset_at literal total) (ResetEnd literal)
reset_reads literal total = record { takes = λ r bytes rest e. reset_takes literal total bytes rest r e; again = λ r bytes rest s. reset_again literal total bytes rest r s }

-- the reset of a number, by its tests for 0 and 1
abbrev chosen : Bool → Bool → Reset
chosen is_zero is_one = cond is_zero Zero (cond is_one One Free)

by_number : (v n : ℕ) (first second : Bool) → eqb n 0 ≡ first → eqb n 1 ≡ second → passes (tests.Reset (2 * v)) n ≡ true → n ≡ reset_number v (chosen first second)
by_number v n true one is_zero is_one pass = eqb-true n 0 is_zero
by_number v n false true is_zero is_one pass = eqb-true n 1 is_one
by_number v n false false is_zero is_one pass =
    let low : leb n 1 ≡ false = lt-leb n 1 (let above_0 : n ≢ 0 = eqb-false n 0 is_zero in let above_1 : n ≢ 1 = eqb-false n 1 is_one in omega arith) in
    eqb-true n (2 * v) (sym (ap (λ t. t || eqb n (2 * v)) low) ∙ pass)

-- the number of a reset, and the reset of a number
reset_is : (v n : ℕ) (r : Reset) → 1 ≤ v → passes (tests.Reset (2 * v)) n ≡ true → reset_of n ≡ r → n ≡ reset_number v r
reset_is v n r some pass same = subst (λ q. n ≡ reset_number v q) same (by_number v n (eqb n 0) (eqb n 1) refl refl pass)

number_is : (v : ℕ) (r : Reset) → 1 ≤ v → (passes (tests.Reset (2 * v)) (reset_number v r) ≡ true) × (reset_of (reset_number v r) ≡ r)
number_is v Zero some = (refl, refl)
number_is v One some = (refl, refl)
number_is v Free some =
    let at_literal : eqb (2 * v) (2 * v) ≡ true = eq-eqb (2 * v) (2 * v) refl in
    let above_0 : eqb (2 * v) 0 ≡ false = ne_eqb (2 * v) 0 (omega arith) in
    let above_1 : eqb (2 * v) 1 ≡ false = ne_eqb (2 * v) 1 (omega arith) in
    (ap (λ t. leb (2 * v) 1 || t) at_literal ∙ or-true (leb (2 * v) 1), ap (λ t. chosen t (eqb (2 * v) 1)) above_0 ∙ ap (chosen false) above_1)

abbrev made_latch : ℕ → ℕ → Reset → Latch
made_latch literal next reset = record { var = variable_of literal; next = next; reset = reset }

tail_there : (latch : Latch) (bytes behind rest : List ℕ) → 1 ≤ latch.var → IsNumeral MAX_NUMBER latch.next bytes behind → ResetEnd (2 * latch.var) latch.reset behind rest
    → LatchEnd latch bytes rest
tail_there latch bytes behind rest some next (inl s) = inl (s.0, subst (λ b. IsNumeral MAX_NUMBER latch.next bytes b) s.1 next)
tail_there latch bytes behind rest some next (inr s) =
    let n = reset_is latch.var s.0 latch.reset some s.4 s.5 in
    inr (s.1, subst (λ b. IsNumeral MAX_NUMBER latch.next bytes b) s.2 next, subst (λ m. EndsLine m s.1 rest) n s.3)

tail_back : (latch : Latch) (bytes rest : List ℕ) → 1 ≤ latch.var → LatchEnd latch bytes rest
    → (behind : List ℕ) × IsNumeral MAX_NUMBER latch.next bytes behind × ResetEnd (2 * latch.var) latch.reset behind rest
tail_back latch bytes rest some (inl s) = (10 ∷ rest, s.1, inl (s.0, refl))
tail_back latch bytes rest some (inr s) =
    let p = number_is latch.var latch.reset some in
    (32 ∷ s.0, s.1, inr (reset_number latch.var latch.reset, s.0, refl, s.2, p.0, p.1))

abbrev NextRead : ℕ → ℕ → Latch → List ℕ → List ℕ → Type 0
NextRead v max =
    Then (Passing (tests.Literal max))
    (λ next latch bytes rest. (reset : Reset) × ResetEnd (2 * v) reset bytes rest × (made_latch (2 * v) next reset ≡ latch))

-- the end of the line of the latch with variable v
abbrev pub NextOf : ℕ → ℕ → Latch → List ℕ → List ℕ → Type 0
NextOf v max latch bytes rest = (latch.var ≡ v) × LatchEnd latch bytes rest × (latch.next ≤ 2 * max + 1)

next_read : (v max total : ℕ) → Reads (next_at (2 * v) max total) (NextRead v max)
unfolding next_at
next_read v max total =
    then_reads _ _ (value_reads (tests.Literal max) total) (λ next.
    map_reads (reset_at (2 * v) total) (made_latch (2 * v) next) (reset_reads (2 * v) total))

half : (v : ℕ) → variable_of (2 * v) ≡ v
half v = omega arith

next_there : (v max : ℕ) → 1 ≤ v → (latch : Latch) (bytes rest : List ℕ) → NextRead v max latch bytes rest → NextOf v max latch bytes rest
next_there v max some latch bytes rest s =
    let next = s.0 in
    let t = s.3 in
    let plain : Latch = record { var = v; next = next; reset = t.0 } in
    let same : plain ≡ latch = ap (λ u. record { var = u; next = next; reset = t.0 }) (sym (half v)) ∙ t.2 in
    subst (λ l. NextOf v max l bytes rest) same (refl, tail_there plain bytes s.1 rest some s.2.0 t.1, literal_passes max next s.2.1)

next_back : (v max : ℕ) → 1 ≤ v → (latch : Latch) (bytes rest : List ℕ) → NextOf v max latch bytes rest → NextRead v max latch bytes rest
next_back v max some latch bytes rest s =
    let plain : Latch = record { var = v; next = latch.next; reset = latch.reset } in
    let same : latch ≡ plain = ap (λ u. record { var = u; next = latch.next; reset = latch.reset }) s.0 in
    let tail = tail_back plain bytes rest some (subst (λ l. LatchEnd l bytes rest) same s.1) in
    let made : made_latch (2 * v) latch.next latch.reset ≡ latch = ap (λ u. record { var = u; next = latch.next; reset = latch.reset }) (half v ∙ sym s.0) in
    (latch.next, tail.0, (tail.1, passes_literal max latch.next s.2), (latch.reset, tail.2, made))

pub next_reads : (v max total : ℕ) → 1 ≤ v → Reads (next_at (2 * v) max total) (NextOf v max)
next_reads v max total some = said (next_read v max total) (next_there v max some) (next_back v max some)

pub record LatchFits (max : ℕ) (latch : Latch) : Type 0 where
  pub variable : IsVariable max latch.var
  pub next : latch.next ≤ 2 * max + 1

latch_takes : (max total : ℕ) (latch : Latch) (bytes rest : List ℕ) → latch_at max total bytes ≡ Ok (latch, rest) → LatchLine latch bytes rest × LatchFits max latch
unfolding latch_at
latch_takes max total latch bytes rest e =
    let b = bind_ok (field_at (tests.Variable max) 32 total bytes) (λ literal after. next_at literal max total after) (latch, rest) e in
    let f = (field_reads (tests.Variable max) 32 total).takes b.0 bytes b.1 b.2 in
    let p = variable_is max b.0 (variable_of b.0) f.1 refl in
    let v = variable_of b.0 in
    let n = (next_reads v max total p.1.0).takes latch b.1 rest (subst (λ l. next_at l max total b.1 ≡ Ok (latch, rest)) p.0 b.3) in
    let fits : IsVariable max latch.var = subst (IsVariable max) (sym n.0) p.1 in (
      (b.1, subst (λ u. BeforeSpace (2 * u) bytes b.1) (sym n.0) (subst (λ l. BeforeSpace l bytes b.1) p.0 f.0), n.1),
      record { variable = fits; next = n.2 },
    )

latch_again : (max total : ℕ) (latch : Latch) (bytes rest : List ℕ) → LatchLine latch bytes rest × LatchFits max latch → latch_at max total bytes ≡ Ok (latch, rest)
unfolding latch_at
latch_again max total latch bytes rest s =
    let p = passes_variable max latch.var s.1.variable in
    ap (λ r. r >>= λ literal after. next_at literal max total after) ((field_reads (tests.Variable max) 32 total).again (2 * latch.var) bytes s.0.0 (s.0.1, p.0))
    ∙ (next_reads latch.var max total s.1.variable.0).again latch s.0.0 rest (refl, s.0.2, s.1.next)

pub latch_reads : (max total : ℕ) → Reads (latch_at max total) (λ latch bytes rest. LatchLine latch bytes rest × LatchFits max latch)
latch_reads max total = record { takes = λ latch bytes rest e. latch_takes max total latch bytes rest e; again = λ latch bytes rest s. latch_again max total latch bytes rest s }
