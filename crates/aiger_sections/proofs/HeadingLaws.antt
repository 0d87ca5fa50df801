-- The law of the first line.
use Rattle.std.proofs.Common.{◌≡◌, ℕ, zero, suc, ◌-◌, ◌≤◌, ◌⊎◌, Bool, true, false, eqb, cond, List, [], ◌∷◌, length, take, drop, Result, Ok, Err, refl, sym, ap, subst, ◌∙◌, arith, inl, inr}
use Rattle.std.specs.List.{AllByRecursion}
use Rattle.std.proofs.lemmas.Bool.{eqb-true}
use Rattle.std.proofs.lemmas.List.Elements.{All-from_recursion, recursion_from_All}
use Rattle.aig_semantics.specs.declared.limits.TheConstants.{MAX_NUMBER}
use Rattle.text_grammar.specs.Numerals.{IsNumeral}
use Rattle.circuit.specs.declared.faults.ModelFault.{ModelFault}
use Rattle.circuit.specs.declared.faults.ModelFault.TheVariants as faults
use Rattle.aiger_grammar.specs.declared.sections.Heading.{Heading}
use Rattle.aiger_grammar.specs.Lines.{HeaderLine, Numbers}
use Rattle.aiger_grammar.specs.Reading.{byte_at, numeral_at}
use Rattle.aiger_grammar.specs.Headers.{word_at, shown_at, optional_at, numbers_at, first_line_at, as_header, heading_at}
use Rattle.aiger_sections.proofs.ReaderLaws.{Reads, Then, then_reads, done_reads, map_reads, said}
use Rattle.aiger_sections.proofs.FieldLaws.{numeral_reads, byte_reads}

abbrev Shown : ℕ → List ℕ → List ℕ → Type 0
Shown n bytes rest = (number : List ℕ) × (bytes ≡ 32 ∷ number) × IsNumeral MAX_NUMBER n number rest

shown_reads : (total : ℕ) → Reads (shown_at total) Shown
unfolding shown_at
shown_reads total =
    said (then_reads _ _ (byte_reads 32 total) (λ _. numeral_reads total))
    (λ n bytes rest s. (s.1, s.2, s.3))
    (λ n bytes rest s. (tt, s.0, s.1, s.2))

-- ---- a number that may be left out

abbrev begins_with_space : List ℕ → Bool
begins_with_space [] = false
begins_with_space (b ∷ bytes) = eqb b 32

abbrev LeftOut : ℕ → List ℕ → List ℕ → Type 0
LeftOut n bytes rest = (n ≡ 0) × (bytes ≡ rest) × (begins_with_space bytes ≡ false)

abbrev Optional : ℕ → List ℕ → List ℕ → Type 0
Optional n bytes rest = Shown n bytes rest ⊎ LeftOut n bytes rest

abbrev by_space : Bool → ℕ → ℕ → List ℕ → Result (ℕ × List ℕ) ModelFault
by_space space total b bytes = cond space (numeral_at total bytes) (Ok (0, b ∷ bytes))

space_takes : (space : Bool) (total b n : ℕ) (bytes rest : List ℕ) → eqb b 32 ≡ space → by_space space total b bytes ≡ Ok (n, rest) → Optional n (b ∷ bytes) rest
space_takes true total b n bytes rest is_space e = inl (bytes, ap (λ c. c ∷ bytes) (eqb-true b 32 is_space), (numeral_reads total).takes n bytes rest e)
space_takes false total b n bytes rest is_space e = let p = (done_reads 0).takes n (b ∷ bytes) rest e in inr (sym p.0, p.1, is_space)

optional_takes : (total n : ℕ) (bytes rest : List ℕ) → optional_at total bytes ≡ Ok (n, rest) → Optional n bytes rest
unfolding optional_at
optional_takes total n [] rest e = let p = (done_reads 0).takes n [] rest e in inr (sym p.0, p.1, refl)
optional_takes total n (b ∷ bytes) rest e = space_takes (eqb b 32) total b n bytes rest refl e

left_out_again : (total n : ℕ) (bytes rest : List ℕ) → LeftOut n bytes rest → optional_at total bytes ≡ Ok (n, rest)
unfolding optional_at
left_out_again total n [] rest s = (done_reads 0).again n [] rest (sym s.0, s.1)
left_out_again total n (b ∷ bytes) rest s = ap (λ t. by_space t total b bytes) s.2 ∙ (done_reads 0).again n (b ∷ bytes) rest (sym s.0, s.1)

optional_again : (total n : ℕ) (bytes rest : List ℕ) → Optional n bytes rest → optional_at total bytes ≡ Ok (n, rest)
unfolding optional_at
optional_again total n bytes rest (inl s) = ap (optional_at total) s.1 ∙ (numeral_reads total).again n s.0 rest s.2
optional_again total n bytes rest (inr s) = left_out_again total n bytes rest s

optional_reads : (total : ℕ) → Reads (optional_at total) Optional
optional_reads total = record { takes = λ n bytes rest e. optional_takes total n bytes rest e; again = λ n bytes rest s. optional_again total n bytes rest s }

-- such numbers, and the end of the line
abbrev Optionals : List ℕ → List ℕ → List ℕ → Type 0
Optionals [] bytes rest = bytes ≡ 10 ∷ rest
Optionals (n ∷ ns) bytes rest = (mid : List ℕ) × Optional n bytes mid × Optionals ns mid rest

abbrev AreZero : List ℕ → Type 0
AreZero = AllByRecursion (λ n. n ≡ 0)

stays : (n : ℕ) (bytes mid : List ℕ) → begins_with_space bytes ≡ false → Optional n bytes mid → (n ≡ 0) × (bytes ≡ mid)
stays n bytes mid other (inl s) = absurd (let e : true ≡ false = ap begins_with_space (sym s.1) ∙ other in cc)
stays n bytes mid other (inr s) = (s.0, s.1)

left_out_all : (ns bytes rest : List ℕ) → begins_with_space bytes ≡ false → Optionals ns bytes rest → AreZero ns × (bytes ≡ 10 ∷ rest)
left_out_all [] bytes rest other s = (tt, s)
left_out_all (n ∷ ns) bytes rest other s =
    let p = stays n bytes s.0 other s.1 in
    let q = left_out_all ns s.0 rest (subst (λ b. begins_with_space b ≡ false) p.1 other) s.2 in
    ((p.0, q.0), p.1 ∙ q.1)

-- the first numbers are shown, and all others are 0
abbrev FirstShown : List ℕ → List ℕ → List ℕ → Type 0
FirstShown ns bytes rest = (k : ℕ) × (k ≤ length ns) × AreZero (drop k ns) × Numbers (take k ns) bytes rest

one_more_shown : (n : ℕ) (ns bytes mid rest : List ℕ) → Optional n bytes mid → Optionals ns mid rest → FirstShown ns mid rest → FirstShown (n ∷ ns) bytes rest
one_more_shown n ns bytes mid rest (inl s) others p =
    let low = p.1 in
    (suc p.0, omega arith, p.2, (s.0, mid, s.1, s.2, p.3))
one_more_shown n ns bytes mid rest (inr s) others p =
    let q = left_out_all ns bytes rest s.2 (subst (λ b. Optionals ns b rest) (sym s.1) others) in
    (0, omega arith, (s.0, q.0), q.1)

first_shown : (ns bytes rest : List ℕ) → Optionals ns bytes rest → FirstShown ns bytes rest
first_shown [] bytes rest s = (0, omega arith, tt, s)
first_shown (n ∷ ns) bytes rest s = one_more_shown n ns bytes s.0 rest s.1 s.2 (first_shown ns s.0 rest s.2)

all_left_out : (ns bytes rest : List ℕ) → AreZero ns → bytes ≡ 10 ∷ rest → Optionals ns bytes rest
all_left_out [] bytes rest zeros e = e
all_left_out (n ∷ ns) bytes rest zeros e = (bytes, inr (zeros.0, refl, ap begins_with_space e), all_left_out ns bytes rest zeros.1 e)

shown_first : (k : ℕ) (ns bytes rest : List ℕ) → k ≤ length ns → AreZero (drop k ns) → Numbers (take k ns) bytes rest → Optionals ns bytes rest
shown_first zero ns bytes rest low zeros s = all_left_out ns bytes rest zeros s
shown_first (suc k) [] bytes rest low zeros s = absurd (omega arith)
shown_first (suc k) (n ∷ ns) bytes rest low zeros s = (s.1, inl (s.0, s.2, s.3), shown_first k ns s.1 rest (omega arith) zeros s.4)

-- ---- the line

abbrev heading : ℕ → ℕ → ℕ → ℕ → ℕ → ℕ → ℕ → ℕ → ℕ → Heading
heading max inputs latches outputs gates bad constraints justice fairness = record {
  max = max;
  inputs = inputs;
  latches = latches;
  outputs = outputs;
  gates = gates;
  bad = bad;
  constraints = constraints;
  justice = justice;
  fairness = fairness;
}

abbrev NumbersRead : Heading → List ℕ → List ℕ → Type 0
NumbersRead =
    Then Shown (λ max. Then Shown (λ inputs. Then Shown (λ latches. Then Shown (λ outputs. Then Shown (λ gates.
    Then Optional (λ bad. Then Optional (λ constraints. Then Optional (λ justice. Then Optional (λ fairness h bytes rest.
    (x : Unit {0}) × (bytes ≡ 10 ∷ rest) × (heading max inputs latches outputs gates bad constraints justice fairness ≡ h))))))))))

numbers_read : (total : ℕ) → Reads (numbers_at total) NumbersRead
unfolding numbers_at
numbers_read total =
    then_reads _ _ (shown_reads total) (λ max. then_reads _ _ (shown_reads total) (λ inputs. then_reads _ _ (shown_reads total) (λ latches.
    then_reads _ _ (shown_reads total) (λ outputs. then_reads _ _ (shown_reads total) (λ gates. then_reads _ _ (optional_reads total) (λ bad. then_reads _ _ (optional_reads total) (λ constraints.
    then_reads _ _ (optional_reads total) (λ justice. then_reads _ _ (optional_reads total) (λ fairness.
    map_reads (byte_at 10 total) (λ _. heading max inputs latches outputs gates bad constraints justice fairness) (byte_reads 10 total))))))))))

abbrev Word : ℕ → Unit {0} → List ℕ → List ℕ → Type 0
Word letter _ bytes rest = bytes ≡ 97 ∷ letter ∷ 103 ∷ rest

word_reads : (letter total : ℕ) → Reads (word_at (97 ∷ letter ∷ 103 ∷ []) total) (Word letter)
unfolding word_at
word_reads letter total =
    said (then_reads _ _ (byte_reads 97 total) (λ _. then_reads _ _ (byte_reads letter total) (λ _. then_reads _ _ (byte_reads 103 total) (λ _. done_reads tt))))
    (λ x bytes rest s. s.2 ∙ ap (λ r. 97 ∷ r) (s.3.2 ∙ ap (λ r. letter ∷ r) (s.3.3.2 ∙ ap (λ r. 103 ∷ r) s.3.3.3.1)))
    (λ x bytes rest s. (tt, letter ∷ 103 ∷ rest, s, (tt, 103 ∷ rest, refl, (tt, rest, refl, (refl, refl)))))

-- the numbers of a header in their order
abbrev pub numbers_of : Heading → List ℕ
numbers_of h = h.max ∷ h.inputs ∷ h.latches ∷ h.outputs ∷ h.gates ∷ h.bad ∷ h.constraints ∷ h.justice ∷ h.fairness ∷ []

-- the first line, however many of its numbers are shown
abbrev pub HeadingLine : ℕ → Heading → List ℕ → List ℕ → Type 0
HeadingLine letter h bytes rest = (shown : ℕ) × HeaderLine (97 ∷ letter ∷ 103 ∷ []) (numbers_of h) shown bytes rest

abbrev LineRead : ℕ → Heading → List ℕ → List ℕ → Type 0
LineRead letter = Then (Word letter) (λ _. NumbersRead)

line_read : (letter total : ℕ) → Reads (first_line_at (97 ∷ letter ∷ 103 ∷ []) total) (LineRead letter)
unfolding first_line_at
line_read letter total = then_reads _ _ (word_reads letter total) (λ _. numbers_read total)

line_there : (letter : ℕ) (h : Heading) (bytes rest : List ℕ) → LineRead letter h bytes rest → HeadingLine letter h bytes rest
line_there letter h bytes rest s =
    let a = s.3 in
    let b = a.3 in
    let c = b.3 in
    let d = c.3 in
    let e = d.3 in
    let f = e.3 in
    let g = f.3 in
    let k = g.3 in
    let l = k.3 in
    let ns = f.0 ∷ g.0 ∷ k.0 ∷ l.0 ∷ [] in
    let q = first_shown ns e.1 rest (f.1, f.2, (g.1, g.2, (k.1, k.2, (l.1, l.2, l.3.1)))) in
    let low = q.1 in
    subst (λ x. HeadingLine letter x bytes rest) l.3.2 (
      suc (suc (suc (suc (suc q.0)))),
      record {
        numbers_at = s.1;
        at_least = omega arith;
        at_most = omega arith;
        left_out = All-from_recursion (λ n. n ≡ 0) (drop q.0 ns) q.2;
        word_first = s.2;
        numbers_next = (a.2.0, a.1, a.2.1, a.2.2, (b.2.0, b.1, b.2.1, b.2.2, (c.2.0, c.1, c.2.1, c.2.2, (d.2.0, d.1, d.2.1, d.2.2, (e.2.0, e.1, e.2.1, e.2.2, q.3)))));
      },
    )

five_and : (shown : ℕ) → 5 ≤ shown → (k : ℕ) × (shown ≡ suc (suc (suc (suc (suc k)))))
five_and shown low = (shown - 5, omega arith)

line_back_by : (letter k : ℕ) (h : Heading) (bytes rest : List ℕ) → HeaderLine (97 ∷ letter ∷ 103 ∷ []) (numbers_of h) (suc (suc (suc (suc (suc k))))) bytes rest → LineRead letter h bytes rest
line_back_by letter k h bytes rest s =
    let ns = h.bad ∷ h.constraints ∷ h.justice ∷ h.fairness ∷ [] in
    let a = s.numbers_next in
    let b = a.4 in
    let c = b.4 in
    let d = c.4 in
    let e = d.4 in
    let most = s.at_most in
    let o = shown_first k ns e.1 rest (omega arith) (recursion_from_All (λ n. n ≡ 0) (drop k ns) s.left_out) e.4 in
    let p = o.2 in
    let q = p.2 in
    let r = q.2 in (
      tt,
      s.numbers_at,
      s.word_first,
      (
        h.max,
        a.1,
        (a.0, a.2, a.3),
        (
          h.inputs,
          b.1,
          (b.0, b.2, b.3),
          (
            h.latches,
            c.1,
            (c.0, c.2, c.3),
            (
              h.outputs,
              d.1,
              (d.0, d.2, d.3),
              (
                h.gates,
                e.1,
                (e.0, e.2, e.3),
                (h.bad, o.0, o.1, (h.constraints, p.0, p.1, (h.justice, q.0, q.1, (h.fairness, r.0, r.1, (tt, r.2, refl))))),
              ),
            ),
          ),
        ),
      ),
    )

line_back : (letter : ℕ) (h : Heading) (bytes rest : List ℕ) → HeadingLine letter h bytes rest → LineRead letter h bytes rest
line_back letter h bytes rest s =
    let k = five_and s.0 s.1.at_least in
    line_back_by letter k.0 h bytes rest (subst (λ n. HeaderLine (97 ∷ letter ∷ 103 ∷ []) (numbers_of h) n bytes rest) k.1 s.1)

as_header_ok : {A : Type 0} (r : Result A ModelFault) (x : A) → as_header r ≡ Ok x → r ≡ Ok x
as_header_ok (Ok y) x e = e
as_header_ok (Err (faults.Number at)) x e = absurd cc
as_header_ok (Err (faults.Header at)) x e = absurd cc
as_header_ok (Err (faults.Range at)) x e = absurd cc
as_header_ok (Err (faults.Undefined at)) x e = absurd cc
as_header_ok (Err (faults.Twice at)) x e = absurd cc
as_header_ok (Err (faults.Cycle at)) x e = absurd cc
as_header_ok (Err (faults.Truncated at)) x e = absurd cc
as_header_ok (Err (faults.Limit at)) x e = absurd cc
as_header_ok (Err (faults.Trailing at)) x e = absurd cc
as_header_ok (Err (faults.Symbol at)) x e = absurd cc

pub heading_reads : (letter total : ℕ) → Reads (heading_at (97 ∷ letter ∷ 103 ∷ []) total) (HeadingLine letter)
unfolding heading_at
heading_reads letter total = record {
  takes = λ h bytes rest e. line_there letter h bytes rest ((line_read letter total).takes h bytes rest (as_header_ok (first_line_at (97 ∷ letter ∷ 103 ∷ []) total bytes) (h, rest) e));
  again = λ h bytes rest s. ap as_header ((line_read letter total).again h bytes rest (line_back letter h bytes rest s));
}
