-- The laws of sections: as many lines as the header says.
use Rattle.std.proofs.Common.{◌≡◌, ℕ, zero, suc, ◌+◌, ◌*◌, ◌≤◌, List, [], ◌∷◌, ◌++◌, length, map, Ok, refl, sym, ap, subst, ◌∙◌, arith}
use Rattle.std.specs.List.{AllByRecursion, flat_map}
use Rattle.std.proofs.lemmas.List.Concat.{flat_map-cons}
use Rattle.aig_semantics.specs.declared.limits.TheConstants.{MAX_PROPERTY_LITERALS}
use Rattle.aiger_grammar.specs.declared.sections.Heading.{Heading}
use Rattle.aiger_grammar.specs.declared.sections.Properties.{Properties}
use Rattle.aiger_grammar.specs.Lines.{EndsLine, LinesOf, NumberedLines}
use Rattle.aiger_grammar.specs.Reading.{Reader, ◌>>=◌, many}
use Rattle.aiger_grammar.specs.Sections.{literal_at, size_at, literals_at, sizes_at, justice_at, properties_at}
use Rattle.aiger_sections.proofs.ReaderLaws.{Reads, Then, bind_ok, then_reads, done_reads, map_reads, said}
use Rattle.aiger_sections.proofs.LineLaws.{literal_reads, size_reads}

many_takes : {A : Type 0} {Line : ℕ → A → List ℕ → List ℕ → Type 0} (read : ℕ → Reader A) → ((k : ℕ) → Reads (read k) (Line k)) → (k n : ℕ) (xs : List A) (bytes rest : List ℕ) → many read k n bytes ≡ Ok (xs, rest)
    → (length xs ≡ n) × NumberedLines Line k xs bytes rest
unfolding many
many_takes {Line = Line} read law k zero xs bytes rest e =
    let p = (done_reads []).takes xs bytes rest e in
    subst (λ ys. (length ys ≡ 0) × NumberedLines Line k ys bytes rest) p.0 (refl, p.1)
many_takes {Line = Line} read law k (suc n) xs bytes rest e =
    let a = bind_ok (read k bytes) (λ x after. many read (k + 1) n after >>= λ ys end. Ok (x ∷ ys, end)) (xs, rest) e in
    let b = bind_ok (many read (k + 1) n a.1) (λ ys end. Ok (a.0 ∷ ys, end)) (xs, rest) a.3 in
    let p = (done_reads (a.0 ∷ b.0)).takes xs b.1 rest b.3 in
    let others = many_takes read law (k + 1) n b.0 a.1 b.1 b.2 in
    subst (λ ys. (length ys ≡ suc n) × NumberedLines Line k ys bytes rest) p.0
    (subst (λ end. (length (a.0 ∷ b.0) ≡ suc n) × NumberedLines Line k (a.0 ∷ b.0) bytes end) p.1 (ap suc others.0, (a.1, (law k).takes a.0 bytes a.1 a.2, others.1)))

many_again : {A : Type 0} {Line : ℕ → A → List ℕ → List ℕ → Type 0} (read : ℕ → Reader A) → ((k : ℕ) → Reads (read k) (Line k)) → (k n : ℕ) (xs : List A) (bytes rest : List ℕ)
    → length xs ≡ n → NumberedLines Line k xs bytes rest → many read k n bytes ≡ Ok (xs, rest)
unfolding many
many_again read law k zero [] bytes rest len s = ap (λ r. Ok ([], r)) s
many_again read law k zero (x ∷ xs) bytes rest len s = absurd (omega arith)
many_again read law k (suc n) [] bytes rest len s = absurd (omega arith)
many_again read law k (suc n) (x ∷ xs) bytes rest len s =
    ap (λ r. r >>= λ y after. many read (k + 1) n after >>= λ ys end. Ok (y ∷ ys, end)) ((law k).again x bytes s.0 s.1)
    ∙ ap (λ r. r >>= λ ys end. Ok (x ∷ ys, end)) (many_again read law (k + 1) n xs s.0 rest (omega arith) s.2)

pub many_reads : {A : Type 0} {Line : ℕ → A → List ℕ → List ℕ → Type 0} (read : ℕ → Reader A) (k n : ℕ) → ((i : ℕ) → Reads (read i) (Line i))
    → Reads (many read k n) (λ xs bytes rest. (length xs ≡ n) × NumberedLines Line k xs bytes rest)
many_reads read k n law = record {
  takes = λ xs bytes rest e. many_takes read law k n xs bytes rest e;
  again = λ xs bytes rest s. many_again read law k n xs bytes rest s.0 s.1;
}

-- lines that say nothing of their number, and what holds of each value beside its line
pub lines_split : {A : Type 0} (Line : A → List ℕ → List ℕ → Type 0) (P : A → Type 0) (k : ℕ) (xs : List A) (bytes rest : List ℕ)
    → NumberedLines (λ _ x before after. Line x before after × P x) k xs bytes rest → LinesOf Line xs bytes rest × AllByRecursion P xs
lines_split Line P k [] bytes rest s = (s, tt)
lines_split Line P k (x ∷ xs) bytes rest s = let p = lines_split Line P (k + 1) xs s.0 rest s.2 in ((s.0, s.1.0, p.0), (s.1.1, p.1))

pub lines_join : {A : Type 0} (Line : A → List ℕ → List ℕ → Type 0) (P : A → Type 0) (k : ℕ) (xs : List A) (bytes rest : List ℕ)
    → LinesOf Line xs bytes rest → AllByRecursion P xs → NumberedLines (λ _ x before after. Line x before after × P x) k xs bytes rest
lines_join Line P k [] bytes rest s all = s
lines_join Line P k (x ∷ xs) bytes rest s all = (s.0, (s.1, all.0), lines_join Line P (k + 1) xs s.0 rest s.2 all.1)

-- a section whose lines have such a law
abbrev pub Section : {A : Type 0} → (A → List ℕ → List ℕ → Type 0) → (A → Type 0) → ℕ → List A → List ℕ → List ℕ → Type 0
Section Line P n xs bytes rest = (length xs ≡ n) × LinesOf Line xs bytes rest × AllByRecursion P xs

pub section_reads : {A : Type 0} {Line : A → List ℕ → List ℕ → Type 0} {P : A → Type 0} (read : Reader A) (n : ℕ) → Reads read (λ x bytes rest. Line x bytes rest × P x)
    → Reads (many (λ _. read) 0 n) (Section Line P n)
section_reads {Line = Line} {P = P} read n law =
    said (many_reads (λ _. read) 0 n (λ _. law))
    (λ xs bytes rest s. let p = lines_split Line P 0 xs bytes rest s.1 in (s.0, p.0, p.1))
    (λ xs bytes rest s. (s.0, lines_join Line P 0 xs bytes rest s.1 s.2))

abbrev pub IsLiteral : ℕ → ℕ → Type 0
IsLiteral max n = n ≤ 2 * max + 1

abbrev pub Literals : ℕ → ℕ → List ℕ → List ℕ → List ℕ → Type 0
Literals max = Section EndsLine (IsLiteral max)

pub literals_read : (max total n : ℕ) → Reads (literals_at max total n) (Literals max n)
literals_read max total n = section_reads (literal_at max total) n (literal_reads max total)

abbrev pub IsSize : ℕ → ℕ → Type 0
IsSize fairness n = n + fairness ≤ MAX_PROPERTY_LITERALS

abbrev pub Sizes : Heading → List ℕ → List ℕ → List ℕ → Type 0
Sizes h = Section EndsLine (IsSize h.fairness) h.justice

pub sizes_read : (h : Heading) (total : ℕ) → Reads (sizes_at h total) (Sizes h)
sizes_read h total = section_reads (size_at h.fairness total) h.justice (size_reads h.fairness total)

-- ---- the literals of the properties

lines_append : {A : Type 0} (Line : A → List ℕ → List ℕ → Type 0) (xs ys : List A) (bytes mid rest : List ℕ) → LinesOf Line xs bytes mid → LinesOf Line ys mid rest → LinesOf Line (xs ++ ys) bytes rest
lines_append Line [] ys bytes mid rest s t = subst (λ b. LinesOf Line ys b rest) (sym s) t
lines_append Line (x ∷ xs) ys bytes mid rest s t = (s.0, s.1, lines_append Line xs ys s.0 mid rest s.2 t)

lines_cut : {A : Type 0} (Line : A → List ℕ → List ℕ → Type 0) (xs ys : List A) (bytes rest : List ℕ) → LinesOf Line (xs ++ ys) bytes rest → (mid : List ℕ) × LinesOf Line xs bytes mid × LinesOf Line ys mid rest
lines_cut Line [] ys bytes rest s = (bytes, refl, s)
lines_cut Line (x ∷ xs) ys bytes rest s = let p = lines_cut Line xs ys s.0 rest s.2 in (p.0, (s.0, s.1, p.1), p.2)

abbrev flat : List (List ℕ) → List ℕ
flat justice = flat_map (λ property. property) justice

-- properties of these sizes, one literal a line
abbrev pub Justice : ℕ → List ℕ → List (List ℕ) → List ℕ → List ℕ → Type 0
Justice max sizes justice bytes rest =
    (map length justice ≡ sizes) × LinesOf EndsLine (flat_map (λ property. property) justice) bytes rest × AllByRecursion (λ property. AllByRecursion (IsLiteral max) property) justice

justice_more : (max : ℕ) (property : List ℕ) (justice : List (List ℕ)) (size : ℕ) (sizes bytes mid rest : List ℕ) → Literals max size property bytes mid → Justice max sizes justice mid rest
    → Justice max (size ∷ sizes) (property ∷ justice) bytes rest
justice_more max property justice size sizes bytes mid rest s t = (
  ap (λ n. n ∷ map length justice) s.0 ∙ ap (λ ns. size ∷ ns) t.0,
  subst (λ ls. LinesOf EndsLine ls bytes rest) (sym (flat_map-cons (λ p. p) property justice)) (lines_append EndsLine property (flat justice) bytes mid rest s.1 t.1),
  (s.2, t.2),
)

justice_takes : (max total : ℕ) (sizes : List ℕ) (justice : List (List ℕ)) (bytes rest : List ℕ) → justice_at max total sizes bytes ≡ Ok (justice, rest) → Justice max sizes justice bytes rest
unfolding justice_at
justice_takes max total [] justice bytes rest e =
    let p = (done_reads []).takes justice bytes rest e in
    subst (λ j. Justice max [] j bytes rest) p.0 (refl, p.1, tt)
justice_takes max total (size ∷ sizes) justice bytes rest e =
    let a = bind_ok (literals_at max total size bytes) (λ x after. justice_at max total sizes after >>= λ ys end. Ok (x ∷ ys, end)) (justice, rest) e in
    let b = bind_ok (justice_at max total sizes a.1) (λ ys end. Ok (a.0 ∷ ys, end)) (justice, rest) a.3 in
    let p = (done_reads (a.0 ∷ b.0)).takes justice b.1 rest b.3 in
    let first = (literals_read max total size).takes a.0 bytes a.1 a.2 in
    let others = justice_takes max total sizes b.0 a.1 b.1 b.2 in
    subst (λ j. Justice max (size ∷ sizes) j bytes rest) p.0
    (subst (λ end. Justice max (size ∷ sizes) (a.0 ∷ b.0) bytes end) p.1 (justice_more max a.0 b.0 size sizes bytes a.1 b.1 first others))

heads : (n m : ℕ) (ns ms : List ℕ) → ◌≡◌ {A = List ℕ} (n ∷ ns) (m ∷ ms) → (n ≡ m) × (ns ≡ ms)
heads n m ns ms e = (cc, cc)

justice_again : (max total : ℕ) (sizes : List ℕ) (justice : List (List ℕ)) (bytes rest : List ℕ) → Justice max sizes justice bytes rest → justice_at max total sizes bytes ≡ Ok (justice, rest)
unfolding justice_at
justice_again max total [] [] bytes rest s = ap (λ r. Ok ([], r)) s.1
justice_again max total [] (p ∷ justice) bytes rest s = absurd (let e = s.0 in cc)
justice_again max total (size ∷ sizes) [] bytes rest s = absurd (let e = s.0 in cc)
justice_again max total (size ∷ sizes) (property ∷ justice) bytes rest s =
    let e = heads (length property) size (map length justice) sizes s.0 in
    let lines = subst (λ ls. LinesOf EndsLine ls bytes rest) (flat_map-cons (λ p. p) property justice) s.1 in
    let cut = lines_cut EndsLine property (flat justice) bytes rest lines in
    ap (λ r. r >>= λ y after. justice_at max total sizes after >>= λ ys end. Ok (y ∷ ys, end)) ((literals_read max total size).again property bytes cut.0 (e.0, cut.1, s.2.0))
    ∙ ap (λ r. r >>= λ ys end. Ok (property ∷ ys, end)) (justice_again max total sizes justice cut.0 rest (e.1, cut.2, s.2.1))

pub justice_reads : (max total : ℕ) (sizes : List ℕ) → Reads (justice_at max total sizes) (Justice max sizes)
justice_reads max total sizes = record {
  takes = λ justice bytes rest e. justice_takes max total sizes justice bytes rest e;
  again = λ justice bytes rest s. justice_again max total sizes justice bytes rest s;
}

-- ---- all sections of literals

abbrev made : List ℕ → List ℕ → List ℕ → List (List ℕ) → List ℕ → Properties
made outputs bad constraints justice fairness = record { outputs = outputs; bad = bad; constraints = constraints; justice = justice; fairness = fairness }

abbrev PropertiesRead : Heading → Properties → List ℕ → List ℕ → Type 0
PropertiesRead h =
    Then (Literals h.max h.outputs) (λ outputs. Then (Literals h.max h.bad) (λ bad. Then (Literals h.max h.constraints) (λ constraints.
    Then (Sizes h) (λ sizes. Then (Justice h.max sizes) (λ justice p bytes rest.
    (fairness : List ℕ) × Literals h.max h.fairness fairness bytes rest × (made outputs bad constraints justice fairness ≡ p))))))

properties_read : (h : Heading) (total : ℕ) → Reads (properties_at h total) (PropertiesRead h)
unfolding properties_at
properties_read h total =
    then_reads _ _ (literals_read h.max total h.outputs) (λ outputs.
    then_reads _ _ (literals_read h.max total h.bad) (λ bad.
    then_reads _ _ (literals_read h.max total h.constraints) (λ constraints.
    then_reads _ _ (sizes_read h total) (λ sizes.
    then_reads _ _ (justice_reads h.max total sizes) (λ justice.
    map_reads (literals_at h.max total h.fairness) (made outputs bad constraints justice) (literals_read h.max total h.fairness))))))

-- the sections of literals, each with its count, the range of its numbers and where it begins
pub record PropertyLines (h : Heading) (p : Properties) (bytes rest : List ℕ) : Type 0 where
  pub at_bad : List ℕ
  pub at_constraints : List ℕ
  pub at_sizes : List ℕ
  pub at_justice : List ℕ
  pub at_fairness : List ℕ
  pub outputs : Literals h.max h.outputs p.outputs bytes at_bad
  pub bad : Literals h.max h.bad p.bad at_bad at_constraints
  pub constraints : Literals h.max h.constraints p.constraints at_constraints at_sizes
  pub sizes : Sizes h (map length p.justice) at_sizes at_justice
  pub justice : Justice h.max (map length p.justice) p.justice at_justice at_fairness
  pub fairness : Literals h.max h.fairness p.fairness at_fairness rest

properties_there : (h : Heading) (p : Properties) (bytes rest : List ℕ) → PropertiesRead h p bytes rest → PropertyLines h p bytes rest
properties_there h p bytes rest s =
    let b = s.3 in
    let c = b.3 in
    let n = c.3 in
    let j = n.3 in
    let f = j.3 in
    let same : n.0 ≡ map length j.0 = sym j.2.0 in
    subst (λ q. PropertyLines h q bytes rest) f.2 (record {
      at_bad = s.1;
      at_constraints = b.1;
      at_sizes = c.1;
      at_justice = n.1;
      at_fairness = j.1;
      outputs = s.2;
      bad = b.2;
      constraints = c.2;
      sizes = subst (λ ns. Sizes h ns c.1 n.1) same n.2;
      justice = (refl, j.2.1, j.2.2);
      fairness = f.1;
    })

properties_back : (h : Heading) (p : Properties) (bytes rest : List ℕ) → PropertyLines h p bytes rest → PropertiesRead h p bytes rest
properties_back h p bytes rest s = (
  p.outputs,
  s.at_bad,
  s.outputs,
  (p.bad, s.at_constraints, s.bad, (p.constraints, s.at_sizes, s.constraints, (map length p.justice, s.at_justice, s.sizes, (p.justice, s.at_fairness, s.justice, (p.fairness, s.fairness, refl))))),
)

pub properties_reads : (h : Heading) (total : ℕ) → Reads (properties_at h total) (PropertyLines h)
properties_reads h total = said (properties_read h total) (properties_there h) (properties_back h)
