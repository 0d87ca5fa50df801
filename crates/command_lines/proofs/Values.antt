-- The values of a command are a request of it, or are none; and they are one at most.
use Rattle.std.specs.Prelude.{Option, None, Some}
use Rattle.std.proofs.Common.{◌≡◌, ◌⊎◌, inl, inr, ℕ, ◌<◌, ◌^◌, Bool, true, false, List, refl, sym, ◌∙◌, ap, ap₂, subst, arith, codes}
use Rattle.std.specs.Str.{bytes_eq}
use Rattle.std.specs.Str.Parse.{digits_value, without_leading_plus}
use Rattle.std.proofs.lemmas.Bool.{false≢true}
use Rattle.std.proofs.lemmas.Slice.Eq.{bytes_eq-Decides}
use Rattle.clap.specs.Walk.{Row, first_of}
use Rattle.clap.specs.Values.{IsUnsignedIn}
use Rattle.clap.specs.ValueTests.{is_unsigned_in}
use Rattle.clap.specs.declared.builder.value_parser.ValueParser.TheVariants.{Unsigned}
use Rattle.clap.proofs.ValueTestLemmas.{accepts-Accepts, Accepts-accepts}
use Rattle.command_lines.specs.declared.commands.generating.GenKind.{GenKind}
use Rattle.command_lines.specs.declared.commands.generating.GenKind.TheVariants.{Ring, Scramble}
use Rattle.command_lines.specs.declared.commands.generating.GenRequest.{GenRequest}
use Rattle.command_lines.specs.declared.commands.solving.SolveRequest.{SolveRequest}
use Rattle.command_lines.specs.declared.commands.demonstrating.DemoRequest.{DemoRequest}
use Rattle.command_lines.specs.declared.commands.counting.RoundsRequest.{RoundsRequest}
use Rattle.command_lines.specs.Commands.{Request, Solve, Rounds}
use Rattle.command_lines.specs.Words.{IsGiven, given_in, IsNumberIn, IsNumberGiven, IsNumberOr, flag_in}
use Rattle.command_lines.specs.Check.{MeansCheck}
use Rattle.command_lines.specs.Solve.{MeansSolve}
use Rattle.command_lines.specs.Gen.{name_of_kind, MeansGen}
use Rattle.command_lines.specs.Demo.{MeansDemo}
use Rattle.command_lines.specs.Safety.{MeansSafety}
use Rattle.command_lines.specs.Rounds.{MeansRounds}

-- something has the property, or nothing
abbrev pub SomeOrNone : {A : Type 0} → (A → Type 0) → Type 0
SomeOrNone {A} P = ((x : A) × P x) ⊎ ((x : A) → P x → ⊥)

kind_or_none : (name : List ℕ) → SomeOrNone (λ (kind : GenKind). name ≡ name_of_kind kind)
kind_or_none name = by (bytes_eq name (codes "ring")) (bytes_eq name (codes "scramble")) refl refl
  where
    neither : bytes_eq name (codes "ring") ≡ false → bytes_eq name (codes "scramble") ≡ false → (kind : GenKind) → name ≡ name_of_kind kind → ⊥
    neither e f Ring same = false≢true (sym e ∙ (bytes_eq-Decides name (codes "ring")).1 same)
    neither e f Scramble same = false≢true (sym f ∙ (bytes_eq-Decides name (codes "scramble")).1 same)

    by : (a b : Bool) → bytes_eq name (codes "ring") ≡ a → bytes_eq name (codes "scramble") ≡ b → SomeOrNone (λ (kind : GenKind). name ≡ name_of_kind kind)
    by true b e f = inl (Ring, (bytes_eq-Decides name (codes "ring")).0 e)
    by false true e f = inl (Scramble, (bytes_eq-Decides name (codes "scramble")).0 f)
    by false false e f = inr (neither e f)

number_or_none : (low high : ℕ) (text : List ℕ) → high < 2 ^ 64 → SomeOrNone (IsNumberIn low high text)
number_or_none low high text small = by (is_unsigned_in low high text) refl
  where
    within : (n : ℕ) → IsNumberIn low high text n → IsUnsignedIn low high text
    within n h = (h.numeral, omega (arith, h.value, h.most, small), omega (arith, h.value, h.least), omega (arith, h.value, h.most))

    by : (t : Bool) → is_unsigned_in low high text ≡ t → SomeOrNone (IsNumberIn low high text)
    by true e =
        let h : IsUnsignedIn low high text = accepts-Accepts false (Unsigned low high) text e in
        inl (digits_value 10 (without_leading_plus text), record { numeral = h.0; value = refl; least = h.2; most = h.3 })
    by false e = inr (λ n h. false≢true (sym e ∙ Accepts-accepts false (Unsigned low high) text (within n h)))

-- of what is given under a name
given_or_none : {A : Type 0} (P : List ℕ → A → Type 0) (given : Option (List ℕ)) → ((text : List ℕ) → SomeOrNone (P text))
    → SomeOrNone (λ (x : A). (text : List ℕ) × (given ≡ Some text) × P text x)
given_or_none P None each = inr (λ x h. (let wrong = h.1 in cc))
given_or_none P (Some text) each = by (each text)
  where
    by : SomeOrNone (P text) → SomeOrNone (λ x. (other : List ℕ) × (Some text ≡ Some other) × P other x)
    by (inl found) = inl (found.0, (text, refl, found.1))
    by (inr none) = inr (λ x h. (let same : h.0 ≡ text = cc in none x (subst (λ (t : List ℕ). P t x) same h.2)))

pub number_given_or_none : (rows : List Row) (name : List ℕ) (low high : ℕ) → high < 2 ^ 64 → SomeOrNone (IsNumberGiven rows name low high)
number_given_or_none rows name low high small =
    given_or_none (λ text n. IsNumberIn low high text n) (first_of name rows) (λ text. number_or_none low high text small)

-- ---- `gen`

pub request_or_none : (rows : List Row) → SomeOrNone (MeansGen rows)
request_or_none rows =
    by (given_or_none (λ text kind. text ≡ name_of_kind kind) (first_of (codes "KIND") rows) kind_or_none)
    (number_given_or_none rows (codes "SEED") 0 4294967295 (omega arith)) (number_given_or_none rows (codes "SIZE") 1 256 (omega arith))
  where
    by : SomeOrNone (λ (kind : GenKind). (text : List ℕ) × IsGiven rows (codes "KIND") text × (text ≡ name_of_kind kind))
        → SomeOrNone (IsNumberGiven rows (codes "SEED") 0 4294967295) → SomeOrNone (IsNumberGiven rows (codes "SIZE") 1 256) → SomeOrNone (MeansGen rows)
    by (inl kind) (inl seed) (inl size) = inl (
      record { kind = kind.0; seed = seed.0; size = size.0; binary = flag_in rows (codes "binary") },
      record { kind_name = kind.1.1 ∙ ap (λ (text : List ℕ). Some text) kind.1.2; seed_number = seed.1; size_number = size.1; form = refl },
    )
    by (inr none) seed size = inr (λ request h. none request.kind (name_of_kind request.kind, h.kind_name, refl))
    by (inl kind) (inr none) size = inr (λ request h. none request.seed h.seed_number)
    by (inl kind) (inl seed) (inr none) = inr (λ request h. none request.size h.size_number)

apart : (a b : List ℕ) → bytes_eq a b ≡ false → a ≡ b → ⊥
apart a b e same = false≢true (sym e ∙ (bytes_eq-Decides a b).1 same)

pub one_text : (o : Option (List ℕ)) (a b : List ℕ) → o ≡ Some a → o ≡ Some b → a ≡ b
one_text o a b e f = let same : Some a ≡ Some b = sym e ∙ f in cc

one_kind : (a b : GenKind) → name_of_kind a ≡ name_of_kind b → a ≡ b
one_kind Ring Ring e = refl
one_kind Scramble Scramble e = refl
one_kind Ring Scramble e = absurd (apart (codes "ring") (codes "scramble") refl e)
one_kind Scramble Ring e = absurd (apart (codes "scramble") (codes "ring") refl e)

pub one_number : (rows : List Row) (name : List ℕ) (low high n m : ℕ) → IsNumberGiven rows name low high n → IsNumberGiven rows name low high m → n ≡ m
one_number rows name low high n m a b =
    let same : a.0 ≡ b.0 = one_text (first_of name rows) a.0 b.0 a.1 b.1 in
    sym a.2.value ∙ ap (λ (text : List ℕ). digits_value 10 (without_leading_plus text)) same ∙ b.2.value

same_request : (a b : GenRequest) → a.kind ≡ b.kind → a.seed ≡ b.seed → a.size ≡ b.size → a.binary ≡ b.binary → a ≡ b
same_request a b k s z f = λ i. record { kind = k i; seed = s i; size = z i; binary = f i }

pub one_request : (rows : List Row) (a b : GenRequest) → MeansGen rows a → MeansGen rows b → a ≡ b
one_request rows a b h k =
    same_request a b (one_kind a.kind b.kind (one_text (first_of (codes "KIND") rows) (name_of_kind a.kind) (name_of_kind b.kind) h.kind_name k.kind_name))
    (one_number rows (codes "SEED") 0 4294967295 a.seed b.seed h.seed_number k.seed_number)
    (one_number rows (codes "SIZE") 1 256 a.size b.size h.size_number k.size_number) (sym h.form ∙ k.form)

-- ---- `check`

pub names_or_none : (rows : List Row) → SomeOrNone (λ (names : List ℕ × List ℕ). MeansCheck rows names.0 names.1)
names_or_none rows = by (first_of (codes "MODEL") rows) (first_of (codes "ANSWER") rows) refl refl
  where
    by : (m a : Option (List ℕ)) → first_of (codes "MODEL") rows ≡ m → first_of (codes "ANSWER") rows ≡ a
        → SomeOrNone (λ (names : List ℕ × List ℕ). MeansCheck rows names.0 names.1)
    by (Some model) (Some answer) e f = inl ((model, answer), record { model_name = e; answer_name = f })
    by None a e f = inr (λ names h. (let wrong : None ≡ Some names.0 = sym e ∙ h.model_name in cc))
    by (Some model) None e f = inr (λ names h. (let wrong : None ≡ Some names.1 = sym f ∙ h.answer_name in cc))

-- ---- `solve`

-- a number that is given, or its default
pub number_or_none_given : (rows : List Row) (name : List ℕ) (low high default : ℕ) → high < 2 ^ 64 → SomeOrNone (IsNumberOr rows name low high default)
number_or_none_given rows name low high default small = by (first_of name rows) refl
  where
    of_text : (text : List ℕ) → first_of name rows ≡ Some text → SomeOrNone (IsNumberIn low high text) → SomeOrNone (IsNumberOr rows name low high default)
    of_text text e (inl found) = inl (found.0, inr (text, e, found.1))
    of_text text e (inr none) = inr (λ n h. elim h [
      | inl absent ↦ (let wrong : Some text ≡ None = sym e ∙ absent.0 in cc)
      | inr given ↦ none n (subst (λ (t : List ℕ). IsNumberIn low high t n) (one_text (first_of name rows) given.0 text given.1 e) given.2)
    ])

    by : (given : Option (List ℕ)) → first_of name rows ≡ given → SomeOrNone (IsNumberOr rows name low high default)
    by None e = inl (default, inl (e, refl))
    by (Some text) e = of_text text e (number_or_none low high text small)

pub one_number_or : (rows : List Row) (name : List ℕ) (low high default n m : ℕ) → IsNumberOr rows name low high default n → IsNumberOr rows name low high default m → n ≡ m
one_number_or rows name low high default n m (inl a) (inl b) = a.1 ∙ sym b.1
one_number_or rows name low high default n m (inl a) (inr b) = let wrong : None ≡ Some b.0 = sym a.0 ∙ b.1 in cc
one_number_or rows name low high default n m (inr a) (inl b) = let wrong : Some a.0 ≡ None = sym a.1 ∙ b.0 in cc
one_number_or rows name low high default n m (inr a) (inr b) = one_number rows name low high n m a b

-- the names and the request of `solve`
abbrev pub Asks : Type 0
Asks = List ℕ × SolveRequest × Option (List ℕ)

pub solve_or_none : (rows : List Row) → SomeOrNone (λ (asks : Asks). MeansSolve rows asks.0 asks.1 asks.2)
solve_or_none rows =
    by (first_of (codes "MODEL") rows) refl (number_or_none_given rows (codes "property") 0 4294967295 0 (omega arith))
    (number_or_none_given rows (codes "workers") 1 64 1 (omega arith)) (number_or_none_given rows (codes "conflicts") 0 4294967295 1000000 (omega arith))
    (number_or_none_given rows (codes "steps") 0 4294967295 100000 (omega arith)) (number_or_none_given rows (codes "skeletons") 0 65536 10000 (omega arith))
    (number_or_none_given rows (codes "lassos") 0 63 0 (omega arith)) (number_or_none_given rows (codes "depth") 0 65536 100 (omega arith))
  where
    by : (m : Option (List ℕ)) → first_of (codes "MODEL") rows ≡ m → SomeOrNone (IsNumberOr rows (codes "property") 0 4294967295 0)
        → SomeOrNone (IsNumberOr rows (codes "workers") 1 64 1) → SomeOrNone (IsNumberOr rows (codes "conflicts") 0 4294967295 1000000)
        → SomeOrNone (IsNumberOr rows (codes "steps") 0 4294967295 100000) → SomeOrNone (IsNumberOr rows (codes "skeletons") 0 65536 10000)
        → SomeOrNone (IsNumberOr rows (codes "lassos") 0 63 0) → SomeOrNone (IsNumberOr rows (codes "depth") 0 65536 100)
        → SomeOrNone (λ (asks : Asks). MeansSolve rows asks.0 asks.1 asks.2)
    by (Some model) e (inl p) (inl w) (inl c) (inl s) (inl k) (inl l) (inl d) = inl (
      (
        model,
        record {
          property = p.0;
          workers = w.0;
          conflicts = c.0;
          steps = s.0;
          skeletons = k.0;
          lassos = l.0;
          depth = d.0;
          all = flag_in rows (codes "all");
        },
        given_in rows (codes "resume"),
      ),
      record {
        model_name = e;
        property = p.1;
        workers = w.1;
        conflicts = c.1;
        steps = s.1;
        skeletons = k.1;
        lassos = l.1;
        depth = d.1;
        each = refl;
        answer_name = refl;
      },
    )
    by None e p w c s k l d = inr (λ asks h. (let wrong : None ≡ Some asks.0 = sym e ∙ h.model_name in cc))
    by (Some model) e (inr none) w c s k l d = inr (λ asks h. none asks.1.property h.property)
    by (Some model) e (inl p) (inr none) c s k l d = inr (λ asks h. none asks.1.workers h.workers)
    by (Some model) e (inl p) (inl w) (inr none) s k l d = inr (λ asks h. none asks.1.conflicts h.conflicts)
    by (Some model) e (inl p) (inl w) (inl c) (inr none) k l d = inr (λ asks h. none asks.1.steps h.steps)
    by (Some model) e (inl p) (inl w) (inl c) (inl s) (inr none) l d = inr (λ asks h. none asks.1.skeletons h.skeletons)
    by (Some model) e (inl p) (inl w) (inl c) (inl s) (inl k) (inr none) d = inr (λ asks h. none asks.1.lassos h.lassos)
    by (Some model) e (inl p) (inl w) (inl c) (inl s) (inl k) (inl l) (inr none) = inr (λ asks h. none asks.1.depth h.depth)

same_solve : (m n : List ℕ) (a b : SolveRequest) (r q : Option (List ℕ)) → m ≡ n → r ≡ q → a.property ≡ b.property → a.workers ≡ b.workers
    → a.conflicts ≡ b.conflicts → a.steps ≡ b.steps → a.skeletons ≡ b.skeletons → a.lassos ≡ b.lassos → a.depth ≡ b.depth → a.all ≡ b.all
    → Solve m a r ≡ Solve n b q
same_solve m n a b r q e f p w c s k n_lassos d l =
    λ i. Solve (e i) (record {
      property = p i;
      workers = w i;
      conflicts = c i;
      steps = s i;
      skeletons = k i;
      lassos = n_lassos i;
      depth = d i;
      all = l i;
    }) (f i)

pub one_solve : (rows : List Row) (m n : List ℕ) (a b : SolveRequest) (r q : Option (List ℕ)) → MeansSolve rows m a r → MeansSolve rows n b q
    → Solve m a r ≡ Solve n b q
one_solve rows m n a b r q h k =
    same_solve m n a b r q (one_text (first_of (codes "MODEL") rows) m n h.model_name k.model_name) (sym h.answer_name ∙ k.answer_name)
    (one_number_or rows (codes "property") 0 4294967295 0 a.property b.property h.property k.property)
    (one_number_or rows (codes "workers") 1 64 1 a.workers b.workers h.workers k.workers)
    (one_number_or rows (codes "conflicts") 0 4294967295 1000000 a.conflicts b.conflicts h.conflicts k.conflicts)
    (one_number_or rows (codes "steps") 0 4294967295 100000 a.steps b.steps h.steps k.steps)
    (one_number_or rows (codes "skeletons") 0 65536 10000 a.skeletons b.skeletons h.skeletons k.skeletons)
    (one_number_or rows (codes "lassos") 0 63 0 a.lassos b.lassos h.lassos k.lassos)
    (one_number_or rows (codes "depth") 0 65536 100 a.depth b.depth h.depth k.depth) (sym h.each ∙ k.each)

-- ---- `demo`

pub demo_or_none : (rows : List Row) → SomeOrNone (MeansDemo rows)
demo_or_none rows =
    by (number_given_or_none rows (codes "SEED") 0 4294967295 (omega arith)) (number_given_or_none rows (codes "SIZE") 1 256 (omega arith))
  where
    by : SomeOrNone (IsNumberGiven rows (codes "SEED") 0 4294967295) → SomeOrNone (IsNumberGiven rows (codes "SIZE") 1 256) → SomeOrNone (MeansDemo rows)
    by (inl seed) (inl size) = inl (record { seed = seed.0; size = size.0 }, record { seed_number = seed.1; size_number = size.1 })
    by (inr none) size = inr (λ request h. none request.seed h.seed_number)
    by (inl seed) (inr none) = inr (λ request h. none request.size h.size_number)

same_demo : (a b : DemoRequest) → a.seed ≡ b.seed → a.size ≡ b.size → a ≡ b
same_demo a b s z = λ i. record { seed = s i; size = z i }

pub one_demo : (rows : List Row) (a b : DemoRequest) → MeansDemo rows a → MeansDemo rows b → a ≡ b
one_demo rows a b h k =
    same_demo a b (one_number rows (codes "SEED") 0 4294967295 a.seed b.seed h.seed_number k.seed_number)
    (one_number rows (codes "SIZE") 1 256 a.size b.size h.size_number k.size_number)

-- two names, of a command that has them
pub one_pair : (rows : List Row) (form : List ℕ → List ℕ → Request) (a b : List ℕ × List ℕ) → MeansCheck rows a.0 a.1 → MeansCheck rows b.0 b.1 → form a.0 a.1 ≡ form b.0 b.1
one_pair rows form a b h k =
    ap₂ form (one_text (first_of (codes "MODEL") rows) a.0 b.0 h.model_name k.model_name) (one_text (first_of (codes "ANSWER") rows) a.1 b.1 h.answer_name k.answer_name)

-- ---- `safety`, and `slice`

-- the name and the number of such a command
abbrev pub Wants : Type 0
Wants = List ℕ × ℕ

pub safety_or_none : (rows : List Row) → SomeOrNone (λ (wants : Wants). MeansSafety rows wants.0 wants.1)
safety_or_none rows = by (first_of (codes "MODEL") rows) refl (number_or_none_given rows (codes "property") 0 4294967295 0 (omega arith))
  where
    by : (m : Option (List ℕ)) → first_of (codes "MODEL") rows ≡ m → SomeOrNone (IsNumberOr rows (codes "property") 0 4294967295 0)
        → SomeOrNone (λ (wants : Wants). MeansSafety rows wants.0 wants.1)
    by (Some model) e (inl p) = inl ((model, p.0), record { model_name = e; number = p.1 })
    by None e p = inr (λ wants h. (let wrong : None ≡ Some wants.0 = sym e ∙ h.model_name in cc))
    by (Some model) e (inr none) = inr (λ wants h. none wants.1 h.number)

pub one_wanted : (rows : List Row) (form : List ℕ → ℕ → Request) (a b : Wants) → MeansSafety rows a.0 a.1 → MeansSafety rows b.0 b.1 → form a.0 a.1 ≡ form b.0 b.1
one_wanted rows form a b h k =
    ap₂ form (one_text (first_of (codes "MODEL") rows) a.0 b.0 h.model_name k.model_name)
    (one_number_or rows (codes "property") 0 4294967295 0 a.1 b.1 h.number k.number)

-- ---- `rounds`

-- the name and the request of `rounds`
abbrev pub AsksRounds : Type 0
AsksRounds = List ℕ × RoundsRequest

pub rounds_or_none : (rows : List Row) → SomeOrNone (λ (asks : AsksRounds). MeansRounds rows asks.0 asks.1)
rounds_or_none rows =
    by (first_of (codes "MODEL") rows) refl (number_given_or_none rows (codes "K") 1 64 (omega arith))
    (number_or_none_given rows (codes "property") 0 4294967295 0 (omega arith)) (number_or_none_given rows (codes "conflicts") 0 4294967295 1000000 (omega arith))
    (number_or_none_given rows (codes "steps") 0 4294967295 100000 (omega arith))
  where
    by : (m : Option (List ℕ)) → first_of (codes "MODEL") rows ≡ m → SomeOrNone (IsNumberGiven rows (codes "K") 1 64)
        → SomeOrNone (IsNumberOr rows (codes "property") 0 4294967295 0) → SomeOrNone (IsNumberOr rows (codes "conflicts") 0 4294967295 1000000)
        → SomeOrNone (IsNumberOr rows (codes "steps") 0 4294967295 100000) → SomeOrNone (λ (asks : AsksRounds). MeansRounds rows asks.0 asks.1)
    by (Some model) e (inl k) (inl p) (inl c) (inl s) = inl (
      (model, record { k = k.0; property = p.0; conflicts = c.0; steps = s.0 }),
      record { model_name = e; rounds = k.1; property = p.1; conflicts = c.1; steps = s.1 },
    )
    by None e k p c s = inr (λ asks h. (let wrong : None ≡ Some asks.0 = sym e ∙ h.model_name in cc))
    by (Some model) e (inr none) p c s = inr (λ asks h. none asks.1.k h.rounds)
    by (Some model) e (inl k) (inr none) c s = inr (λ asks h. none asks.1.property h.property)
    by (Some model) e (inl k) (inl p) (inr none) s = inr (λ asks h. none asks.1.conflicts h.conflicts)
    by (Some model) e (inl k) (inl p) (inl c) (inr none) = inr (λ asks h. none asks.1.steps h.steps)

same_rounds : (m n : List ℕ) (a b : RoundsRequest) → m ≡ n → a.k ≡ b.k → a.property ≡ b.property → a.conflicts ≡ b.conflicts
    → a.steps ≡ b.steps → Rounds m a ≡ Rounds n b
same_rounds m n a b e k p c s = λ i. Rounds (e i) (record { k = k i; property = p i; conflicts = c i; steps = s i })

pub one_rounds : (rows : List Row) (m n : List ℕ) (a b : RoundsRequest) → MeansRounds rows m a → MeansRounds rows n b → Rounds m a ≡ Rounds n b
one_rounds rows m n a b h k =
    same_rounds m n a b (one_text (first_of (codes "MODEL") rows) m n h.model_name k.model_name)
    (one_number rows (codes "K") 1 64 a.k b.k h.rounds k.rounds)
    (one_number_or rows (codes "property") 0 4294967295 0 a.property b.property h.property k.property)
    (one_number_or rows (codes "conflicts") 0 4294967295 1000000 a.conflicts b.conflicts h.conflicts k.conflicts)
    (one_number_or rows (codes "steps") 0 4294967295 100000 a.steps b.steps h.steps k.steps)
