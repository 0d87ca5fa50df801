-- The values of `shortest` are a name and a request, or are none; and they are one at most.
use Rattle.std.proofs.Common.{◌≡◌, inl, inr, List, ℕ, Option, None, Some, refl, sym, ◌∙◌, arith, codes}
use Rattle.clap.specs.Walk.{Row, first_of}
use Rattle.command_lines.specs.declared.commands.bounding.ShortestRequest.{ShortestRequest}
use Rattle.command_lines.specs.Words.{IsNumberOr}
use Rattle.command_lines.specs.Shortest.{MeansShortest}
use Rattle.command_lines.specs.Commands.{Shortest}
use Rattle.command_lines.proofs.Values.{SomeOrNone, number_or_none_given, one_text, one_number_or}

-- the name and the request of `shortest`
abbrev pub AsksShortest : Type 0
AsksShortest = List ℕ × ShortestRequest

pub shortest_or_none : (rows : List Row) → SomeOrNone (λ (asks : AsksShortest). MeansShortest rows asks.0 asks.1)
shortest_or_none rows =
    by (first_of (codes "MODEL") rows) refl (number_or_none_given rows (codes "property") 0 4294967295 0 (omega arith))
    (number_or_none_given rows (codes "conflicts") 0 4294967295 1000000 (omega arith)) (number_or_none_given rows (codes "depth") 0 65536 100 (omega arith))
  where
    by : (m : Option (List ℕ)) → first_of (codes "MODEL") rows ≡ m → SomeOrNone (IsNumberOr rows (codes "property") 0 4294967295 0)
        → SomeOrNone (IsNumberOr rows (codes "conflicts") 0 4294967295 1000000) → SomeOrNone (IsNumberOr rows (codes "depth") 0 65536 100)
        → SomeOrNone (λ (asks : AsksShortest). MeansShortest rows asks.0 asks.1)
    by (Some model) e (inl p) (inl c) (inl d) = inl (
      (model, record { property = p.0; conflicts = c.0; depth = d.0 }),
      record { model_name = e; property = p.1; conflicts = c.1; depth = d.1 },
    )
    by None e p c d = inr (λ asks h. (let wrong : None ≡ Some asks.0 = sym e ∙ h.model_name in cc))
    by (Some model) e (inr none) c d = inr (λ asks h. none asks.1.property h.property)
    by (Some model) e (inl p) (inr none) d = inr (λ asks h. none asks.1.conflicts h.conflicts)
    by (Some model) e (inl p) (inl c) (inr none) = inr (λ asks h. none asks.1.depth h.depth)

same_shortest : (m n : List ℕ) (a b : ShortestRequest) → m ≡ n → a.property ≡ b.property → a.conflicts ≡ b.conflicts → a.depth ≡ b.depth
    → Shortest m a ≡ Shortest n b
same_shortest m n a b e p c d = λ i. Shortest (e i) (record { property = p i; conflicts = c i; depth = d i })

pub one_shortest : (rows : List Row) (m n : List ℕ) (a b : ShortestRequest) → MeansShortest rows m a → MeansShortest rows n b → Shortest m a ≡ Shortest n b
one_shortest rows m n a b h k =
    same_shortest m n a b (one_text (first_of (codes "MODEL") rows) m n h.model_name k.model_name)
    (one_number_or rows (codes "property") 0 4294967295 0 a.property b.property h.property k.property)
    (one_number_or rows (codes "conflicts") 0 4294967295 1000000 a.conflicts b.conflicts h.conflicts k.conflicts)
    (one_number_or rows (codes "depth") 0 65536 100 a.depth b.depth h.depth k.depth)
