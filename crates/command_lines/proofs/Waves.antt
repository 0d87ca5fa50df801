-- The values of `wave` are names and a number, or are none; and they are one at most.
use Rattle.std.proofs.Common.{◌≡◌, inl, inr, ℕ, List, arith, codes}
use Rattle.clap.specs.Walk.{Row, first_of}
use Rattle.command_lines.specs.Commands.{Wave}
use Rattle.command_lines.specs.Words.{IsNumberOr}
use Rattle.command_lines.specs.Check.{MeansCheck}
use Rattle.command_lines.specs.Wave.{MeansWave}
use Rattle.command_lines.proofs.Values.{SomeOrNone, names_or_none, number_or_none_given, one_text, one_number_or}

-- the names and the number of `wave`
abbrev pub Waves : Type 0
Waves = List ℕ × List ℕ × ℕ

pub wave_or_none : (rows : List Row) → SomeOrNone (λ (waves : Waves). MeansWave rows waves.0 waves.1 waves.2)
wave_or_none rows = by (names_or_none rows) (number_or_none_given rows (codes "property") 0 4294967295 0 (omega arith))
  where
    by : SomeOrNone (λ (names : List ℕ × List ℕ). MeansCheck rows names.0 names.1) → SomeOrNone (IsNumberOr rows (codes "property") 0 4294967295 0)
        → SomeOrNone (λ (waves : Waves). MeansWave rows waves.0 waves.1 waves.2)
    by (inl names) (inl number) = inl ((names.0.0, names.0.1, number.0), record { names = names.1; number = number.1 })
    by (inr none) number = inr (λ waves h. none (waves.0, waves.1) h.names)
    by (inl names) (inr none) = inr (λ waves h. none waves.2 h.number)

same_wave : (m n a b : List ℕ) (p q : ℕ) → m ≡ n → a ≡ b → p ≡ q → Wave m a p ≡ Wave n b q
same_wave m n a b p q e f g = λ i. Wave (e i) (f i) (g i)

pub one_wave : (rows : List Row) (v w : Waves) → MeansWave rows v.0 v.1 v.2 → MeansWave rows w.0 w.1 w.2 → Wave v.0 v.1 v.2 ≡ Wave w.0 w.1 w.2
one_wave rows v w h k =
    same_wave v.0 w.0 v.1 w.1 v.2 w.2 (one_text (first_of (codes "MODEL") rows) v.0 w.0 h.names.model_name k.names.model_name)
    (one_text (first_of (codes "ANSWER") rows) v.1 w.1 h.names.answer_name k.names.answer_name)
    (one_number_or rows (codes "property") 0 4294967295 0 v.2 w.2 h.number k.number)
