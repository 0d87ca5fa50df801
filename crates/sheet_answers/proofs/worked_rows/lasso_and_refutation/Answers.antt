use Rattle.std.proofs.Common.{[], ◌∷◌, ◌++◌, refl, ap, Option}
use Rattle.std.specs.Prelude.{codes}
use Rattle.std.specs.Fmt.{digits}
use Rattle.proof_semantics.specs.Lines.{line_of}
use Rattle.stimulus.specs.declared.ends.ReplayFault.{ReplayFault}
use Rattle.text_grammar.specs.Numerals.{number_at}
use Rattle.certificate.specs.Lines.{kept_from}
use Rattle.certificate_lines.specs.Uses.{uses_of}
use Rattle.certificate_lines.specs.Words.{word_line_of}
use Rattle.sheet_answers.specs.Sheets.{none}
use Rattle.sheet_answers.specs.Reading.{replayed, and_then, read_lines}
use Rattle.sheet_answers.specs.Examples.{two_wishes, second_holds}
use Rattle.sheet_answers.proofs.worked_rows.lasso_and_refutation.Goals as goal

pub returns-clause-whole : goal.returns-clause-whole
unfolding digits word_line_of uses_of line_of number_at
returns-clause-whole c = λ replays is. ap (λ (o : Option ReplayFault). and_then (replayed none [] 0 o) (λ t. read_lines two_wishes replays t (kept_from 8 (second_holds ++ codes "end" ∷ [])))) is

pub returns-clause-undecided : goal.returns-clause-undecided
unfolding digits word_line_of uses_of line_of number_at
returns-clause-undecided c = λ replays. refl
