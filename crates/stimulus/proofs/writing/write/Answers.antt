use Rattle.std.proofs.lemmas.Result.{IfOk-weaker}
use Rattle.stimulus.specs.Texts.{stimulus_lines}
use Rattle.stimulus.proofs.WriteLemmas.{written_read}
use Rattle.stimulus.proofs.writing.write.Goals as goal

pub returns-clause-read_again : goal.returns-clause-read_again
returns-clause-read_again c =
    IfOk-weaker c.written.result _ _ (λ text same. (stimulus_lines c.args.s.now, same, written_read c.args.s.now)) c.written.ensures
