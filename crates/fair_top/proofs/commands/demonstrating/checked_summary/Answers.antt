use Rattle.std.proofs.Common.{◌≡◌, ◌∙◌, ap₂, ℕ, List, length, codes}
use Rattle.wall_store.specs.Boards.{outcome_of}
use Rattle.fair_top.specs.Demo.{summary_text, verdict_text}
use Rattle.fair_top.proofs.commands.demonstrating.checked_summary.Goals as goal

pub returns-in-Ok-summary-clause-sums : goal.returns-in-Ok-summary-clause-sums
returns-in-Ok-summary-clause-sums c =
    let board = c.args.board.now in
    let request = c.args.request.now in
    let same : c.in-Ok-summary.text.items ≡ summary_text request (verdict_text (outcome_of board.served 0)) (length board.entries) (codes "accepted") =
    c.in-Ok-summary.ensures ∙ ap₂ (λ (v : List ℕ) (n : ℕ). summary_text request v n (codes "accepted")) c.verdict.ensures c.entry_count.ensures in
    record {
      answered = c.requires.answered;
      summary = same;
      answer = c.in-Ok.answer.items;
      printed = c.in-Ok.ensures.text;
      found = c.in-Ok.ensures.good.0;
      good = c.in-Ok.ensures.good.1;
    }
