use Rattle.std.proofs.Common.{Bool, List, [], ◌∷◌, map, subst}
use Rattle.stimulus.specs.Texts.{digit_of}
use Rattle.certificate_texts.specs.Adding.{Adds}
use Rattle.sheet_answers.proofs.AddedBlocks.{stimulus_added}
use Rattle.sheet_answers.proofs.writing.push_stimulus.Goals as goal

pub returns : goal.returns
returns c =
    stimulus_added c.args.s.now c.args.text.now.items c.push_values.new.text.items c.push_rows.new.text.items c.push_dot.new.text.items
    (subst (λ (values : List Bool). Adds c.args.text.now.items c.push_values.new.text.items (map digit_of values ∷ [])) c.as_slice-latches.ensures c.in_ok-push_values.ensures)
    (subst (λ (rows : List (List Bool)). Adds c.push_values.new.text.items c.push_rows.new.text.items (map (map digit_of) rows)) c.as_slice-inputs.ensures c.in_ok-push_rows.ensures)
    c.in_ok-push_dot.ensures
