use Rattle.aiger_binary.proofs.Order.{to_ordered, from_ordered}
use Rattle.aiger_binary.proofs.OrderOfTexts.{has_text_where_ordered}
use Rattle.aiger_binary.proofs.ordered.is_ordered.Goals as goal

pub returns-clause-ordered : goal.returns-clause-ordered
returns-clause-ordered c =
    let order = c.is_in_order.ensures.order in
    (λ yes. to_ordered c.args.model.now (order.0 yes), λ ordered. order.1 (from_ordered c.args.model.now ordered))

pub returns-clause-text : goal.returns-clause-text
returns-clause-text c =
    let ordered = returns-clause-ordered c in
    let law = has_text_where_ordered c.args.model.now c.is_in_order.ensures.model in
    (λ yes. law.1 (ordered.0 yes), λ text. ordered.1 (law.0 text))
