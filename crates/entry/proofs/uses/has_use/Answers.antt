use Rattle.std.proofs.Common.{rules, ◌∙◌}
use Rattle.std.proofs.lemmas.List.Sorted.{answers_always}
use Rattle.entry.proofs.Search.{searched}
use Rattle.entry.proofs.uses.has_use.Goals as goal

pub returns : goal.returns
returns c =
    let facts = c.binary_search_by_key.ensures in
    let by_key = facts.position (λ v. v.entry) (answers_always _ _ _ (λ f a r g called. search rules)) in
    c.is_ok.ensures.value ∙ searched c.args.uses.now c.requires c.args.n c.binary_search_by_key.result facts.bound by_key
