use Rattle.std.proofs.Common.{rules, ◌≡◌, ℕ, ◌+◌, ◌*◌, ap, ◌∙◌}
use Rattle.std.proofs.lemmas.Result.{IfOk-weaker}
use Rattle.cnf_unroll.specs.Lending.{lent_all}
use Rattle.cert_tools.proofs.FreeNumbers.{skeleton_free}
use Rattle.cert_tools.proofs.numbering.after_skeleton.Goals as goal

pub returns : goal.returns
returns c =
    let places : c.in-Some.places ≡ c.block_count-blocks.result * 2 = search rules in
    IfOk-weaker c.behind_uses.result _ _
    (λ next is.
    is
    ∙ skeleton_free c.args.c.now c.args.j (lent_all c.args.uses.now) (2 * c.max.result + 2) c.block_count-blocks.result c.in-Some.places c.in_ok-free.free
    (ap (λ (n : ℕ). 2 * n + 2) c.max.ensures.value) c.block_count-blocks.ensures c.in_ok-free.ensures places) c.behind_uses.ensures
