use Rattle.std.proofs.Common.{◌≡◌, ℕ, List, [], ◌∷◌, true, sym, ◌∙◌, subst}
use Rattle.std.specs.Prelude.{◌↔◌}
use Rattle.std.proofs.lemmas.Result.{IfOk-weaker}
use Rattle.cert_tools.specs.declared.reaching.Node.{Node}
use Rattle.cert_tools.specs.Reaching.{is_in, LeadDown, IsReachedFrom}
use Rattle.cert_tools.specs.TrimmedProofs.{IsTrimmedProof}
use Rattle.cert_tools.specs.TrimmingProofs.{nodes_of}
use Rattle.cert_tools.proofs.TrimmingLaws.{nodes_down, needed_is_trimmed}
use Rattle.cert_tools.proofs.shortening.trimmed_proof.Goals as goal

pub reached-requires : goal.reached-requires
reached-requires c =
    let nodes : c.as_slice.result.now ≡ nodes_of c.args.lines.now = c.as_slice.ensures.value ∙ c.in_ok-nodes.ensures in
    (0, subst (λ (ns : List Node). LeadDown 0 ns) (sym nodes) (nodes_down c.requires.0 c.args.lines.now c.requires.1))

pub returns : goal.returns
returns c =
    let nodes : c.as_slice.result.now ≡ nodes_of c.args.lines.now = c.as_slice.ensures.value ∙ c.in_ok-nodes.ensures in
    let exact : (n : ℕ) → (is_in c.in_ok-numbers.numbers n ≡ true) ↔ IsReachedFrom (nodes_of c.args.lines.now) (c.in_ok-last.last ∷ []) n =
    subst (λ (ns : List Node). (n : ℕ) → (is_in c.in_ok-numbers.numbers n ≡ true) ↔ IsReachedFrom ns (c.in_ok-last.last ∷ []) n) nodes c.in_ok-numbers.ensures in
    IfOk-weaker c.needed_lines.result _ _
    (λ kept is given refutes full.
    subst (IsTrimmedProof given c.args.lines.now) (sym is)
    (needed_is_trimmed given c.args.lines.now c.in_ok-last.last c.in_ok-numbers.numbers full c.in_ok-last.ensures exact))
    c.needed_lines.ensures
