use Rattle.std.proofs.Common.{◌++◌, [], map, ap, subst, ◌∙◌}
use Rattle.std.proofs.lemmas.List.{append-nil}
use Rattle.proof_semantics.specs.Clauses.{negation}
use Rattle.cdcl_log.specs.LoggedClauses.{added_of}
use Rattle.cdcl_log.specs.Writing.{Proves}
use Rattle.cdcl.proofs.RefusalLaws.{refusal_from}
use Rattle.cdcl.proofs.refusing.refusal.Goals as goal

pub returns : goal.returns
returns c =
    refusal_from c.args.log.now c.args.assumptions.now c.args.traced.now.clause c.in_ok-core.core.items c.args.traced.now.hints c.in_ok-proof.proof
    c.requires.log c.requires.among c.requires.hints (c.in_ok-core.ensures ∙ ap (map negation) c.as_slice.ensures)
    (subst (λ given. Proves given c.in_ok-proof.proof c.args.traced.now.clause) (append-nil (added_of c.args.log.now))
    (subst (λ cl. Proves (added_of c.args.log.now ++ []) c.in_ok-proof.proof cl) c.as_slice-2.ensures c.in_ok-proof.ensures))
