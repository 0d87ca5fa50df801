use Rattle.std.proofs.lemmas.Result.{IfOk-weaker}
use Rattle.cert_tools.proofs.TrimmedLaws.{good_of, lasso_trimmed, holds_is}
use Rattle.cert_tools.proofs.trimming.trimmed_of.Goals as goal

pub returns-in-Lasso : goal.returns-in-Lasso
returns-in-Lasso c =
    IfOk-weaker c.trimmed_lasso.result _ _
    (λ trimmed made. lasso_trimmed c.args.circuit.now c.args.loaded.now trimmed c.in-Lasso.property c.in-Lasso.stimulus c.in-Lasso.lasso c.in-Lasso.is made) c.trimmed_lasso.ensures

pub trimmed_holds-requires : goal.trimmed_holds-requires
trimmed_holds-requires c = good_of c.args.circuit.now c.args.loaded.now c.in-Holds.property c.in-Holds.certificate c.requires c.in-Holds.is

pub returns-in-Holds : goal.returns-in-Holds
returns-in-Holds c =
    IfOk-weaker c.trimmed_holds.result _ _
    (λ trimmed h. holds_is c.args.circuit.now c.args.loaded.now trimmed c.in-Holds.property c.in-Holds.certificate c.in-Holds.is h) c.trimmed_holds.ensures
