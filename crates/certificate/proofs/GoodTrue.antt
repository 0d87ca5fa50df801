-- A good answer is true.
use Rattle.std.proofs.Common.{ℕ, ◌++◌, List, [], ◌∷◌, take, subst, sym, ◌∙◌}
use Rattle.std.proofs.lemmas.List.{length-take-le}
use Rattle.aig_semantics.specs.Circuits.{Circuit}
use Rattle.aig_semantics.specs.declared.traces.Position.{Position}
use Rattle.aig_semantics.specs.Runs.{IsFairLasso}
use Rattle.aig_semantics.specs.Stimuli.{simulated}
use Rattle.fair_semantics.specs.Entries.{Entry}
use Rattle.fair_semantics.specs.Laws.{NoLassoMeansFewRounds}
use Rattle.entry.specs.Laws.{IsGoodList, GoodListsGrow, RefutedHasNoLasso}
use Rattle.circuit.proofs.Following.{length-simulated}
use Rattle.certificate.specs.declared.ends.Accepted.TheVariants.{Lasso, Holds}
use Rattle.certificate_texts.specs.declared.certificates.Written.{Written}
use Rattle.certificate.specs.Certificates.{entry_with, AreProvedBehind}
use Rattle.certificate.specs.Laws.{GoodIsTrue, VerdictsAgree}

-- entries that are proved one behind the other are a good list
pub proved_list : (c : Circuit) → GoodListsGrow c → (before : List Entry) (es : List Written) (all : List Entry)
    → IsGoodList c before → AreProvedBehind c before es all → IsGoodList c all
proved_list c grow before [] all good proved = subst (IsGoodList c) (sym proved) good
proved_list c grow before (e ∷ es) all good (clauses, _, first, others) =
    proved_list c grow (before ++ entry_with e clauses ∷ []) es all (grow.more before (entry_with e clauses) e.proofs good first) others

pub good_is_true : (c : Circuit) → GoodListsGrow c → RefutedHasNoLasso c → NoLassoMeansFewRounds → GoodIsTrue c
good_is_true c grow none few text (Lasso n positions from) (_, _, s, _, stands) = (
  simulated c s.latches (take positions s.inputs),
  length-simulated c s.latches (take positions s.inputs) ∙ length-take-le positions s.inputs stands.has.inside,
  stands.has.lasso,
)
good_is_true c grow none few text (Holds n entries) (below, _, certificate, _, good, _) =
    let no_lasso : (run : List Position) (from : ℕ) → IsFairLasso c n run from → ⊥ =
    none good.entries n certificate.uses certificate.proof (proved_list c grow [] certificate.entries good.entries grow.none good.proved) below good.refuted in
    (no_lasso, few c n below no_lasso)

pub verdicts_agree : (c : Circuit) → GoodIsTrue c → VerdictsAgree c
verdicts_agree c true_one text other n positions from entries lasso holds =
    let shown = true_one text (Lasso n positions from) lasso in
    (true_one other (Holds n entries) holds).0 shown.0 from shown.2
