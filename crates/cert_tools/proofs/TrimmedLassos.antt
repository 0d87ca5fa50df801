-- What trimming makes of a stimulus: that of the lasso that it stands for.
use Rattle.std.proofs.Common.{◌≡◌, ℕ, ◌≤◌, List, length, take, sym, ap}
use Rattle.std.proofs.Math.Seq.{take-length}
use Rattle.aig_semantics.specs.declared.traces.Stimulus.{Stimulus}
use Rattle.aig_semantics.specs.declared.traces.Lasso.{Lasso as LassoOf}
use Rattle.aig_semantics.specs.Circuits.{Circuit}
use Rattle.answer_lines.specs.Left.{most_bytes}
use Rattle.stimulus.specs.Texts.{answer_text}
use Rattle.lasso_join.specs.Prefixes.{stimulus_of}
use Rattle.lasso_join.proofs.Prefixes.{stands-whole}
use Rattle.certificate.specs.declared.loaded.Loaded.TheVariants.{Lasso}
use Rattle.certificate.specs.Lassos.{lasso_of}
use Rattle.certificate.specs.Loading.{HoldsAnswer}
use Rattle.certificate.proofs.WrittenGood.{written_has}

pub trimmed_lasso : (c : Circuit) (text : List ℕ) (n : ℕ) (stimulus : Stimulus) (lasso : LassoOf) → HoldsAnswer c text (Lasso n stimulus lasso)
    → length (answer_text n (stimulus_of lasso)) ≤ most_bytes → HoldsAnswer c (answer_text n (stimulus_of lasso)) (Lasso n (stimulus_of lasso) lasso)
trimmed_lasso c text n stimulus lasso (there, short, (others, (small, opens), spells), stands, same) limit =
    let start : lasso.start ≡ stimulus.latches = ap (λ (l : LassoOf). l.start) same in
    let inputs : lasso.inputs ≡ take (length lasso.inputs) stimulus.inputs = ap (λ (l : LassoOf). l.inputs) same in
    (there, limit, written_has n (stimulus_of lasso) small, stands-whole c n stimulus lasso stands start inputs, whole lasso)
  where
    whole : (l : LassoOf) → l ≡ lasso_of (stimulus_of l) (length l.inputs) l.from
    whole l = ap (λ inputs. record { start = l.start; inputs = inputs; from = l.from }) (sym (take-length l.inputs))
