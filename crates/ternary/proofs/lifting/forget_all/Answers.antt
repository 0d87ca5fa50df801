use Rattle.std.proofs.Common.{length, ap, sym, subst, ◌∙◌, arith}
use Rattle.std.proofs.lemmas.List.{length-map}
use Rattle.ternary.specs.Values.{known}
use Rattle.ternary.specs.Lifting.{IsLiftedTo}
use Rattle.ternary.proofs.Forgetting.{lifted-start}
use Rattle.ternary.proofs.lifting.forget_all.Goals as goal

pub loop-i-init : goal.loop-i-init
loop-i-init c = record {
  lifted =
      subst (λ xs. IsLiftedTo c.args.c.now c.args.at.now.latches c.args.at.now.inputs c.args.keep.now 0 xs) (sym c.requires.state)
      (lifted-start c.args.c.now c.args.at.now.latches c.args.at.now.inputs c.args.keep.now c.requires.keep);
  within = omega arith;
  long = ap length c.requires.state ∙ length-map c.args.at.now.latches known;
}
