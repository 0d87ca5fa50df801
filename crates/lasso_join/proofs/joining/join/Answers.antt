use Rattle.lasso_join.proofs.Joined.{joined-run, joined-fair}
use Rattle.std.proofs.Common.{refl}
use Rattle.lasso_join.proofs.joining.join.Goals as goal

pub returns-clause-fair : goal.returns-clause-fair
returns-clause-fair c =
    joined-fair c.args.c.now c.args.stem.now c.args.skeleton.now c.args.pieces.now c.requires.fit
    c.in_ok-start_of.field-0 c.in_ok-inputs_of.field-0 _
    (rw c.as_slice-situations.ensures at c.in_ok-start_of.ensures) (rw c.as_slice-situations.ensures at c.in_ok-inputs_of.ensures) refl

pub returns-clause-run : goal.returns-clause-run
returns-clause-run c =
    joined-run c.args.c.now c.requires.skeleton.0 c.args.stem.now c.args.skeleton.now c.args.pieces.now c.requires.fit c.requires.skeleton.1
    c.in_ok-start_of.field-0 c.in_ok-inputs_of.field-0
    (rw c.as_slice-situations.ensures at c.in_ok-start_of.ensures) (rw c.as_slice-situations.ensures at c.in_ok-inputs_of.ensures)
