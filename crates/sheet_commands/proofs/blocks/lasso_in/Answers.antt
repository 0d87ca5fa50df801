use Rattle.std.proofs.Common.{rules, arith, inl, ◌<◌, ◌^◌}
use Rattle.sheet_commands.proofs.CutBlocks.{other_decides, other_exactly, refused_decides, refused_exactly, then_decides, then_exactly}
use Rattle.sheet_commands.proofs.blocks.lasso_in.Goals as goal

pub returns-then-not-is_sheet-clause-found : goal.returns-then-not-is_sheet-clause-found
returns-then-not-is_sheet-clause-found c =
    inl (other_decides c.args.circuit.now c.args.text.items c.args.property (omega (arith, c.args.text.ok, c.args.text.small)) (search rules) c.refused.result c.refused.ensures)

pub returns-then-not-is_sheet-clause-exactly : goal.returns-then-not-is_sheet-clause-exactly
returns-then-not-is_sheet-clause-exactly c = λ verdict d.
    inl (other_exactly c.args.circuit.now c.args.text.items c.args.property (omega (arith, c.args.text.ok, c.args.text.small)) (search rules) c.refused.result c.refused.ensures verdict d)

pub returns-in-Err-clause-found : goal.returns-in-Err-clause-found
returns-in-Err-clause-found c =
    refused_decides c.args.circuit.now c.args.text.items c.args.property (omega (arith, c.args.text.ok, c.args.text.small)) (search rules) c.in-Err.end c.in-Err.ensures.found

pub returns-in-Err-clause-exactly : goal.returns-in-Err-clause-exactly
returns-in-Err-clause-exactly c =
    refused_exactly c.args.circuit.now c.args.text.items c.args.property (omega (arith, c.args.text.ok, c.args.text.small)) (search rules) c.in-Err.end c.in-Err.ensures.exactly

pub returns-in-Ok-clause-found : goal.returns-in-Ok-clause-found
returns-in-Ok-clause-found c =
    let small : c.args.property < 2 ^ 32 = search rules in
    then_decides c.args.circuit.now c.args.text.items c.args.property (omega (arith, c.args.text.ok, c.args.text.small)) (omega (arith, small)) (search rules)
    c.in-Ok.sheet c.as_slice-in-Ok.result.now c.as_slice-in-Ok.ensures c.in-Ok.ensures.found c.cut_lasso.result c.cut_lasso.ensures.found

pub returns-in-Ok-clause-exactly : goal.returns-in-Ok-clause-exactly
returns-in-Ok-clause-exactly c =
    let small : c.args.property < 2 ^ 32 = search rules in
    then_exactly c.args.circuit.now c.args.text.items c.args.property (omega (arith, c.args.text.ok, c.args.text.small)) (omega (arith, small)) (search rules)
    c.in-Ok.sheet c.as_slice-in-Ok.result.now c.as_slice-in-Ok.ensures c.in-Ok.ensures.found c.in-Ok.ensures.exactly c.cut_lasso.result c.cut_lasso.ensures.exactly
