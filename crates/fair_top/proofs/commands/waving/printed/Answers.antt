use Rattle.fair_top.proofs.Dumped.{good_fits}
use Rattle.fair_top.proofs.commands.waving.printed.Goals as goal

pub write-requires : goal.write-requires
write-requires c =
    let fits = good_fits c.args.model.now c.args.property c.args.lasso.now c.requires in
    record { property = fits.property; from = fits.from; start = fits.start; inputs = fits.inputs }
