use Rattle.std.proofs.Common.{◌≡◌}
use Rattle.certificate.specs.declared.ends.Accepted.TheVariants.{Lasso, Holds}
use Rattle.certificate.specs.Seen.{seen}
use Rattle.certificate.proofs.LoadedLaws.{lasso_there, lasso_ends, lasso_held, certificate_there, certificate_ends, certificate_held}
use Rattle.certificate.proofs.loading.loaded.Goals as goal

pub loaded_lasso-requires : goal.loaded_lasso-requires
loaded_lasso-requires c =
    let l = c.in-Ok-Lasso in
    let found : l.field-0 ≡ Lasso l.property l.field-0-1 l.field-0-2 = rw l.is at l.field-0-is in
    lasso_there c.args._circuit.now c.requires.0 c.args.end l.field-0 l.property l.field-0-1 l.field-0-2 c.args.lines.now (seen c.args.state.now) c.args.kept l.is found c.requires.1

pub returns-in-Ok-Lasso-clause-ends : goal.returns-in-Ok-Lasso-clause-ends
returns-in-Ok-Lasso-clause-ends c =
    let l = c.in-Ok-Lasso in
    let found : l.field-0 ≡ Lasso l.property l.field-0-1 l.field-0-2 = rw l.is at l.field-0-is in
    lasso_ends c.args._circuit.now c.requires.0 c.args.end l.field-0 l.property l.field-0-1 l.field-0-2 c.args.lines.now (seen c.args.state.now) c.args.kept c.loaded_lasso.result l.is found c.requires.1 c.loaded_lasso.ensures

pub returns-in-Ok-Lasso-clause-held : goal.returns-in-Ok-Lasso-clause-held
returns-in-Ok-Lasso-clause-held c told =
    let l = c.in-Ok-Lasso in
    let found : l.field-0 ≡ Lasso l.property l.field-0-1 l.field-0-2 = rw l.is at l.field-0-is in
    lasso_held c.args._circuit.now told c.args.end l.field-0 l.property l.field-0-1 l.field-0-2 c.args.lines.now (seen c.args.state.now) c.args.kept c.loaded_lasso.result l.is found c.loaded_lasso.ensures

pub held_certificate-requires : goal.held_certificate-requires
held_certificate-requires c =
    let l = c.in-Ok-Holds in
    let found : l.field-0 ≡ Holds l.property l.entries = rw l.is at l.field-0-is in
    certificate_there c.args._circuit.now c.requires.0 c.args.end l.field-0 l.property l.entries c.args.lines.now (seen c.args.state.now) c.args.kept l.is found c.requires.1

pub returns-in-Ok-Holds-clause-ends : goal.returns-in-Ok-Holds-clause-ends
returns-in-Ok-Holds-clause-ends c =
    let l = c.in-Ok-Holds in
    let found : l.field-0 ≡ Holds l.property l.entries = rw l.is at l.field-0-is in
    certificate_ends c.args._circuit.now c.requires.0 c.args.end l.field-0 l.property l.entries c.args.lines.now (seen c.args.state.now) c.args.kept c.held_certificate.result l.is found c.requires.1 c.held_certificate.ensures

pub returns-in-Ok-Holds-clause-held : goal.returns-in-Ok-Holds-clause-held
returns-in-Ok-Holds-clause-held c told =
    let l = c.in-Ok-Holds in
    let found : l.field-0 ≡ Holds l.property l.entries = rw l.is at l.field-0-is in
    certificate_held c.args._circuit.now told c.args.end l.field-0 l.property l.entries c.args.lines.now (seen c.args.state.now) c.args.kept c.held_certificate.result l.is found c.held_certificate.ensures
