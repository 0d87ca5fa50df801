use Rattle.std.proofs.Common.{◌+◌, List, ◌∷◌, ◌++◌, map, drop, get_or, refl, ap, ◌∙◌}
use Rattle.fair_semantics.specs.declared.entries.Use.{Use}
use Rattle.fair_semantics.specs.declared.entries.Side.TheVariants as sides
use Rattle.certificate_lines.specs.declared.uses.WrittenUse.{WrittenUse}
use Rattle.certificate_texts.specs.Certificates.{as_use}
use Rattle.certificate.proofs.UseLaws.{cut_at}
use Rattle.certificate.proofs.uses.cut_uses.Goals as goal

pub returns-in-None : goal.returns-in-None
returns-in-None c =
    let any : WrittenUse = record { number = 0; side = sides.Any } in
    let written = c.args.written.now in
    let i = c.loop-u.u-index in
    let u = as_use (get_or written i any) in
    let rest = map as_use (drop (i + 1) written) in
    (u, rest, cut_at written i any c.loop-u-test.true ∙ ap (λ (l : List Use). l ++ u ∷ rest) c.loop-u.invariant, refl, c.in-None.ensures.none)
