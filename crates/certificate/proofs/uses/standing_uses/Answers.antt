use Rattle.std.proofs.Common.{◌≡◌, List, map, None, sym, subst, ◌∙◌}
use Rattle.fair_semantics.specs.declared.entries.Use.{Use}
use Rattle.entry.specs.Faults.{first_bad_use}
use Rattle.entry.specs.Listing.{entries_of}
use Rattle.certificate_texts.specs.Certificates.{as_use}
use Rattle.certificate.specs.Steps.{IsCut}
use Rattle.certificate.proofs.UseLaws.{cut_whole}
use Rattle.certificate.proofs.uses.standing_uses.Goals as goal

pub returns-in-None : goal.returns-in-None
returns-in-None c =
    let all = map as_use c.args.written.now in
    let cut = subst (λ (l : List Use). IsCut all l c.in-Ok.beyond) (sym c.as_slice.ensures) c.in-Ok.ensures in
    let none : first_bad_use c.args.user (entries_of c.args.list.now) all ≡ None = sym (c.bad_use.ensures all cut) ∙ c.in-None.is in
    (cut_whole c.args.user c.args.list.now c.in-Ok.uses all c.in-Ok.beyond c.requires c.in-Ok.ensures none, none)
