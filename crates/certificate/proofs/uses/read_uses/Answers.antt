use Rattle.std.proofs.Common.{◌<◌, List, length, map, subst}
use Rattle.std.specs.Prelude.{IfOk}
use Rattle.std.specs.List.{All}
use Rattle.entry.specs.declared.list.Listed.{Listed}
use Rattle.certificate_texts.specs.Certificates.{as_use}
use Rattle.certificate.proofs.UseLaws.{standing_present}
use Rattle.certificate.proofs.uses.read_uses.Goals as goal

pub returns-clause-present : goal.returns-clause-present
returns-clause-present c =
    subst (λ (l : List Listed). IfOk c.standing_uses.result (λ uses. All (λ u. u.entry < length l) uses)) c.as_slice.ensures
    (standing_present c.args.user c.as_slice.result.now (map as_use c.as_slice-2.result.now) c.standing_uses.result c.standing_uses.ensures)
