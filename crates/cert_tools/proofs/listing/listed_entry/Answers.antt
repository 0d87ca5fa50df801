use Rattle.std.proofs.Common.{ℕ, List, refl, subst}
use Rattle.certificate.specs.Certificates.{AreClausesOf}
use Rattle.cert_tools.proofs.ListedEntries.{listed_is}
use Rattle.cert_tools.proofs.listing.listed_entry.Goals as goal

pub returns : goal.returns
returns c = λ set are.
    listed_is c.args.c.now (record { kind = c.args.e.now.kind; set = c.in_ok-set.set; uses = c.in_ok-uses.uses }) c.args.e.now set refl
    (subst (λ (ls : List (List ℕ)). AreClausesOf c.args.c.now ls c.in_ok-set.set) c.as_slice.ensures c.in_ok-set.ensures) c.in_ok-uses.ensures are
