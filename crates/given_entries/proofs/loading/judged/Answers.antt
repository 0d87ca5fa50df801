use Rattle.std.proofs.Common.{arith, ℕ, List, codes, subst}
use Rattle.std.specs.Prelude.{Option, IfOk}
use Rattle.certificate.specs.Ends.{CheckSays}
use Rattle.certificate.specs.Loading.{IsHeldOf, accepted_in}
use Rattle.given_entries.proofs.Ends.{held, no_lasso, never_unread, taken_decides}
use Rattle.given_entries.proofs.loading.judged.Goals as goal

pub entries_in-requires-clause-held : goal.entries_in-requires-clause-held
entries_in-requires-clause-held c = held c.args.circuit.now _ c.load-loaded.result c.load-loaded.ensures.held

pub entries_in-requires-clause-certificate : goal.entries_in-requires-clause-certificate
entries_in-requires-clause-certificate c =
    no_lasso c.args.circuit.now c.args.text.items c.load-loaded.result (omega (arith, c.args.text.ok, c.args.text.small)) c.requires
    (subst (λ (told : Option (List ℕ)). IfOk c.load-loaded.result (IsHeldOf c.args.circuit.now told)) c.in_ok-shelf.ensures.held c.load-loaded.ensures.held)

pub returns : goal.returns
returns c =
    taken_decides c.args.circuit.now c.args.text.items c.load-loaded.result c.entries_in.result (omega (arith, c.args.text.ok, c.args.text.small)) c.requires
    (subst (λ (told : Option (List ℕ)). CheckSays c.args.circuit.now told (accepted_in c.load-loaded.result)) c.in_ok-shelf.ensures.held c.load-loaded.ensures.found)
    (subst (λ (told : Option (List ℕ)). IfOk c.load-loaded.result (IsHeldOf c.args.circuit.now told)) c.in_ok-shelf.ensures.held c.load-loaded.ensures.held)
    (never_unread c.load-loaded.result (codes "text") c.args.text.items c.in_ok-shelf.shelf c.load-loaded.new.shelf c.in_ok-shelf.ensures.steady c.in_ok-shelf.ensures.held
    c.load-loaded.ensures.reads) c.entries_in.ensures
