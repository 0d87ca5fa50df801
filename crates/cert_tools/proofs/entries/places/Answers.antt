use Rattle.std.proofs.Common.{ℕ, ◌+◌, List, [], subst, sym}
use Rattle.fair_semantics.specs.declared.entries.Kind.TheVariants.{Reach}
use Rattle.certificate_texts.specs.declared.certificates.Written.{Written}
use Rattle.cert_tools.proofs.EntryPlaces.{AreFirstPlaces, places_next}
use Rattle.cert_tools.proofs.entries.places.Goals as goal

abbrev none : Written
none = record { kind = Reach; clauses = []; uses = []; proofs = [] }

pub loop-k-preserved : goal.loop-k-preserved
loop-k-preserved c =
    let k : ℕ = c.loop-k.k in
    let next : ℕ = c.next_place-place.result in
    subst (λ (ps : List ℕ). AreFirstPlaces c.args.numbers.now c.args.entries.now (k + 1) ps next) (sym c.in_ok-push.ensures.items)
    (places_next c.args.numbers.now c.args.entries.now k none c.loop-k.places.items c.loop-k.place next c.loop-k-test.true c.loop-k.invariant c.next_place-place.ensures)
