-- What may be posted in a ledger of the circuit whose latch stays at 0.
use Rattle.std.proofs.Common.{◌≡◌, ℕ, true, List, [], ◌∷◌, refl, sym, ◌∙◌, subst, arith}
use Rattle.std.specs.List.{Any}
use Rattle.aig_semantics.specs.Circuits.{Circuit}
use Rattle.fair_semantics.specs.Entries.{Numbered}
use Rattle.fair_semantics.specs.Skeletons.{IsSkeleton}
use Rattle.fair_semantics.specs.Examples.{one_situation}
use Rattle.entry.specs.declared.origins.Origin.{Origin}
use Rattle.entry.specs.CheckedEntries.{CheckedEntry, StandIn}
use Rattle.wall_store.specs.Boards.{FromWorker, Allow, plain}
use Rattle.wall_ledger.specs.Passes.{PassState, LedgerState, MayPassPost, IsPassPost}
use Rattle.ledger_tests.specs.Boards.{IsFindOf, IsStuckLedger}
use Rattle.ledger_tests.proofs.Posting.{is_skeleton}

-- a pass in its turn 1 that has seen no entry
pub may_post_fresh : (l : LedgerState) (p : PassState) (e : CheckedEntry) (n t : ℕ) (seen : List CheckedEntry) → IsStuckLedger l → n ≡ p.number
    → t ≡ p.turns → t ≡ 1 → seen ≡ p.list → seen ≡ [] → IsFindOf n e → MayPassPost l p e
may_post_fresh l p e n t seen of number turn first same none found =
    let one : Any (λ (j : ℕ). IsSkeleton l.circuit j (one_situation true true)) (0 ∷ []) =
    subst (λ (c : Circuit). Any (λ (j : ℕ). IsSkeleton c j (one_situation true true)) (0 ∷ [])) (sym of.circuit) (0, 0, (omega arith), refl, is_skeleton)
    in
    subst (λ (o : Origin). FromWorker o (IsPassPost l p e)) (sym found.origin)
    (record {
      circuit = found.circuit ∙ sym of.circuit;
      author = number;
      turn = sym first ∙ turn;
      uses = subst (λ (used : List Numbered). StandIn (plain p.list) used) (sym found.used) (λ k d inside. absurd (omega (arith, inside)));
      skeleton = subst (λ (js : List ℕ). Any (λ (j : ℕ). IsSkeleton l.circuit j (one_situation true true)) js) (sym of.properties) one;
      allowed = subst (λ (es : List CheckedEntry). Allow es (one_situation true true)) (sym none ∙ same) refl;
    })
