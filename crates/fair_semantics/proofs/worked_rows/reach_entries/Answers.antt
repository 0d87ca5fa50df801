use Rattle.std.proofs.Common.{◌≡◌, Bool, true, false, List, [], ◌∷◌, refl, ap, ◌∙◌, arith}
use Rattle.aig_semantics.specs.Runs.{IsInitial}
use Rattle.aig_semantics.specs.Examples.{stuck}
use Rattle.fair_semantics.specs.declared.entries.Kind.TheVariants.{Reach, Wall}
use Rattle.fair_semantics.specs.declared.entries.Side.TheVariants as sides
use Rattle.fair_semantics.specs.Entries.{Entry}
use Rattle.fair_semantics.specs.Validity.{set_behind}
use Rattle.fair_semantics.specs.Examples.{use_of, latch_entry}
use Rattle.fair_semantics.proofs.Examples.{no_uses, stuck-step, rises-begins}
use Rattle.fair_semantics.proofs.worked_rows.reach_entries.Goals as goal

begins : (s : List Bool) → IsInitial stuck s → set_behind [] (latch_entry Reach false []) s ≡ true
begins [] h = absurd h
begins (b ∷ []) h = ap (λ a. set_behind [] (latch_entry Reach false []) (a ∷ [])) h.0
begins (b ∷ d ∷ s) h = absurd h.1

pub returns-clause-stuck : goal.returns-clause-stuck
returns-clause-stuck c =
    let e : Entry = latch_entry Reach false [] in (
      record {
        uses = no_uses [];
        closed = λ s t step able inside. ap (set_behind [] e) (stuck-step s t step) ∙ inside;
        reach = λ is_reach. record { initial = begins; uses = λ k d inside. absurd (omega (arith, inside)) };
      },
      tt,
    )

pub returns-clause-not_initial : goal.returns-clause-not_initial
returns-clause-not_initial c = λ h.
    let e : false ≡ true = (h.reach refl).initial (false ∷ []) (refl, tt) in
    cc

pub returns-clause-leaves : goal.returns-clause-leaves
returns-clause-leaves c = λ h.
    let e : false ≡ true = h.closed (false ∷ []) (true ∷ []) rises-begins refl refl in
    cc

pub returns-clause-uses_wall : goal.returns-clause-uses_wall
returns-clause-uses_wall c = λ h.
    let e : Wall ≡ Reach = (h.reach refl).uses 0 (use_of 0 sides.Out) (omega arith) in
    cc
