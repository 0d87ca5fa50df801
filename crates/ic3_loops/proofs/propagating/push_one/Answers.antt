use Rattle.std.proofs.Common.{◌≡◌, ◌+◌, true, List, [], length, get_or, sym, ap, ap₂, subst, ◌∙◌}
use Rattle.proof_semantics.specs.declared.literals.Lit.{Lit}
use Rattle.ic3_frames.specs.Frames.{own_lemmas}
use Rattle.ic3_semantics.specs.Stepping.{Stepping, IsOver, with_lemma as st_with}
use Rattle.ic3_loops.specs.Sound.{IsSearch, IsRelative, has_one_of}
use Rattle.ic3_loops.specs.Propagating.{AllowBelow}
use Rattle.ic3_loops.proofs.Sounds.{search-with}
use Rattle.ic3_loops.proofs.Stuck.{all_own, pushed_below}
use Rattle.ic3_loops.proofs.Narrower.{narrower_with}
use Rattle.ic3_loops.proofs.Ended.{on_ok, on_both}
use Rattle.ic3_loops.proofs.propagating.push_one.Goals as goal

pub hold-requires : goal.hold-requires
hold-requires g c =
    let n = length (g.S.StepSolver.seen c.args.steps.now).question.circuit.latches in
    subst (IsOver n) (sym c.requires.lemma)
    (all_own (IsOver n) c.args.frames.now c.args.at.level c.requires.search.sound.over c.args.at.place [] c.requires.place)

pub returns-clause-narrower : goal.returns-clause-narrower
returns-clause-narrower g c =
    let st : Stepping = (g.S.StepSolver.seen c.args.steps.now) in
    let new : Stepping = (g.S.StepSolver.seen c.hold.new.self) in
    let cube : List Lit = c.args._starts.now in
    let levels : List (List (List Lit)) = c.args.frames.now in
    let lemma : List Lit = get_or (own_lemmas levels c.args.at.level) c.args.at.place [] in
    let held = c.in_ok-hold.ensures.ok ∙ ap₂ (st_with st) c.in_ok-next.ensures c.requires.lemma in
    on_ok c.push_on.result _ _
    (λ is.
    narrower_with cube st new levels c.push_on.new.self (c.args.at.level + 1) lemma
    (subst (IsSearch cube new) (sym is)
    (search-with cube st new levels (c.args.at.level + 1) lemma c.requires.search c.requires.next
    (all_own (IsOver (length st.question.circuit.latches)) levels c.args.at.level c.requires.search.sound.over c.args.at.place [] c.requires.place)
    (all_own (λ clause. has_one_of cube clause ≡ true) levels c.args.at.level c.requires.search.sound.based c.args.at.place [] c.requires.place)
    (subst (IsRelative st.question levels (c.args.at.level + 1)) c.requires.lemma c.requires.relative) held))
    (record { question = ap (λ (s : Stepping). s.question) held; avoid = ap (λ (s : Stepping). s.avoid) held })
    c.requires.next is)
    c.push_on.ensures.ok

pub returns-clause-pushed : goal.returns-clause-pushed
returns-clause-pushed g c =
    let levels : List (List (List Lit)) = c.args.frames.now in
    on_both c.push_on.result _ _ _
    (λ is lists. record {
      lists = lists;
      below = subst (λ new. AllowBelow levels new c.args.at.level) (sym is) (pushed_below levels c.args.at.level c.args.at.place c.requires.next c.requires.place);
    })
    c.push_on.ensures.ok c.push_on.ensures.moved
