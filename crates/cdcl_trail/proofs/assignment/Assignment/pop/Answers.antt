use Rattle.std.proofs.Common.{◌-◌, take, length, ap, sym, ◌∙◌, arith}
use Rattle.cdcl_trail.specs.Trails.{step}
use Rattle.cdcl_trail.proofs.TrailLaws.{popped, popped_steps, popped_level}
use Rattle.cdcl_trail.proofs.assignment.Assignment.pop.Goals as goal

pub overflow_sub-self : goal.overflow_sub-self
overflow_sub-self c =
    let t = c.self.inside in
    let a = c.in-Some-Some.literal in
    let r = c.in-Some-Some.reason in
    let u = record t { literals = c.pop.new.self; reasons = c.pop-2.new.self } in
    omega (arith, c.opened_by.ensures, popped_level t u a r c.self.invariant c.in-Some-Some.ensures.items c.in-Some-Some.ensures'.items)

pub invariant_of-self : goal.invariant_of-self
invariant_of-self c =
    let t = c.self.inside in
    popped t (record { literals = c.pop.new.self; reasons = c.pop-2.new.self; places = c.untell.new.places; values = c.untell.new.values; levels = c.truncate.new.self; level = t.level - c.opened_by.result })
    c.in-Some-Some.literal c.in-Some-Some.reason c.self.invariant c.in-Some-Some.ensures.items c.in-Some-Some.ensures'.items
    c.untell.ensures.places c.untell.ensures.values (ap (λ n. t.level - n) c.opened_by.ensures)
    (c.truncate.ensures.items ∙ ap (λ xs. take (length xs) t.levels.items) c.as_slice.ensures.value)

pub returns-in-Some-Some : goal.returns-in-Some-Some
returns-in-Some-Some c =
    let t = c.self.inside in
    let u = record t { literals = c.pop.new.self; reasons = c.pop-2.new.self } in (
      step c.in-Some-Some.literal c.in-Some-Some.reason,
      ap (λ s. s.steps) (sym c.self.view_is)
          ∙ popped_steps t u c.in-Some-Some.literal c.in-Some-Some.reason c.self.invariant c.in-Some-Some.ensures.items c.in-Some-Some.ensures'.items,
    )
