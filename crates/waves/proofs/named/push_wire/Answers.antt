use Rattle.std.proofs.Common.{◌++◌, ◌∷◌, [], ◌∙◌, ℕ, List, ap}
use Rattle.waves.proofs.SourceLaws.{wire_left, wire_put}
use Rattle.waves.proofs.named.push_wire.Goals as goal

pub returns-then-branch : goal.returns-then-branch
returns-then-branch c =
    wire_left c.args.names.now c.args.sources.now c.args.wires.now.items c.args.wire c.literal_of.result c.in_ok-name.name.items c.deref.result.now
    c.in_ok-is_doubled.field-0 c.in_ok-name.ensures c.literal_of.ensures c.deref.ensures.value c.in_ok-is_doubled.ensures c.if-branch.true

pub returns : goal.returns
returns c =
    wire_put c.args.names.now c.args.sources.now c.args.wires.now.items c.args.wire c.literal_of.result c.in_ok-name.name.items c.deref.result.now
    c.in_ok-is_doubled.field-0 c.in_ok-name.ensures c.literal_of.ensures c.deref.ensures.value c.in_ok-is_doubled.ensures c.push.new.self.items c.if-branch.false
    (c.in_ok-push.ensures.items ∙ ap (λ (x : List ℕ). c.args.wires.now.items ++ (record { wire = c.args.wire; name = x }) ∷ []) c.from_vec.ensures)
