use Rattle.std.proofs.Common.{◌≡◌, ◌<◌, ◌^◌, ◌++◌, ◌∷◌, [], Some, None, length, cond, eqb, ap, sym, subst, ◌∙◌, arith}
use Rattle.packed_literals.specs.Naming.{place_among}
use Rattle.packed_literals.specs.Tables.{told}
use Rattle.packed_literals.proofs.NamingLaws.{orderly_added}
use Rattle.packed_literals.proofs.names.Names.add.Goals as goal

pub invariant_of-self-2 : goal.invariant_of-self-2
invariant_of-self-2 c =
    let t = c.self.inside in
    let same : length c.as_slice-length.result.now ≡ length t.names.items = ap length c.as_slice-length.ensures.value in
    let room : length t.names.items < 2 ^ 31 = omega (arith, same, c.if-length-ge-MOST.false) in
    orderly_added t (record { numbers = c.insert.new.self; names = c.push_reserved.new.self }) c.args.var c.self.invariant
    (subst (λ xs. place_among xs c.args.var ≡ None) (sym c.self.view_is) c.requires)
    room
    (c.push_reserved.ensures.items ∙ ap (λ xs. xs ++ c.args.var ∷ []) c.in_ok-reserve.ensures.items)
    (λ v. c.in_ok-insert.ensures.updates v ∙ ap (λ n. cond (eqb c.args.var v) (Some n) (told t.numbers v)) same)
