use Rattle.std.proofs.Common.{◌≡◌, sym, ◌∙◌, subst, arith}
use Rattle.std.proofs.lemmas.Result.{on_ok_weaker, on_err_weaker}
use Rattle.wall_ledger.specs.Passes.{PassState}
use Rattle.wall_ledger.specs.Turns.{HasTaken}
use Rattle.wall_ledger.specs.Hands.{state_of}
use Rattle.wall_ledger.proofs.Homes.{gate_in, first_in, stamp_in}
use Rattle.wall_ledger.proofs.MetPasses.{have_met, met_other}
use Rattle.wall_ledger.proofs.ledger.Ledger.share.Goals as goal

pub take_list-requires : goal.take_list-requires
take_list-requires c =
    let gate = c.self.inside.gate in
    let l = gate_in c.less.inside.hand gate.table.shared.table_id gate.table.shared.key.value c.args.self.now c.args.less.now c.self.view_is c.less.view_is
    c.less.invariant c.requires.own.0 in
    let m = gate_in c.more.inside.hand gate.table.shared.table_id gate.table.shared.key.value c.args.self.now c.args.more.now c.self.view_is c.more.view_is
    c.more.invariant c.requires.own.1 in
    let f = first_in c.less.inside.hand gate.table.shared.table_id gate.table.shared.key.value c.args.self.now c.args.less.now c.self.view_is c.less.view_is
    c.less.invariant c.requires.own.0 in
    let g = first_in c.more.inside.hand gate.table.shared.table_id gate.table.shared.key.value c.args.self.now c.args.more.now c.self.view_is c.more.view_is
    c.more.invariant c.requires.own.1 in
    let s = stamp_in c.less.inside.hand gate.table.shared.table_id gate.table.shared.key.value c.args.self.now c.args.less.now c.self.view_is c.less.view_is
    c.less.invariant c.requires.own.0 in
    let t = stamp_in c.more.inside.hand gate.table.shared.table_id gate.table.shared.key.value c.args.self.now c.args.more.now c.self.view_is c.more.view_is
    c.more.invariant c.requires.own.1 in
    record {
      own = (l, m);
      resting = (c.less.invariant, c.more.invariant);
      first = f ∙ sym g;
      stamps = (let le = c.requires.stamps in omega arith);
    }

pub invariant_of-less : goal.invariant_of-less
invariant_of-less c = c.take_list.ensures.resting.0

pub invariant_of-more : goal.invariant_of-more
invariant_of-more c = c.take_list.ensures.resting.1

pub returns-clause-ok : goal.returns-clause-ok
returns-clause-ok c =
    let q : PassState = state_of c.take_list.new.less in
    on_ok_weaker c.take_list.result
    (λ (h : HasTaken (state_of c.less.inside.hand) (state_of c.more.inside.hand) q).
    have_met c.args.less.now c.args.more.now q (state_of c.take_list.new.more) c.requires.stamps
    (subst (λ (z : PassState × PassState). HasTaken z.0 z.1 q) (λ i. (c.less.view_is i, c.more.view_is i)) h)
    (c.take_list.ensures.more ∙ c.more.view_is)) c.take_list.ensures.ok

pub returns-clause-turned : goal.returns-clause-turned
returns-clause-turned c =
    let q : PassState = state_of c.take_list.new.less in
    on_ok_weaker c.take_list.result
    (λ (h : HasTaken (state_of c.less.inside.hand) (state_of c.more.inside.hand) q).
    met_other c.args.more.now c.args.less.now (state_of c.take_list.new.more) q
    (have_met c.args.less.now c.args.more.now q (state_of c.take_list.new.more) c.requires.stamps
    (subst (λ (z : PassState × PassState). HasTaken z.0 z.1 q) (λ i. (c.less.view_is i, c.more.view_is i)) h)
    (c.take_list.ensures.more ∙ c.more.view_is))) c.take_list.ensures.ok

pub returns-clause-err : goal.returns-clause-err
returns-clause-err c =
    on_err_weaker c.take_list.result
    (λ (e : state_of c.take_list.new.less ≡ state_of c.less.inside.hand). (e ∙ c.less.view_is, c.take_list.ensures.more ∙ c.more.view_is))
    c.take_list.ensures.err

pub returns-clause-err_turned : goal.returns-clause-err_turned
returns-clause-err_turned c =
    on_err_weaker c.take_list.result
    (λ (e : state_of c.take_list.new.less ≡ state_of c.less.inside.hand). (c.take_list.ensures.more ∙ c.more.view_is, e ∙ c.less.view_is))
    c.take_list.ensures.err
