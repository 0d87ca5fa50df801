-- The ledger that a pass is of.
use Rattle.std.proofs.Common.{◌≡◌, ◌+◌, ◌<◌, ◌^◌, sym, ap, ◌∙◌, subst, arith}
use Rattle.atomic_table.specs.Seated.{TableId}
use Rattle.wall_store.specs.Boards.{BoardState}
use Rattle.wall_ledger.specs.declared.pass.Hand.{Hand}
use Rattle.wall_ledger.specs.Passes.{Home, PassState, LedgerState}
use Rattle.wall_ledger.specs.Hands.{face_in, state_of, ledger_of, IsResting}

module _ (s : Hand) (lock : TableId) (key : BoardState) (l : LedgerState) (p : PassState) (ledger : ledger_of lock key ≡ l) (pass : state_of s ≡ p)
    (rests : IsResting s) (own : p.home ≡ l.home) where
  home_in : (state_of s).home ≡ (ledger_of lock key).home
  home_in = ap (λ (q : PassState). q.home) pass ∙ (own ∙ sym (ap (λ (m : LedgerState). m.home) ledger))

  pub gate_in : s.place.table_id ≡ lock
  gate_in = ap (λ (h : Home). h.lock) home_in

  pub first_in : (face_in s).first ≡ key
  first_in = ap (λ (h : Home). h.first) home_in

  pub ledger_in : ledger_of s.place.table_id s.first.value.value ≡ l
  ledger_in = ap (ledger_of s.place.table_id) (sym rests.mirror.first) ∙ (ap (λ (h : Home). ledger_of h.lock h.first) home_in ∙ ledger)

  pub stamp_in : s.stamp ≡ p.stamp
  stamp_in = sym rests.mirror.stamp ∙ ap (λ (q : PassState). q.stamp) pass

  pub turns_in : p.turns + 1 < 2 ^ 32 → s.turns + 1 < 2 ^ 32
  turns_in below = let a : (face_in s).turns ≡ p.turns = ap (λ (q : PassState). q.turns) pass in let b = rests.mirror.turns in omega arith

  -- what is so of the pass in memory is so of the pass
  pub outward : (R : LedgerState → PassState → Type 0) → R (ledger_of s.place.table_id s.first.value.value) (state_of s) → R l p
  outward R h = subst (λ (z : LedgerState × PassState). R z.0 z.1) (λ i. (ledger_in i, pass i)) h

  pub inward : (R : LedgerState → PassState → Type 0) → R l p → R (ledger_of s.place.table_id s.first.value.value) (state_of s)
  inward R h = subst (λ (z : LedgerState × PassState). R z.0 z.1) (λ i. (sym ledger_in i, sym pass i)) h
