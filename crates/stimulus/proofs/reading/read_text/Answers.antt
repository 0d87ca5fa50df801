use Rattle.std.proofs.Common.{◌≡◌, ℕ, Bool, true, List, [], ◌∷◌, length, inr, refl, sym, ◌∙◌, arith}
use Rattle.std.specs.Bool.{◌==◌}
use Rattle.std.proofs.lemmas.Bool.Decides.{nat_tests}
use Rattle.stimulus.proofs.TextLemmas.{lacks_latches}
use Rattle.stimulus.proofs.reading.read_text.Goals as goal

-- rows that are tested to be none
no_rows : (items rows : List (List Bool)) (n : ℕ) (t : Bool) → n ≡ length items → items ≡ rows → t ≡ (n == 0) → t ≡ true → rows ≡ []
no_rows [] rows n t size same is tested = sym same
no_rows (item ∷ items) rows n t size same is tested =
    let zero : (n == 0) ≡ true = sym is ∙ tested in absurd (grind (arith, nat_tests))

pub returns-then-is_empty-clause-fault : goal.returns-then-is_empty-clause-fault
returns-then-is_empty-clause-fault c =
    let lines = c.into_vec-lines.result in
    let none = no_rows lines.items c.in_ok-lines.lines lines.len c.is_empty.result lines.ok.0 c.into_vec-lines.ensures c.is_empty.ensures c.if-is_empty.true in
    (c.in_ok-lines.number, refl, inr (lacks_latches c.args.bytes.now c.in_ok-lines.lines c.in_ok-lines.number none c.in_ok-lines.ensures.found c.in_ok-lines.ensures.next))
