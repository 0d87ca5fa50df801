use Rattle.std.proofs.Common.{◌≡◌, ◌+◌, ◌∙◌, ◌++◌, ℕ, List, Option, subst, ap, take, drop}
use Rattle.std.specs.Prelude.{IfSome}
use Rattle.text_grammar.specs.Lines.{IsLine}
use Rattle.answer_lines.specs.Left.{Reading}
use Rattle.answer_lines.specs.LinesOf.{front_of, rest_of}
use Rattle.answer_lines.proofs.LeftLaws.{cut_found}
use Rattle.answer_lines.proofs.lines.Lines.cut.Goals as goal

pub returns-clause-found : goal.returns-clause-found
returns-clause-found c _ =
    let s = c.self.inside in
    let rest : List ℕ = rest_of c.deref.result.now s.start s.end in
    let found : IsLine (take c.in-Some.n rest) rest (drop (c.in-Some.n + 1) rest) = subst (λ (cut : Option ℕ). IfSome cut (λ n. IsLine (take n rest) rest (drop (n + 1) rest))) c.in-Some.is c.in_ok-n.ensures.found in
    let added : c.add_front.new.line.items ≡ c.forget.new.line.items ++ take c.in-Some.n rest = subst (λ (cut : Option ℕ). IfSome cut (λ n. c.add_front.new.line.items ≡ c.forget.new.line.items ++ take n rest)) c.in-Some.is c.in_ok-n.ensures.added in
    let line : c.add_front.new.line.items ≡ front_of s.given s.line.items ++ take c.in-Some.n rest = added ∙ ap (λ (front : List ℕ). front ++ take c.in-Some.n rest) c.forget.ensures.front in
    let is_rest : rest ≡ rest_of s.piece.items s.start s.end = ap (λ (piece : List ℕ). rest_of piece s.start s.end) c.deref.ensures.value in
    subst (λ (r : Reading). IsLine c.add_front.new.line.items r.ahead (rest_of s.piece.items (s.start + (c.in-Some.n + 1)) s.end)) c.self.view_is
    (cut_found (front_of s.given s.line.items) c.add_front.new.line.items rest s.piece.items s.start s.end c.in-Some.n line is_rest c.self.invariant.front found)
