use Rattle.std.proofs.Common.{rules, ◌≡◌, ◌∙◌, ℕ, Bool, true, false, List, [], ◌∷◌, Option, Some, None, Result, Ok, Err, refl, sym, ap, subst, arith}
use Rattle.std.specs.Prelude.{IsTrue, IsFalse}
use Rattle.edge.specs.Reads.{Reads}
use Rattle.edge.specs.Told.{IfTold}
use Rattle.answer_lines.specs.Left.{Reading, at_start, left_of, Took}
use Rattle.answer_lines.proofs.ReadLaws.{reads_after}
use Rattle.stimulus.specs.Texts.{is_skipped}
use Rattle.certificate.specs.Lines.{kept_from}
use Rattle.certificate.specs.Reading.{opens_rounds}
use Rattle.round_answers.specs.declared.ends.Judged.{Judged}
use Rattle.round_answers.specs.declared.ends.JudgeEnd.{JudgeEnd}
use Rattle.round_answers.specs.declared.state.State.{State as StateInCode}
use Rattle.round_answers.specs.Reading.{read_lines}
use Rattle.round_answers.specs.Seen.{seen, IsKept}
use Rattle.round_answers.specs.First.{IsAnyway, IsEnd, IsLater, IsOther, OfLines, OfStop, TellsText, is_unread}
use Rattle.round_answers.proofs.Reached.{Reached, reached_start, reached_next, other_line, other_end, none_kept}
use Rattle.round_answers.proofs.Told.{lines_told, stop_told, left_nothing, good_told, end_told, stop_unread, end_unread}
use Rattle.round_answers.proofs.checking.read_on.Goals as goal

pub lines-init : goal.lines-init
lines-init g c =
    let told : Option (List ℕ) = g.H.Shelf.held c.args.shelf.now c.args.name.now in
    record {
      reached = subst (λ (r : Reading). Reached c.args.circuit.now told r (seen c.args.state.now) 1) (sym c.requires.start)
          (subst (λ (s : StateInCode). Reached c.args.circuit.now told at_start (seen s) 1) (sym c.requires.state) (reached_start c.args.circuit.now told));
      state = subst (IsKept c.args.circuit.now) (sym c.requires.state) tt;
      below = omega arith;
      within = omega (arith, ap (λ (r : Reading). r.taken) c.requires.start);
      counts = λ name. omega arith;
      kept = λ name. refl;
      reads = (0, refl);
    }

pub returns-in_err-next_line-clause-tells : goal.returns-in_err-next_line-clause-tells
returns-in_err-next_line-clause-tells g c =
    let told : Option (List ℕ) = g.H.Shelf.held c.args.shelf.now c.args.name.now in
    let e : c.from_residual.result ≡ Err c.in_err-next_line.field-0.0 = search rules in
    let of : OfLines (seen c.lines.state) told c.lines.lines c.in_err-next_line.field-0.0 =
    subst (λ (t : Option (List ℕ)). OfLines (seen c.lines.state) t c.lines.lines c.in_err-next_line.field-0.0) (c.lines.invariant.kept c.args.name.now) c.in_err-next_line.ensures.ended in
    subst (λ (r : Result (Option Judged) JudgeEnd). TellsText c.args.circuit.now told r) (sym e)
    (lines_told c.args.circuit.now told c.lines.lines (seen c.lines.state) c.lines.number c.in_err-next_line.field-0.0 c.lines.invariant.reached c.lines.invariant.within of)

pub returns-in_err-next_line-clause-reads : goal.returns-in_err-next_line-clause-reads
returns-in_err-next_line-clause-reads g c =
    reads_after g.H.Shelf.reads c.args.name.now (is_unread {T = Option Judged} c.from_residual.result) c.args.shelf.now c.lines.shelf c.next_line.new.shelf c.lines.invariant.reads
    (subst (λ (failed : Bool). Reads g.H.Shelf.reads c.args.name.now failed c.lines.shelf c.next_line.new.shelf) (search rules) c.in_err-next_line.ensures.reads)

pub returns-then-is_other-clause-tells : goal.returns-then-is_other-clause-tells
returns-then-is_other-clause-tells g c =
    let told : Option (List ℕ) = g.H.Shelf.held c.args.shelf.now c.args.name.now in
    let given : IsTrue c.in_ok-next_line.field-0 = search rules in
    let took : Took told c.lines.lines c.next_line.new.lines =
    subst (λ (t : Option (List ℕ)). Took t c.lines.lines c.next_line.new.lines) (c.lines.invariant.kept c.args.name.now) (c.in_ok-next_line.ensures.took given) in
    let line : c.line.result.now ≡ c.next_line.new.lines.line = search rules in
    let is : IsTrue c.is_other.result = search rules in
    let other = c.is_other.ensures.yes is in
    other_line c.args.circuit.now told c.lines.lines c.next_line.new.lines (seen c.lines.state) c.lines.number c.lines.invariant.reached (c.in_ok-next_line.ensures.goes_on given) took
    (c.in_ok-next_line.ensures.plain given) (c.in_ok-next_line.ensures.most c.lines.invariant.within) other.0 (ap is_skipped (sym line) ∙ other.1) (ap opens_rounds (sym line) ∙ other.2)
    (none_kept c.args.circuit.now told c.lines.lines (seen c.lines.state) c.lines.number c.lines.invariant.reached other.0)

pub returns-in_err-advance-clause-tells : goal.returns-in_err-advance-clause-tells
returns-in_err-advance-clause-tells g c =
    let told : Option (List ℕ) = g.H.Shelf.held c.args.shelf.now c.args.name.now in
    let given : IsTrue c.in_ok-next_line.field-0 = search rules in
    let e : c.from_residual-in_err-advance.result ≡ Err c.in_err-advance.field-0.0 = search rules in
    let took : Took told c.lines.lines c.next_line.new.lines =
    subst (λ (t : Option (List ℕ)). Took t c.lines.lines c.next_line.new.lines) (c.lines.invariant.kept c.args.name.now) (c.in_ok-next_line.ensures.took given) in
    let first : c.line.result.now ≡ c.next_line.new.lines.line = search rules in
    let line : c.line-in-lines.result.now ≡ c.next_line.new.lines.line = search rules in
    let not_other : IsFalse c.is_other.result = search rules in
    let anyway : IsAnyway (seen c.lines.state) (is_skipped c.next_line.new.lines.line) (opens_rounds c.next_line.new.lines.line) =
    subst (λ (bytes : List ℕ). IsAnyway (seen c.lines.state) (is_skipped bytes) (opens_rounds bytes)) first (c.is_other.ensures.no not_other) in
    subst (λ (r : Result (Option Judged) JudgeEnd). TellsText c.args.circuit.now told r) (sym e)
    (stop_told c.args.circuit.now told c.lines.lines c.next_line.new.lines (seen c.lines.state) c.lines.number c.in_err-advance.field-0.0 c.lines.invariant.reached
    (c.in_ok-next_line.ensures.goes_on given) took (c.in_ok-next_line.ensures.plain given) (c.in_ok-next_line.ensures.most c.lines.invariant.within) anyway
    (subst (λ (bytes : List ℕ). OfStop (λ stop. read_lines c.args.circuit.now (seen c.lines.state) (kept_from c.lines.number (bytes ∷ [])) ≡ Err stop) c.in_err-advance.field-0.0) line c.in_err-advance.ensures.stop))

pub returns-in_err-advance-clause-reads : goal.returns-in_err-advance-clause-reads
returns-in_err-advance-clause-reads g c =
    let e : c.from_residual-in_err-advance.result ≡ Err c.in_err-advance.field-0.0 = search rules in
    let unread : false ≡ is_unread {T = Option Judged} c.from_residual-in_err-advance.result =
    sym (ap (λ (r : Result (Option Judged) JudgeEnd). is_unread r) e
    ∙ stop_unread (λ stop. read_lines c.args.circuit.now (seen c.lines.state) (kept_from c.lines.number (c.line-in-lines.result.now ∷ [])) ≡ Err stop) c.in_err-advance.field-0.0 c.in_err-advance.ensures.stop) in
    subst (λ (failed : Bool). Reads g.H.Shelf.reads c.args.name.now failed c.args.shelf.now c.next_line.new.shelf) unread
    (reads_after g.H.Shelf.reads c.args.name.now false c.args.shelf.now c.lines.shelf c.next_line.new.shelf c.lines.invariant.reads c.in_ok-next_line.ensures.reads)

pub lines-preserved : goal.lines-preserved
lines-preserved g c =
    let told : Option (List ℕ) = g.H.Shelf.held c.args.shelf.now c.args.name.now in
    let given : IsTrue c.in_ok-next_line.field-0 = search rules in
    let took : Took told c.lines.lines c.next_line.new.lines =
    subst (λ (t : Option (List ℕ)). Took t c.lines.lines c.next_line.new.lines) (c.lines.invariant.kept c.args.name.now) (c.in_ok-next_line.ensures.took given) in
    let first : c.line.result.now ≡ c.next_line.new.lines.line = search rules in
    let line : c.line-in-lines.result.now ≡ c.next_line.new.lines.line = search rules in
    let not_other : IsFalse c.is_other.result = search rules in
    let anyway : IsAnyway (seen c.lines.state) (is_skipped c.next_line.new.lines.line) (opens_rounds c.next_line.new.lines.line) =
    subst (λ (bytes : List ℕ). IsAnyway (seen c.lines.state) (is_skipped bytes) (opens_rounds bytes)) first (c.is_other.ensures.no not_other) in
    record {
      reached = reached_next c.args.circuit.now told c.lines.lines c.next_line.new.lines (seen c.lines.state) (seen c.advance.new.state) c.lines.number c.lines.invariant.reached
          (c.in_ok-next_line.ensures.goes_on given) took (c.in_ok-next_line.ensures.plain given) anyway
          (ap (λ (bytes : List ℕ). read_lines c.args.circuit.now (seen c.lines.state) (kept_from c.lines.number (bytes ∷ []))) (sym line) ∙ c.in_ok-advance.ensures.ok);
      state = c.in_ok-advance.ensures.kept;
      below = omega (arith, c.lines.invariant.below, c.in_ok-next_line.ensures.later given);
      within = c.in_ok-next_line.ensures.most c.lines.invariant.within;
      counts = λ name. omega (arith, c.lines.invariant.counts name, c.in_ok-next_line.ensures.counts name);
      kept = λ name. c.in_ok-next_line.ensures.kept name ∙ c.lines.invariant.kept name;
      reads = reads_after g.H.Shelf.reads c.args.name.now false c.args.shelf.now c.lines.shelf c.next_line.new.shelf c.lines.invariant.reads c.in_ok-next_line.ensures.reads;
    }

pub returns-then-is_first-clause-tells : goal.returns-then-is_first-clause-tells
returns-then-is_first-clause-tells g c =
    let told : Option (List ℕ) = g.H.Shelf.held c.args.shelf.now c.args.name.now in
    let none : IsFalse c.in_ok-next_line.field-0 = search rules in
    let end : IsEnd (seen c.lines.state) told c.lines.lines =
    subst (λ (t : Option (List ℕ)). IsEnd (seen c.lines.state) t c.lines.lines) (c.lines.invariant.kept c.args.name.now) (c.in_ok-next_line.ensures.end none) in
    let is : IsTrue c.is_first.result = search rules in
    other_end c.args.circuit.now told c.lines.lines (seen c.lines.state) c.lines.number c.lines.invariant.reached c.lines.invariant.within
    (none_kept c.args.circuit.now told c.lines.lines (seen c.lines.state) c.lines.number c.lines.invariant.reached (c.is_first.ensures.yes is)) end

pub returns-in_err-judged-clause-tells : goal.returns-in_err-judged-clause-tells
returns-in_err-judged-clause-tells g c =
    let told : Option (List ℕ) = g.H.Shelf.held c.args.shelf.now c.args.name.now in
    let none : IsFalse c.in_ok-next_line.field-0 = search rules in
    let end : IsEnd (seen c.lines.state) told c.lines.lines =
    subst (λ (t : Option (List ℕ)). IsEnd (seen c.lines.state) t c.lines.lines) (c.lines.invariant.kept c.args.name.now) (c.in_ok-next_line.ensures.end none) in
    let not_first : IsFalse c.is_first.result = search rules in
    let later : IsLater (seen c.lines.state) = c.is_first.ensures.no not_first in
    let e : c.from_residual-in_err-judged.result ≡ Err c.in_err-judged.field-0.0 = search rules in
    subst (λ (r : Result (Option Judged) JudgeEnd). TellsText c.args.circuit.now told r) (sym e)
    (end_told c.args.circuit.now told c.lines.lines (seen c.lines.state) c.lines.number c.in_err-judged.field-0.0 c.lines.invariant.reached later c.lines.invariant.within
    (left_nothing (seen c.lines.state) told c.lines.lines later end)
    c.in_err-judged.ensures.tells)

pub returns-in_err-judged-clause-reads : goal.returns-in_err-judged-clause-reads
returns-in_err-judged-clause-reads g c =
    let e : c.from_residual-in_err-judged.result ≡ Err c.in_err-judged.field-0.0 = search rules in
    let unread : false ≡ is_unread {T = Option Judged} c.from_residual-in_err-judged.result =
    sym (ap (λ (r : Result (Option Judged) JudgeEnd). is_unread r) e
    ∙ end_unread c.args.circuit.now (seen c.lines.state) c.lines.number c.in_err-judged.field-0.0 c.in_err-judged.ensures.tells) in
    subst (λ (failed : Bool). Reads g.H.Shelf.reads c.args.name.now failed c.args.shelf.now c.next_line.new.shelf) unread
    (reads_after g.H.Shelf.reads c.args.name.now false c.args.shelf.now c.lines.shelf c.next_line.new.shelf c.lines.invariant.reads c.in_ok-next_line.ensures.reads)

pub returns-clause-tells : goal.returns-clause-tells
returns-clause-tells g c =
    let told : Option (List ℕ) = g.H.Shelf.held c.args.shelf.now c.args.name.now in
    let none : IsFalse c.in_ok-next_line.field-0 = search rules in
    let end : IsEnd (seen c.lines.state) told c.lines.lines =
    subst (λ (t : Option (List ℕ)). IsEnd (seen c.lines.state) t c.lines.lines) (c.lines.invariant.kept c.args.name.now) (c.in_ok-next_line.ensures.end none) in
    let not_first : IsFalse c.is_first.result = search rules in
    let later : IsLater (seen c.lines.state) = c.is_first.ensures.no not_first in
    good_told c.args.circuit.now told c.lines.lines (seen c.lines.state) c.lines.number c.in_ok-judged.judged c.lines.invariant.reached later c.lines.invariant.within
    (left_nothing (seen c.lines.state) told c.lines.lines later end)
    c.in_ok-judged.ensures.tells

pub returns-then-is_other-clause-reads : goal.returns-then-is_other-clause-reads
returns-then-is_other-clause-reads g c =
    reads_after g.H.Shelf.reads c.args.name.now false c.args.shelf.now c.lines.shelf c.next_line.new.shelf c.lines.invariant.reads c.in_ok-next_line.ensures.reads

pub returns-then-is_first-clause-reads : goal.returns-then-is_first-clause-reads
returns-then-is_first-clause-reads g c =
    reads_after g.H.Shelf.reads c.args.name.now false c.args.shelf.now c.lines.shelf c.next_line.new.shelf c.lines.invariant.reads c.in_ok-next_line.ensures.reads

pub returns-clause-reads : goal.returns-clause-reads
returns-clause-reads g c =
    reads_after g.H.Shelf.reads c.args.name.now false c.args.shelf.now c.lines.shelf c.next_line.new.shelf c.lines.invariant.reads c.in_ok-next_line.ensures.reads
