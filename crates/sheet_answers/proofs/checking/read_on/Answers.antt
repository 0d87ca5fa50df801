use Rattle.std.proofs.Common.{rules, ◌≡◌, ◌∙◌, ℕ, Bool, false, List, [], ◌∷◌, Option, Result, Err, refl, sym, ap, subst, arith}
use Rattle.std.specs.Prelude.{IsTrue, IsFalse}
use Rattle.std.proofs.lemmas.Bool.{false≢true}
use Rattle.edge.specs.Reads.{Reads}
use Rattle.answer_lines.specs.Left.{Reading, at_start, Took}
use Rattle.answer_lines.proofs.ReadLaws.{reads_after}
use Rattle.stimulus.specs.Texts.{is_skipped}
use Rattle.certificate.specs.Lines.{kept_from}
use Rattle.sheet_answers.specs.declared.ends.JudgeEnd.{JudgeEnd}
use Rattle.sheet_answers.specs.declared.found.Found.{Found}
use Rattle.sheet_answers.specs.declared.state.State.{State as StateInCode}
use Rattle.sheet_answers.specs.Reading.{Replays, read_lines}
use Rattle.certificate.specs.Reading.{opens_sheet}
use Rattle.sheet_answers.specs.Ends.{has_unread}
use Rattle.sheet_answers.specs.Seen.{seen, IsKept, OfEnd}
use Rattle.sheet_answers.specs.First.{IsAnyway, IsEnd, IsLater, OfLines, TellsText}
use Rattle.sheet_answers.proofs.Replaying.{replays_of, are_replays}
use Rattle.sheet_answers.proofs.Reached.{Reached, reached_start, reached_next, other_line, other_end, none_kept}
use Rattle.sheet_answers.proofs.Told.{lines_told, stop_told, left_nothing, good_told, end_told, of_unread, at_end_unread}
use Rattle.sheet_answers.proofs.checking.read_on.Goals as goal

pub lines-init : goal.lines-init
lines-init g c =
    let told : Option (List ℕ) = g.H.Shelf.held c.args.shelf.now c.args.name.now in
    record {
      reached = subst (λ (r : Reading). Reached c.args.circuit.now told r (seen c.args.state.now) 1) (sym c.requires.start)
          (subst (λ (s : StateInCode). Reached c.args.circuit.now told at_start (seen s) 1) (sym c.requires.state) (reached_start c.args.circuit.now told));
      state = subst (IsKept c.args.circuit.now) (sym c.requires.state) tt;
      below = omega arith;
      within = omega (arith, ap (λ (r : Reading). r.taken) c.requires.start);
      counts = λ name. omega arith;
      kept = λ name. refl;
      reads = (0, refl);
    }

pub returns-in_err-next_line-clause-tells : goal.returns-in_err-next_line-clause-tells
returns-in_err-next_line-clause-tells g c =
    let told : Option (List ℕ) = g.H.Shelf.held c.args.shelf.now c.args.name.now in
    let e : c.from_residual.result ≡ Err c.in_err-next_line.field-0.0 = search rules in
    let of : OfLines (seen c.lines.state) told c.lines.lines c.in_err-next_line.field-0.0 =
    subst (λ (t : Option (List ℕ)). OfLines (seen c.lines.state) t c.lines.lines c.in_err-next_line.field-0.0) (c.lines.invariant.kept c.args.name.now) c.in_err-next_line.ensures.ended in
    subst (λ (r : Result Found JudgeEnd). TellsText c.args.circuit.now told r) (sym e)
    (lines_told c.args.circuit.now told c.lines.lines (seen c.lines.state) c.lines.number c.in_err-next_line.field-0.0 c.lines.invariant.reached c.lines.invariant.within of)

pub returns-in_err-next_line-clause-reads : goal.returns-in_err-next_line-clause-reads
returns-in_err-next_line-clause-reads g c =
    reads_after g.H.Shelf.reads c.args.name.now (has_unread {T = Found} c.from_residual.result) c.args.shelf.now c.lines.shelf c.next_line.new.shelf c.lines.invariant.reads
    (subst (λ (failed : Bool). Reads g.H.Shelf.reads c.args.name.now failed c.lines.shelf c.next_line.new.shelf) (search rules) c.in_err-next_line.ensures.reads)

pub returns-then-is_other-clause-tells : goal.returns-then-is_other-clause-tells
returns-then-is_other-clause-tells g c =
    let told : Option (List ℕ) = g.H.Shelf.held c.args.shelf.now c.args.name.now in
    let given : IsTrue c.in_ok-next_line.field-0 = search rules in
    let took : Took told c.lines.lines c.next_line.new.lines =
    subst (λ (t : Option (List ℕ)). Took t c.lines.lines c.next_line.new.lines) (c.lines.invariant.kept c.args.name.now) (c.in_ok-next_line.ensures.took given) in
    let line : c.line.result.now ≡ c.next_line.new.lines.line = search rules in
    let is : IsTrue c.is_other.result = search rules in
    let other = c.is_other.ensures.yes is in
    other_line c.args.circuit.now told c.lines.lines c.next_line.new.lines (seen c.lines.state) c.lines.number c.lines.invariant.reached (c.in_ok-next_line.ensures.goes_on given) took
    (c.in_ok-next_line.ensures.plain given) (c.in_ok-next_line.ensures.most c.lines.invariant.within) other.0 (ap is_skipped (sym line) ∙ other.1) (ap opens_sheet (sym line) ∙ other.2)
    (none_kept c.args.circuit.now told c.lines.lines (seen c.lines.state) c.lines.number c.lines.invariant.reached other.0)

pub returns-in_err-advance-clause-tells : goal.returns-in_err-advance-clause-tells
returns-in_err-advance-clause-tells g c =
    let told : Option (List ℕ) = g.H.Shelf.held c.args.shelf.now c.args.name.now in
    let given : IsTrue c.in_ok-next_line.field-0 = search rules in
    let e : c.from_residual-in_err-advance.result ≡ Err c.in_err-advance.field-0.0 = search rules in
    let took : Took told c.lines.lines c.next_line.new.lines =
    subst (λ (t : Option (List ℕ)). Took t c.lines.lines c.next_line.new.lines) (c.lines.invariant.kept c.args.name.now) (c.in_ok-next_line.ensures.took given) in
    let first : c.line.result.now ≡ c.next_line.new.lines.line = search rules in
    let line : c.line-in-lines.result.now ≡ c.next_line.new.lines.line = search rules in
    let not_other : IsFalse c.is_other.result = search rules in
    let anyway : IsAnyway (seen c.lines.state) (is_skipped c.next_line.new.lines.line) (opens_sheet c.next_line.new.lines.line) =
    subst (λ (bytes : List ℕ). IsAnyway (seen c.lines.state) (is_skipped bytes) (opens_sheet bytes)) first (c.is_other.ensures.no not_other) in
    subst (λ (r : Result Found JudgeEnd). TellsText c.args.circuit.now told r) (sym e)
    (stop_told c.args.circuit.now told c.lines.lines c.next_line.new.lines (seen c.lines.state) c.lines.number c.in_err-advance.field-0.0 c.lines.invariant.reached
    (c.in_ok-next_line.ensures.goes_on given) took (c.in_ok-next_line.ensures.plain given) (c.in_ok-next_line.ensures.most c.lines.invariant.within) anyway
    (λ replays are. subst (λ (bytes : List ℕ). OfEnd (λ fault. read_lines c.args.circuit.now replays (seen c.lines.state) (kept_from c.lines.number (bytes ∷ [])) ≡ Err fault) c.in_err-advance.field-0.0)
    line (c.in_err-advance.ensures.fault replays are)))

pub returns-in_err-advance-clause-reads : goal.returns-in_err-advance-clause-reads
returns-in_err-advance-clause-reads g c =
    let e : c.from_residual-in_err-advance.result ≡ Err c.in_err-advance.field-0.0 = search rules in
    let replays : Replays = replays_of c.args.circuit.now in
    let unread : false ≡ has_unread {T = Found} c.from_residual-in_err-advance.result =
    sym (ap (λ (r : Result Found JudgeEnd). has_unread r) e
    ∙ of_unread (λ fault. read_lines c.args.circuit.now replays (seen c.lines.state) (kept_from c.lines.number (c.line-in-lines.result.now ∷ [])) ≡ Err fault) c.in_err-advance.field-0.0
    (c.in_err-advance.ensures.fault replays (are_replays c.args.circuit.now))) in
    subst (λ (failed : Bool). Reads g.H.Shelf.reads c.args.name.now failed c.args.shelf.now c.next_line.new.shelf) unread
    (reads_after g.H.Shelf.reads c.args.name.now false c.args.shelf.now c.lines.shelf c.next_line.new.shelf c.lines.invariant.reads c.in_ok-next_line.ensures.reads)

pub returns-in_err-advance-clause-read : goal.returns-in_err-advance-clause-read
returns-in_err-advance-clause-read g c =
    let e : c.from_residual-in_err-advance.result ≡ Err c.in_err-advance.field-0.0 = search rules in
    let replays : Replays = replays_of c.args.circuit.now in
    let read : has_unread {T = Found} c.from_residual-in_err-advance.result ≡ false =
    ap (λ (r : Result Found JudgeEnd). has_unread r) e
    ∙ of_unread (λ fault. read_lines c.args.circuit.now replays (seen c.lines.state) (kept_from c.lines.number (c.line-in-lines.result.now ∷ [])) ≡ Err fault) c.in_err-advance.field-0.0
    (c.in_err-advance.ensures.fault replays (are_replays c.args.circuit.now)) in
    λ unread. absurd (false≢true (sym read ∙ ap (λ (r : Result Found JudgeEnd). has_unread r) unread))

pub lines-preserved : goal.lines-preserved
lines-preserved g c =
    let told : Option (List ℕ) = g.H.Shelf.held c.args.shelf.now c.args.name.now in
    let given : IsTrue c.in_ok-next_line.field-0 = search rules in
    let took : Took told c.lines.lines c.next_line.new.lines =
    subst (λ (t : Option (List ℕ)). Took t c.lines.lines c.next_line.new.lines) (c.lines.invariant.kept c.args.name.now) (c.in_ok-next_line.ensures.took given) in
    let first : c.line.result.now ≡ c.next_line.new.lines.line = search rules in
    let line : c.line-in-lines.result.now ≡ c.next_line.new.lines.line = search rules in
    let not_other : IsFalse c.is_other.result = search rules in
    let anyway : IsAnyway (seen c.lines.state) (is_skipped c.next_line.new.lines.line) (opens_sheet c.next_line.new.lines.line) =
    subst (λ (bytes : List ℕ). IsAnyway (seen c.lines.state) (is_skipped bytes) (opens_sheet bytes)) first (c.is_other.ensures.no not_other) in
    record {
      reached = reached_next c.args.circuit.now told c.lines.lines c.next_line.new.lines (seen c.lines.state) (seen c.advance.new.state) c.lines.number c.lines.invariant.reached
          (c.in_ok-next_line.ensures.goes_on given) took (c.in_ok-next_line.ensures.plain given) anyway
          (λ replays are. ap (λ (bytes : List ℕ). read_lines c.args.circuit.now replays (seen c.lines.state) (kept_from c.lines.number (bytes ∷ []))) (sym line) ∙ c.in_ok-advance.ensures.ok replays are);
      state = c.in_ok-advance.ensures.kept;
      below = omega (arith, c.lines.invariant.below, c.in_ok-next_line.ensures.later given);
      within = c.in_ok-next_line.ensures.most c.lines.invariant.within;
      counts = λ name. omega (arith, c.lines.invariant.counts name, c.in_ok-next_line.ensures.counts name);
      kept = λ name. c.in_ok-next_line.ensures.kept name ∙ c.lines.invariant.kept name;
      reads = reads_after g.H.Shelf.reads c.args.name.now false c.args.shelf.now c.lines.shelf c.next_line.new.shelf c.lines.invariant.reads c.in_ok-next_line.ensures.reads;
    }

pub returns-then-is_first-clause-tells : goal.returns-then-is_first-clause-tells
returns-then-is_first-clause-tells g c =
    let told : Option (List ℕ) = g.H.Shelf.held c.args.shelf.now c.args.name.now in
    let none : IsFalse c.in_ok-next_line.field-0 = search rules in
    let end : IsEnd (seen c.lines.state) told c.lines.lines =
    subst (λ (t : Option (List ℕ)). IsEnd (seen c.lines.state) t c.lines.lines) (c.lines.invariant.kept c.args.name.now) (c.in_ok-next_line.ensures.end none) in
    let is : IsTrue c.is_first.result = search rules in
    other_end c.args.circuit.now told c.lines.lines (seen c.lines.state) c.lines.number c.lines.invariant.reached c.lines.invariant.within
    (none_kept c.args.circuit.now told c.lines.lines (seen c.lines.state) c.lines.number c.lines.invariant.reached (c.is_first.ensures.yes is)) end

pub returns-in_err-accepted-clause-tells : goal.returns-in_err-accepted-clause-tells
returns-in_err-accepted-clause-tells g c =
    let told : Option (List ℕ) = g.H.Shelf.held c.args.shelf.now c.args.name.now in
    let none : IsFalse c.in_ok-next_line.field-0 = search rules in
    let end : IsEnd (seen c.lines.state) told c.lines.lines =
    subst (λ (t : Option (List ℕ)). IsEnd (seen c.lines.state) t c.lines.lines) (c.lines.invariant.kept c.args.name.now) (c.in_ok-next_line.ensures.end none) in
    let not_first : IsFalse c.is_first.result = search rules in
    let later : IsLater (seen c.lines.state) = c.is_first.ensures.no not_first in
    let e : c.from_residual-in_err-accepted.result ≡ Err c.in_err-accepted.field-0.0 = search rules in
    subst (λ (r : Result Found JudgeEnd). TellsText c.args.circuit.now told r) (sym e)
    (end_told c.args.circuit.now told c.lines.lines (seen c.lines.state) c.lines.number c.in_err-accepted.field-0.0 c.lines.invariant.reached later c.lines.invariant.within
    (left_nothing (seen c.lines.state) told c.lines.lines later end)
    c.in_err-accepted.ensures)

pub returns-in_err-accepted-clause-reads : goal.returns-in_err-accepted-clause-reads
returns-in_err-accepted-clause-reads g c =
    let e : c.from_residual-in_err-accepted.result ≡ Err c.in_err-accepted.field-0.0 = search rules in
    let unread : false ≡ has_unread {T = Found} c.from_residual-in_err-accepted.result =
    sym (ap (λ (r : Result Found JudgeEnd). has_unread r) e
    ∙ at_end_unread (seen c.lines.state) c.lines.number c.in_err-accepted.field-0.0 c.in_err-accepted.ensures) in
    subst (λ (failed : Bool). Reads g.H.Shelf.reads c.args.name.now failed c.args.shelf.now c.next_line.new.shelf) unread
    (reads_after g.H.Shelf.reads c.args.name.now false c.args.shelf.now c.lines.shelf c.next_line.new.shelf c.lines.invariant.reads c.in_ok-next_line.ensures.reads)

pub returns-clause-tells : goal.returns-clause-tells
returns-clause-tells g c =
    let told : Option (List ℕ) = g.H.Shelf.held c.args.shelf.now c.args.name.now in
    let none : IsFalse c.in_ok-next_line.field-0 = search rules in
    let end : IsEnd (seen c.lines.state) told c.lines.lines =
    subst (λ (t : Option (List ℕ)). IsEnd (seen c.lines.state) t c.lines.lines) (c.lines.invariant.kept c.args.name.now) (c.in_ok-next_line.ensures.end none) in
    let not_first : IsFalse c.is_first.result = search rules in
    let later : IsLater (seen c.lines.state) = c.is_first.ensures.no not_first in
    good_told c.args.circuit.now told c.lines.lines (seen c.lines.state) c.lines.number c.in_ok-accepted.accepted c.lines.invariant.reached later c.lines.invariant.within
    (left_nothing (seen c.lines.state) told c.lines.lines later end)
    c.in_ok-accepted.ensures

pub returns-then-is_other-clause-reads : goal.returns-then-is_other-clause-reads
returns-then-is_other-clause-reads g c =
    reads_after g.H.Shelf.reads c.args.name.now false c.args.shelf.now c.lines.shelf c.next_line.new.shelf c.lines.invariant.reads c.in_ok-next_line.ensures.reads

pub returns-then-is_first-clause-reads : goal.returns-then-is_first-clause-reads
returns-then-is_first-clause-reads g c =
    reads_after g.H.Shelf.reads c.args.name.now false c.args.shelf.now c.lines.shelf c.next_line.new.shelf c.lines.invariant.reads c.in_ok-next_line.ensures.reads

pub returns-clause-reads : goal.returns-clause-reads
returns-clause-reads g c =
    reads_after g.H.Shelf.reads c.args.name.now false c.args.shelf.now c.lines.shelf c.next_line.new.shelf c.lines.invariant.reads c.in_ok-next_line.ensures.reads
