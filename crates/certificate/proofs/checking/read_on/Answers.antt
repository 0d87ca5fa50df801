use Rattle.std.proofs.Common.{rules, ◌≡◌, ◌∙◌, ℕ, Bool, false, List, [], ◌∷◌, ◌++◌, Option, Result, Err, refl, sym, ap, subst, arith}
use Rattle.std.specs.Prelude.{IsTrue, IsFalse}
use Rattle.edge.specs.Reads.{Reads}
use Rattle.edge.specs.Told.{IfTold}
use Rattle.answer_lines.specs.Left.{Reading, at_start, left_of, Took}
use Rattle.answer_lines.proofs.ReadLaws.{reads_after}
use Rattle.certificate.specs.declared.ends.Accepted.{Accepted}
use Rattle.certificate.specs.declared.ends.AnswerEnd.{AnswerEnd}
use Rattle.certificate.specs.Ends.{EndsWith, IsFaultAtEnd, has_unread}
use Rattle.certificate.specs.Lines.{kept_from}
use Rattle.certificate.specs.declared.state.State.{State as StateInCode}
use Rattle.certificate.specs.Reading.{read_lines}
use Rattle.certificate.specs.Seen.{seen, IsKept}
use Rattle.certificate.specs.Texts.{OfLines, ReadingSays}
use Rattle.certificate.proofs.Ended.{says_found, says_exactly}
use Rattle.certificate.proofs.Kept.{kept_at_end}
use Rattle.certificate.proofs.Reached.{lines_found, lines_exactly, step_found, step_exactly, at_line, step_unread, end_unread, end_said}
use Rattle.certificate.proofs.WholeLaws.{Keeping, keep_start, keep_next, whole_at_end}
use Rattle.stimulus.specs.Texts.{kept_lines}
use Rattle.certificate.proofs.checking.read_on.Goals as goal

pub lines-init : goal.lines-init
lines-init g c =
    let told : Option (List ℕ) = g.H.Shelf.held c.args.shelf.now c.args.name.now in
    record {
      reached = subst (λ (r : Reading). Keeping c.args.circuit.now told r (seen c.args.state.now) 1 c.args.all.now.keeps c.args.all.now.lines) (sym c.requires.start)
          (subst (λ (s : StateInCode). Keeping c.args.circuit.now told at_start (seen s) 1 c.args.all.now.keeps c.args.all.now.lines) (sym c.requires.state)
          (keep_start c.args.circuit.now told c.args.all.now.keeps c.args.all.now.lines c.requires.none));
      keeps = refl;
      state = subst (IsKept c.args.circuit.now) (sym c.requires.state) tt;
      below = omega arith;
      within = omega (arith, ap (λ (r : Reading). r.taken) c.requires.start);
      counts = λ name. omega arith;
      kept = λ name. refl;
      reads = (0, refl);
    }

pub returns-in_err-next_line-clause-found : goal.returns-in_err-next_line-clause-found
returns-in_err-next_line-clause-found g c =
    let told : Option (List ℕ) = g.H.Shelf.held c.args.shelf.now c.args.name.now in
    let e : c.from_residual.result ≡ Err c.in_err-next_line.field-0.0 = search rules in
    let of : OfLines told c.lines.lines c.in_err-next_line.field-0.0 = subst (λ (t : Option (List ℕ)). OfLines t c.lines.lines c.in_err-next_line.field-0.0) (c.lines.invariant.kept c.args.name.now) c.in_err-next_line.ensures.ended in
    subst (λ (r : Result Accepted AnswerEnd). ReadingSays c.args.circuit.now told r) (sym e)
    (lines_found c.args.circuit.now told c.lines.lines (seen c.lines.state) c.lines.number c.in_err-next_line.field-0.0 c.lines.invariant.reached.whole c.lines.invariant.within of)

pub returns-in_err-next_line-clause-exactly : goal.returns-in_err-next_line-clause-exactly
returns-in_err-next_line-clause-exactly g c =
    let told : Option (List ℕ) = g.H.Shelf.held c.args.shelf.now c.args.name.now in
    let e : c.from_residual.result ≡ Err c.in_err-next_line.field-0.0 = search rules in
    let of : OfLines told c.lines.lines c.in_err-next_line.field-0.0 = subst (λ (t : Option (List ℕ)). OfLines t c.lines.lines c.in_err-next_line.field-0.0) (c.lines.invariant.kept c.args.name.now) c.in_err-next_line.ensures.ended in
    λ text verdict is reads. subst (λ (r : Result Accepted AnswerEnd). EndsWith r verdict) (sym e)
    (lines_exactly c.args.circuit.now told c.lines.lines (seen c.lines.state) c.lines.number c.in_err-next_line.field-0.0 c.lines.invariant.reached.whole c.lines.invariant.within of text verdict is reads)

pub returns-in_err-next_line-clause-reads : goal.returns-in_err-next_line-clause-reads
returns-in_err-next_line-clause-reads g c =
    reads_after g.H.Shelf.reads c.args.name.now (has_unread c.from_residual.result) c.args.shelf.now c.lines.shelf c.next_line.new.shelf c.lines.invariant.reads
    (subst (λ (failed : Bool). Reads g.H.Shelf.reads c.args.name.now failed c.lines.shelf c.next_line.new.shelf) (search rules) c.in_err-next_line.ensures.reads)

pub returns-in_err-advance-clause-found : goal.returns-in_err-advance-clause-found
returns-in_err-advance-clause-found g c =
    let told : Option (List ℕ) = g.H.Shelf.held c.args.shelf.now c.args.name.now in
    let given : IsTrue c.in_ok-next_line.field-0 = search rules in
    let e : c.from_residual-in_err-advance.result ≡ Err c.in_err-advance.field-0.0 = search rules in
    let took : Took told c.lines.lines c.next_line.new.lines = subst (λ (t : Option (List ℕ)). Took t c.lines.lines c.next_line.new.lines) (c.lines.invariant.kept c.args.name.now) (c.in_ok-next_line.ensures.took given) in
    let line : c.line.result.now ≡ c.next_line.new.lines.line = search rules in
    subst (λ (r : Result Accepted AnswerEnd). ReadingSays c.args.circuit.now told r) (sym e)
    (step_found c.args.circuit.now told c.lines.lines c.next_line.new.lines (seen c.lines.state) c.lines.number c.in_err-advance.field-0.0 c.lines.invariant.reached.whole
    (c.in_ok-next_line.ensures.goes_on given) took (c.in_ok-next_line.ensures.plain given) (c.in_ok-next_line.ensures.most c.lines.invariant.within)
    (at_line c.args.circuit.now (seen c.lines.state) c.lines.number c.in_err-advance.field-0.0 c.line.result.now c.next_line.new.lines.line line c.in_err-advance.ensures.fault))

pub returns-in_err-advance-clause-exactly : goal.returns-in_err-advance-clause-exactly
returns-in_err-advance-clause-exactly g c =
    let told : Option (List ℕ) = g.H.Shelf.held c.args.shelf.now c.args.name.now in
    let given : IsTrue c.in_ok-next_line.field-0 = search rules in
    let e : c.from_residual-in_err-advance.result ≡ Err c.in_err-advance.field-0.0 = search rules in
    let took : Took told c.lines.lines c.next_line.new.lines = subst (λ (t : Option (List ℕ)). Took t c.lines.lines c.next_line.new.lines) (c.lines.invariant.kept c.args.name.now) (c.in_ok-next_line.ensures.took given) in
    let line : c.line.result.now ≡ c.next_line.new.lines.line = search rules in
    λ text verdict is reads. subst (λ (r : Result Accepted AnswerEnd). EndsWith r verdict) (sym e)
    (step_exactly c.args.circuit.now told c.lines.lines c.next_line.new.lines (seen c.lines.state) c.lines.number c.in_err-advance.field-0.0 c.lines.invariant.reached.whole
    (c.in_ok-next_line.ensures.goes_on given) took (c.in_ok-next_line.ensures.plain given) (c.in_ok-next_line.ensures.most c.lines.invariant.within)
    (at_line c.args.circuit.now (seen c.lines.state) c.lines.number c.in_err-advance.field-0.0 c.line.result.now c.next_line.new.lines.line line c.in_err-advance.ensures.fault)
    text verdict is reads)

pub returns-in_err-advance-clause-reads : goal.returns-in_err-advance-clause-reads
returns-in_err-advance-clause-reads g c =
    let e : c.from_residual-in_err-advance.result ≡ Err c.in_err-advance.field-0.0 = search rules in
    let unread : false ≡ has_unread c.from_residual-in_err-advance.result =
    sym (ap (λ (r : Result Accepted AnswerEnd). has_unread r) e ∙ step_unread (λ fault. read_lines c.args.circuit.now (seen c.lines.state) (kept_from c.lines.number (c.line.result.now ∷ [])) ≡ Err fault) c.in_err-advance.field-0.0 c.in_err-advance.ensures.fault) in
    subst (λ (failed : Bool). Reads g.H.Shelf.reads c.args.name.now failed c.args.shelf.now c.next_line.new.shelf) unread
    (reads_after g.H.Shelf.reads c.args.name.now false c.args.shelf.now c.lines.shelf c.next_line.new.shelf c.lines.invariant.reads c.in_ok-next_line.ensures.reads)

pub lines-preserved : goal.lines-preserved
lines-preserved g c =
    let told : Option (List ℕ) = g.H.Shelf.held c.args.shelf.now c.args.name.now in
    let given : IsTrue c.in_ok-next_line.field-0 = search rules in
    let took : Took told c.lines.lines c.next_line.new.lines = subst (λ (t : Option (List ℕ)). Took t c.lines.lines c.next_line.new.lines) (c.lines.invariant.kept c.args.name.now) (c.in_ok-next_line.ensures.took given) in
    let line : c.line.result.now ≡ c.next_line.new.lines.line = search rules in
    record {
      reached = keep_next c.args.circuit.now told c.lines.lines c.next_line.new.lines (seen c.lines.state) (seen c.advance.new.state) c.lines.number c.args.all.now.keeps c.lines.all.lines c.advance.new.all.lines
          c.lines.invariant.reached
          (c.in_ok-next_line.ensures.goes_on given) took (c.in_ok-next_line.ensures.plain given)
          (ap (λ (bytes : List ℕ). read_lines c.args.circuit.now (seen c.lines.state) (kept_from c.lines.number (bytes ∷ []))) (sym line) ∙ c.in_ok-advance.ensures.ok)
          (λ keeps. c.in_ok-advance.ensures.lines (c.lines.invariant.keeps ∙ keeps) ∙ ap (λ (bytes : List ℕ). c.lines.all.lines ++ kept_lines (bytes ∷ [])) line);
      keeps = c.in_ok-advance.ensures.keeps ∙ c.lines.invariant.keeps;
      state = c.in_ok-advance.ensures.kept;
      below = omega (arith, c.lines.invariant.below, c.in_ok-next_line.ensures.later given);
      within = c.in_ok-next_line.ensures.most c.lines.invariant.within;
      counts = λ name. omega (arith, c.lines.invariant.counts name, c.in_ok-next_line.ensures.counts name);
      kept = λ name. c.in_ok-next_line.ensures.kept name ∙ c.lines.invariant.kept name;
      reads = reads_after g.H.Shelf.reads c.args.name.now false c.args.shelf.now c.lines.shelf c.next_line.new.shelf c.lines.invariant.reads c.in_ok-next_line.ensures.reads;
    }

pub returns-clause-found : goal.returns-clause-found
returns-clause-found g c =
    let told : Option (List ℕ) = g.H.Shelf.held c.args.shelf.now c.args.name.now in
    let none : IsFalse c.in_ok-next_line.field-0 = search rules in
    let end : IfTold told (λ text. left_of c.lines.lines text ≡ []) = subst (λ (t : Option (List ℕ)). IfTold t (λ text. left_of c.lines.lines text ≡ [])) (c.lines.invariant.kept c.args.name.now) (c.in_ok-next_line.ensures.end none) in
    says_found c.args.circuit.now told c.finish.result
    (end_said c.args.circuit.now told c.lines.lines (seen c.lines.state) c.lines.number c.finish.result c.lines.invariant.reached.whole c.lines.invariant.within end
    (record { ok = c.finish.ensures.ok; fault = c.finish.ensures.fault; every = c.finish.ensures.every; each_fault = c.finish.ensures.each_fault }))

pub returns-clause-exactly : goal.returns-clause-exactly
returns-clause-exactly g c text verdict is reads =
    let told : Option (List ℕ) = g.H.Shelf.held c.args.shelf.now c.args.name.now in
    let none : IsFalse c.in_ok-next_line.field-0 = search rules in
    let end : IfTold told (λ text. left_of c.lines.lines text ≡ []) = subst (λ (t : Option (List ℕ)). IfTold t (λ text. left_of c.lines.lines text ≡ [])) (c.lines.invariant.kept c.args.name.now) (c.in_ok-next_line.ensures.end none) in
    says_exactly c.args.circuit.now told c.finish.result
    (end_said c.args.circuit.now told c.lines.lines (seen c.lines.state) c.lines.number c.finish.result c.lines.invariant.reached.whole c.lines.invariant.within end
    (record { ok = c.finish.ensures.ok; fault = c.finish.ensures.fault; every = c.finish.ensures.every; each_fault = c.finish.ensures.each_fault }))
    text verdict is reads

pub returns-clause-reads : goal.returns-clause-reads
returns-clause-reads g c =
    let unread : false ≡ has_unread c.finish.result = sym (end_unread (λ fault. IsFaultAtEnd c.args.circuit.now (seen c.lines.state) c.lines.number fault) c.finish.result c.finish.ensures.fault) in
    subst (λ (failed : Bool). Reads g.H.Shelf.reads c.args.name.now failed c.args.shelf.now c.next_line.new.shelf) unread
    (reads_after g.H.Shelf.reads c.args.name.now false c.args.shelf.now c.lines.shelf c.next_line.new.shelf c.lines.invariant.reads c.in_ok-next_line.ensures.reads)

pub returns-clause-lasso : goal.returns-clause-lasso
returns-clause-lasso g c =
    let told : Option (List ℕ) = g.H.Shelf.held c.args.shelf.now c.args.name.now in
    let none : IsFalse c.in_ok-next_line.field-0 = search rules in
    let end : IfTold told (λ text. left_of c.lines.lines text ≡ []) = subst (λ (t : Option (List ℕ)). IfTold t (λ text. left_of c.lines.lines text ≡ [])) (c.lines.invariant.kept c.args.name.now) (c.in_ok-next_line.ensures.end none) in
    kept_at_end c.args.circuit.now told c.lines.lines (seen c.lines.state) c.lines.number c.finish.new.kept c.finish.result c.lines.invariant.reached.whole
    c.lines.invariant.within end c.finish.ensures.ok c.finish.ensures.lasso

pub returns-clause-whole : goal.returns-clause-whole
returns-clause-whole g c =
    let told : Option (List ℕ) = g.H.Shelf.held c.args.shelf.now c.args.name.now in
    let none : IsFalse c.in_ok-next_line.field-0 = search rules in
    let end : IfTold told (λ text. left_of c.lines.lines text ≡ []) = subst (λ (t : Option (List ℕ)). IfTold t (λ text. left_of c.lines.lines text ≡ [])) (c.lines.invariant.kept c.args.name.now) (c.in_ok-next_line.ensures.end none) in
    whole_at_end c.args.circuit.now told c.lines.lines (seen c.lines.state) c.lines.number c.args.all.now.keeps c.lines.all.lines c.finish.new.kept c.finish.result c.lines.invariant.reached
    c.lines.invariant.within end c.finish.ensures.ok c.finish.ensures.lasso
