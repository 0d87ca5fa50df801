use Rattle.std.proofs.Common.{rules, IsErrOf, ◌≡◌, ◌∙◌, ℕ, Bool, false, List, [], length, Some, ap, sym, subst, arith}
use Rattle.std.proofs.lemmas.Bool.{false≢true}
use Rattle.std.specs.Prelude.{IsTrue, IsFalse}
use Rattle.edge.specs.Reads.{Reads}
use Rattle.text_grammar.specs.Lines.{IsLine, lines_of}
use Rattle.text_grammar.specs.Pieces.{Lacks}
use Rattle.text_grammar.proofs.LineLaws.{first_line}
use Rattle.answer_lines.specs.LinesOf.{SameLeft}
use Rattle.answer_lines.specs.Left.{left_of, is_read_fault, StaysLeft}
use Rattle.answer_lines.specs.declared.ends.LinesEnd.TheVariants as ends
use Rattle.answer_lines.proofs.LeftLaws.{same_left, line_left, line_within, same_too_long, same_sum, line_sum, end_sum, end_lines, took_line, took_last, line_is_some, has_byte, ends_too_long, on_err, is_none}
use Rattle.answer_lines.proofs.ReadLaws.{reads_after}
use Rattle.answer_lines.proofs.lines.Lines.next.Goals as goal

pub returns-in_err-read_on-clause-reads : goal.returns-in_err-read_on-clause-reads
returns-in_err-read_on-clause-reads g c =
    reads_after g.H.Shelf.reads c.args.name.now (is_read_fault c.from_residual-in_err-read_on.result) c.args.shelf.now c.loop-self.shelf c.read_on.new.shelf c.loop-self.invariant.reads
    (subst (λ (failed : Bool). Reads g.H.Shelf.reads c.args.name.now failed c.loop-self.shelf c.read_on.new.shelf) (search rules) c.in_err-read_on.ensures.reads)

pub returns-in_err-end_line-clause-reads : goal.returns-in_err-end_line-clause-reads
returns-in_err-end_line-clause-reads g c =
    let memory : false ≡ is_read_fault c.from_residual-in_err-end_line.result = search rules in
    subst (λ (failed : Bool). Reads g.H.Shelf.reads c.args.name.now failed c.args.shelf.now c.read_on.new.shelf) memory
    (reads_after g.H.Shelf.reads c.args.name.now false c.args.shelf.now c.loop-self.shelf c.read_on.new.shelf c.loop-self.invariant.reads c.in_ok-read_on.ensures.reads)

pub returns-then-not-branch-2-clause-line : goal.returns-then-not-branch-2-clause-line
returns-then-not-branch-2-clause-line g c x told =
    let held : g.H.Shelf.held c.loop-self.shelf c.args.name.now ≡ Some x = c.loop-self.invariant.kept c.args.name.now ∙ told in
    let none : IsFalse c.in_ok-cut.field-0 = search rules in
    let ended : IsFalse c.in_ok-read_on.field-0 = search rules in
    let same : SameLeft c.loop-self.self c.cut.new.self = c.in_ok-cut.ensures.same none in
    let ahead : c.read_on.new.self.ahead ≡ c.cut.new.self.ahead = c.in_ok-read_on.ensures.same ended in
    let left : left_of c.read_on.new.self x ≡ left_of c.cut.new.self x = c.in_ok-read_on.ensures.left x held in
    let lacks : Lacks c.read_on.new.self.ahead 10 = subst (λ (bytes : List ℕ). Lacks bytes 10) (sym (ahead ∙ same.ahead)) (c.in_ok-cut.ensures.none none) in
    ap lines_of (sym (left ∙ same_left c.loop-self.self c.cut.new.self x same ∙ c.loop-self.invariant.left x told))
    ∙ end_lines c.in_ok-end_line.field-0 c.read_on.new.self c.end_line.new.self x lacks (left ∙ c.in_ok-read_on.ensures.end ended x held ∙ sym ahead)
    c.in_ok-end_line.ensures.line c.in_ok-end_line.ensures.some c.in_ok-end_line.ensures.none c.in_ok-end_line.ensures.ahead c.in_ok-end_line.ensures.taken

pub returns-then-not-branch-2-clause-reads : goal.returns-then-not-branch-2-clause-reads
returns-then-not-branch-2-clause-reads g c =
    reads_after g.H.Shelf.reads c.args.name.now false c.args.shelf.now c.loop-self.shelf c.read_on.new.shelf c.loop-self.invariant.reads c.in_ok-read_on.ensures.reads

pub loop-self-preserved : goal.loop-self-preserved
loop-self-preserved g c =
    let none : IsFalse c.in_ok-cut.field-0 = search rules in
    let same : SameLeft c.loop-self.self c.cut.new.self = c.in_ok-cut.ensures.same none in
    record {
      taken = c.in_ok-read_on.ensures.taken ∙ same.taken ∙ c.loop-self.invariant.taken;
      left = λ x told.
          let held : g.H.Shelf.held c.loop-self.shelf c.args.name.now ≡ Some x = c.loop-self.invariant.kept c.args.name.now ∙ told in
          c.in_ok-read_on.ensures.left x held ∙ same_left c.loop-self.self c.cut.new.self x same ∙ c.loop-self.invariant.left x told;
      last = c.in_ok-read_on.ensures.last ∙ same.last ∙ c.loop-self.invariant.last;
      counts = λ name. omega (arith, c.loop-self.invariant.counts name, c.in_ok-read_on.ensures.counts name);
      kept = λ name. c.in_ok-read_on.ensures.kept name ∙ c.loop-self.invariant.kept name;
      in_hand = λ some. absurd (some (subst (λ (bytes : List ℕ). Lacks bytes 10) (c.loop-self.invariant.same some) (c.in_ok-cut.ensures.none none)));
      same = λ some. absurd (some (subst (λ (bytes : List ℕ). Lacks bytes 10) (c.loop-self.invariant.same some) (c.in_ok-cut.ensures.none none)));
      reads = reads_after g.H.Shelf.reads c.args.name.now false c.args.shelf.now c.loop-self.shelf c.read_on.new.shelf c.loop-self.invariant.reads c.in_ok-read_on.ensures.reads;
    }

pub returns-clause-line : goal.returns-clause-line
returns-clause-line g c x told =
    let found : IsTrue c.in_ok-cut.field-0 = search rules in
    ap lines_of (sym (c.loop-self.invariant.left x told))
    ∙ first_line c.cut.new.self.line (left_of c.loop-self.self x) (left_of c.cut.new.self x)
    (line_left c.loop-self.self c.cut.new.self x (c.in_ok-cut.ensures.found found) (c.in_ok-cut.ensures.taken found))

pub returns-clause-within : goal.returns-clause-within
returns-clause-within g c x told long =
    let found : IsTrue c.in_ok-cut.field-0 = search rules in
    line_within c.loop-self.self c.cut.new.self x (c.in_ok-cut.ensures.found found) (c.in_ok-cut.ensures.taken found) c.in_ok-cut.ensures.most
    (same_too_long c.args.self.now c.loop-self.self x c.loop-self.invariant.taken (c.loop-self.invariant.left x told) long)

pub returns-clause-sum : goal.returns-clause-sum
returns-clause-sum g c x told =
    let found : IsTrue c.in_ok-cut.field-0 = search rules in
    let line : IsLine c.cut.new.self.line (left_of c.loop-self.self x) (left_of c.cut.new.self x) = line_left c.loop-self.self c.cut.new.self x (c.in_ok-cut.ensures.found found) (c.in_ok-cut.ensures.taken found) in
    line_sum c.loop-self.self.taken c.cut.new.self.taken c.cut.new.self.line (left_of c.loop-self.self x) (left_of c.cut.new.self x) (c.in_ok-cut.ensures.taken found) line.spelled
    ∙ same_sum c.args.self.now c.loop-self.self x c.loop-self.invariant.taken (c.loop-self.invariant.left x told)

pub returns-in_err-cut-clause-sum : goal.returns-in_err-cut-clause-sum
returns-in_err-cut-clause-sum g c x told =
    let same : SameLeft c.loop-self.self c.cut.new.self = c.in_err-cut.ensures.refused in
    same_sum c.args.self.now c.cut.new.self x (same.taken ∙ c.loop-self.invariant.taken)
    (same_left c.loop-self.self c.cut.new.self x same ∙ c.loop-self.invariant.left x told)

pub returns-in_err-read_on-clause-sum : goal.returns-in_err-read_on-clause-sum
returns-in_err-read_on-clause-sum g c x told =
    let held : g.H.Shelf.held c.loop-self.shelf c.args.name.now ≡ Some x = c.loop-self.invariant.kept c.args.name.now ∙ told in
    let none : IsFalse c.in_ok-cut.field-0 = search rules in
    let same : SameLeft c.loop-self.self c.cut.new.self = c.in_ok-cut.ensures.same none in
    same_sum c.args.self.now c.read_on.new.self x (c.in_err-read_on.ensures.taken ∙ same.taken ∙ c.loop-self.invariant.taken)
    (c.in_err-read_on.ensures.left x held ∙ same_left c.loop-self.self c.cut.new.self x same ∙ c.loop-self.invariant.left x told)

pub returns-in_err-end_line-clause-sum : goal.returns-in_err-end_line-clause-sum
returns-in_err-end_line-clause-sum g c x told =
    let held : g.H.Shelf.held c.loop-self.shelf c.args.name.now ≡ Some x = c.loop-self.invariant.kept c.args.name.now ∙ told in
    let none : IsFalse c.in_ok-cut.field-0 = search rules in
    let same : SameLeft c.loop-self.self c.cut.new.self = c.in_ok-cut.ensures.same none in
    let again : SameLeft c.read_on.new.self c.end_line.new.self = c.in_err-end_line.ensures.refused in
    same_sum c.args.self.now c.end_line.new.self x (again.taken ∙ c.in_ok-read_on.ensures.taken ∙ same.taken ∙ c.loop-self.invariant.taken)
    (same_left c.read_on.new.self c.end_line.new.self x again ∙ c.in_ok-read_on.ensures.left x held ∙ same_left c.loop-self.self c.cut.new.self x same ∙ c.loop-self.invariant.left x told)

pub returns-then-not-branch-2-clause-sum : goal.returns-then-not-branch-2-clause-sum
returns-then-not-branch-2-clause-sum g c x told =
    let held : g.H.Shelf.held c.loop-self.shelf c.args.name.now ≡ Some x = c.loop-self.invariant.kept c.args.name.now ∙ told in
    let none : IsFalse c.in_ok-cut.field-0 = search rules in
    let ended : IsFalse c.in_ok-read_on.field-0 = search rules in
    let same : SameLeft c.loop-self.self c.cut.new.self = c.in_ok-cut.ensures.same none in
    let ahead : c.read_on.new.self.ahead ≡ c.cut.new.self.ahead = c.in_ok-read_on.ensures.same ended in
    let left : left_of c.read_on.new.self x ≡ left_of c.cut.new.self x = c.in_ok-read_on.ensures.left x held in
    end_sum c.read_on.new.self c.end_line.new.self x (left ∙ c.in_ok-read_on.ensures.end ended x held ∙ sym ahead) c.in_ok-end_line.ensures.ahead c.in_ok-end_line.ensures.taken
    ∙ same_sum c.args.self.now c.read_on.new.self x (c.in_ok-read_on.ensures.taken ∙ same.taken ∙ c.loop-self.invariant.taken)
    (left ∙ same_left c.loop-self.self c.cut.new.self x same ∙ c.loop-self.invariant.left x told)

pub returns-clause-took : goal.returns-clause-took
returns-clause-took g c given =
    let found : IsTrue c.in_ok-cut.field-0 = search rules in
    took_line (g.H.Shelf.held c.args.shelf.now c.args.name.now) c.args.self.now c.loop-self.self c.cut.new.self c.loop-self.invariant.taken
    (λ x told. c.loop-self.invariant.left x told) (c.in_ok-cut.ensures.found found) (c.in_ok-cut.ensures.taken found) (c.in_ok-cut.ensures.goes_on found)

pub returns-then-not-branch-2-clause-took : goal.returns-then-not-branch-2-clause-took
returns-then-not-branch-2-clause-took g c given =
    let none : IsFalse c.in_ok-cut.field-0 = search rules in
    let ended : IsFalse c.in_ok-read_on.field-0 = search rules in
    let some : IsTrue c.in_ok-end_line.field-0 = search rules in
    let same : SameLeft c.loop-self.self c.cut.new.self = c.in_ok-cut.ensures.same none in
    let ahead : c.read_on.new.self.ahead ≡ c.cut.new.self.ahead = c.in_ok-read_on.ensures.same ended in
    let held : (x : List ℕ) → g.H.Shelf.held c.args.shelf.now c.args.name.now ≡ Some x → g.H.Shelf.held c.loop-self.shelf c.args.name.now ≡ Some x = λ x told. c.loop-self.invariant.kept c.args.name.now ∙ told in
    let left : (x : List ℕ) → g.H.Shelf.held c.args.shelf.now c.args.name.now ≡ Some x → left_of c.read_on.new.self x ≡ left_of c.cut.new.self x = λ x told. c.in_ok-read_on.ensures.left x (held x told) in
    took_last (g.H.Shelf.held c.args.shelf.now c.args.name.now) c.args.self.now c.read_on.new.self c.end_line.new.self
    (c.in_ok-read_on.ensures.taken ∙ same.taken ∙ c.loop-self.invariant.taken)
    (λ x told. left x told ∙ same_left c.loop-self.self c.cut.new.self x same ∙ c.loop-self.invariant.left x told)
    (λ x told. left x told ∙ c.in_ok-read_on.ensures.end ended x (held x told) ∙ sym ahead)
    (c.in_ok-end_line.ensures.line some) (c.in_ok-end_line.ensures.some some) c.in_ok-end_line.ensures.ahead c.in_ok-end_line.ensures.taken (c.in_ok-end_line.ensures.last some)

pub returns-clause-end : goal.returns-clause-end
returns-clause-end g c x told =
    let found : IsTrue c.in_ok-cut.field-0 = search rules in
    let line : IsLine c.cut.new.self.line (left_of c.loop-self.self x) (left_of c.cut.new.self x) = line_left c.loop-self.self c.cut.new.self x (c.in_ok-cut.ensures.found found) (c.in_ok-cut.ensures.taken found) in
    (λ no. absurd (false≢true (sym no)), λ none. absurd (line_is_some c.cut.new.self.line (left_of c.loop-self.self x) (left_of c.cut.new.self x) line (c.loop-self.invariant.left x told ∙ none)))

pub returns-then-not-branch-2-clause-later : goal.returns-then-not-branch-2-clause-later
returns-then-not-branch-2-clause-later g c given =
    let none : IsFalse c.in_ok-cut.field-0 = search rules in
    let some : IsTrue c.in_ok-end_line.field-0 = search rules in
    let same : SameLeft c.loop-self.self c.cut.new.self = c.in_ok-cut.ensures.same none in
    omega (arith, c.in_ok-end_line.ensures.taken, c.in_ok-read_on.ensures.taken, same.taken, c.loop-self.invariant.taken, has_byte c.read_on.new.self.ahead (c.in_ok-end_line.ensures.some some))

pub returns-in_err-read_on-clause-too_long : goal.returns-in_err-read_on-clause-too_long
returns-in_err-read_on-clause-too_long g c long x told =
    let held : g.H.Shelf.held c.loop-self.shelf c.args.name.now ≡ Some x = c.loop-self.invariant.kept c.args.name.now ∙ told in
    let none : IsFalse c.in_ok-cut.field-0 = search rules in
    let ended : IsErrOf c.read_on.result ends.TooLong = search rules in
    let same : SameLeft c.loop-self.self c.cut.new.self = c.in_ok-cut.ensures.same none in
    let lacks : Lacks c.cut.new.self.ahead 10 = subst (λ (bytes : List ℕ). Lacks bytes 10) (sym same.ahead) (c.in_ok-cut.ensures.none none) in
    ends_too_long c.args.self.now c.cut.new.self x (same.taken ∙ c.loop-self.invariant.taken)
    (same_left c.loop-self.self c.cut.new.self x same ∙ c.loop-self.invariant.left x told) lacks
    (c.read_on.ensures.full ended) (c.read_on.ensures.too_long ended x held)

pub returns-in_err-cut-clause-stays : goal.returns-in_err-cut-clause-stays
returns-in_err-cut-clause-stays g c =
    let same : SameLeft c.loop-self.self c.cut.new.self = c.in_err-cut.ensures.refused in
    let stays : StaysLeft (g.H.Shelf.held c.args.shelf.now c.args.name.now) c.args.self.now c.cut.new.self = record {
      taken = same.taken ∙ c.loop-self.invariant.taken;
      left = λ x told.
          let held : g.H.Shelf.held c.loop-self.shelf c.args.name.now ≡ Some x = c.loop-self.invariant.kept c.args.name.now ∙ told in
          same_left c.loop-self.self c.cut.new.self x same ∙ c.loop-self.invariant.left x told;
      last = same.last ∙ c.loop-self.invariant.last;
    } in
    on_err c.from_residual.result stays

pub returns-in_err-read_on-clause-stays : goal.returns-in_err-read_on-clause-stays
returns-in_err-read_on-clause-stays g c =
    let none : IsFalse c.in_ok-cut.field-0 = search rules in
    let same : SameLeft c.loop-self.self c.cut.new.self = c.in_ok-cut.ensures.same none in
    let stays : StaysLeft (g.H.Shelf.held c.args.shelf.now c.args.name.now) c.args.self.now c.read_on.new.self = record {
      taken = c.in_err-read_on.ensures.taken ∙ same.taken ∙ c.loop-self.invariant.taken;
      left = λ x told.
          let held : g.H.Shelf.held c.loop-self.shelf c.args.name.now ≡ Some x = c.loop-self.invariant.kept c.args.name.now ∙ told in
          c.in_err-read_on.ensures.left x held ∙ same_left c.loop-self.self c.cut.new.self x same ∙ c.loop-self.invariant.left x told;
      last = c.in_err-read_on.ensures.last ∙ same.last ∙ c.loop-self.invariant.last;
    } in
    on_err c.from_residual-in_err-read_on.result stays

pub returns-in_err-end_line-clause-stays : goal.returns-in_err-end_line-clause-stays
returns-in_err-end_line-clause-stays g c =
    let none : IsFalse c.in_ok-cut.field-0 = search rules in
    let same : SameLeft c.loop-self.self c.cut.new.self = c.in_ok-cut.ensures.same none in
    let again : SameLeft c.read_on.new.self c.end_line.new.self = c.in_err-end_line.ensures.refused in
    let stays : StaysLeft (g.H.Shelf.held c.args.shelf.now c.args.name.now) c.args.self.now c.end_line.new.self = record {
      taken = again.taken ∙ c.in_ok-read_on.ensures.taken ∙ same.taken ∙ c.loop-self.invariant.taken;
      left = λ x told.
          let held : g.H.Shelf.held c.loop-self.shelf c.args.name.now ≡ Some x = c.loop-self.invariant.kept c.args.name.now ∙ told in
          same_left c.read_on.new.self c.end_line.new.self x again ∙ c.in_ok-read_on.ensures.left x held ∙ same_left c.loop-self.self c.cut.new.self x same ∙ c.loop-self.invariant.left x told;
      last = again.last ∙ c.in_ok-read_on.ensures.last ∙ same.last ∙ c.loop-self.invariant.last;
    } in
    on_err c.from_residual-in_err-end_line.result stays

pub returns-then-not-branch-2-clause-stays_end : goal.returns-then-not-branch-2-clause-stays_end
returns-then-not-branch-2-clause-stays_end g c bare =
    let none : IsFalse c.in_ok-cut.field-0 = search rules in
    let same : SameLeft c.loop-self.self c.cut.new.self = c.in_ok-cut.ensures.same none in
    let empty : c.read_on.new.self.ahead ≡ [] = c.in_ok-end_line.ensures.none bare in
    let again : SameLeft c.read_on.new.self c.end_line.new.self = record {
      taken = omega (arith, c.in_ok-end_line.ensures.taken, ap length empty);
      ahead = c.in_ok-end_line.ensures.ahead ∙ sym empty;
      last = c.in_ok-end_line.ensures.same_last bare;
    } in
    let stays : StaysLeft (g.H.Shelf.held c.args.shelf.now c.args.name.now) c.args.self.now c.end_line.new.self = record {
      taken = again.taken ∙ c.in_ok-read_on.ensures.taken ∙ same.taken ∙ c.loop-self.invariant.taken;
      left = λ x told.
          let held : g.H.Shelf.held c.loop-self.shelf c.args.name.now ≡ Some x = c.loop-self.invariant.kept c.args.name.now ∙ told in
          same_left c.read_on.new.self c.end_line.new.self x again ∙ c.in_ok-read_on.ensures.left x held ∙ same_left c.loop-self.self c.cut.new.self x same ∙ c.loop-self.invariant.left x told;
      last = again.last ∙ c.in_ok-read_on.ensures.last ∙ same.last ∙ c.loop-self.invariant.last;
    } in
    stays

pub returns-then-not-branch-2-clause-end : goal.returns-then-not-branch-2-clause-end
returns-then-not-branch-2-clause-end g c x told =
    let held : g.H.Shelf.held c.loop-self.shelf c.args.name.now ≡ Some x = c.loop-self.invariant.kept c.args.name.now ∙ told in
    let none : IsFalse c.in_ok-cut.field-0 = search rules in
    let same : SameLeft c.loop-self.self c.cut.new.self = c.in_ok-cut.ensures.same none in
    let ended : IsFalse c.in_ok-read_on.field-0 = search rules in
    let all : left_of c.args.self.now x ≡ c.read_on.new.self.ahead =
    sym (c.loop-self.invariant.left x told) ∙ sym (same_left c.loop-self.self c.cut.new.self x same)
    ∙ c.in_ok-read_on.ensures.end ended x held ∙ sym (c.in_ok-read_on.ensures.same ended) in
    (λ bare. all ∙ c.in_ok-end_line.ensures.none bare, is_none c.in_ok-end_line.field-0 (λ some empty. c.in_ok-end_line.ensures.some some (sym all ∙ empty)))

pub returns-in_err-read_on-clause-in_hand : goal.returns-in_err-read_on-clause-in_hand
returns-in_err-read_on-clause-in_hand g c some =
    let none : IsFalse c.in_ok-cut.field-0 = search rules in
    absurd (some (subst (λ (bytes : List ℕ). Lacks bytes 10) (c.loop-self.invariant.same some) (c.in_ok-cut.ensures.none none)))

pub returns-in_err-read_on-clause-counts : goal.returns-in_err-read_on-clause-counts
returns-in_err-read_on-clause-counts g c name = omega (arith, c.loop-self.invariant.counts name, c.in_err-read_on.ensures.counts name)

pub returns-in_err-read_on-clause-kept : goal.returns-in_err-read_on-clause-kept
returns-in_err-read_on-clause-kept g c name = c.in_err-read_on.ensures.kept name ∙ c.loop-self.invariant.kept name

pub returns-in_err-end_line-clause-in_hand : goal.returns-in_err-end_line-clause-in_hand
returns-in_err-end_line-clause-in_hand g c some =
    let none : IsFalse c.in_ok-cut.field-0 = search rules in
    absurd (some (subst (λ (bytes : List ℕ). Lacks bytes 10) (c.loop-self.invariant.same some) (c.in_ok-cut.ensures.none none)))

pub returns-in_err-end_line-clause-counts : goal.returns-in_err-end_line-clause-counts
returns-in_err-end_line-clause-counts g c name = omega (arith, c.loop-self.invariant.counts name, c.in_ok-read_on.ensures.counts name)

pub returns-in_err-end_line-clause-kept : goal.returns-in_err-end_line-clause-kept
returns-in_err-end_line-clause-kept g c name = c.in_ok-read_on.ensures.kept name ∙ c.loop-self.invariant.kept name

pub returns-then-not-branch-2-clause-in_hand : goal.returns-then-not-branch-2-clause-in_hand
returns-then-not-branch-2-clause-in_hand g c some =
    let none : IsFalse c.in_ok-cut.field-0 = search rules in
    absurd (some (subst (λ (bytes : List ℕ). Lacks bytes 10) (c.loop-self.invariant.same some) (c.in_ok-cut.ensures.none none)))

pub returns-then-not-branch-2-clause-counts : goal.returns-then-not-branch-2-clause-counts
returns-then-not-branch-2-clause-counts g c name = omega (arith, c.loop-self.invariant.counts name, c.in_ok-read_on.ensures.counts name)

pub returns-then-not-branch-2-clause-kept : goal.returns-then-not-branch-2-clause-kept
returns-then-not-branch-2-clause-kept g c name = c.in_ok-read_on.ensures.kept name ∙ c.loop-self.invariant.kept name
