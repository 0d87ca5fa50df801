use Rattle.std.proofs.Common.{rules, ◌≡◌, ◌∙◌, ◌+◌, ◌-◌, ◌++◌, ◌≤◌, ◌<◌, ℕ, List, length, arith, ap, sym, subst, refl}
use Rattle.answer_lines.specs.Left.{Reading, left_of, most_bytes}
use Rattle.answer_lines.specs.LinesOf.{front_of, rest_of, ahead_of}
use Rattle.edge.specs.Reads.{GivesBytes}
use Rattle.text_grammar.specs.Pieces.{Lacks}
use Rattle.answer_lines.proofs.LeftLaws.{read_left, read_size, read_front, read_end, read_longer, held_all, held_none, taken_same, left_same}
use Rattle.answer_lines.proofs.lines.Lines.read_on.Goals as goal

pub returns-clause-left : goal.returns-clause-left
returns-clause-left g c x told =
    let s = c.self.inside in
    let line : c.hold.new.line.items ≡ ahead_of s = c.in_ok-hold.ensures.ok ∙ ap (λ (piece : List ℕ). front_of s.given s.line.items ++ rest_of piece s.start s.end) c.deref.ensures.value in
    read_left c.hold.new.given c.hold.new.line.items x (ahead_of s) c.read_into.new.piece.items s.place c.in_ok-n.n c.hold.ensures.given line c.self.invariant.read (c.in_ok-n.ensures.bytes x told)
    ∙ ap (λ (r : Reading). left_of r x) c.self.view_is

pub returns-clause-reads : goal.returns-clause-reads
returns-clause-reads g c = (1, (c.args.shelf.now, refl, c.in_ok-n.ensures.step))

pub invariant_of-self-2 : goal.invariant_of-self-2
invariant_of-self-2 g c =
    let s = c.self.inside in
    let line : c.hold.new.line.items ≡ ahead_of s = c.in_ok-hold.ensures.ok ∙ ap (λ (piece : List ℕ). front_of s.given s.line.items ++ rest_of piece s.start s.end) c.deref.ensures.value in
    let piece : length c.read_into.new.piece.items ≡ 4096 = c.in_ok-n.ensures.length ∙ c.self.invariant.piece in
    let inside : c.in_ok-n.n ≤ 4096 = omega (arith, c.in_ok-n.ensures.bound, c.room_at-room.ensures.most) in
    let size = read_size c.hold.new.given c.hold.new.line.items (ahead_of s) c.read_into.new.piece.items c.in_ok-n.n c.hold.ensures.given line (omega (arith, inside, piece)) in
    record {
      piece = piece;
      order = omega arith;
      inside = inside;
      read = omega (arith, size, c.self.invariant.read);
      within = search rules;
      front = read_front c.hold.new.given c.hold.new.line.items (ahead_of s) c.hold.ensures.given line (subst (λ (r : Reading). Lacks r.ahead 10) (sym c.self.view_is) c.requires);
    }

pub returns-clause-taken : goal.returns-clause-taken
returns-clause-taken g c =
    let s = c.self.inside in
    let line : c.hold.new.line.items ≡ ahead_of s = c.in_ok-hold.ensures.ok ∙ ap (λ (piece : List ℕ). front_of s.given s.line.items ++ rest_of piece s.start s.end) c.deref.ensures.value in
    let piece : length c.read_into.new.piece.items ≡ 4096 = c.in_ok-n.ensures.length ∙ c.self.invariant.piece in
    let inside : c.in_ok-n.n ≤ length c.read_into.new.piece.items = omega (arith, c.in_ok-n.ensures.bound, c.room_at-room.ensures.most, piece) in
    let size = read_size c.hold.new.given c.hold.new.line.items (ahead_of s) c.read_into.new.piece.items c.in_ok-n.n c.hold.ensures.given line inside in
    let same : s.place + c.in_ok-n.n - length (front_of c.hold.new.given c.hold.new.line.items ++ rest_of c.read_into.new.piece.items 0 c.in_ok-n.n) ≡ s.place - length (ahead_of s) = omega (arith, size) in
    same ∙ ap (λ (r : Reading). r.taken) c.self.view_is

pub returns-clause-more : goal.returns-clause-more
returns-clause-more g c some =
    let s = c.self.inside in
    let line : c.hold.new.line.items ≡ ahead_of s = c.in_ok-hold.ensures.ok ∙ ap (λ (piece : List ℕ). front_of s.given s.line.items ++ rest_of piece s.start s.end) c.deref.ensures.value in
    let piece : length c.read_into.new.piece.items ≡ 4096 = c.in_ok-n.ensures.length ∙ c.self.invariant.piece in
    let inside : c.in_ok-n.n ≤ length c.read_into.new.piece.items = omega (arith, c.in_ok-n.ensures.bound, c.room_at-room.ensures.most, piece) in
    let size = read_size c.hold.new.given c.hold.new.line.items (ahead_of s) c.read_into.new.piece.items c.in_ok-n.n c.hold.ensures.given line inside in
    let more : 0 < c.in_ok-n.n = search rules in
    let longer : length (ahead_of s) < length (front_of c.hold.new.given c.hold.new.line.items ++ rest_of c.read_into.new.piece.items 0 c.in_ok-n.n) = omega (arith, size, more) in
    subst (λ (r : Reading). length r.ahead < length (front_of c.hold.new.given c.hold.new.line.items ++ rest_of c.read_into.new.piece.items 0 c.in_ok-n.n)) c.self.view_is longer

pub returns-clause-most : goal.returns-clause-most
returns-clause-most g c =
    let s = c.self.inside in
    let line : c.hold.new.line.items ≡ ahead_of s = c.in_ok-hold.ensures.ok ∙ ap (λ (piece : List ℕ). front_of s.given s.line.items ++ rest_of piece s.start s.end) c.deref.ensures.value in
    let piece : length c.read_into.new.piece.items ≡ 4096 = c.in_ok-n.ensures.length ∙ c.self.invariant.piece in
    let inside : c.in_ok-n.n ≤ length c.read_into.new.piece.items = omega (arith, c.in_ok-n.ensures.bound, c.room_at-room.ensures.most, piece) in
    let size = read_size c.hold.new.given c.hold.new.line.items (ahead_of s) c.read_into.new.piece.items c.in_ok-n.n c.hold.ensures.given line inside in
    let within : s.place + c.in_ok-n.n ≤ most_bytes = search rules in
    omega (arith, size, c.self.invariant.read, within)

pub returns-clause-end : goal.returns-clause-end
returns-clause-end g c none x told =
    let s = c.self.inside in
    let zero : c.in_ok-n.n ≡ 0 = search rules in
    let gives : GivesBytes x s.place c.in_ok-n.n c.read_into.new.piece.items = c.in_ok-n.ensures.bytes x told in
    let some : 0 < length c.read_into.new.piece.items = omega (arith, c.in_ok-n.ensures.length, c.self.invariant.piece) in
    subst (λ (r : Reading). left_of r x ≡ r.ahead) c.self.view_is (read_end (ahead_of s) x s.place c.self.invariant.read (gives.end some zero))

pub returns-then-n-self-clause-too_long : goal.returns-then-n-self-clause-too_long
returns-then-n-self-clause-too_long g c _ x told =
    let s = c.self.inside in
    let gives : GivesBytes x s.place c.in_ok-n.n c.read_into.new.piece.items = c.in_ok-n.ensures.bytes x told in
    let some : 0 < c.in_ok-n.n = search rules in
    subst (λ (r : Reading). length r.ahead < length (left_of r x)) c.self.view_is
    (read_longer (ahead_of s) x s.place c.self.invariant.read (omega (arith, gives.left, some)))

pub returns-in_err-hold-clause-taken : goal.returns-in_err-hold-clause-taken
returns-in_err-hold-clause-taken g c =
    let s = c.self.inside in
    let same : front_of c.hold.new.given c.hold.new.line.items ++ rest_of s.piece.items s.start s.end ≡ ahead_of s = held_none c.hold.new.given c.hold.new.line.items (front_of s.given s.line.items) (rest_of s.piece.items s.start s.end) c.hold.ensures.given c.in_err-hold.ensures.err in
    taken_same (front_of c.hold.new.given c.hold.new.line.items ++ rest_of s.piece.items s.start s.end) (ahead_of s) s.place same ∙ ap (λ (r : Reading). r.taken) c.self.view_is

pub returns-in_err-hold-clause-left : goal.returns-in_err-hold-clause-left
returns-in_err-hold-clause-left g c x told =
    let s = c.self.inside in
    let same : front_of c.hold.new.given c.hold.new.line.items ++ rest_of s.piece.items s.start s.end ≡ ahead_of s = held_none c.hold.new.given c.hold.new.line.items (front_of s.given s.line.items) (rest_of s.piece.items s.start s.end) c.hold.ensures.given c.in_err-hold.ensures.err in
    left_same (front_of c.hold.new.given c.hold.new.line.items ++ rest_of s.piece.items s.start s.end) (ahead_of s) x s.place same ∙ ap (λ (r : Reading). left_of r x) c.self.view_is

pub returns-in_err-hold-clause-most : goal.returns-in_err-hold-clause-most
returns-in_err-hold-clause-most g c =
    let s = c.self.inside in
    let same : front_of c.hold.new.given c.hold.new.line.items ++ rest_of s.piece.items s.start s.end ≡ ahead_of s = held_none c.hold.new.given c.hold.new.line.items (front_of s.given s.line.items) (rest_of s.piece.items s.start s.end) c.hold.ensures.given c.in_err-hold.ensures.err in
    omega (arith, ap length same, c.self.invariant.read, c.self.invariant.within)

pub returns-in_err-n-clause-taken : goal.returns-in_err-n-clause-taken
returns-in_err-n-clause-taken g c =
    let s = c.self.inside in
    let line : c.hold.new.line.items ≡ ahead_of s = c.in_ok-hold.ensures.ok ∙ ap (λ (piece : List ℕ). front_of s.given s.line.items ++ rest_of piece s.start s.end) c.deref.ensures.value in
    let same : front_of c.hold.new.given c.hold.new.line.items ++ rest_of c.read_into.new.piece.items s.end s.end ≡ ahead_of s = held_all c.hold.new.given c.hold.new.line.items (ahead_of s) c.read_into.new.piece.items s.end c.hold.ensures.given line in
    taken_same (front_of c.hold.new.given c.hold.new.line.items ++ rest_of c.read_into.new.piece.items s.end s.end) (ahead_of s) s.place same ∙ ap (λ (r : Reading). r.taken) c.self.view_is

pub returns-in_err-n-clause-left : goal.returns-in_err-n-clause-left
returns-in_err-n-clause-left g c x told =
    let s = c.self.inside in
    let line : c.hold.new.line.items ≡ ahead_of s = c.in_ok-hold.ensures.ok ∙ ap (λ (piece : List ℕ). front_of s.given s.line.items ++ rest_of piece s.start s.end) c.deref.ensures.value in
    let same : front_of c.hold.new.given c.hold.new.line.items ++ rest_of c.read_into.new.piece.items s.end s.end ≡ ahead_of s = held_all c.hold.new.given c.hold.new.line.items (ahead_of s) c.read_into.new.piece.items s.end c.hold.ensures.given line in
    left_same (front_of c.hold.new.given c.hold.new.line.items ++ rest_of c.read_into.new.piece.items s.end s.end) (ahead_of s) x s.place same ∙ ap (λ (r : Reading). left_of r x) c.self.view_is

pub returns-in_err-n-clause-most : goal.returns-in_err-n-clause-most
returns-in_err-n-clause-most g c =
    let s = c.self.inside in
    let line : c.hold.new.line.items ≡ ahead_of s = c.in_ok-hold.ensures.ok ∙ ap (λ (piece : List ℕ). front_of s.given s.line.items ++ rest_of piece s.start s.end) c.deref.ensures.value in
    let same : front_of c.hold.new.given c.hold.new.line.items ++ rest_of c.read_into.new.piece.items s.end s.end ≡ ahead_of s = held_all c.hold.new.given c.hold.new.line.items (ahead_of s) c.read_into.new.piece.items s.end c.hold.ensures.given line in
    omega (arith, ap length same, c.self.invariant.read, c.self.invariant.within)

pub returns-then-n-self-clause-taken : goal.returns-then-n-self-clause-taken
returns-then-n-self-clause-taken g c =
    let s = c.self.inside in
    let line : c.hold.new.line.items ≡ ahead_of s = c.in_ok-hold.ensures.ok ∙ ap (λ (piece : List ℕ). front_of s.given s.line.items ++ rest_of piece s.start s.end) c.deref.ensures.value in
    let same : front_of c.hold.new.given c.hold.new.line.items ++ rest_of c.read_into.new.piece.items s.end s.end ≡ ahead_of s = held_all c.hold.new.given c.hold.new.line.items (ahead_of s) c.read_into.new.piece.items s.end c.hold.ensures.given line in
    taken_same (front_of c.hold.new.given c.hold.new.line.items ++ rest_of c.read_into.new.piece.items s.end s.end) (ahead_of s) s.place same ∙ ap (λ (r : Reading). r.taken) c.self.view_is

pub returns-then-n-self-clause-left : goal.returns-then-n-self-clause-left
returns-then-n-self-clause-left g c x told =
    let s = c.self.inside in
    let line : c.hold.new.line.items ≡ ahead_of s = c.in_ok-hold.ensures.ok ∙ ap (λ (piece : List ℕ). front_of s.given s.line.items ++ rest_of piece s.start s.end) c.deref.ensures.value in
    let same : front_of c.hold.new.given c.hold.new.line.items ++ rest_of c.read_into.new.piece.items s.end s.end ≡ ahead_of s = held_all c.hold.new.given c.hold.new.line.items (ahead_of s) c.read_into.new.piece.items s.end c.hold.ensures.given line in
    left_same (front_of c.hold.new.given c.hold.new.line.items ++ rest_of c.read_into.new.piece.items s.end s.end) (ahead_of s) x s.place same ∙ ap (λ (r : Reading). left_of r x) c.self.view_is

pub returns-then-n-self-clause-most : goal.returns-then-n-self-clause-most
returns-then-n-self-clause-most g c =
    let s = c.self.inside in
    let line : c.hold.new.line.items ≡ ahead_of s = c.in_ok-hold.ensures.ok ∙ ap (λ (piece : List ℕ). front_of s.given s.line.items ++ rest_of piece s.start s.end) c.deref.ensures.value in
    let same : front_of c.hold.new.given c.hold.new.line.items ++ rest_of c.read_into.new.piece.items s.end s.end ≡ ahead_of s = held_all c.hold.new.given c.hold.new.line.items (ahead_of s) c.read_into.new.piece.items s.end c.hold.ensures.given line in
    omega (arith, ap length same, c.self.invariant.read, c.self.invariant.within)
