-- Texts that are read and written piece by piece.
use Rattle.std.proofs.Common.{ℕ, ◌≡◌, ◌+◌, ◌-◌, ◌<◌, ◌≤◌, List, Option, Some, length, take, drop, ◌++◌, arith, ap, ◌∙◌, append_assoc}
use Rattle.std.proofs.Math.Seq.{take-add}
use Rattle.std.proofs.lemmas.Grind.{common_steps}
use Rattle.edge.specs.Reads.{GivesBytes}
use Rattle.edge.specs.Writes.{Adds}

-- of the bytes from `done` on, the first n stand between the first `done` and the rest
pub take_next : (bytes : List ℕ) (done n : ℕ) → n ≤ length bytes - done → take done bytes ++ take n (take (length bytes - done) (drop done bytes)) ≡ take (done + n) bytes
take_next bytes done n fits = grind (arith, common_steps, take-add)

-- bytes after bytes
pub Adds-append : (old mid new : Option (List ℕ)) (first second : List ℕ) → Adds old mid first → Adds mid new second → Adds old new (first ++ second)
Adds-append old mid new first second a b bytes told =
    b (bytes ++ first) (a bytes told) ∙ ap Some (append_assoc bytes first second)

-- the front of a text, and what a read at its end gave
pub front_next : (text front buffer : List ℕ) (from n : ℕ) → front ≡ take from text → GivesBytes text from n buffer → front ++ take n buffer ≡ take (from + n) text
front_next text front buffer from n is_front gives = rw (is_front, take-add, gives.given)

-- the same at the end of the text: it is whole, and so are its first `limit` bytes
pub front_end : (text front buffer : List ℕ) (from n limit : ℕ) → front ≡ take from text → GivesBytes text from n buffer → 0 < length buffer → n ≡ 0 → from ≤ limit → front ++ take n buffer ≡ take limit text
front_end text front buffer from n limit is_front gives room none below =
    let ended : length text ≤ from = gives.end room none in
    let next = front_next text front buffer from n is_front gives in
    grind (arith, common_steps)
