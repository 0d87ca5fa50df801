use Rattle.std.proofs.Common.{◌≡◌, ℕ, ◌+◌, ◌<◌, List, ◌++◌, map, take, drop, get_or, set, length, sym, ap, ◌∙◌, arith}
use Rattle.std.proofs.lemmas.List.Edits.{map_over_more}
use Rattle.std.proofs.lemmas.Option.{slice_get-get_or, get_or_from_slice_get}
use Rattle.aig_semantics.specs.Literals.{literal_in}
use Rattle.stimulus.specs.Walks.{watched_after}
use Rattle.stimulus.proofs.walks.note.Goals as goal

-- one more element is mapped in place
more : {X : Type 0} (f : X → X) (xs ys : List X) (i : ℕ) (d y : X) → i < length xs → ys ≡ map f (take i xs) ++ drop i xs → i < length ys → y ≡ f (get_or ys i d) → set ys i y ≡ map f (take (i + 1) xs) ++ drop (i + 1) xs
more f xs ys i d y inside is at e =
    let x = get_or ys i d in
    ap (λ z. set ys i z) e ∙ map_over_more f xs ys i x inside is (sym (get_or_from_slice_get ys i x x (slice_get-get_or ys i d at)))

pub loop-w-preserved : goal.loop-w-preserved
loop-w-preserved c =
    let lengths = c.loop-w.auto.watched in
    more (watched_after (literal_in c.args.values.now) c.args.number) c.args.watched.now c.loop-w.watched c.loop-w.w-index (record { literal = 0; end = 0 }) c.watched_after.result (omega arith) c.loop-w.invariant (omega arith) c.watched_after.ensures
