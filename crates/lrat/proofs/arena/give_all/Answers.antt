use Rattle.std.proofs.Common.{◌≡◌, ◌+◌, ◌++◌, ◌∷◌, [], ◌&&◌, not, cond, eqb, take, refl, length-append, length, get_or, sym, subst, ap, ◌∙◌, arith}
use Rattle.std.proofs.lemmas.List.{take_more, append_assoc, get_or_default}
use Rattle.proof_semantics.specs.Proofs.{is_empty}
use Rattle.lrat.specs.ArenaOf.{clauses_in, AreDeletedBelow, IsGiven}
use Rattle.lrat.specs.declared.arena.Place.{Place}
use Rattle.lrat.proofs.ArenaLaws.{clauses_in-put, literal_count-drop, AreDeletedBelow-put, IsGiven-put}
use Rattle.lrat.proofs.arena.give_all.Goals as goal

pub loop-clause-preserved : goal.loop-clause-preserved
loop-clause-preserved c =
    let a = c.loop-clause.arena in
    let b = c.put.new.arena in
    let clause = c.as_slice.result.now in
    let i = c.loop-clause.clause-index in
    let all = c.args.clauses.now in
    let given : IsGiven a c.loop-clause.filled = c.loop-clause.invariant.2 in
    let p : Place = record { id = c.len-place.result + 1; start = length a.literals.items; end = length a.literals.items + length clause; deleted = 0 } in
    let places : b.places.items ≡ a.places.items ++ p ∷ [] = c.put.ensures.places in
    let place : c.len-place.result ≡ length a.places.items = omega (arith, c.len-place.ensures) in
    let item : clause ≡ get_or all i [] = c.as_slice.ensures ∙ c.clause-item.is ∙ get_or_default all i c.clause-item.result [] c.loop-clause-test.true in
    let filled : c.filled_behind-filled.result ≡ cond (eqb c.loop-clause.filled (length a.places.items) && not (is_empty clause)) (c.loop-clause.filled + 1) c.loop-clause.filled =
    c.filled_behind-filled.ensures
    ∙ (λ j. cond (eqb c.loop-clause.filled (place j) && not (is_empty (sym c.as_slice.ensures j))) (c.loop-clause.filled + 1) c.loop-clause.filled) in
    let left = literal_count-drop all i [] c.loop-clause-test.true in (
      omega (
        arith,
        left,
        ap length item,
        ap length c.put.ensures.literals,
        length-append a.literals.items clause,
        b.literals.ok.0,
        a.literals.ok.0,
        c.put.ensures.literal_capacity,
        c.loop-clause.invariant.0,
      ),
      omega (
        arith,
        ap length places,
        length-append a.places.items (p ∷ []),
        b.places.ok.0,
        a.places.ok.0,
        c.put.ensures.place_capacity,
        c.loop-clause.invariant.1,
        c.loop-clause-test.true,
      ),
      subst (λ n. IsGiven b n) (sym filled) (IsGiven-put a b c.loop-clause.filled p clause given c.put.ensures.literals places refl refl (ap (λ n. n + 1) place)),
      clauses_in-put a b p clause given.packed c.put.ensures.literals places refl refl
          ∙ ap (λ cs. cs ++ clause ∷ []) c.loop-clause.invariant.3
          ∙ append_assoc (clauses_in c.args.arena.now) (take i all) (clause ∷ [])
          ∙ ap (λ cs. clauses_in c.args.arena.now ++ cs) (ap (λ x. take i all ++ x ∷ []) item ∙ sym (take_more all i [] c.loop-clause-test.true)),
      λ round later old. subst (λ qs. AreDeletedBelow round qs) (sym places) (AreDeletedBelow-put a.places.items p round (c.loop-clause.invariant.4 round later old) later),
    )
