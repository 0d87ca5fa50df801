use Rattle.std.proofs.Common.{◌++◌, ◌∷◌, [], length, refl, ap, sym, ◌∙◌, arith}
use Rattle.std.proofs.lemmas.Option.{slice_get_within}
use Rattle.cdcl_trail.specs.Renaming.{IsBelow}
use Rattle.cdcl_trail.proofs.LoopLaws.{smaller_here}
use Rattle.cdcl_trail.proofs.RenameLaws.{all_at}
use Rattle.cdcl_trail.proofs.NamedLaws.{showing_start, showing_next, showing_long, showing_end}
use Rattle.cdcl_trail.proofs.trail.show.Goals as goal

pub places-init : goal.places-init
places-init c = record {
  showing = showing_start c.args.names.now c.args.literals.now c.args.shown.now.items (length c.as_slice-place.result.now) c.requires.front c.requires.within (ap length c.as_slice-place.ensures.value);
  room = refl;
}

pub name-requires : goal.name-requires
name-requires c =
    all_at (IsBelow (length c.args.names.now)) c.args.literals.now c.places.place c.in-Some.literal c.requires.below (sym c.in-Some.ensures.value)

pub push_reserved-requires : goal.push_reserved-requires
push_reserved-requires c =
    let long = showing_long c.args.names.now c.args.literals.now c.places.shown.items c.places.place c.places.invariant.showing in
    let within = slice_get_within c.args.literals.now c.places.place c.in-Some.literal (sym c.in-Some.ensures.value) in
    omega (arith, long, within, c.places.shown.ok.0, c.places.invariant.room, c.requires.room)

pub places-preserved : goal.places-preserved
places-preserved c = record {
  showing = showing_next c.args.names.now c.args.literals.now c.places.shown.items c.push_reserved.new.self.items c.places.place c.in-Some.literal c.places.invariant.showing
      (sym c.in-Some.ensures.value) (c.push_reserved.ensures.items ∙ ap (λ x. c.places.shown.items ++ x ∷ []) c.name.ensures);
  room = c.push_reserved.ensures.capacity ∙ c.places.invariant.room;
}

pub places-smaller : goal.places-smaller
places-smaller c =
    smaller_here (length c.args.literals.now) (length c.args.literals.now) c.places.place refl
    (slice_get_within c.args.literals.now c.places.place c.in-Some.literal (sym c.in-Some.ensures.value))

pub returns-in_default : goal.returns-in_default
returns-in_default c =
    showing_end c.args.names.now c.args.literals.now c.places.shown.items c.places.place c.places.invariant.showing (sym c.literal_at.ensures.value ∙ c.in_default.is)
