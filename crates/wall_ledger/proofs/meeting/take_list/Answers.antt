use Rattle.std.proofs.Common.{◌≡◌, ap, ◌∙◌, arith}
use Rattle.wall_ledger.specs.Hands.{face_in}
use Rattle.wall_ledger.proofs.Seating.{merges, notes}
use Rattle.wall_ledger.proofs.MetPasses.{sees_note, joined_view, no_less, room_for, sound_for, room_copy, copied, meeting_told, taken, taken_rests, noted_rests, noted_state, resting_with}
use Rattle.wall_ledger.proofs.meeting.take_list.Goals as goal

pub copy_tail-requires : goal.copy_tail-requires
copy_tail-requires c = record {
  room = room_copy c.args.less.now c.args.more.now c.deref.result.now c.requires.resting.0 c.requires.resting.1 c.requires.first c.deref.ensures.value;
}

pub split-note-requires-clause-forks : goal.split-note-requires-clause-forks
split-note-requires-clause-forks c = notes c.args.gate.now.table.shared.key.value c.args.more.now.place.id c.args.more.now.place.me.0.client

pub join-requires-clause-idle : goal.join-requires-clause-idle
join-requires-clause-idle c =
    let r = c.requires.resting.0 in
    let n = c.split-note.ensures.right.1 in
    ((r.stage, r.empty), (ap (λ z. z.0.stage) n, ap (λ z. z.1) n))

pub join-requires-clause-merges : goal.join-requires-clause-merges
join-requires-clause-merges c =
    merges c.args.gate.now.table.shared.key.value c.args.less.now.place.id c.split-note.result.id c.args.less.now.place.me.0.client c.split-note.result.me.0.client

pub learn-requires-clause-idle : goal.learn-requires-clause-idle
learn-requires-clause-idle c = (ap (λ z. z.0.stage) c.join.ensures.whole, ap (λ z. z.1) c.join.ensures.whole)

pub learn-requires-clause-sees : goal.learn-requires-clause-sees
learn-requires-clause-sees c =
    let s = c.args.less.now in
    let m = c.args.more.now in
    sees_note c.args.gate.now.table.shared.key.value c.join.new.place.id c.join.new.place.me.0.client (face_in s) (face_in m)
    (no_less s m c.requires.resting.0 c.requires.resting.1 c.requires.stamps)
    (joined_view s m c.join.new.place.me.0.client c.split-note.result.me.0.client c.requires.resting.0 c.requires.resting.1
    (ap (λ z. z.0.client) c.join.ensures.whole) (ap (λ z. z.0.client) c.split-note.ensures.right.1))

pub returns-clause-resting : goal.returns-clause-resting
returns-clause-resting c =
    let s = c.args.less.now in
    let m = c.args.more.now in
    let rs = c.requires.resting.0 in
    let rm = c.requires.resting.1 in
    let view = joined_view s m c.join.new.place.me.0.client c.split-note.result.me.0.client rs rm
    (ap (λ z. z.0.client) c.join.ensures.whole) (ap (λ z. z.0.client) c.split-note.ensures.right.1) in
    let told = meeting_told c.join.new.place.me.0.client c.learn.new.place.me.0.client (face_in s) (face_in m) view c.learn.ensures.learned in
    let idle = c.learn.ensures.idle in
    let budget : c.learn.new.place.me.0.budget ≡ s.place.me.0.budget =
    (let a = idle.1 in let b = ap (λ z. z.0.budget) c.join.ensures.whole in let d = ap (λ z. z.0.budget) c.split-note.ensures.right.1 in omega arith) in (
      taken_rests s (face_in m) rs c.learn.new.place c.copy_tail.new.entries m.stamp told.0 told.1 idle.0.0 idle.0.1 budget
          (copied s m _ c.copy_tail.new.entries.items rs rm c.deref.ensures.value told.1.front c.in_ok-copy_tail.ensures.ok)
          c.copy_tail.ensures.room (room_for s m rs rm c.requires.first) (sound_for s m rm c.requires.first) rm.mirror.stamp,
      noted_rests m c.split-note.new.place rm c.split-note.ensures.left,
    )

pub returns-clause-ok : goal.returns-clause-ok
returns-clause-ok c =
    let s = c.args.less.now in
    let m = c.args.more.now in
    let rs = c.requires.resting.0 in
    let rm = c.requires.resting.1 in
    let view = joined_view s m c.join.new.place.me.0.client c.split-note.result.me.0.client rs rm
    (ap (λ z. z.0.client) c.join.ensures.whole) (ap (λ z. z.0.client) c.split-note.ensures.right.1) in
    let told = meeting_told c.join.new.place.me.0.client c.learn.new.place.me.0.client (face_in s) (face_in m) view c.learn.ensures.learned in
    taken s m c.learn.new.place c.copy_tail.new.entries m.stamp rs (c.learn.ensures.same.0 ∙ c.join.ensures.same.0) told.0 told.1

pub returns-clause-more : goal.returns-clause-more
returns-clause-more c =
    noted_state c.args.more.now c.split-note.new.place c.requires.resting.1 c.split-note.ensures.left c.split-note.ensures.same.0

pub returns-in_err-copy_tail-clause-resting : goal.returns-in_err-copy_tail-clause-resting
returns-in_err-copy_tail-clause-resting c =
    (resting_with c.args.less.now c.copy_tail.new.entries c.requires.resting.0 c.in_err-copy_tail.ensures.err c.copy_tail.ensures.room, c.requires.resting.1)
