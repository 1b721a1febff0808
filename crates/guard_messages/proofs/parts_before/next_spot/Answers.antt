use Rattle.std.proofs.Common.{suc, string_bytes, option_map}
use Rattle.std.proofs.lemmas.Result.{IfOk-weaker}
use Rattle.guard_model.specs.Kinds.{kind_of}
use Rattle.guard_messages.specs.inside.Spots.{HoldsSound, IsNumbered, due_view, part_view, spot_in_view}
use Rattle.guard_messages.proofs.Dues.{inside_numbered, numbered_part, sound_part}
use Rattle.guard_messages.proofs.SoundParts.{sound_inside}
use Rattle.guard_messages.proofs.Spots.{goes_on, holds_on, part_is}
use Rattle.guard_messages.proofs.parts_before.next_spot.Goals as goal

pub past_or_inside-requires-clause-sound : goal.past_or_inside-requires-clause-sound
past_or_inside-requires-clause-sound c =
    let way = string_bytes c.args.spot.now.way in
    let due = due_view c.args.spot.now.due in
    let tag = c.in-Some.header.tag in
    let is = part_is c.in_ok-part.field-0 c.in-Some-2.part c.deref.result.now way due tag c.in-Some-2.is c.in_ok-part.ensures.part c.deref.ensures in
    (sound_part way due tag (part_view c.in-Some-2.part) is c.requires.sound).0

pub returns-in-Some-2 : goal.returns-in-Some-2
returns-in-Some-2 c =
    let s = spot_in_view c.args.spot.now in
    let h = c.in-Some.header in
    let p = part_view c.in-Some-2.part in
    let is = part_is c.in_ok-part.field-0 c.in-Some-2.part c.deref.result.now s.way s.due h.tag c.in-Some-2.is c.in_ok-part.ensures.part c.deref.ensures in
    let sound = sound_part s.way s.due h.tag p is c.requires.sound in
    record {
      lines = IfOk-weaker c.past_or_inside.result _ _ (λ next over.
          goes_on c.args.octets.now c.args.breach s c.args.lines.now.items c.past_or_inside.new.lines.items h p (option_map spot_in_view next)
          c.if-spot-breach.false c.in-Some.ensures.header is over) c.past_or_inside.ensures.lines;
      sound = IfOk-weaker c.past_or_inside.result _ _
          (λ next follows. holds_on HoldsSound p next sound.1 (sound_inside p.ty sound.0) follows) c.past_or_inside.ensures.due;
      few = λ n few. IfOk-weaker c.past_or_inside.result _ _ (λ next follows.
          holds_on (IsNumbered (suc n)) p next (numbered_part n s.way s.due h.tag p is few) (inside_numbered (suc n) (kind_of p.ty)) follows) c.past_or_inside.ensures.due;
    }
