use Rattle.std.proofs.Common.{◌∙◌}
use Rattle.guard_streams.proofs.Showing.{noted}
use Rattle.guard_streams.proofs.counting.note.Goals as goal

pub returns-in-Ok : goal.returns-in-Ok
returns-in-Ok g c = rw c.in-Some.is (noted c.in-Some.place.now c.args.is_shown c.put_all.result _ _ _ c.if-is_shown.false (c.as_bytes.ensures.value ∙ c.in-Ok.ensures.ok) c.put_all.ensures.all c.put_all.ensures.part)
