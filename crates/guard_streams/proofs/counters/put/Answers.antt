use Rattle.std.proofs.Common.{◌≡◌}
use Rattle.std.specs.Prelude.{Some}
use Rattle.guard_streams.proofs.Showing.{shows_last}
use Rattle.guard_streams.proofs.counters.put.Goals as goal

pub returns-in-Ok : goal.returns-in-Ok
returns-in-Ok g c =
    let same : c.as_slice.result.now ≡ c.in-Ok.text.items = c.as_slice.ensures.value in
    rw c.in-Some.is (shows_last _ (Some c.in-Some.place.now) c.in-Ok.text.items c.show.result _ _ (rw same at c.show.ensures.shown) c.show.ensures.none c.in-Ok.ensures)
