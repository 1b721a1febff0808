use Rattle.std.proofs.Common.{◌≡◌, ◌<◌, ◌≤◌, arith, length, take, drop}
use Rattle.std.proofs.lemmas.List.{length-take-le, length-drop}
use Rattle.guard_files.proofs.FramesRead.{head_read, torn_read}
use Rattle.guard_files.proofs.frames.next_frame.Goals as goal

pub returns-in-Err-fill-clause-none : goal.returns-in-Err-fill-clause-none
returns-in-Err-fill-clause-none g c =
    let room = c.fill.new.room in
    let four : 4 ≤ length room = omega (arith, c.fill.auto.room, c.requires) in
    let head = head_read _ _ c.in-Ok.count room c.in-Ok.ensures.within c.if-count-lt-LENGTH_OCTETS.false c.in-Ok.ensures.given in
    let lost = c.in-Err-fill.ensures.lost in
    let rest = torn_read room c.in-Some.body four c.in-Some.ensures.allowed.0 _ _ _ lost.0
    c.in-Some.ensures.allowed.1 lost.1 head lost.2 in
    (rest.0, rest.1, (rest.3, c.in-Err-fill.ensures.failed.1))

pub returns-then-behind-body-clause-none : goal.returns-then-behind-body-clause-none
returns-then-behind-body-clause-none g c =
    let room = c.fill.new.room in
    let four : 4 ≤ length room = omega (arith, c.fill.auto.room, c.requires) in
    let head = head_read _ _ c.in-Ok.count room c.in-Ok.ensures.within c.if-count-lt-LENGTH_OCTETS.false c.in-Ok.ensures.given in
    let part = take c.in-Ok-fill.behind (drop 4 c.fill-2.new.room) in
    let size : length part ≡ c.in-Ok-fill.behind =
    length-take-le c.in-Ok-fill.behind (drop 4 c.fill-2.new.room)
    (omega (arith, c.if-behind-body.true, c.in-Some.ensures.allowed.1, four, c.fill-2.auto.room, c.fill.auto.room, c.requires, length-drop 4 c.fill-2.new.room)) in
    let few : length part < c.in-Some.body = omega (arith, c.if-behind-body.true, size) in
    let rest = torn_read room c.in-Some.body four c.in-Some.ensures.allowed.0 _ _ _ part
    c.in-Some.ensures.allowed.1 few head c.in-Ok-fill.ensures.given in
    (rest.0, rest.1, (rest.2, rest.3, c.in-Ok-fill.ensures.end c.if-behind-body.true))
