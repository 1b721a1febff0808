use Rattle.std.proofs.Common.{◌<◌, length, refl, inr, Ok, Err, arith}
use Rattle.std.proofs.lemmas.Option.{slice_get_read}
use Rattle.guard_frames.proofs.seats.feed_at.Goals as goal

pub returns-in-Ok : goal.returns-in-Ok
returns-in-Ok g c =
    let seats = c.args.seats.now in
    let s = c.index_mut-seat.result.now in
    let within : c.args.at < length seats.items = omega (arith, c.if-at-len.false, c.len.ensures, seats.ok.0) in
    inr (record {
      old_seat = s;
      new_seat = c.feed_seat.new.seat;
      link_answer = Ok tt;
      there = slice_get_read seats.items (length seats.items) c.args.at s refl within c.index_mut-seat.ensures.value;
      does = c.in-Ok.ensures;
      answered = refl;
      others = refl;
    })

pub returns-in-Err : goal.returns-in-Err
returns-in-Err g c =
    let seats = c.args.seats.now in
    let s = c.index_mut-seat.result.now in
    let within : c.args.at < length seats.items = omega (arith, c.if-at-len.false, c.len.ensures, seats.ok.0) in
    inr (record {
      old_seat = s;
      new_seat = c.feed_seat.new.seat;
      link_answer = Err c.in-Err.fault;
      there = slice_get_read seats.items (length seats.items) c.args.at s refl within c.index_mut-seat.ensures.value;
      does = c.in-Err.ensures;
      answered = refl;
      others = refl;
    })
