use Rattle.std.proofs.Common.{◌<◌, length, refl, inr, ap, Ok, Err, arith}
use Rattle.std.proofs.lemmas.Option.{slice_get_read}
use Rattle.guard_frames.specs.LinkView.{link_view}
use Rattle.guard_frames.proofs.Own.AtSeats.{ended_of}
use Rattle.guard_frames.proofs.seats.end_at.Goals as goal

pub returns-in-Ok : goal.returns-in-Ok
returns-in-Ok g c =
    let seats = c.args.seats.now in
    let s = c.index_mut-seat.result.now in
    let within : c.args.at < length seats.items = omega (arith, c.if-at-len.false, c.len.ensures, seats.ok.0) in
    let h = c.in-Ok.ensures in
    inr (record {
      old_seat = s;
      new_seat = record { link = c.end.new.self; ends = s.ends };
      link_answer = Ok tt;
      there = slice_get_read seats.items (length seats.items) c.args.at s refl within c.index_mut-seat.ensures.value;
      does = record {
        does = ended_of (link_view s.link) (Ok tt) (link_view c.end.new.self) h.torn h.whole (λ is. ((h.shut is).0, ap link_view (h.shut is).1)) h.closes h.totals h.left;
        ends = refl;
      };
      answered = refl;
      others = refl;
    })

pub returns-in-Err : goal.returns-in-Err
returns-in-Err g c =
    let seats = c.args.seats.now in
    let s = c.index_mut-seat.result.now in
    let within : c.args.at < length seats.items = omega (arith, c.if-at-len.false, c.len.ensures, seats.ok.0) in
    let h = c.in-Err.ensures in
    inr (record {
      old_seat = s;
      new_seat = record { link = c.end.new.self; ends = s.ends };
      link_answer = Err c.in-Err.fault;
      there = slice_get_read seats.items (length seats.items) c.args.at s refl within c.index_mut-seat.ensures.value;
      does = record {
        does = ended_of (link_view s.link) (Err c.in-Err.fault) (link_view c.end.new.self) h.torn h.whole (λ is. ((h.shut is).0, ap link_view (h.shut is).1)) h.closes h.totals h.left;
        ends = refl;
      };
      answered = refl;
      others = refl;
    })
