use Rattle.std.proofs.Common.{arith, inr}
use Rattle.std.proofs.lemmas.List.{length-take}
use Rattle.std.proofs.lemmas.Result.{err_from_is_err_and}
use Rattle.guard_files.proofs.RecordReading.{piece_lost, lost_none, whole_piece, header_read, good_piece}
use Rattle.guard_files.proofs.records.next_record.Goals as goal

pub returns-in_err-count-2-clause-none : goal.returns-in_err-count-2-clause-none
returns-in_err-count-2-clause-none g c =
    let e = err_from_is_err_and c.from_residual-in_err-count-2.result c.from_residual-in_err-count-2.ensures.1 in
    let h = c.in-Some.ensures.there in
    let f = c.in_ok-count.ensures in
    let lost = c.in_err-count-2.ensures.lost in
    let rest = piece_lost _ _ _ c.in-Some.header c.in-Piece.field-0 c.in-Piece.size c.in_ok-count.count
    c.fill.new.room lost.0 c.in-Piece.is h.0 h.1
    f.within c.if-count-lt-HEADER.false f.given lost.2 lost.1 in
    let failed = c.in_err-count-2.ensures.failed in
    rw (e.1, e.2) (rest.0, rest.1, lost_none c.in_err-count-2.field-0.0 rest.0 _ _ _ failed.0 rest.2 failed.1)

pub returns-then-count-size-clause-none : goal.returns-then-count-size-clause-none
returns-then-count-size-clause-none g c =
    let h = c.in-Some.ensures.there in
    let f = c.in_ok-count.ensures in
    let s = c.in_ok-count-2.ensures in
    let rest = piece_lost _ _ _ c.in-Some.header c.in-Piece.field-0 c.in-Piece.size c.in_ok-count.count
    c.fill.new.room _ c.in-Piece.is h.0 h.1
    f.within c.if-count-lt-HEADER.false f.given s.given (omega (
      arith,
      c.if-count-size.true,
      length-take
          c.in_ok-count-2.count c.fill-in-Piece.new.room,
    )) in
    (rest.0, rest.1, inr (rest.3, rest.2, s.end c.if-count-size.true))

pub returns-else-count-size-clause-record : goal.returns-else-count-size-clause-record
returns-else-count-size-clause-record g c =
    let h = c.in-Some.ensures.there in
    let f = c.in_ok-count.ensures in
    let s = c.in_ok-count-2.ensures in
    let good = good_piece c.in-Some.header c.in-Piece.field-0 c.in-Piece.size c.in-Piece.is h.0 in (
      good,
      omega (arith, s.fewer, f.some (omega (arith, c.if-count-lt-HEADER.false))),
      whole_piece _ _ _ c.in-Some.header c.in-Piece.field-0 c.in-Piece.size c.in_ok-count.count
          c.in_ok-count-2.count c.fill.new.room c.fill-in-Piece.new.room
          c.in-Piece.is h.0 h.1 f.within c.if-count-lt-HEADER.false f.given s.given
          (omega (arith, s.within, c.if-count-size.false))
          (omega (arith, good.1, c.requires, c.fill.auto.room, c.fill-in-Piece.auto.room)),
    )

pub returns-in_default-header : goal.returns-in_default-header
returns-in_default-header g c =
    let h = c.in-Some.ensures.there in
    let f = c.in_ok-count.ensures in
    record {
      «record» = (
        h.0,
        f.some (omega (arith, c.if-count-lt-HEADER.false)),
        header_read _ _ c.in-Some.header c.in_ok-count.count c.fill.new.room c.in_default-header.not-Piece h.1
            f.within c.if-count-lt-HEADER.false f.given,
      );
      end = λ none. absurd cc;
      none = tt;
      counted = f.counted;
      fewer = f.fewer;
    }
