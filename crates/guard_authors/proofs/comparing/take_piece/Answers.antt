use Rattle.std.proofs.Common.{[]}
use Rattle.std.proofs.lemmas.Result.{err_from_is_err_and}
use Rattle.guard_frames.proofs.Appending.{Appends_none}
use Rattle.guard_authors.proofs.FramesCompared.{nothing_compared}
use Rattle.guard_authors.proofs.PiecesStopped.{passed_whole}
use Rattle.guard_authors.proofs.comparing.take_piece.Goals as goal

pub returns-in_err-add-clause-stopped : goal.returns-in_err-add-clause-stopped
returns-in_err-add-clause-stopped g c =
    let e = err_from_is_err_and c.from_residual.result c.from_residual.ensures.1 in
    rw (e.1, e.2) (_, [], _, nothing_compared _ _ _, Appends_none _)

pub returns-in_err-left-clause-stopped : goal.returns-in_err-left-clause-stopped
returns-in_err-left-clause-stopped g c =
    let e = err_from_is_err_and c.from_residual-in_err-left.result c.from_residual-in_err-left.ensures.1 in
    rw (e.1, e.2) (_, [], _, nothing_compared _ _ _, Appends_none _)

pub returns-in_err-put_all-clause-stopped : goal.returns-in_err-put_all-clause-stopped
returns-in_err-put_all-clause-stopped g c =
    let e = err_from_is_err_and c.from_residual-in_err-put_all.result c.from_residual-in_err-put_all.ensures.1 in
    let h = passed_whole _ _ _ _ _ _ _ _ _ c.as_slice.ensures.value c.in_ok-add.ensures c.new-lines.ensures.items c.in_ok-left.ensures.0 in
    let part = rw c.deref.ensures.value at c.in_err-put_all.ensures.part in
    rw (e.1, e.2) (_, _, _, h, (part.0, part.1, part.2, c.in_err-put_all.ensures.failed))

pub returns-in_err-drop_front-in-Unfinished-clause-stopped : goal.returns-in_err-drop_front-in-Unfinished-clause-stopped
returns-in_err-drop_front-in-Unfinished-clause-stopped g c =
    let e = err_from_is_err_and c.from_residual-in_err-drop_front-in-Unfinished.result
    c.from_residual-in_err-drop_front-in-Unfinished.ensures.1 in
    let h = passed_whole _ _ _ _ _ _ _ _ _ c.as_slice.ensures.value c.in_ok-add.ensures c.new-lines.ensures.items c.in_ok-left.ensures.0 in
    rw (e.1, e.2) (_, _, _, h, rw c.deref.ensures.value at c.in_ok-put_all.ensures.all)

pub returns-in-TooLong-clause-stopped : goal.returns-in-TooLong-clause-stopped
returns-in-TooLong-clause-stopped g c =
    let h = passed_whole _ _ _ _ _ _ _ _ _ c.as_slice.ensures.value c.in_ok-add.ensures c.new-lines.ensures.items c.in_ok-left.ensures.0 in
    let long = rw (c.in-TooLong.is, c.as_slice.ensures.value, c.in_ok-add.ensures) at c.in_ok-left.ensures.1 in
    (_, _, _, h, (long, rw c.deref.ensures.value at c.in_ok-put_all.ensures.all))
