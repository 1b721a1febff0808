use Rattle.std.proofs.lemmas.Result.{err_from_is_err_and}
use Rattle.guard_frames.specs.LinkView.{link_view}
use Rattle.guard_frames.proofs.Composing.{takes_closed, told_write_failed, unlost}
use Rattle.guard_frames.proofs.link.Link.feed.Goals as goal

pub returns-in_err-take-clause-open : goal.returns-in_err-take-clause-open
returns-in_err-take-clause-open g c is =
    let e = err_from_is_err_and c.from_residual.result c.from_residual.ensures.1 in
    let x = c.in_err-take.ensures.puts in
    rw (e.1, e.2) (
      x.0,
      takes_closed _ _ _ (link_view c.take.new.self) c.in_err-take.field-0.0 x.0 x.1 c.in_err-take.ensures.closes c.in_err-take.ensures.left,
      x.2,
      unlost c.in_err-take.field-0.0 _ x.0 x.3,
    )

pub returns-in_err-take-clause-failed : goal.returns-in_err-take-clause-failed
returns-in_err-take-clause-failed g c =
    let e = err_from_is_err_and c.from_residual.result c.from_residual.ensures.1 in
    rw (e.1, e.2) (λ is. told_write_failed c.in_err-take.field-0.0 _ _ c.in_err-take.ensures.failed is)
