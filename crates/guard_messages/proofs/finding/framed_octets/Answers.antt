use Rattle.std.proofs.lemmas.Result.{err_from_is_err_and}
use Rattle.guard_messages.proofs.finding.framed_octets.Goals as goal

pub returns-in_err-frame-clause-unfound : goal.returns-in_err-frame-clause-unfound
returns-in_err-frame-clause-unfound g c told =
    let e = err_from_is_err_and c.from_residual.result c.from_residual.ensures.1 in
    rw (e.1, e.2) (c.in_err-frame.ensures.unfound told)
