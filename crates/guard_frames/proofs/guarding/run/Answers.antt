use Rattle.guard_frames.proofs.Leavings.{runs_alone, never_out, same_fault}
use Rattle.guard_frames.proofs.guarding.run.Goals as goal

pub returns-in-Ok-ran-clause-runs : goal.returns-in-Ok-ran-clause-runs
returns-in-Ok-ran-clause-runs g c =
    let x = c.in-Ok-ran.ensures.runs in
    let all = x.holds.0.0.all in
    record {
      read = x.read;
      added = x.added;
      given = x.given;
      taken = x.taken;
      holds = (record { all = all; counts = rw c.totals.ensures x.holds.0.0.counts }, x.holds.0.1);
    }

pub returns-clause-runs : goal.returns-clause-runs
returns-clause-runs g c =
    let x = c.in-Err.ensures.runs in
    record { read = x.read; added = x.added; given = x.given; taken = x.taken; holds = runs_alone _ _ _ _ c.in-Err.fault _ _ x.holds.0 }

pub returns-clause-failed : goal.returns-clause-failed
returns-clause-failed g c = λ is. c.in-Err.ensures.failed (same_fault c.in-Err.fault _ is)

pub returns-clause-unread : goal.returns-clause-unread
returns-clause-unread g c = λ is. c.in-Err.ensures.unread (same_fault c.in-Err.fault _ is)

pub returns-clause-untouched : goal.returns-clause-untouched
returns-clause-untouched g c = λ is. absurd (never_out _ _ _ _ c.in-Err.fault _ _ c.in-Err.ensures.runs.holds.0 is)
