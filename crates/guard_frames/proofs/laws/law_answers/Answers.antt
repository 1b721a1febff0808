use Rattle.guard_frames.proofs.AnsweredAlike.{same_outcomes}
use Rattle.guard_frames.proofs.laws.law_answers.Goals as goal

pub returns : goal.returns
returns g c = same_outcomes (g.D.Decide.decides c.args.policy.now)
