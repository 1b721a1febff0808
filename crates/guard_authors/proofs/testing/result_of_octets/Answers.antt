use Rattle.guard_policy.specs.Verdicts.{verdict_view}
use Rattle.guard_authors.proofs.testing.result_of_octets.Goals as goal

pub returns : goal.returns
returns c = (verdict_view c.in_ok-verdict.verdict, c.in_ok-verdict.ensures.reason, c.in_ok-text.ensures, c.in_ok-reached.ensures)
