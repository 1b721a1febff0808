use Rattle.guard_json.proofs.Takings.{json_came}
use Rattle.guard_json.proofs.laws.law_json_came.Goals as goal

pub returns : goal.returns
returns c = json_came
