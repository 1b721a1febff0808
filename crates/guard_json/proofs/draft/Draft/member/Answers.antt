use Rattle.std.proofs.Common.{refl}
use Rattle.guard_json.proofs.Drafts.{Adds_two}
use Rattle.guard_json.proofs.draft.Draft.member.Goals as goal

pub returns : goal.returns
returns c = Adds_two c.put.ensures refl c.put-2.ensures
