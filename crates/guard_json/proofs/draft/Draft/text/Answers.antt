use Rattle.std.proofs.Common.{ap}
use Rattle.json.specs.Token.{string}
use Rattle.guard_json.specs.Members.{member}
use Rattle.guard_json.proofs.Drafts.{Adds_is, token_where}
use Rattle.guard_json.proofs.draft.Draft.text.Goals as goal

pub returns : goal.returns
returns c =
    Adds_is c.string.ensures
    (ap (member c.args.name.now) (token_where _ c.utf8_where.result c.args.octets.now string c.utf8_where.ensures))
