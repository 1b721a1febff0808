use Rattle.std.proofs.Common.{ap}
use Rattle.json.specs.Token.{string}
use Rattle.guard_json.specs.Members.{member}
use Rattle.guard_json.proofs.Drafts.{Adds_is, IsUtf8-is_path, where_utf8, token_where}
use Rattle.guard_json.proofs.draft.Draft.path.Goals as goal

pub returns : goal.returns
returns c =
    let w = c.args.word.now in
    Adds_is c.string.ensures
    (ap (member c.args.name.now)
    (token_where _ c.utf8_where.result w string (rw (where_utf8 _ _ w c.is_path.ensures (IsUtf8-is_path w)) at c.utf8_where.ensures)))
