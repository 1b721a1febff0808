use Rattle.std.proofs.Common.{sym, ap}
use Rattle.std.specs.Prelude.{option_map}
use Rattle.json.specs.Token.{string}
use Rattle.guard_json.specs.Members.{member}
use Rattle.guard_json.proofs.Drafts.{Adds_is}
use Rattle.guard_json.proofs.draft.Draft.string.Goals as goal

pub returns-in-Some : goal.returns-in-Some
returns-in-Some c =
    Adds_is c.member.ensures (sym (ap (λ t. member c.args.name.now (option_map (λ text. string text.now) t)) c.in-Some.is))

pub returns-in-None : goal.returns-in-None
returns-in-None c =
    Adds_is c.only_where.ensures (sym (ap (λ t. member c.args.name.now (option_map (λ text. string text.now) t)) c.in-None.is))
