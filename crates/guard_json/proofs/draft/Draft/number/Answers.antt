use Rattle.std.proofs.Common.{sym, ap, ◌∙◌}
use Rattle.std.specs.Prelude.{Some, None, option_map}
use Rattle.std.proofs.lemmas.Option.{cond_some}
use Rattle.json.specs.Token.{number}
use Rattle.guard_json.specs.Cutting.{is_number}
use Rattle.guard_json.specs.Members.{member}
use Rattle.guard_json.proofs.Drafts.{Adds_is, IsUtf8-is_number, where_utf8, token_where}
use Rattle.guard_json.proofs.draft.Draft.number.Goals as goal

pub member-requires : goal.member-requires
member-requires c =
    let w = c.args.word.now in
    let p = cond_some _ w c.in-Some.number.now (sym c.utf8_where.ensures ∙ ap (option_map (λ x. x.now)) c.in-Some.is) in
    ap is_number (sym p.1) ∙ sym (where_utf8 _ _ w c.is_number.ensures (IsUtf8-is_number w)) ∙ p.0

pub returns-in-Some : goal.returns-in-Some
returns-in-Some c =
    let w = c.args.word.now in
    Adds_is c.member.ensures (ap (member c.args.name.now) (token_where _ (Some c.in-Some.number) w number
    (rw (c.in-Some.is, where_utf8 _ _ w c.is_number.ensures (IsUtf8-is_number w)) at c.utf8_where.ensures)))

pub returns-in-None : goal.returns-in-None
returns-in-None c =
    let w = c.args.word.now in
    Adds_is c.only_where.ensures (ap (member c.args.name.now) (token_where _ None w number
    (rw (c.in-None.is, where_utf8 _ _ w c.is_number.ensures (IsUtf8-is_number w)) at c.utf8_where.ensures)))
