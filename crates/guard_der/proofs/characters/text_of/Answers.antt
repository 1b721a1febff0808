use Rattle.std.proofs.Common.{◌∙◌, sym}
use Rattle.guard_der.proofs.Simple.Texts.{is_read, is_not_read, not_spelled}
use Rattle.guard_der.proofs.characters.text_of.Goals as goal

pub returns-in_default : goal.returns-in_default
returns-in_default c = not_spelled c.args.kind c.args.octets.now c.in_default.ensures.cases.0

pub returns-then-has_all : goal.returns-then-has_all
returns-then-has_all c =
    let is = c.in-Ok.ensures.cases in
    rw is.0 (is_read c.args.kind c.args.octets.now is.1 (rw is.0 at (sym c.has_all.ensures ∙ c.if-has_all.true)))

pub returns-else-has_all : goal.returns-else-has_all
returns-else-has_all c =
    let is = c.in-Ok.ensures.cases in
    is_not_read c.args.kind c.args.octets.now is.1 (rw is.0 at (sym c.has_all.ensures ∙ c.if-has_all.false))
