use Rattle.std.proofs.Common.{◌∙◌, sym}
use Rattle.guard_reader.proofs.ByHeader.{front_read}
use Rattle.guard_reader.proofs.element_fronts.headed_front.Goals as goal

pub returns : goal.returns
returns c =
    front_read c.args.tag.now c.args.constructed c.args.octets.now c.in-Ok.head (sym c.is_empty.ensures ∙ c.if-is_empty.false)
    c.in-Ok.ensures.exact
    (sym c.are_same.ensures ∙ c.if-not-are_same.false) (sym c.is_in_form.ensures ∙ c.if-not-is_in_form.false)
