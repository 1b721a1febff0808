use Rattle.std.proofs.Common.{◌∙◌, ap}
use Rattle.guard_model.specs.AbstractType.{AbstractKind}
use Rattle.guard_model.specs.TypeView.{kind_view, constraint_view}
use Rattle.guard_model.specs.ValueView.{value_view}
use Rattle.guard_der.specs.Fits.{fits_kind}
use Rattle.guard_eval.specs.Member.{holds}
use Rattle.guard_eval.proofs.PartFits.{fits_of}
use Rattle.guard_eval.proofs.Soundness.{proper_keeps_base}
use Rattle.guard_eval.proofs.Calls.{not_some, holds_by_walk}
use Rattle.guard_eval.proofs.members.holds_on_kind.Goals as goal

pub returns : goal.returns
returns c =
    let cons = constraint_view c.args.cons.now in
    let value = value_view c.args.value.now in
    let t = c.requires.proper.0 in
    let is = c.requires.proper.1 in
    not_some c.failure_by.result c.is_none.result c.is_none.ensures
    ∙ holds_by_walk cons t (kind_view c.args.kind.now) value _ c.failure_by.result is (proper_keeps_base cons t c.requires.proper.2)
    (fits_of t value ∙ ap (λ (k : AbstractKind). fits_kind k value) is ∙ c.requires.fits) c.failure_by.ensures
    ∙ ap (λ (k : AbstractKind). holds cons k value) is
