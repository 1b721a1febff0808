use Rattle.std.proofs.Common.{sym, ap, ◌∙◌}
use Rattle.std.specs.Arc.{arc_value}
use Rattle.std.specs.Cmp.Lexicographic.{pointwise_decides}
use Rattle.guard_model.proofs.Tags.{tag_Decides}
use Rattle.guard_model.proofs.TypeViews.{type_view_is}
use Rattle.guard_model.specs.TypeView.{shared_type_view}
use Rattle.guard_model.specs.declared.ty.Kind.TheViews.{out-Ty}
use Rattle.guard_model.specs.declared.ty.Ty.{Ty}
use Rattle.guard_schema.specs.inside.Ready.{tags_on}
use Rattle.guard_schema.proofs.constraints.are_tags_of.Goals as goal

pub returns-in-Some : goal.returns-in-Some
returns-in-Some c = λ equal.
    let same = (pointwise_decides tag_Decides c.args.tags.now c.deref-in-Some.result.now).0 (sym c.are_same_tags.ensures ∙ equal) in
    let tags = c.deref-in-Some.ensures.value ∙ ap (λ (t : Ty). (out-Ty t).tags.items) c.deref.ensures in
    (shared_type_view c.in-Some.ty.now, sym c.in-Some.ensures, same ∙ tags ∙ sym (ap tags_on (type_view_is (arc_value c.in-Some.ty.now))))
