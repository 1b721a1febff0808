use Rattle.std.proofs.Common.{Some, ap, sym, ◌∙◌}
use Rattle.std.specs.Prelude.{is_some}
use Rattle.guard_model.specs.AbstractType.{AbstractType}
use Rattle.guard_model.specs.TypeView.{type_view}
use Rattle.guard_model.specs.ValueView.{value_view}
use Rattle.guard_model.specs.declared.ty.Kind.TheViews.{out-Ty}
use Rattle.guard_model.proofs.TypeViews.{type_view_is}
use Rattle.guard_der.specs.Der.{der}
use Rattle.guard_der.specs.Fits.{fits}
use Rattle.guard_der.specs.Encoding.{length_in}
use Rattle.guard_der.proofs.Functions.Lengths.{whole_length}
use Rattle.guard_der.proofs.Functions.Soundness.{told_where_short}
use Rattle.guard_der.proofs.lengths.is_short_text.Goals as goal

pub returns-in-Some : goal.returns-in-Some
returns-in-Some c = λ told fit.
    let ty = c.args.ty.now in
    let v = value_view c.args.value.now in
    let inside = c.in-Some.ensures.short (sym (ap (λ (t : AbstractType). fits t v) (type_view_is ty)) ∙ fit) in
    let counted = c.length_in.ensures.value ∙ ap (λ ts. length_in ts (Some c.in-Some.contents)) c.deref.ensures.value in
    let whole = whole_length ty v ∙ ap (length_in (out-Ty ty).tags.items) inside ∙ sym counted in
    sym (told_where_short (der (type_view ty) v)) ∙ ap is_some whole ∙ sym c.is_some.ensures ∙ told
