use Rattle.std.proofs.Common.{Option, subst}
use Rattle.std.specs.Prelude.{IsTrue, IfSome}
use Rattle.guard_model.specs.TypeView.{type_view}
use Rattle.guard_model.specs.ValueView.{value_view}
use Rattle.guard_model.specs.declared.value.Value.{Value}
use Rattle.guard_der.specs.Fits.{fits}
use Rattle.guard_values.specs.Meanings.{Governed}
use Rattle.conformance_texts.proofs.known.fits_at.Goals as goal

pub returns-in-Some : goal.returns-in-Some
returns-in-Some c = λ e. subst (λ (o : Option Governed). IfSome o (λ g. IsTrue (fits g.ty g.value))) c.in-Some.ensures
    (subst (λ (v : Value). IsTrue (fits (type_view c.in-Some.visible.ty.now) (value_view v))) c.deref.ensures (c.is_value.ensures e))

pub returns-in-None : goal.returns-in-None
returns-in-None c = λ e. subst (λ (o : Option Governed). IfSome o (λ g. IsTrue (fits g.ty g.value))) c.in-None.ensures tt
