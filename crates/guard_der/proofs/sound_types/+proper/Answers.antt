use Rattle.std.proofs.Common.{◌≡◌, ◌∙◌, sym, subst, Bool, Option, map}
use Rattle.std.specs.Prelude.{IfOk, IfSome}
use Rattle.guard_model.specs.TypeView.{type_view, component_view, components_of}
use Rattle.guard_tagcheck.specs.declared.clash.Clash.{Clash}
use Rattle.guard_tagcheck.specs.Distinct.{IsClash}
use Rattle.guard_tagcheck.specs.Views.{clash_view}
use Rattle.guard_der.specs.Sound.{are_proper}
use Rattle.guard_der.proofs.Functions.Soundness.{many_components, few_components}
use Rattle.guard_der.proofs.Functions.SoundTypes.{outside_limits, has_clash, distinct_within}
use Rattle.guard_der.proofs.sound_types.+proper.Goals as goal

pub is_sound-returns-then-not-is_within_limits : goal.is_sound-returns-then-not-is_within_limits
is_sound-returns-then-not-is_within_limits t c = outside_limits (type_view c.args.ty.now) (sym c.is_within_limits.ensures ∙ c.if-not-is_within_limits.true)

pub is_sound-returns-in-None : goal.is_sound-returns-in-None
is_sound-returns-in-None t c =
    let same = distinct_within (type_view c.args.ty.now) (sym c.is_within_limits.ensures ∙ c.if-not-is_within_limits.false) (c.in_ok-find_clash.ensures.distinct c.in-None.is) in
    subst (λ (s : Bool). IfOk c.is_proper.result (λ b. b ≡ s)) same c.is_proper.ensures

pub is_sound-returns-in-Some : goal.is_sound-returns-in-Some
is_sound-returns-in-Some t c =
    let clash = subst (λ (found : Option Clash). IfSome found (λ x. IsClash (type_view c.args.ty.now) (clash_view x))) c.in-Some.is c.in_ok-find_clash.ensures.clash in
    has_clash (type_view c.args.ty.now) _ clash

pub list_is_proper-returns-then-comps-gt-MOST_COMPONENTS : goal.list_is_proper-returns-then-comps-gt-MOST_COMPONENTS
list_is_proper-returns-then-comps-gt-MOST_COMPONENTS t c = many_components c.args.comps.now _ c.if-comps-gt-MOST_COMPONENTS.true

pub list_is_proper-returns : goal.list_is_proper-returns
list_is_proper-returns t c = rw (sym (few_components c.args.comps.now (are_proper (components_of (map component_view c.args.comps.now))) c.if-comps-gt-MOST_COMPONENTS.false)) c.are_proper.ensures
