use Rattle.std.proofs.Common.{◌≡◌, Bool, true, false, ap, sym, ◌∙◌, refl, not}
use Rattle.std.specs.Prelude.{◌&&◌, is_some, IsTrue}
use Rattle.std.proofs.lemmas.Bool.{true≢false}
use Rattle.guard_model.specs.TypeView.{type_view}
use Rattle.guard_model.specs.ValueView.{value_view}
use Rattle.guard_der.specs.Der.{der}
use Rattle.guard_der.specs.Fits.{fits}
use Rattle.guard_der.specs.ProperConstraints.{is_short}
use Rattle.guard_der.proofs.Functions.Soundness.{told_where_short}
use Rattle.guard_der.proofs.lengths.is_too_long.Goals as goal

never_long : (fit short : Bool) → (IsTrue fit → IsTrue short) → false ≡ (fit && not short)
never_long true true then = refl
never_long true false then = absurd (true≢false (sym (then refl)))
never_long false short then = refl

long_where : (short none : Bool) → short ≡ not none → none ≡ not short
long_where short true e = ap not (sym e)
long_where short false e = ap not (sym e)

long_of_type : (fit short none : Bool) → fit ≡ true → short ≡ not none → none ≡ (fit && not short)
long_of_type fit short none fits e = long_where short none e ∙ ap (λ (b : Bool). b && not short) (sym fits)

pub returns-then-is_short_text : goal.returns-then-is_short_text
returns-then-is_short_text c =
    let ty = type_view c.args.ty.now in
    let v = value_view c.args.value.now in
    never_long (fits ty v) (is_short (der ty v)) (c.is_short_text.ensures c.if-is_short_text.true)

pub returns : goal.returns
returns c =
    let ty = type_view c.args.ty.now in
    let v = value_view c.args.value.now in
    let counted = sym (told_where_short (der ty v)) ∙ sym (ap is_some c.encoded_length.ensures) ∙ c.is_none.ensures in
    long_of_type (fits ty v) (is_short (der ty v)) c.is_none.result (sym c.in_ok-fits.ensures.exact ∙ c.if-not-branch.false) counted
