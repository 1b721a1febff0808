use Rattle.std.proofs.Common.{◌∙◌, List, Some, Option, Bor, option_map, ℕ, ap, sym}
use Rattle.guard_model.specs.AbstractType.{AbstractType}
use Rattle.guard_model.specs.TypeView.{type_view}
use Rattle.guard_messages.specs.Reasons.{step_name, name_at}
use Rattle.guard_messages.proofs.NamedParts.{name_last, no_name}
use Rattle.guard_messages.proofs.reasons.name_at.Goals as goal

pub returns-in_err-type_at : goal.returns-in_err-type_at
returns-in_err-type_at c =
    let t = Some (type_view c.args.ty.now) in
    let before = c.in_ok-last.before.now in
    let last = c.in_ok-last.last.now in
    ap (λ (o : Option (Bor (List ℕ))). option_map (λ (name : Bor (List ℕ)). name.now) o) c.from_residual-in_err-type_at.ensures
    ∙ sym (no_name last)
    ∙ ap (λ (o : Option AbstractType). step_name o last) c.in_err-type_at.ensures
    ∙ sym (name_last t before last)
    ∙ ap (name_at t) (sym c.in_ok-last.ensures.cases.0)

pub returns : goal.returns
returns c =
    let t = Some (type_view c.args.ty.now) in
    let before = c.in_ok-last.before.now in
    let last = c.in_ok-last.last.now in
    c.step_name.ensures
    ∙ ap (λ (o : Option AbstractType). step_name o last) c.in_ok-type_at.ensures
    ∙ sym (name_last t before last)
    ∙ ap (name_at t) (sym c.in_ok-last.ensures.cases.0)
