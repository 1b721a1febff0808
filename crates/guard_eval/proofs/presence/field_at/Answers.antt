use Rattle.std.proofs.Common.{sym, ap, ◌∙◌, option_map}
use Rattle.guard_model.specs.ValueView.{value_view, field_view}
use Rattle.guard_eval.proofs.AtPlace.{field_found, field_missing}
use Rattle.guard_eval.proofs.presence.field_at.Goals as goal

pub returns-in_err-field : goal.returns-in_err-field
returns-in_err-field c =
    ap (option_map (λ v. value_view v.now)) c.from_residual.ensures ∙ sym (field_missing c.get.result c.args.fields.now c.args.at c.get.ensures.lookup.3 c.in_err-field.was)

pub returns-in-Some : goal.returns-in-Some
returns-in-Some c =
    sym (field_found c.get.result c.args.fields.now c.args.at c.in_ok-field.field c.get.ensures.lookup.3 c.in_ok-field.was ∙ ap field_view (sym c.as_ref.ensures ∙ c.in-Some.is))

pub returns-in-None : goal.returns-in-None
returns-in-None c =
    sym (field_found c.get.result c.args.fields.now c.args.at c.in_ok-field.field c.get.ensures.lookup.3 c.in_ok-field.was ∙ ap field_view (sym c.as_ref.ensures ∙ c.in-None.is))
