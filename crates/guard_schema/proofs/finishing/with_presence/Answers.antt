use Rattle.std.proofs.lemmas.Result.{err_from_is_err_and}
use Rattle.std.specs.Arc.{arc_str_bytes}
use Rattle.guard_model.specs.AbstractType.{AbstractPresence}
use Rattle.guard_model.specs.TypeView.{OneComponent, type_view}
use Rattle.guard_syntax.specs.TypeViews as written
use Rattle.guard_constraints.specs.Views.{visible_in}
use Rattle.guard_schema.specs.Faults.{named}
use Rattle.guard_schema.specs.Finishing.{FillsPresence}
use Rattle.guard_schema.specs.Outcomes.{Is}
use Rattle.guard_schema.proofs.Turns.Outcomes.{first_refuses}
use Rattle.guard_schema.proofs.finishing.with_presence.Goals as goal

pub returns-in_err-presence : goal.returns-in_err-presence
returns-in_err-presence c =
    let p = err_from_is_err_and c.from_residual.result c.from_residual.ensures.1 in
    let name = arc_str_bytes c.args.name in
    let t = type_view c.args.ty in
    rw (p.1, p.2) (first_refuses
    (FillsPresence (visible_in c.args.scope) t (written.presence_view c.args.presence.now))
    (λ (x : AbstractPresence). Is {A = OneComponent} (record { name = name; ty = t; presence = x }))
    (named c.in_err-presence.field-0.0) c.in_err-presence.ensures)
