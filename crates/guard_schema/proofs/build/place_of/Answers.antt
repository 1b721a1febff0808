use Rattle.std.proofs.Common.{sym, ap, ◌∙◌}
use Rattle.guard_schema.specs.Views.{unvalued_at}
use Rattle.guard_schema.proofs.build.place_of.Goals as goal

pub returns-in-Some : goal.returns-in-Some
returns-in-Some c = c.unvalued.ensures ∙ ap (unvalued_at c.args.values.now)
    (sym c.in-Some.is ∙ c.place.ensures.computed)

pub returns-in-None : goal.returns-in-None
returns-in-None c = ap (unvalued_at c.args.values.now) (sym c.in-None.is ∙ c.place.ensures.computed)
