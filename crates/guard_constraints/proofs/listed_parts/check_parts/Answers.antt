use Rattle.std.proofs.Common.{map, sym, ◌∙◌}
use Rattle.guard_constraints.specs.Views.{head_view}
use Rattle.guard_constraints.proofs.CodeSteps.TypeParts.{no_parts, some_parts}
use Rattle.guard_constraints.proofs.listed_parts.check_parts.Goals as goal

pub returns-then-not-has_parts : goal.returns-then-not-has_parts
returns-then-not-has_parts c = no_parts c.args.ty.now c.args.site (map head_view c.args.parts.now) (sym c.has_parts.ensures ∙ c.if-not-has_parts.true)

pub returns : goal.returns
returns c = rw (some_parts c.args.ty.now c.args.site (map head_view c.args.parts.now) (sym c.has_parts.ensures ∙ c.if-not-has_parts.false)) c.check_each.ensures
