use Rattle.std.proofs.Common.{◌≡◌, None}
use Rattle.guard_model.proofs.Components.{left}
use Rattle.guard_tables.specs.inside.Ascending.{components_ascend}
use Rattle.guard_tables.proofs.ascending.ascend.Given as goal

-- the components that are left ascend after the last tag where all ascend
abbrev pub invariant-loop-comp : goal.invariant-loop-comp
invariant-loop-comp l = components_ascend l.last (left l.comps l.comp-index) ≡ components_ascend None (left l.comps 0)
