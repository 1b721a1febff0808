use Rattle.std.proofs.Common.{◌≡◌, map, drop}
use Rattle.guard_model.specs.TypeView.{kind_view, constraint_view, constraints_of}
use Rattle.guard_tables.specs.Forms.{form_all, form_each}
use Rattle.guard_tables.specs.inside.FormViews.{formula_of}
use Rattle.guard_tables.proofs.formulas.+formulas.Given as goal

-- ---- with what comes of the constraints that are left it is what comes of all

abbrev pub invariant-form_all-loop-constraint : goal.invariant-form_all-loop-constraint
invariant-form_all-loop-constraint l =
    form_all l.slots (kind_view l.kind) (constraints_of (map constraint_view (drop l.constraint-index l.constraints))) (formula_of l.tests l.forms.items)
    ≡ form_all l.slots (kind_view l.kind) (constraints_of (map constraint_view l.constraints)) (formula_of l.initial.tests l.initial.forms.items)

abbrev pub invariant-form_each-loop-constraint : goal.invariant-form_each-loop-constraint
invariant-form_each-loop-constraint l =
    form_each (kind_view l.kind) (constraints_of (map constraint_view (drop l.constraint-index l.constraints))) (formula_of l.tests l.forms.items)
    ≡ form_each (kind_view l.kind) (constraints_of (map constraint_view l.constraints)) (formula_of l.initial.tests l.initial.forms.items)
