use Rattle.std.proofs.Common.{◌≡◌, map, vec_len}
use Rattle.guard_tables.specs.Forms.{boths}
use Rattle.guard_tables.specs.Formulas.{always}
use Rattle.guard_tables.specs.NodeViews.{form_view}
use Rattle.guard_tables.proofs.form_trees.all_of.Given as goal

abbrev pub decreases-loop-form : goal.decreases-loop-form
decreases-loop-form l = vec_len l.forms

abbrev pub invariant-loop-form : goal.invariant-loop-form
invariant-loop-form l = boths (map form_view l.forms.items) (form_view l.all) ≡ boths (map form_view l.initial.forms.items) always
