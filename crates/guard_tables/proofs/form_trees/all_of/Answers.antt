use Rattle.std.proofs.Common.{List, map, sym, ap, ◌∙◌}
use Rattle.guard_tables.specs.declared.node.Form.{Form}
use Rattle.guard_tables.specs.Forms.{boths}
use Rattle.guard_tables.specs.NodeViews.{form_view}
use Rattle.guard_tables.proofs.FormLists.{boths_last}
use Rattle.guard_tables.proofs.form_trees.all_of.Goals as goal

pub loop-form-preserved : goal.loop-form-preserved
loop-form-preserved c =
    ap (boths (map form_view c.pop.new.self.items)) c.in_ok-all.ensures ∙ sym (boths_last c.pop.new.self.items c.in-Some.form (form_view c.loop-form.all))
    ∙ ap (λ (fs : List Form). boths (map form_view fs) (form_view c.loop-form.all)) (sym c.in-Some.ensures.items) ∙ c.loop-form.invariant
