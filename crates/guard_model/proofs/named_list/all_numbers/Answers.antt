use Rattle.std.proofs.Common.{rules, ℤ, true, cond, ap, ◌∙◌}
use Rattle.std.specs.BTreeSet.{contains}
use Rattle.std.specs.Ordering.{int_cmp, int_eq}
use Rattle.std.proofs.lemmas.Int.{to_z-of_z}
use mir.Syntax.{w128}
use mir.Val.{SFits}
use Rattle.guard_model.specs.declared.ty.Named.{Named}
use Rattle.guard_model.proofs.NamedOrders.{known_after}
use Rattle.guard_model.proofs.named_list.all_numbers.Goals as goal

pub loop-entry-preserved : goal.loop-entry-preserved
loop-entry-preserved c = λ z.
    let number = c.entry-item.result.number in
    let fit : SFits w128 number = search rules in
    let before = contains int_cmp c.loop-entry.known z in
    known_after z c.args.entries.now c.loop-entry.entry-index c.entry-item.result before (contains int_cmp c.insert.new.self z) c.loop-entry-test.true (c.loop-entry.invariant z)
    (c.in_ok-insert.ensures.updates.0 z
    ∙ ap (λ (n : ℤ). cond (int_eq n z) true before) (to_z-of_z w128 number fit)
    ∙ ap (λ (n : Named). cond (int_eq n.number z) true before) c.entry-item.is)
