use Rattle.std.proofs.Common.{[], ◌∷◌, ap, ◌∙◌}
use Rattle.std.specs.Option.{option_or}
use Rattle.guard_model.specs.NamedLists.{named_view, number_named}
use Rattle.guard_model.specs.declared.ty.Named.{Named}
use Rattle.guard_model.specs.inside.NamedOrders.{number_at}
use Rattle.guard_model.proofs.NamedOrders.{number_after}
use Rattle.guard_model.proofs.named_list.first_numbers.Goals as goal

pub loop-entry-preserved : goal.loop-entry-preserved
loop-entry-preserved c = λ name.
    number_after name c.args.entries.now c.loop-entry.entry-index c.entry-item.result (number_at c.loop-entry.numbers name) (number_at c.put_first.new.numbers name) c.loop-entry-test.true (c.loop-entry.invariant name)
    (c.in_ok-put_first.ensures name ∙ ap (λ (n : Named). option_or (number_at c.loop-entry.numbers name) (number_named name (named_view n ∷ []))) c.entry-item.is)
