use Rattle.std.proofs.Common.{◌∙◌, Bool, Option, ap, sym}
use Rattle.guard_model.specs.declared.tag.Tag.{Tag}
use Rattle.guard_tables.specs.NodesView.{spots_in}
use Rattle.guard_tables.specs.TableNodes.{spot_at}
use Rattle.guard_reader.specs.Fronts.{after_one, front_cut}
use Rattle.guard_reader.specs.Octets.{split}
use Rattle.guard_reader.proofs.FrontTags.{high_after}
use Rattle.guard_reader.proofs.element_fronts.after_first.Goals as goal

pub returns-in-Some : goal.returns-in-Some
returns-in-Some c =
    let pair : Option Tag → Bool → Option Tag × Bool = λ tag form. (tag, form) in
    let form = c.outermost-outside.result.constructed in
    high_after c.after_spelled.result (spot_at (spots_in c.args.table.now) c.args.at).plan c.args.octets.now c.in-Some.tag form (λ r. front_cut (split (after_one r.now)))
    (sym c.outermost-outside.ensures ∙ ap (λ (tag : Option Tag). pair tag form) c.in-Some.is) c.after_spelled.ensures.high c.after_spelled.ensures.same
