use Rattle.std.proofs.Common.{ap, ◌∙◌}
use Rattle.std.specs.BTreeSet.{contains}
use Rattle.std.specs.Ordering.{int_cmp}
use Rattle.std.proofs.lemmas.Int.{to_z-of_z}
use mir.Syntax.{w128}
use Rattle.guard_model.specs.NamedLists.{is_item}
use Rattle.guard_model.proofs.named_list.NamedList.has_number.Goals as goal

pub returns : goal.returns
returns c =
    let number = c.args.number in
    c.contains.ensures ∙ ap (contains int_cmp c.self.inside.known) (to_z-of_z w128 number c.ranges.number) ∙ c.self.invariant.by_number number ∙ ap (is_item number) c.self.view_is
