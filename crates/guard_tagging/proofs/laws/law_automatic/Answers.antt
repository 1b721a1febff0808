use Rattle.std.proofs.Common.{map, slice_get, ap, ◌∙◌}
use Rattle.std.proofs.lemmas.List.{length-map}
use Rattle.guard_model.specs.TypeView.{type_view}
use Rattle.guard_names.specs.Faults.{fault_of_names}
use Rattle.guard_names.specs.NamesView.{modules_of, order_of}
use Rattle.guard_names.proofs.Faults.Refusals.{none_is}
use Rattle.guard_tagging.proofs.Definitions.AutomaticLists.{found_right}
use Rattle.guard_tagging.proofs.Definitions.InOrder.{known_in_order}
use Rattle.guard_tagging.proofs.Definitions.Meanings.{same_meanings}
use Rattle.guard_tagging.proofs.laws.law_automatic.Goals as goal

pub returns-clause-there_is : goal.returns-clause-there_is
returns-clause-there_is c =
    let names = c.args.names.now in
    known_in_order (modules_of names) (none_is (fault_of_names (modules_of names)) names.faultless)
    (order_of names) names.ordered
    (map type_view c.args.types.now)

pub returns-clause-one : goal.returns-clause-one
returns-clause-one c =
    same_meanings (modules_of c.args.names.now) (order_of c.args.names.now) (map type_view c.args.types.now)

pub returns-clause-found : goal.returns-clause-found
returns-clause-found c = λ known are number d next is.
    let names = c.args.names.now in
    let types = map type_view c.args.types.now in
    found_right (modules_of names) (none_is (fault_of_names (modules_of names)) names.faultless)
    (order_of names) names.ordered types known are number d is
    (ap (slice_get (order_of names)) (length-map c.args.types.now type_view) ∙ next)
