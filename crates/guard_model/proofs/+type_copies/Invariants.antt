use Rattle.std.proofs.Common.{◌≡◌, take, map}
use Rattle.guard_model.specs.TypeView.{component_view}
use Rattle.guard_model.proofs.+type_copies.Given as goal

abbrev pub invariant-copying::copy_of_components-loop-comp : goal.invariant-copying::copy_of_components-loop-comp
invariant-copying::copy_of_components-loop-comp l = map component_view l.copy.items ≡ map component_view (take l.comp-index l.comps)
