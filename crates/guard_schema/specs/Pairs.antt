-- What is built, by the types and values of the code, which are kept side by side.
use Rattle.std.specs.Prelude.{List, [], ◌∷◌, Option, option_map}
use Rattle.std.specs.Arc.{arc_value}
use Rattle.std.specs.Global.{Global}
use Rattle.std.specs.declared.sync.Arc.{Arc}
use Rattle.guard_model.specs.TypeView.{type_view}
use Rattle.guard_model.specs.declared.ty.Ty.{Ty}
use Rattle.guard_model.specs.declared.value.Value.{Value}
use Rattle.guard_values.specs.declared.scope.Known.{Known}
use Rattle.guard_values.specs.Views.{shared_view, AreKnownFitting}
use Rattle.guard_constraints.specs.Views.{AreKnownSound}
use Rattle.guard_schema.specs.Known.{Built}

abbrev pub built_view : Ty → Option (Arc Value Global) → Built
built_view t v = record { ty = type_view t; value = option_map shared_view v }

abbrev pub paired : List (Arc Ty Global) → List (Option (Arc Value Global)) → List Built
paired [] vs = []
paired (t ∷ ts) [] = []
paired (t ∷ ts) (v ∷ vs) = built_view (arc_value t) v ∷ paired ts vs

-- each type that is known is sound, and each value is one of its governor's
abbrev pub AreBuilt : Known → Type 0
AreBuilt known = AreKnownSound known × AreKnownFitting known
