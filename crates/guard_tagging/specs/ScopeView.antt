-- What a scope of the code says.
use Rattle.std.specs.Prelude.{Bool, List, [], ◌∷◌, map, option_and_then, slice_get}
use Rattle.guard_model.specs.AbstractType.{AbstractType}
use Rattle.guard_model.specs.TypeView.{shared_type_view, type_view}
use Rattle.guard_names.specs.NamesView.{modules_of, order_of}
use Rattle.guard_names.specs.Meanings.{number_meant_from}
use Rattle.guard_names.specs.Places.{place_in}
use Rattle.guard_tagging.specs.declared.scope.Done.{Done}
use Rattle.guard_tagging.specs.declared.scope.Known.{Known}
use Rattle.guard_tagging.specs.declared.scope.Scope.{Scope}
use Rattle.guard_tagging.specs.Types.{Meaning, Surroundings}

abbrev pub meaning_view : Known → Meaning
meaning_view k = record { ty = type_view k.ty.now; is_automatic = k.is_automatic }

-- a type and what is known of its list, for as many as have both
abbrev pub known_list : List AbstractType → List Bool → List Meaning
known_list [] automatic = []
known_list (t ∷ types) [] = []
known_list (t ∷ types) (b ∷ automatic) = record { ty = t; is_automatic = b } ∷ known_list types automatic

abbrev pub done_view : Done → List Meaning
done_view d = known_list (map shared_type_view d.types.now) d.automatic.now

abbrev pub scope_view : Scope → Surroundings
scope_view s = record {
  tag_default = s.tag_default;
  meaning = λ name. option_and_then (slice_get (done_view s.done))
      (option_and_then (place_in (order_of s.names.now)) (number_meant_from (modules_of s.names.now) s.id name));
}
