-- The places in an order of definitions of those that names mean, and what is known of them there.
use Rattle.std.specs.Prelude.{ℕ, suc, List, [], ◌∷◌, Option, Some, None, option_map, slice_get, nat_eq, if◌then◌else◌}
use Rattle.std.specs.Option.{option_and_then}
use Rattle.guard_syntax.specs.Trees.{WrittenModule}
use Rattle.guard_names.specs.Meanings.{number_meant}

-- the first place of the number
abbrev pub place_in : List ℕ → ℕ → Option ℕ
place_in [] number = None
place_in (n ∷ ns) number = if nat_eq number n then Some 0 else option_map suc (place_in ns number)

-- The place in the order of the definition that a name means in the module of a name.
abbrev pub place_meant : List WrittenModule → List ℕ → List ℕ → List ℕ → Option ℕ
place_meant ms order home name = option_and_then (place_in order) (number_meant ms home name)

-- What is known of that definition, where `known` is what is known of the first definitions in the order.
abbrev pub known_meant : {A : Type 0} → List WrittenModule → List ℕ → List A → List ℕ → List ℕ → Option A
known_meant ms order known home name = option_and_then (slice_get known) (place_meant ms order home name)
