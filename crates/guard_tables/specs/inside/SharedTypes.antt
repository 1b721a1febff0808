-- The types of rules, where each type is kept once.
use Rattle.std.specs.Prelude.{ℕ, List, ◌∷◌, map, slice_get}
use Rattle.std.specs.Option.{unwrap_or}

-- the declared type at place 0, the others after it
abbrev pub type_at : {T : Type 0} → T → List T → ℕ → T
type_at declared others place = unwrap_or (slice_get (declared ∷ others) place) declared

-- of rules with these places
abbrev pub types_at : {T : Type 0} → T → List T → List ℕ → List T
types_at declared others places = map (type_at declared others) places
