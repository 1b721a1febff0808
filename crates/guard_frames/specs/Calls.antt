-- What a sink was asked to take, call by call, where it tells that. A sink that writes to a file or a pipe doesn't.
use Rattle.std.specs.Prelude.{◌≡◌, ℕ, List, [], ◌∷◌, ◌++◌, Option, Some, None, codes}
use Rattle.std.specs.List.{All}

-- the octets of each call so far
abbrev pub Calls : Type 0
Calls = Option (List (List ℕ))

-- a sink was asked once more, to take these octets
abbrev pub Asks : Calls → List ℕ → Calls → Type 0
Asks None octets after = Unit {0}
Asks (Some before) octets None = ⊥
Asks (Some before) octets (Some after) = after ≡ before ++ octets ∷ []

-- the octets end with a line feed
pub record EndsLine (octets : List ℕ) : Type 0 where
  pub front : List ℕ
  pub ends : octets ≡ front ++ codes "\n"

-- Each call that came since asks for octets that end with a line feed. So where a sink takes in each call all that it
-- is asked for, as a file does that is opened for appending, it takes whole lines in each.
abbrev pub AsksLines : Calls → Calls → Type 0
AsksLines None after = Unit {0}
AsksLines (Some before) None = ⊥
AsksLines (Some before) (Some after) = (calls : List (List ℕ)) × (after ≡ before ++ calls) × All EndsLine calls
