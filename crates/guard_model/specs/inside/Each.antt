-- A step for each of several things, one after another.
use Rattle.std.specs.Prelude.{List, [], ◌∷◌, Result, Ok}
use Rattle.guard_model.specs.Answer.{◌>>=◌}

-- what the step makes of each, or the fault of the first that has one
unfoldable pub each : {A B F : Type 0} → (A → Result B F) → List A → Result (List B) F
each step [] = Ok []
each step (a ∷ others) = step a >>= λ one. each step others >>= λ more. Ok (one ∷ more)
