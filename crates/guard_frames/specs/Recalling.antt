-- What is kept of the routes of frames before.
use Rattle.std.specs.Prelude.{ℕ, List, ◌++◌, Option, option_map, IfSome}
use Rattle.guard_policy.specs.declared.found_route.FoundRoute.{FoundRoute}
use Rattle.guard_policy.specs.declared.passing.Passing.{Passing}
use Rattle.guard_policy.specs.declared.verdict.PlainReason.{PlainReason}
use Rattle.guard_policy.specs.FoundRoutes.{Answers}
use Rattle.guard_frames.specs.Bodies.{AbstractBody}
use Rattle.guard_frames.specs.Outcomes.{Decision, IsDecided}
use Rattle.guard_frames.specs.declared.last_route.LastRoute.{LastRoute}
use Rattle.guard_frames.specs.Deciding.{decided}

-- the header that is kept, and what its route leads to
abbrev pub recalled : LastRoute → Option (List ℕ × FoundRoute)
recalled last = option_map (λ found. (last.header.items, found)) last.found

-- What is kept is right: whatever the route is found to answer of a message is decided of the frame with this header and
-- this message.
abbrev pub Recalls : Decision → (AbstractBody → ℕ → Type 0) → (AbstractBody → PlainReason → Type 0) → LastRoute → Type 0
Recalls d Lets ReasonsOf last = IfSome (recalled last) (λ x. (message : List ℕ) (told : Passing) →
    Answers x.1 message told → IsDecided d Lets ReasonsOf (x.0 ++ message) (decided told))
