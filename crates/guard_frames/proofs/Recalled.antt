-- Where nothing is kept of the routes of frames before.
use Rattle.std.proofs.Common.{◌≡◌, ℕ, List, ◌++◌, Option, None, sym, subst}
use Rattle.std.specs.Prelude.{IfSome}
use Rattle.guard_policy.specs.declared.found_route.FoundRoute.{FoundRoute}
use Rattle.guard_policy.specs.declared.passing.Passing.{Passing}
use Rattle.guard_policy.specs.declared.verdict.PlainReason.{PlainReason}
use Rattle.guard_policy.specs.FoundRoutes.{Answers}
use Rattle.guard_frames.specs.Bodies.{AbstractBody}
use Rattle.guard_frames.specs.Outcomes.{Decision, IsDecided}
use Rattle.guard_frames.specs.Recalling.{recalled, Recalls}
use Rattle.guard_frames.specs.declared.last_route.LastRoute.{LastRoute}
use Rattle.guard_frames.specs.Deciding.{decided}

pub nothing_recalled : (d : Decision) (lets : AbstractBody → ℕ → Type 0) (reasons : AbstractBody → PlainReason → Type 0) (last : LastRoute) → recalled last ≡ None
    → Recalls d lets reasons last
nothing_recalled d lets reasons last none =
    subst (λ (o : Option (List ℕ × FoundRoute)). IfSome o (λ x. (m : List ℕ) (t : Passing) → Answers x.1 m t → IsDecided d lets reasons (x.0 ++ m) (decided t))) (sym none) tt
