-- What is decided of a frame, by what is told of its message.
use Rattle.guard_policy.specs.declared.passing.Passing.{Passing}
use Rattle.guard_policy.specs.declared.passing.Passing.TheVariants as passing
use Rattle.guard_frames.specs.declared.decision.Decided.{Decided}
use Rattle.guard_frames.specs.declared.decision.Decided.TheVariants.{Goes, Stays}
use Rattle.guard_frames.specs.declared.decision.Known.TheVariants.{Named}

-- the frame has three names
abbrev pub decided : Passing → Decided
decided (passing.Goes rule) = Goes rule
decided (passing.Stopped reason) = Stays (Named reason)
