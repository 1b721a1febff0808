-- What comes of a stream of frames that ask: a line answers each, with what would become of it. With Answered.antt this
-- is the page to read of `ask`.
use Rattle.std.specs.Prelude.{◌≡◌, ◌⊎◌, ℕ, List}
use Rattle.guard_policy.specs.Policies.{AbstractPolicy}
use Rattle.guard_frames.specs.declared.running.RunFault.{RunFault}
use Rattle.guard_frames.specs.declared.totals.Totals.{Totals}
use Rattle.guard_frames.specs.OfPolicy.{decision_of}
use Rattle.guard_files.specs.declared.fault.Fault.{Fault}
use Rattle.guard_files.specs.declared.fault.Fault.TheVariants.{Run}
use Rattle.guard_files.specs.Devices.{Input, Device, IsUnread, IsUntouched}
use Rattle.guard_files.specs.Files.{Told}
use Rattle.guard_files.specs.Reading.{IsPolicyAt, IsNoPolicyAt}
use Rattle.guard_files.specs.Writing.{Tells}
use Rattle.guard_streams.specs.Answered.{AnswersAll, StopsAnswering}
use Rattle.guard_streams.specs.Stream.{totals_status}

-- All frames are answered, and the status is that of their totals, as for a run; or why they aren't is reported.
abbrev pub AnswersFrames : AbstractPolicy → Input → Device → Device → ℕ → Type 0
AnswersFrames p input out err status =
    ((totals : Totals) × AnswersAll (decision_of p) totals input out × IsUntouched err × (status ≡ totals_status totals))
    ⊎ ((f : RunFault) × StopsAnswering f (decision_of p) input out × Tells (Run f) err status)

-- What comes of a stream under the policy at the path. Where there is none, nothing is read or written.
abbrev pub AsksStream : Told → List ℕ → Input → Device → Device → ℕ → Type 0
AsksStream told path input out err status =
    ((f : Fault) × IsNoPolicyAt told path f × IsUnread input × IsUntouched out × Tells f err status)
    ⊎ ((p : AbstractPolicy) × IsPolicyAt told path p × AnswersFrames p input out err status)
