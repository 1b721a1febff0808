-- What `run` promises of a stream that ends without a fault: the headline of guard_frames, of the program's own call.
use Rattle.std.specs.Prelude.{ℕ, List, Option}
use Rattle.std.specs.Io.KnownBytes.{Appends}
use Rattle.guard_policy.specs.Policies.{AbstractPolicy}
use Rattle.guard_frames.specs.Added.{Octets, Moves}
use Rattle.guard_frames.specs.Headline.{IsGuarded}
use Rattle.guard_frames.specs.Texts.{SayPolicy}
use Rattle.guard_files.specs.Devices.{Input, Device}
use Rattle.guard_files.specs.Files.{Told}
use Rattle.guard_files.specs.Reading.{AreTexts}

-- The texts at the path say a policy, and what was read is guarded under it: what goes out is what standard output took,
-- and what is reported is what standard error took between `reports.0` and `reports.1`.
abbrev pub KeepsHeadline : Told → List ℕ → Input → Octets → Octets → Type 0
KeepsHeadline told path input out reports =
    (text : List ℕ) × (modules : List (List ℕ)) × (p : AbstractPolicy)
    × AreTexts told path text modules × SayPolicy modules text p
    × Moves (input.before, input.after) out reports (IsGuarded p)

-- The same, with notes on standard error before the reports and behind them.
abbrev pub KeepsBetween : Told → List ℕ → Input → Device → Device → Type 0
KeepsBetween told path input out err =
    (begun : Option (List ℕ)) × (reported : Option (List ℕ)) × (first : List ℕ) × (last : List ℕ)
    × Appends err.before begun first
    × KeepsHeadline told path input (out.before, out.after) (begun, reported)
    × Appends reported err.after last
