-- All that standard input gives, to one octet more than 1,048,576.
use Rattle.std.specs.Prelude.{◌≡◌, ◌<◌, ◌≤◌, ◌⊎◌, ◌^◌, ℕ, true, List, length}
use Rattle.std.specs.Io.KnownBytes.{Consumes, IsAtEnd}
use Rattle.guard_frames.specs.Totals.{WentUpBy}
use Rattle.guard_frames.specs.declared.running.RunFault.TheVariants.{ReadFailed}
use Rattle.guard_files.specs.declared.fault.Fault.{Fault}
use Rattle.guard_files.specs.declared.fault.Fault.TheVariants.{Run, NoMemory}
use Rattle.guard_files.specs.Devices.{Input}

-- These octets were read, and are all; or there are more, and one more than 1,048,576 were read.
pub record IsRead (input : Input) (octets : List ℕ) : Type 0 where
  pub given : Consumes input.before input.after octets
  pub most : length octets ≤ 1048577
  pub all : length octets < 1048577 → IsAtEnd input.after

-- Standard input failed, or was asked 2^40 times, before its end.
pub record IsLost (input : Input) : Type 0 where
  pub part : List ℕ
  pub given : Consumes input.before input.after part
  pub short : length part < 1048577
  pub lost : (input.failed ≡ true) ⊎ WentUpBy input.asked_before (2 ^ 40) input.asked_after

-- why it isn't known what standard input gives: so it was lost, or memory ran out
abbrev pub IsNotRead : Input → Fault → Type 0
IsNotRead input f = ((f ≡ Run ReadFailed) × IsLost input) ⊎ (f ≡ NoMemory)
