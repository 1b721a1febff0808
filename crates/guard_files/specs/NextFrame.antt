-- Why no frame could be read.
use Rattle.std.specs.Prelude.{◌≡◌, ◌<◌, ◌⊎◌, ℕ, Bool, true, List, length, ◌^◌}
use Rattle.std.specs.Io.KnownBytes.{IsAtEnd}
use Rattle.guard_frames.specs.declared.running.RunFault.{RunFault}
use Rattle.guard_frames.specs.declared.running.RunFault.TheVariants.{FrameTooLong, TornFrame, ReadFailed}
use Rattle.guard_frames.specs.Frames.{IsTooLong, IsUnfinished}
use Rattle.guard_frames.specs.Totals.{WentUpBy}
use Rattle.guard_files.specs.Devices.{Input}

-- a length that no frame may have, and nothing behind it
abbrev pub IsTooLongAlone : List ℕ → Type 0
IsTooLongAlone rest = IsTooLong rest × (length rest ≡ 4)

-- these octets are none, by how the source is after them, and by how often it may still be asked
abbrev pub IsNoFrame : RunFault → List ℕ → Type 0 → Bool → ℕ → Type 0
IsNoFrame FrameTooLong rest AtEnd failed reads = IsTooLongAlone rest
IsNoFrame TornFrame rest AtEnd failed reads = (0 < length rest) × IsUnfinished rest × AtEnd
IsNoFrame ReadFailed rest AtEnd failed reads = IsUnfinished rest × ((failed ≡ true) ⊎ (reads ≡ 0))
IsNoFrame _ rest AtEnd failed reads = ⊥

-- the end came inside a frame
abbrev pub IsTornAtEnd : Input → List ℕ → Type 0
IsTornAtEnd input rest = (0 < length rest) × IsUnfinished rest × IsAtEnd input.after

-- Less than a frame was read of the next one, and the source failed or was asked 2^40 times.
abbrev pub IsLostInFrame : Input → List ℕ → Type 0
IsLostInFrame input rest =
    IsUnfinished rest × ((input.failed ≡ true) ⊎ WentUpBy input.asked_before (2 ^ 40) input.asked_after)
