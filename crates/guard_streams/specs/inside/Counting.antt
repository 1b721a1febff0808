-- What the code does at the beginning and the end of a run that is counted.
use Rattle.std.specs.Prelude.{◌≡◌, ℕ, Bool, true, false, List, Result, Ok, Err}
use Rattle.guard_policy.specs.Policies.{AbstractPolicy}
use Rattle.guard_frames.specs.declared.devices.Failed.{Failed}
use Rattle.guard_frames.specs.declared.running.RunFault.{RunFault}
use Rattle.guard_frames.specs.declared.running.RunFault.TheVariants.{FrameTooLong, WriteFailed, TornFrame, ReadFailed, OutOfMemory}
use Rattle.guard_frames.specs.declared.totals.Totals.{Totals}
use Rattle.guard_files.specs.Devices.{Device, IsUntouched}
use Rattle.guard_files.specs.Digest.{IsNumberedAt}
use Rattle.guard_files.specs.Files.{Told}
use Rattle.guard_streams.specs.declared.counters.Counters.{Counters}
use Rattle.guard_streams.specs.declared.faults.Faults.{Faults}
use Rattle.guard_streams.specs.Counters.{AbstractForce, force_of}
use Rattle.guard_streams.specs.Counting.{IsShowing, counters_view, ended, faults_of}
use Rattle.guard_streams.specs.InForce.{digest_note}
use Rattle.guard_streams.specs.Faults.{no_faults}
use Rattle.guard_streams.specs.Shown.{Shown}
use Rattle.guard_streams.specs.inside.Putting.{Puts}

-- the policy at the path, and what is counted under it
abbrev pub IsForceAt : Told → List ℕ → AbstractPolicy → AbstractForce → Type 0
IsForceAt told path p force = IsNumberedAt told path p force.digest × (force ≡ force_of p force.digest)

-- the note of the number is put, where notes are asked for; or standard error failed in it
abbrev pub IsOpened : Bool → List ℕ → Result (Unit {0}) Failed → Device → Type 0
IsOpened true digest put err = Puts (digest_note digest) put err
IsOpened false digest (Ok done) err = IsUntouched err
IsOpened false digest (Err f) err = ⊥

-- all that is counted is shown, with these totals and faults
pub record ShowsEnd {B : Type 0} (shown : B → Shown) (totals : Totals) (faults : Faults) (old new : Counters B) : Type 0 where
  pub counts : counters_view new ≡ ended (counters_view old) totals faults
  pub shows : IsShowing shown old new

-- so it is at the end of a run, unless an output failed: then nothing changes
abbrev pub IsEnded : {B : Type 0} → (B → Shown) → Result (Unit {0}) RunFault → Totals → Counters B → Counters B → Type 0
IsEnded shown (Ok done) totals old new = ShowsEnd shown totals no_faults old new
IsEnded shown (Err FrameTooLong) totals old new = ShowsEnd shown totals (faults_of (Err FrameTooLong)) old new
IsEnded shown (Err TornFrame) totals old new = ShowsEnd shown totals (faults_of (Err TornFrame)) old new
IsEnded shown (Err ReadFailed) totals old new = ShowsEnd shown totals no_faults old new
IsEnded shown (Err WriteFailed) totals old new = new ≡ old
IsEnded shown (Err OutOfMemory) totals old new = new ≡ old
