-- What is answered to a request that reads no stream: what goes to standard output, and the status; or the fault.
use Rattle.std.specs.Prelude.{◌⊎◌, ℕ, List}
use Rattle.guard_files.specs.declared.answer.Answer.{Answer}
use Rattle.guard_files.specs.declared.fault.Fault.{Fault}
use Rattle.guard_files.specs.Devices.{Device, IsUntouched}
use Rattle.guard_files.specs.Writing.{Writes, TellsWith}

-- what goes to standard output, and the status
pub record AbstractAnswer : Type 0 where
  pub out : List ℕ
  pub status : ℕ

abbrev pub answer_view : Answer → AbstractAnswer
answer_view a = record { out = a.out.items; status = a.status }

-- Such an answer is written, or such a fault is reported with what explains it.
abbrev pub Gives : (AbstractAnswer → Type 0) → (Fault → List ℕ → Type 0) → Device → Device → ℕ → Type 0
Gives IsAnswer IsFault out err status =
    ((a : AbstractAnswer) × IsAnswer a × Writes a.out a.status out err status)
    ⊎ ((f : Fault) × (note : List ℕ) × IsFault f note × IsUntouched out × TellsWith f note err status)
