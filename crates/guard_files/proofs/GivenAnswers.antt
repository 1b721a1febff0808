-- An answer is written, or a fault is reported.
use Rattle.std.proofs.Common.{ℕ, Result, Ok, Err, inl, inr}
use Rattle.std.specs.Prelude.{IfOk, IfErr, List, string_bytes}
use Rattle.guard_files.specs.declared.answer.Answer.{Answer}
use Rattle.guard_files.specs.declared.explaining.Refusal.{Refusal}
use Rattle.guard_files.specs.declared.fault.Fault.{Fault}
use Rattle.guard_files.specs.Answers.{AbstractAnswer, Gives, answer_view}
use Rattle.guard_files.specs.Devices.{Device, IsUntouched}
use Rattle.guard_files.specs.Writing.{TellsWith, Writes}

pub gives : (IsAnswer : AbstractAnswer → Type 0) (IsFault : Fault → List ℕ → Type 0) (out err : Device) (status : ℕ) (found : Result Answer Refusal)
    → IfOk found (λ a. IsAnswer (answer_view a)) → IfErr found (λ r. IsFault r.fault (string_bytes r.note))
    → IfOk found (λ a. Writes a.out.items a.status out err status) → IfErr found (λ r. IsUntouched out × TellsWith r.fault (string_bytes r.note) err status)
    → Gives IsAnswer IsFault out err status
gives IsAnswer IsFault out err status (Ok a) is none written told = inl (answer_view a, is, written)
gives IsAnswer IsFault out err status (Err r) is none written told = inr (r.fault, string_bytes r.note, none, told.0, told.1)
