-- What is shown is one of the kinds that the reader of words may give.
use Rattle.std.proofs.Common.{◌≡◌, ◌⊎◌, ℕ, [], ◌∷◌, inl, inr, subst, sym}
use Rattle.clap.specs.Words.{IsAmong, Kinds}
use Rattle.clap.specs.declared.error.kind.ErrorKind.{ErrorKind}
use Rattle.clap.specs.declared.error.kind.ErrorKind.TheVariants.{OutOfMemory}
use Rattle.guard_files.specs.Devices.{Device, IsUntouched}
use Rattle.guard_files.specs.Writing.{TellsNoMemory}
use Rattle.derguard_program.specs.Meeting.{Shows}

alone : (k said : ErrorKind) → IsAmong k (said ∷ []) → k ≡ said
alone k said (inl e) = e
alone k said (inr none) = absurd none

pub shown_of : (kinds : Kinds) (said : ErrorKind) (out err : Device) (status : ℕ) → (said ≡ OutOfMemory) ⊎ IsAmong said kinds → Shows (said ∷ []) out err status
    → (said ≡ OutOfMemory → IsUntouched out × TellsNoMemory err status) → Shows kinds out err status
shown_of kinds said out err status (inl is) shown memory = inr (memory is)
shown_of kinds said out err status (inr there) (inl one) memory =
    inl (one.0, subst (λ (k : ErrorKind). IsAmong k kinds) (sym (alone one.0 said one.1)) there, one.2)
shown_of kinds said out err status (inr there) (inr none) memory = inr none
