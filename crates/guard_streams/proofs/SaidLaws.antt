-- What the system says, and where it says nothing.
use Rattle.std.proofs.Common.{[], inl, refl}
use Rattle.std.specs.Prelude.{Result, Ok, Err, IfOk}
use Rattle.guard_frames.specs.declared.running.RunFault.{RunFault}
use Rattle.guard_frames.specs.declared.running.RunFault.TheVariants.{FrameTooLong, WriteFailed, TornFrame, ReadFailed, OutOfMemory}
use Rattle.guard_files.specs.declared.fault.Fault.{Fault}
use Rattle.guard_files.specs.declared.fault.Fault.TheVariants.{CannotRead, TooLarge, Schema, Policy, Run, NoMemory}
use Rattle.guard_streams.specs.Saying.{IsSaidOfRun, IsSaidOfFault}

pub none_of_run : (f : RunFault) → IsSaidOfRun f []
none_of_run ReadFailed = inl refl
none_of_run WriteFailed = inl refl
none_of_run FrameTooLong = refl
none_of_run TornFrame = refl
none_of_run OutOfMemory = refl

pub none_of_fault : (f : Fault) → IsSaidOfFault f []
none_of_fault (CannotRead file obstacle) = inl refl
none_of_fault (TooLarge file) = refl
none_of_fault (Schema f) = refl
none_of_fault (Policy f) = refl
none_of_fault (Run f) = refl
none_of_fault NoMemory = refl

-- what is answered says more
pub if_ok : {A E : Type 0} {P Q : A → Type 0} (r : Result A E) → IfOk r P → ((x : A) → P x → Q x) → IfOk r Q
if_ok (Ok x) p f = f x p
if_ok (Err e) p f = tt
