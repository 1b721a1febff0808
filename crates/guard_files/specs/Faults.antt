-- The program's faults: the text and status of each, and which of them mean those of the calls that it makes.
use Rattle.std.specs.Prelude.{◌≡◌, ℕ, List, ◌++◌, codes, string_bytes, MatchOption}
use Rattle.guard_policy.specs.declared.fault.PolicyFault.{PolicyFault}
use Rattle.guard_policy.specs.PolicyFaults as policy
use Rattle.guard_frames.specs.FaultTexts.{run_text}
use Rattle.guard_frames.specs.declared.texts.TextsFault.{TextsFault}
use Rattle.guard_frames.specs.declared.texts.TextsFault.TheVariants as texts
use Rattle.guard_files.specs.declared.fault.Fault.{Fault}
use Rattle.guard_files.specs.declared.fault.Fault.TheVariants.{CannotRead, TooLarge, Schema, Policy, Run, NoMemory}

-- 2: a file, a policy or modules are bad; 3: a stream or a device failed, or memory ran out
abbrev pub fault_status : Fault → ℕ
fault_status (CannotRead file obstacle) = 2
fault_status (TooLarge file) = 2
fault_status (Schema f) = 2
fault_status (Policy f) = 2
fault_status (Run f) = 3
fault_status NoMemory = 3

-- What is reported of it. A fault of modules or of a policy prints as itself, which tests show.
abbrev pub IsText : Fault → List ℕ → Type 0
IsText (CannotRead file obstacle) text = text ≡ codes "cannot read " ++ string_bytes file
IsText (TooLarge file) text = text ≡ codes "too large " ++ string_bytes file
IsText (Schema f) text = Unit {0}
IsText (Policy f) text = Unit {0}
IsText (Run f) text = text ≡ run_text f
IsText NoMemory text = text ≡ codes "no-memory"

-- That memory ran out is the program's own, and each other fault of a policy stays one of the policy.
abbrev pub StandsForPolicy : PolicyFault → Fault → Type 0
StandsForPolicy p f = MatchOption (policy.named p) (f ≡ NoMemory) (λ _. f ≡ Policy p)

abbrev pub of_texts : TextsFault → Fault
of_texts (texts.Schema f) = Schema f
of_texts (texts.Policy f) = Policy f
of_texts (texts.Run f) = Run f
of_texts texts.OutOfMemory = NoMemory
