-- What comes of a stream under the policy that texts say.
use Rattle.std.specs.Prelude.{◌≡◌, ℕ, List, [], Result, Ok, Err}
use Rattle.guard_policy.specs.Policies.{AbstractPolicy}
use Rattle.guard_frames.specs.declared.totals.Totals.{Totals}
use Rattle.guard_frames.specs.declared.running.RunFault.TheVariants.{OutOfMemory as NoMemory}
use Rattle.guard_frames.specs.declared.texts.TextsFault.{TextsFault}
use Rattle.guard_frames.specs.declared.texts.TextsFault.TheVariants.{Schema, Policy, Run, OutOfMemory}
use Rattle.guard_frames.specs.Added.{Added, nothing}
use Rattle.guard_frames.specs.OfPolicy.{decision_of}
use Rattle.guard_frames.specs.Runs.{Runs}
use Rattle.guard_frames.specs.Texts.{SayPolicy, SayNone}

-- the answer is no fault of a run that began
abbrev pub IsNoRun : TextsFault → Type 0
IsNoRun (Schema f) = Unit {0}
IsNoRun (Policy f) = Unit {0}
IsNoRun (Run f) = ⊥
IsNoRun OutOfMemory = Unit {0}

-- What comes of the octets that were read under this policy, by the answer: no fault but one of the run. That memory
-- ran out is answered by its own name, and never as one.
abbrev pub RunsUnder : AbstractPolicy → List ℕ → Type 0 → Result Totals TextsFault → Added → Type 0
RunsUnder p read Ended (Ok totals) added = Runs (decision_of p) read Ended (Ok totals) added
RunsUnder p read Ended (Err (Run f)) added = (f ≡ NoMemory → ⊥) × Runs (decision_of p) read Ended (Err f) added
RunsUnder p read Ended (Err (Schema f)) added = ⊥
RunsUnder p read Ended (Err (Policy f)) added = ⊥
RunsUnder p read Ended (Err OutOfMemory) added = (read ≡ []) × (added ≡ nothing)

-- What the answer says of the texts: they say a policy, or this is why they say none. That memory ran out
-- says nothing of them.
abbrev pub AnswersFor : List (List ℕ) → List ℕ → Result Totals TextsFault → Type 0
AnswersFor modules text (Ok totals) = (p : AbstractPolicy) × SayPolicy modules text p
AnswersFor modules text (Err (Run f)) = (p : AbstractPolicy) × SayPolicy modules text p
AnswersFor modules text (Err (Schema f)) = SayNone modules text (Schema f)
AnswersFor modules text (Err (Policy f)) = SayNone modules text (Policy f)
AnswersFor modules text (Err OutOfMemory) = Unit {0}

-- What comes of the octets that were read, by the answer: whatever policy the texts say, it is what comes of them under
-- that one, and the answer says whether they say one.
pub record RunsTexts (modules : List (List ℕ)) (text read : List ℕ) (Ended : Type 0) (result : Result Totals TextsFault)
    (added : Added) : Type 0 where
  pub under : (p : AbstractPolicy) → SayPolicy modules text p → RunsUnder p read Ended result added
  pub texts : AnswersFor modules text result
