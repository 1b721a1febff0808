-- What comes of a stream under a policy, said of the texts that say it.
use Rattle.std.proofs.Common.{◌≡◌, ℕ, List, [], Result, Ok, Err, refl, sym, subst}
use Rattle.std.specs.Prelude.{IsErrOf}
use Rattle.guard_model.specs.Answer.{Refuses}
use Rattle.guard_model.proofs.Results.{same_Ok}
use Rattle.guard_policy.specs.Policies.{AbstractPolicy}
use Rattle.guard_frames.specs.declared.totals.Totals.{Totals}
use Rattle.guard_frames.specs.declared.running.RunFault.{RunFault}
use Rattle.guard_frames.specs.declared.running.RunFault.TheVariants as run_fault
use Rattle.guard_frames.specs.declared.texts.TextsFault.{TextsFault}
use Rattle.guard_frames.specs.declared.texts.TextsFault.TheVariants.{Schema, Policy, Run, OutOfMemory}
use Rattle.guard_frames.specs.Added.{Added, nothing}
use Rattle.guard_frames.specs.OfPolicy.{decision_of}
use Rattle.guard_frames.specs.Runs.{Runs}
use Rattle.guard_frames.specs.Texts.{SayPolicy, SayNone, named, of_run}
use Rattle.guard_frames.specs.RunsTexts.{RunsUnder, AnswersFor, RunsTexts}

-- a fault of the source is one of the run
pub read_failed : (f : RunFault) (X : Type 0) → (IsErrOf {T = Totals} (Err f) run_fault.ReadFailed → X) → IsErrOf {T = Totals} (Err (of_run f)) (Run run_fault.ReadFailed) → X
read_failed run_fault.ReadFailed X h e = h refl
read_failed run_fault.OutOfMemory X h e = absurd cc
read_failed run_fault.FrameTooLong X h e = absurd cc
read_failed run_fault.WriteFailed X h e = absurd cc
read_failed run_fault.TornFrame X h e = absurd cc

-- ---- the run ended with a fault

pub fault_under : (read : List ℕ) (Ended : Type 0) (added : Added) (p : AbstractPolicy) (f : RunFault) → Runs (decision_of p) read Ended (Err f) added
    → RunsUnder p read Ended (Err (of_run f)) added
fault_under read Ended added p run_fault.OutOfMemory h = h
fault_under read Ended added p run_fault.FrameTooLong h = (λ e. absurd cc, h)
fault_under read Ended added p run_fault.WriteFailed h = (λ e. absurd cc, h)
fault_under read Ended added p run_fault.TornFrame h = (λ e. absurd cc, h)
fault_under read Ended added p run_fault.ReadFailed h = (λ e. absurd cc, h)

-- the texts said the policy of the run
said_of_run : (modules : List (List ℕ)) (text : List ℕ) (p : AbstractPolicy) → SayPolicy modules text p → (f : RunFault)
    → AnswersFor modules text (Err (of_run f))
said_of_run modules text p said run_fault.OutOfMemory = tt
said_of_run modules text p said run_fault.FrameTooLong = (p, said)
said_of_run modules text p said run_fault.WriteFailed = (p, said)
said_of_run modules text p said run_fault.TornFrame = (p, said)
said_of_run modules text p said run_fault.ReadFailed = (p, said)

-- under the policy that was loaded, and so under the one that the texts say: `p` is what they say, and `q` what was
-- loaded
pub same_under : (read : List ℕ) (Ended : Type 0) (added : Added) (p q : AbstractPolicy) → ◌≡◌ {A = Result AbstractPolicy TextsFault} (Ok p) (Ok q)
    → (result : Result Totals TextsFault) → RunsUnder q read Ended result added → RunsUnder p read Ended result added
same_under read Ended added p q e result h = subst (λ (x : AbstractPolicy). RunsUnder x read Ended result added) (sym (same_Ok p q e)) h

-- `p` was loaded, and the texts say no other
pub fault_of_texts : (read : List ℕ) (Ended : Type 0) (added : Added) (modules : List (List ℕ)) (text : List ℕ) (p : AbstractPolicy) → SayPolicy modules text p
    → ((q : AbstractPolicy) → SayPolicy modules text q → ◌≡◌ {A = Result AbstractPolicy TextsFault} (Ok q) (Ok p))
    → (f : RunFault) → Runs (decision_of p) read Ended (Err f) added → RunsTexts modules text read Ended (Err (of_run f)) added
fault_of_texts read Ended added modules text p said only f h = record {
  under = λ q said₁. same_under read Ended added q p (only q said₁) (Err (of_run f)) (fault_under read Ended added p f h);
  texts = said_of_run modules text p said f;
}

-- ---- nothing was run

says_none : (modules : List (List ℕ)) (text : List ℕ) (f : TextsFault) → SayNone modules text f → AnswersFor modules text (Err f)
says_none modules text (Schema f) h = h
says_none modules text (Policy f) h = h
says_none modules text (Run f) h = absurd h
says_none modules text OutOfMemory h = tt

none_under : (Ended : Type 0) (p : AbstractPolicy) (f : TextsFault) → Refuses (named f) (Ok p) → RunsUnder p [] Ended (Err f) nothing
none_under Ended p (Schema f) h = absurd cc
none_under Ended p (Policy f) h = absurd cc
none_under Ended p (Run f) h = absurd cc
none_under Ended p OutOfMemory h = (refl, refl)

pub none_of_texts : (Ended : Type 0) (modules : List (List ℕ)) (text : List ℕ) (f : TextsFault) → SayNone modules text f
    → ((p : AbstractPolicy) → SayPolicy modules text p → Refuses (named f) (Ok p)) → RunsTexts modules text [] Ended (Err f) nothing
none_of_texts Ended modules text f none only = record { under = λ p said. none_under Ended p f (only p said); texts = says_none modules text f none }
