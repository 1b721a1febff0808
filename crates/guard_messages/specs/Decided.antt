-- What is answered to `decide`: the verdict on a message, and what explains it.
use Rattle.std.specs.Prelude.{◌≡◌, ℕ, Bool, List, ◌++◌, codes, Option, Some, None, Ok}
use Rattle.guard_syntax.specs.Trees.{WrittenModule}
use Rattle.guard_schema.specs.Accepts.{ReadsModules}
use Rattle.guard_policy.specs.Policies.{AbstractPolicy, AbstractRoute}
use Rattle.guard_policy.specs.Verdicts.{AbstractVerdict, pass, unknown_message, undecodable, outside_type, denied_by, not_allowed, no_rule}
use Rattle.guard_policy.specs.Decisions.{IsReason}
use Rattle.guard_report.specs.Text.{verdict_octets}
use Rattle.guard_notes.specs.Sources.{sources}
use Rattle.guard_frames.specs.Bodies.{AbstractBody}
use Rattle.guard_frames.specs.OfPolicy.{route_of}
use Rattle.guard_frames.specs.Texts.{SayPolicy}
use Rattle.guard_files.specs.Explaining.{AreTextsOf}
use Rattle.guard_files.specs.Files.{Told}
use Rattle.guard_files.specs.Answers.{AbstractAnswer}
use Rattle.guard_messages.specs.HeaderNotes.{spot_note}
use Rattle.guard_messages.specs.Questions.{AbstractQuestion, AbstractSpot}
use Rattle.guard_messages.specs.Reasons.{NotesVerdict}
use Rattle.guard_messages.specs.RuleTypes.{AbstractGrounds}

-- 0 where the message passes
abbrev pub verdict_status : AbstractVerdict → ℕ
verdict_status pass = 0
verdict_status unknown_message = 1
verdict_status (undecodable breach) = 1
verdict_status (outside_type violation) = 1
verdict_status (denied_by rule) = 1
verdict_status (not_allowed rules) = 1
verdict_status no_rule = 1

-- the text of the reason and a line feed, and what comes below it
abbrev pub IsVerdict : Bool → AbstractGrounds → AbstractPolicy → AbstractRoute → List ℕ → AbstractAnswer → Type 0
IsVerdict explain g p route octets a =
    (w : AbstractVerdict) × (note : List ℕ) × IsReason p route octets w × NotesVerdict explain g p route octets w note
    × (a.out ≡ verdict_octets p route w ++ codes "\n" ++ note) × (a.status ≡ verdict_status w)

-- What is answered to it, by its route and its octets. A frame that isn't three names and a message is said to be none,
-- as a report says it.
abbrev pub OfHeld : (AbstractRoute → List ℕ → AbstractAnswer → Type 0) → Option AbstractBody → AbstractAnswer → Type 0
OfHeld IsAnswer (Some b) a = IsAnswer (route_of b) b.message_octets a
OfHeld IsAnswer None a = (a.out ≡ codes "bad-header\n") × (a.status ≡ 1)

-- the verdict on it, and below it the names in the octets of a frame, or why they aren't there
abbrev pub IsDecidedOver : Bool → AbstractGrounds → AbstractPolicy → AbstractSpot → Option AbstractBody → List ℕ
    → AbstractAnswer → Type 0
IsDecidedOver explain g p spot held octets a =
    (verdict : AbstractAnswer) × OfHeld (IsVerdict explain g p) held verdict
    × (a.out ≡ verdict.out ++ spot_note explain spot held octets) × (a.status ≡ verdict.status)

-- under the policy at the path, over the texts that say it and the trees that those of the modules are
abbrev pub IsHeldDecided : AbstractQuestion → Told → AbstractSpot → Option AbstractBody → List ℕ → AbstractAnswer → Type 0
IsHeldDecided q told spot held octets a =
    (text : List ℕ) × (files : List (List ℕ)) × (modules : List (List ℕ)) × (p : AbstractPolicy) × (ms : List WrittenModule)
    × AreTextsOf told q.policy text files modules × SayPolicy modules text p × ReadsModules modules (Ok ms)
    × IsDecidedOver q.explain (record { sources = sources q.policy files modules; modules = ms }) p spot held octets a
