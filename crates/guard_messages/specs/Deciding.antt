-- What comes of `decide` and `show`: which message is asked of, and what is answered to it.
use Rattle.std.specs.Prelude.{ℕ, Bool, true, false, List, codes, Option, Some, None}
use Rattle.guard_policy.specs.Policies.{AbstractPolicy, AbstractRoute}
use Rattle.guard_frames.specs.Bodies.{AbstractBody, body_in}
use Rattle.guard_frames.specs.OfPolicy.{route_body}
use Rattle.guard_files.specs.Answers.{AbstractAnswer, Gives}
use Rattle.guard_files.specs.Devices.{Input, Device, IsUnread, IsUntouched}
use Rattle.guard_files.specs.Explaining.{IsNoPolicyWith}
use Rattle.guard_files.specs.Files.{Told}
use Rattle.guard_files.specs.Reading.{IsPolicyAt}
use Rattle.guard_files.specs.Writing.{TellsText}
use Rattle.guard_messages.specs.Decided.{IsHeldDecided}
use Rattle.guard_messages.specs.Finding.{AnswersFound, CapturesFrame}
use Rattle.guard_messages.specs.Questions.{AbstractQuestion, AbstractSpot, written, kept, framed, asked_route, decide_spot, show_spot}
use Rattle.guard_messages.specs.Shown.{ShowsHeld}

-- the message that the octets at a spot are on this route, or that they hold as the body of a frame
abbrev pub held_in : AbstractRoute → AbstractSpot → List ℕ → Option AbstractBody
held_in route (written digits) octets = Some (route_body route octets)
held_in route (kept path) octets = Some (route_body route octets)
held_in route (framed number link) octets = body_in octets

-- what is reported where the words don't say where a message is
abbrev pub unasked : List ℕ
unasked =
    codes "error: the message must be given in one of these ways:\n  <HEX> or --der <FILE>, not both, with each name that the command takes; or --frame <N> without any, alone or with --link <K>\n\nFor more information, try '--help'."

-- nothing is read
abbrev pub TellsUnasked : Input → Device → Device → ℕ → Type 0
TellsUnasked input out err status = IsUnread input × IsUntouched out × TellsText unasked 2 err status

-- ---- decide

abbrev pub DecidesAt : Option AbstractSpot → Told → AbstractQuestion → Input → Device → Device → ℕ → Type 0
DecidesAt (Some spot) told q =
    AnswersFound q.explain
    (λ later octets. Gives (IsHeldDecided q later spot (held_in (asked_route q) spot octets) octets)
    (IsNoPolicyWith q.explain later q.policy))
    told spot
DecidesAt None told q = TellsUnasked

abbrev pub Decides : Told → AbstractQuestion → Input → Device → Device → ℕ → Type 0
Decides told q = DecidesAt (decide_spot q) told q

-- ---- show

-- under the policy at the path
abbrev pub IsHeldShown : AbstractQuestion → Told → Option AbstractBody → AbstractAnswer → Type 0
IsHeldShown q told held a =
    (p : AbstractPolicy) × IsPolicyAt told q.policy p × ShowsHeld q.json q.explain p held a

abbrev pub ShowsAt : Option AbstractSpot → Told → AbstractQuestion → Input → Device → Device → ℕ → Type 0
ShowsAt (Some spot) told q =
    AnswersFound false
    (λ later octets. Gives (IsHeldShown q later (held_in (asked_route q) spot octets)) (IsNoPolicyWith false later q.policy))
    told spot
ShowsAt None told q = TellsUnasked

-- ---- the frame itself, which no policy and no file is asked for

abbrev pub CapturesAt : Option AbstractSpot → Told → Input → Device → Device → ℕ → Type 0
CapturesAt (Some (framed word link)) told = CapturesFrame told (framed word link)
CapturesAt (Some (written digits)) told = TellsUnasked
CapturesAt (Some (kept path)) told = TellsUnasked
CapturesAt None told = TellsUnasked

-- by whether the frame itself is asked for
abbrev pub ShowsBy : Bool → Told → AbstractQuestion → Input → Device → Device → ℕ → Type 0
ShowsBy true told q = CapturesAt (show_spot q) told
ShowsBy false told q = ShowsAt (show_spot q) told q

abbrev pub ShowsAsked : Told → AbstractQuestion → Input → Device → Device → ℕ → Type 0
ShowsAsked told q = ShowsBy q.capture told q
