-- What a policy decides of the body of a frame.
use Rattle.std.specs.Prelude.{◌≡◌, ℕ, List, Some}
use Rattle.guard_policy.specs.Policies.{AbstractPolicy, AbstractRoute}
use Rattle.guard_policy.specs.declared.verdict.PlainReason.{PlainReason}
use Rattle.guard_policy.specs.Verdicts.{AbstractVerdict, reason_view}
use Rattle.guard_policy.specs.Decisions.{Goes, IsReason}
use Rattle.guard_policy.specs.Told.{IsAllowedBy, IsToldReason}
use Rattle.guard_report.specs.Lines.{line_octets}
use Rattle.guard_frames.specs.Bodies.{AbstractBody, HasNames}
use Rattle.guard_frames.specs.Outcomes.{Decision}
use Rattle.guard_frames.specs.Reasons.{reason_of}
use Rattle.guard_frames.specs.declared.why.Reason.{Reason}

-- sender and receiver are taken as given
abbrev pub route_of : AbstractBody → AbstractRoute
route_of b = record { from = b.sender; to = b.receiver; message = b.name }

-- the body of a message on a route
abbrev pub route_body : AbstractRoute → List ℕ → AbstractBody
route_body route message =
    record { sender = route.from; receiver = route.to; name = route.message; message_octets = message }

-- A body goes where its message goes on its route. The report of one that stays is the line of its reason.
abbrev pub decision_of : AbstractPolicy → Decision
decision_of p = record {
  LetsGo = λ b. Goes p (route_of b) b.message_octets;
  Reports = λ n b text. (w : AbstractVerdict) × IsReason p (route_of b) b.message_octets w
      × (text ≡ line_octets p (route_of b) n w);
}

-- A line gives the reason of the verdict whose line it is, with some number, on some body of three names.
abbrev pub gives_of : AbstractPolicy → Reason → List ℕ → Type 0
gives_of p reason line = (n : ℕ) × (b : AbstractBody) × (w : AbstractVerdict) × HasNames b
    × IsReason p (route_of b) b.message_octets w × (reason_of w ≡ Some reason) × (line ≡ line_octets p (route_of b) n w)

-- The message goes, and this rule, by its number, is the first of the route that allows it.
abbrev pub lets_of : AbstractPolicy → AbstractBody → ℕ → Type 0
lets_of p b rule = IsAllowedBy p (route_of b) b.message_octets rule

-- the reason of its message, as it is told
abbrev pub reasons_of : AbstractPolicy → AbstractBody → PlainReason → Type 0
reasons_of p b reason = IsToldReason p (route_of b) b.message_octets (reason_view reason)
