-- What is printed for messages: a line for each, with the text of its reason.
use Rattle.std.specs.Prelude.{◌≡◌, ℕ, List, [], ◌∷◌, ◌++◌, codes}
use Rattle.guard_policy.specs.Policies.{AbstractPolicy, AbstractRoute}
use Rattle.guard_policy.specs.Verdicts.{AbstractVerdict}
use Rattle.guard_policy.specs.Decisions.{IsReason}
use Rattle.guard_report.specs.Text.{verdict_octets}

-- a message on its route
pub record AbstractMessageSent : Type 0 where
  pub route : AbstractRoute
  pub octets : List ℕ

-- The line is the text of a reason, and a line feed.
abbrev pub IsLine : AbstractPolicy → AbstractMessageSent → List ℕ → Type 0
IsLine p m line =
    (w : AbstractVerdict) × IsReason p m.route m.octets w × (line ≡ verdict_octets p m.route w ++ codes "\n")

-- The octets are a line for each message, in order.
abbrev pub AreLines : AbstractPolicy → List AbstractMessageSent → List ℕ → Type 0
AreLines p [] octets = octets ≡ []
AreLines p (m ∷ ms) octets =
    (line : List ℕ) × (rest : List ℕ) × IsLine p m line × AreLines p ms rest × (octets ≡ line ++ rest)

-- new is old with a line for the message at its end
abbrev pub AppendsLine : AbstractPolicy → AbstractMessageSent → List ℕ → List ℕ → Type 0
AppendsLine p m old new = (line : List ℕ) × IsLine p m line × (new ≡ old ++ line)
