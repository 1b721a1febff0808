-- The line of a report.
use Rattle.std.specs.Prelude.{ℕ, List, ◌++◌, codes, decimal}
use Rattle.guard_policy.specs.Policies.{AbstractPolicy, AbstractRoute}
use Rattle.guard_policy.specs.Verdicts.{AbstractVerdict}
use Rattle.guard_report.specs.Text.{verdict_octets}

-- who sends what to whom
abbrev pub route_text : AbstractRoute → List ℕ
route_text route = route.from ++ codes ">" ++ route.to ++ codes " " ++ route.message

-- the frame's number, the route and the text of the verdict, separated by spaces, and a line feed
abbrev pub line_octets : AbstractPolicy → AbstractRoute → ℕ → AbstractVerdict → List ℕ
line_octets p route number w =
    decimal number ++ codes " " ++ route_text route ++ codes " " ++ verdict_octets p route w ++ codes "\n"
