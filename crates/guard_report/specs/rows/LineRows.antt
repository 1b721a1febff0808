-- Worked examples of report lines.
use Rattle.std.specs.Prelude.{◌≡◌, [], ◌∷◌, codes, refl}
use Rattle.std.specs.Fmt.{digits}
use Rattle.guard_model.specs.declared.site.Step.TheVariants.{Component}
use Rattle.guard_policy.specs.Verdicts.{unknown_message, denied_by, not_allowed}
use Rattle.guard_report.specs.rows.Rows.{policy, route}
use Rattle.guard_report.specs.Lines.{line_octets}

second : line_octets policy route 2
    (not_allowed ((0, record { site = record { text = 2; line = 8; column = 45 }; path = Component 0 ∷ [] }) ∷ []))
    ≡ codes "2 north>south order not-allowed small Orders:8:45 $.qty\n"
unfolding digits
second = refl

denied : line_octets policy route 1 (denied_by 1) ≡ codes "1 north>south order denied-by wide\n"
unfolding digits
denied = refl

-- a route whose message the policy doesn't declare, and the greatest number
unknown : line_octets policy (record { from = codes "a"; to = codes "b"; message = codes "ordre" }) 18446744073709551615
    unknown_message
    ≡ codes "18446744073709551615 a>b ordre unknown-message\n"
unfolding digits
unknown = refl
