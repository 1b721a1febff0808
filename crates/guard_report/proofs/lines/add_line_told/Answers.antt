use Rattle.std.proofs.Common.{◌≡◌, ◌∙◌, ℕ, List, ◌++◌, None, Option, Some, ap, append_assoc, sym}
use Rattle.std.specs.Prelude.{IfSome, codes, decimal}
use Rattle.guard_policy.specs.Policies.{AbstractPolicy, AbstractRoute}
use Rattle.guard_policy.specs.PolicyView.{policy_view, route_view}
use Rattle.guard_policy.specs.Verdicts.{AbstractVerdict, reason_view}
use Rattle.guard_report.specs.Lines.{line_octets, route_text}
use Rattle.guard_report.specs.Text.{verdict_octets}
use Rattle.guard_report.proofs.Writing.{on_ok_also}
use Rattle.guard_report.proofs.lines.add_line_told.Goals as goal

in_parts : (old number route text : List ℕ)
    → old ++ number ++ (codes " " ++ route) ++ (codes " " ++ text ++ codes "\n") ≡ old ++ (number ++ codes " " ++ route ++ codes " " ++ text ++ codes "\n")
in_parts old number route text =
    let start = number ++ codes " " ++ route in
    let last = codes " " ++ text ++ codes "\n" in
    ap (λ (xs : List ℕ). xs ++ last) (append_assoc old number (codes " " ++ route) ∙ ap (λ (xs : List ℕ). old ++ xs) (sym (append_assoc number (codes " ") route)))
    ∙ append_assoc old start last
    ∙ ap (λ (xs : List ℕ). old ++ xs) (sym (append_assoc start (codes " " ++ text) (codes "\n"))
    ∙ ap (λ (xs : List ℕ). xs ++ codes "\n") (sym (append_assoc start (codes " ") text)))

told : (p : AbstractPolicy) (r : AbstractRoute) (n : ℕ) (o : Option AbstractVerdict) (old before new : List ℕ)
    → before ≡ old ++ decimal n ++ (codes " " ++ route_text r)
    → IfSome o (λ w. (s : AbstractRoute) → new ≡ before ++ (codes " " ++ verdict_octets p s w ++ codes "\n"))
    → IfSome o (λ w. new ≡ old ++ line_octets p r n w)
told p r n None old before new first next = tt
told p r n (Some w) old before new first next =
    next r ∙ ap (λ (xs : List ℕ). xs ++ (codes " " ++ verdict_octets p r w ++ codes "\n")) first
    ∙ in_parts old (decimal n) (route_text r) (verdict_octets p r w)

pub returns : goal.returns
returns c =
    let route = route_text (route_view c.args.route.now) in
    on_ok_also c.add_reason.result
    (told (policy_view c.args.policy.now) (route_view c.args.route.now) c.args.number (reason_view c.args.reason) c.args.line.now.items
    c.add_names.new.line.items c.add_reason.new.text.items
    (c.in_ok-add_names.ensures ∙ ap (λ (xs : List ℕ). xs ++ (codes " " ++ route)) c.in_ok-add_number_first.ensures))
    c.add_reason.ensures
