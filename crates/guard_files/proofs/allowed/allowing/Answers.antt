use Rattle.std.proofs.Common.{◌≤◌, ◌∙◌, arith, length, refl, sym}
use Rattle.guard_model.specs.ValueView.{value_view}
use Rattle.guard_policy.specs.Decisions.{rules_of, speaking}
use Rattle.guard_policy.specs.PolicyView.{policy_view, route_view, said_view}
use Rattle.guard_policy.proofs.Applicable.{applicable_number}
use Rattle.guard_files.specs.Allowed.{allowing, allowing_lines}
use Rattle.guard_files.proofs.AllowingLaws.{no_line, no_number, none_of, one_line, one_number, past_all}
use Rattle.guard_files.proofs.allowed.allowing.Goals as goal
use Rattle.guard_files.proofs.allowed.allowing.Goals.{then-allows+in_ok-push+in_ok-add_line, else-allows}

pub unreachable-requires : goal.unreachable-requires
unreachable-requires c =
    let p = policy_view c.args.policy.now in
    let within = c.loop-number-test.true in
    let many = c.rules-number-end.ensures in
    none_of p.rules c.loop-number.number (sym (rw c.in_default.is at c.rule.ensures)) (omega (arith, within, many))

pub allows-requires : goal.allows-requires
allows-requires c =
    let p = policy_view c.args.policy.now in
    let h = applicable_number (route_view c.args.route.now) (value_view c.args.value.now) p.rules c.loop-number.number (said_view c.in-Some.rule) (sym c.in-Some.ensures) c.requires in
    record { sound = h.0; fits = h.1 }

pub loop-number-preserved : goal.loop-number-preserved
loop-number-preserved c =
    let p = policy_view c.args.policy.now in
    let route = route_view c.args.route.now in
    let v = value_view c.args.value.now in
    let r = said_view c.in-Some.rule in
    let i = c.loop-number.number in
    let numbers = c.loop-number.numbers.items in
    let lines = c.loop-number.lines.items in
    let so_far = c.loop-number.invariant in
    let at = sym c.in-Some.ensures in
    elim c.if-allows.branch [
      | then-allows+in_ok-push+in_ok-add_line w ↦
          let has = sym c.allows.ensures ∙ w.if-allows.true in
          record {
            numbers = rw (w.numbers-is, w.in_ok-push.ensures.items) (one_number route v p.rules i r at numbers (allowing (rules_of p route) v) has so_far.numbers);
            lines = rw (w.lines-is, w.in_ok-add_line.ensures) (one_line route v p.rules i r at lines (allowing_lines route v p.rules) has so_far.lines);
          }
      | else-allows w ↦
          let none = sym c.allows.ensures ∙ w.if-allows.false in
          record {
            numbers = rw w.numbers-is (no_number route v p.rules i r at numbers (allowing (rules_of p route) v) none so_far.numbers);
            lines = rw w.lines-is (no_line route v p.rules i r at lines (allowing_lines route v p.rules) none so_far.lines);
          }
    ]

pub returns : goal.returns
returns c =
    let p = policy_view c.args.policy.now in
    let route = route_view c.args.route.now in
    let v = value_view c.args.value.now in
    let i = c.loop-number.number in
    let past : length p.rules ≤ i = omega (arith, c.loop-number-test.false, c.rules-number-end.ensures) in
    record {
      numbers = past_all (λ rest. allowing (speaking route i rest) v) p.rules i _ _ refl past c.loop-number.invariant.numbers;
      lines = past_all (allowing_lines route v) p.rules i _ _ refl past c.loop-number.invariant.lines;
    }
