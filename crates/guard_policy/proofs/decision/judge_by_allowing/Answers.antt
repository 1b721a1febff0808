use Rattle.std.proofs.Common.{◌+◌, sym, map, drop, get_or}
use Rattle.std.proofs.lemmas.List.{map_push}
use Rattle.guard_model.specs.ValueView.{value_view}
use Rattle.guard_eval.specs.Violations.{violation_view, shortfall_view}
use Rattle.guard_policy.specs.inside.KeptRules.{rules_kept}
use Rattle.guard_policy.specs.SaidView.{said_view}
use Rattle.guard_policy.specs.PolicyView.{route_view}
use Rattle.guard_policy.specs.inside.Listings.{rules_at, heard}
use Rattle.guard_policy.proofs.Applicable.{applicable_number}
use Rattle.guard_policy.proofs.Listed.{front_is}
use Rattle.guard_policy.proofs.Shortfalls.{is_allowing_there, goes_on_past, goes_on_with}
use Rattle.guard_policy.proofs.decision.judge_by_allowing.Goals as goal
use Rattle.guard_policy.proofs.decision.judge_by_allowing.Goals.{in-Some+in-Some-first_violation+in_ok-push-in-Some-first_violation, in_default}

pub first_violation-requires-clause-sound : goal.first_violation-requires-clause-sound
first_violation-requires-clause-sound c =
    let rules = rules_kept c.args.kept.now in
    let n = get_or c.args.numbers.now c.loop-number.number-index 0 in
    let a = is_allowing_there rules n (route_view c.args.route.now) (said_view c.in-Some.rule) (sym c.in-Some.ensures) in
    (applicable_number (route_view c.args.route.now) (value_view c.args.value.now) rules n (said_view c.in-Some.rule) a.stands c.requires).0

pub first_violation-requires-clause-fits : goal.first_violation-requires-clause-fits
first_violation-requires-clause-fits c =
    let rules = rules_kept c.args.kept.now in
    let n = get_or c.args.numbers.now c.loop-number.number-index 0 in
    let a = is_allowing_there rules n (route_view c.args.route.now) (said_view c.in-Some.rule) (sym c.in-Some.ensures) in
    (applicable_number (route_view c.args.route.now) (value_view c.args.value.now) rules n (said_view c.in-Some.rule) a.stands c.requires).1 a.speaks

pub loop-number-preserved : goal.loop-number-preserved
loop-number-preserved c =
    let route = route_view c.args.route.now in
    let v = value_view c.args.value.now in
    let rules = rules_kept c.args.kept.now in
    let i = c.loop-number.number-index in
    let n = get_or c.args.numbers.now i 0 in
    let all = heard route (rules_at rules c.args.numbers.now) in
    let begins = front_is c.args.numbers.now i 0 c.loop-number-test.true in
    elim c.match-allowing_at.branch [
      | in-Some+in-Some-first_violation+in_ok-push-in-Some-first_violation w ↦
          let a = is_allowing_there rules n route (said_view w.in-Some.rule) (sym w.in-Some.ensures) in
          rw (w.shortfalls-is, w.in_ok-push-in-Some-first_violation.ensures.items, map_push shortfall_view c.loop-number.shortfalls.items)
          (goes_on_with all rules route v (map shortfall_view c.loop-number.shortfalls.items) (drop i c.args.numbers.now) (drop (i + 1) c.args.numbers.now) n
          (said_view w.in-Some.rule) (violation_view w.in-Some-first_violation.violation) begins a
          ((applicable_number route v rules n (said_view w.in-Some.rule) a.stands c.requires).1 a.speaks)
          (sym w.in-Some-first_violation.ensures.first) c.loop-number.invariant)
      | in_default w ↦
          rw w.shortfalls-is
          (goes_on_past all rules route v (map shortfall_view c.loop-number.shortfalls.items) (drop i c.args.numbers.now) (drop (i + 1) c.args.numbers.now) n begins
          (sym (rw w.in_default.is at c.allowing_at.ensures)) c.loop-number.invariant)
    ]
