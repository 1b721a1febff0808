-- Verdicts as the definitions see them.
use Rattle.std.specs.Prelude.{ℕ, List, Option, Some, None, map}
use Rattle.guard_der.specs.Breach.{AbstractBreach}
use Rattle.guard_der.specs.Views.{breach_view}
use Rattle.guard_policy.specs.declared.verdict.Verdict.{Verdict}
use Rattle.guard_policy.specs.declared.verdict.Verdict.TheVariants as verdict
use Rattle.guard_policy.specs.declared.verdict.PlainReason.{PlainReason}
use Rattle.guard_policy.specs.declared.verdict.PlainReason.TheVariants as plain
use Rattle.guard_eval.specs.Violations.{AbstractViolation, violation_view, shortfall_view}

pub data AbstractVerdict : Type 0 where
  pass : AbstractVerdict
  unknown_message : AbstractVerdict
  undecodable : AbstractBreach → AbstractVerdict
  outside_type : AbstractViolation → AbstractVerdict
  denied_by : ℕ → AbstractVerdict
  not_allowed : List (ℕ × AbstractViolation) → AbstractVerdict
  no_rule : AbstractVerdict

abbrev pub verdict_view : Verdict → AbstractVerdict
verdict_view verdict.Pass = pass
verdict_view verdict.UnknownMessage = unknown_message
verdict_view (verdict.Undecodable b) = undecodable (breach_view b)
verdict_view (verdict.OutsideType w) = outside_type (violation_view w)
verdict_view (verdict.DeniedBy i) = denied_by i
verdict_view (verdict.NotAllowed rules) = not_allowed (map shortfall_view rules.items)
verdict_view verdict.NoRule = no_rule

-- the verdict with this reason; none where violations belong to it
abbrev pub reason_view : PlainReason → Option AbstractVerdict
reason_view plain.UnknownMessage = Some unknown_message
reason_view (plain.DeniedBy i) = Some (denied_by i)
reason_view plain.NotAllowed = None
reason_view plain.NoRule = Some no_rule
