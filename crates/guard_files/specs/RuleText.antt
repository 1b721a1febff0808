-- The text of a rule.
use Rattle.std.specs.Prelude.{ℕ, List, ◌++◌, codes}
use Rattle.guard_policy.specs.declared.policy.Effect.{Effect}
use Rattle.guard_policy.specs.declared.policy.Effect.TheVariants.{Allow, Deny}
use Rattle.guard_policy.specs.Policies.{AbstractRule, own_route}
use Rattle.guard_report.specs.Lines.{route_text}

abbrev pub effect_text : Effect → List ℕ
effect_text Allow = codes ": allow "
effect_text Deny = codes ": deny "

-- `  north>south order: allow small`
abbrev pub said_text : AbstractRule → List ℕ
said_text r = codes "  " ++ route_text (own_route r) ++ effect_text r.effect ++ r.name
