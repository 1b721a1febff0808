use Rattle.std.proofs.Common.{◌≡◌}
use Rattle.toml.specs.View.{members_view}
use Rattle.guard_policy.specs.inside.Answers.{first_unknown}
use Rattle.guard_policy.proofs.document.check_keys.Given as goal

-- the first of what is left is the first of all
abbrev pub invariant-loop-word : goal.invariant-loop-word
invariant-loop-word l = first_unknown l.keys (members_view l.word-iterator) ≡ first_unknown l.keys (members_view l.table.entries)
