use Rattle.std.proofs.Common.{rules, ◌≡◌, ap, ◌∙◌, Some, None, option_map, string_bytes}
use Rattle.toml.specs.View.{members_view}
use Rattle.guard_policy.specs.inside.Answers.{first_unknown}
use Rattle.guard_policy.specs.PolicyFaults.{unknown_key}
use Rattle.guard_policy.proofs.LeastKey.{first_is_least}
use Rattle.guard_policy.proofs.document.check_keys.Goals as goal

pub returns-then-not-is_key : goal.returns-then-not-is_key
returns-then-not-is_key c =
    let first : first_unknown c.args.keys.now (members_view c.args.table.now.entries) ≡ Some (string_bytes c.in_ok-word.word) = search rules in
    ap (option_map (unknown_key c.args.entry)) (first_is_least c.args.keys.now c.args.table.now.entries c.into_iter-word-iterator.ensures.into_iter_gives.5 ∙ first)

pub returns : goal.returns
returns c =
    let first : first_unknown c.args.keys.now (members_view c.args.table.now.entries) ≡ None = search rules in
    ap (option_map (unknown_key c.args.entry)) (first_is_least c.args.keys.now c.args.table.now.entries c.into_iter-word-iterator.ensures.into_iter_gives.5 ∙ first)
