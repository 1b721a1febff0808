use Rattle.std.proofs.Common.{◌≡◌, ◌++◌, drop}
use Rattle.std.specs.Prelude.{string_bytes}
use Rattle.guard_messages.specs.ValueJson.{further_arcs}
use Rattle.guard_messages.proofs.value_json.dotted.Given as goal

abbrev pub invariant-loop-arc : goal.invariant-loop-arc
invariant-loop-arc l =
    string_bytes l.text ++ further_arcs (drop l.arc-index l.others) ≡ string_bytes l.initial.text ++ further_arcs l.others
