use Rattle.std.proofs.Common.{◌∙◌, ℕ, List, ap}
use Rattle.std.specs.List.{list_all}
use Rattle.std.specs.Str.{chars}
use Rattle.guard_eval.specs.Elements.{is_in_some}
use Rattle.guard_reader.proofs.Utf8.{not_spelled}
use Rattle.guard_reader.proofs.simple.are_spelled_utf8.Goals as goal

pub returns-in-Ok : goal.returns-in-Ok
returns-in-Ok c = c.are_permitted.ensures ∙ ap (λ (os : List ℕ). list_all (is_in_some c.args.ranges.now) (chars os)) c.in-Ok.ensures.cases.0

pub returns-in-Err : goal.returns-in-Err
returns-in-Err c = let none = not_spelled c.args.inside.now c.in-Err.ensures.cases.0 in let some = c.requires in absurd cc
