use Rattle.std.proofs.Common.{◌∙◌, ℕ, List, ap, map}
use Rattle.guard_notes.specs.Marking.{shown}
use Rattle.guard_notes.proofs.MarkingLaws.{marked_parts}
use Rattle.guard_notes.proofs.marking.marked_at.Goals as goal

pub returns : goal.returns
returns c =
    let part = c.in_ok-part.ensures ∙ ap (λ (x : List ℕ). map shown x) c.first_columns.ensures in
    rw (← marked_parts c.args.place c.args.out c.args.line.now _ _ _ _ _ c.split_at.ensures.back c.dots-before.ensures c.dots-after.ensures part c.in_ok-indent.ensures)
    c.format.ensures.ok
