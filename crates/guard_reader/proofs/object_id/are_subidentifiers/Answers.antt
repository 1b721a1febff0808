use Rattle.std.proofs.Common.{◌∙◌, ◌+◌, ◌<◌, length, drop, get_or, sym, arith}
use Rattle.std.proofs.lemmas.List.{drop_more, length-drop}
use Rattle.guard_reader.proofs.Subidentifiers.{full, padded, goes_on}
use Rattle.guard_reader.proofs.object_id.are_subidentifiers.Goals as goal

pub returns-then-is_padding : goal.returns-then-is_padding
returns-then-is_padding c =
    let i = c.loop-octet.octet-index in
    let now = rw (drop_more c.args.inside.now i 0 c.loop-octet-test.true) at c.loop-octet.invariant in
    sym (padded c.loop-octet.starts c.loop-octet.number (get_or c.args.inside.now i 0) (drop (i + 1) c.args.inside.now) (sym c.is_padding.ensures ∙ c.if-is_padding.true)) ∙ now

pub returns-then-number-ge-FULL : goal.returns-then-number-ge-FULL
returns-then-number-ge-FULL c =
    let i = c.loop-octet.octet-index in
    let some : 0 < length (drop i c.args.inside.now) = omega (arith, length-drop i c.args.inside.now, c.loop-octet-test.true) in
    sym (full c.loop-octet.starts c.loop-octet.number (drop i c.args.inside.now) some c.if-number-ge-FULL.true) ∙ c.loop-octet.invariant

pub loop-octet-preserved : goal.loop-octet-preserved
loop-octet-preserved c =
    let i = c.loop-octet.octet-index in
    let now = rw (drop_more c.args.inside.now i 0 c.loop-octet-test.true) at c.loop-octet.invariant in
    rw c.next_number-number.ensures (sym (goes_on c.loop-octet.starts c.loop-octet.number (get_or c.args.inside.now i 0) (drop (i + 1) c.args.inside.now) (sym c.is_padding.ensures ∙ c.if-is_padding.false) (omega (arith, c.if-number-ge-FULL.false))) ∙ now)
