use Rattle.std.proofs.Common.{sym, arith}
use Rattle.std.proofs.lemmas.List.{take_all, length-take-le}
use Rattle.guard_notes.proofs.marking.first_columns.Goals as goal

pub slice_bounds-result-end : goal.slice_bounds-result-end
slice_bounds-result-end c =
    let past = c.if-line-le-WIDTH.false in
    sym (length-take-le 120 c.args.line.now (omega (arith, past)))

pub returns-then-line-le-WIDTH : goal.returns-then-line-le-WIDTH
returns-then-line-le-WIDTH c = sym (take_all 120 c.args.line.now c.if-line-le-WIDTH.true)
