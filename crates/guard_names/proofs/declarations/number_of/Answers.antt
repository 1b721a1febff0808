use Rattle.std.proofs.Common.{sym, arith}
use Rattle.guard_names.proofs.Declared.Modules.{number_at, number_nowhere}
use Rattle.guard_names.proofs.declarations.number_of.Goals as goal

pub returns-then-eq : goal.returns-then-eq
returns-then-eq c =
    number_at c.args.name.now c.args.modules.now c.loop-number.number c.index-modules-number.result c.loop-number-test.true c.loop-number.invariant (sym c.if-eq.ensures)

pub returns : goal.returns
returns c = number_nowhere c.args.name.now c.args.modules.now (λ k d l. c.loop-number.invariant k d (omega (arith, l, c.loop-number-test.false)))
