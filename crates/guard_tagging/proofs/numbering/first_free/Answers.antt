use Rattle.std.proofs.Common.{◌∙◌, sym, ◌-◌, ◌<◌, ◌^◌, arith}
use Rattle.std.specs.Int.{w128}
use Rattle.std.proofs.lemmas.Int.{to_z_pos}
use Rattle.guard_tagging.specs.Enumerations.{free_from}
use Rattle.guard_tagging.proofs.Numbers.Items.{found_free, next_free}
use Rattle.guard_tagging.proofs.numbering.first_free.Goals as goal

pub returns-then-not-contains-clause-first : goal.returns-then-not-contains-clause-first
returns-then-not-contains-clause-first c =
    let lt : c.loop-tried.number < 2 ^ 127 =
    omega (arith, c.loop-tried.invariant.0, c.requires, c.loop-tried-test.true) in
    let h = rw (to_z_pos w128 c.loop-tried.number lt) at c.contains.ensures in
    found_free c.args.taken.now.keys (c.args.tries - c.loop-tried.tried) c.loop-tried.number
    (free_from c.args.taken.now.keys c.args.tries c.args.from) (sym h ∙ c.if-not-contains.true) c.loop-tried.invariant.1

pub loop-tried-preserved : goal.loop-tried-preserved
loop-tried-preserved c =
    let lt : c.loop-tried.number < 2 ^ 127 =
    omega (arith, c.loop-tried.invariant.0, c.requires, c.loop-tried-test.true) in
    let h = rw (to_z_pos w128 c.loop-tried.number lt) at c.contains.ensures in (
      omega (arith, c.loop-tried.invariant.0),
      next_free c.args.taken.now.keys c.args.tries c.loop-tried.tried c.loop-tried.number
          (free_from c.args.taken.now.keys c.args.tries c.args.from) c.loop-tried-test.true
          (sym h ∙ c.if-not-contains.false) c.loop-tried.invariant.1,
    )
