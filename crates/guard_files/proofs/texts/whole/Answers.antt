use Rattle.std.proofs.Common.{◌<◌, ◌≤◌, length, arith}
use Rattle.guard_files.proofs.WholeTexts.{whole, larger}
use Rattle.guard_files.proofs.texts.whole.Goals as goal

pub returns-then-len-gt-MOST-clause-none : goal.returns-then-len-gt-MOST-clause-none
returns-then-len-gt-MOST-clause-none c told first =
    let many : 67108864 < length c.args.text.items = omega (arith, c.if-len-gt-MOST.true, c.len.ensures) in
    (larger told c.args.path.now c.args.text.items first many, c.in_ok-from_str.ensures.ok)

pub returns-clause-all : goal.returns-clause-all
returns-clause-all c told first =
    let few : length c.args.text.items ≤ 67108864 = omega (arith, c.if-len-gt-MOST.false, c.len.ensures) in
    whole told c.args.path.now c.args.text.items first few
