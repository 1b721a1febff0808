use Rattle.std.proofs.Common.{◌<◌, ◌≤◌, ◌∙◌, length, sym, arith}
use Rattle.guard_authors.proofs.RowsCounted.{counted_at, not_counted, past_counted}
use Rattle.guard_authors.proofs.summary.count_one.Goals as goal

pub returns-then-number-len : goal.returns-then-number-len
returns-then-number-len c =
    let test = c.if-number-len.true in
    let size = c.len.ensures in
    let kept = c.args.counts.now.ok.0 in
    let inside : c.in-Some.number < length c.args.counts.now.items = omega (arith, test, size, kept) in
    λ number many rows row of. counted_at c.args.counts.now.items c.in-Some.number c.index.result.now c.one_more-more.result inside
    c.index.ensures c.one_more-more.ensures number many rows row (sym c.in-Some.is ∙ of)

pub returns-in_default : goal.returns-in_default
returns-in_default c = λ number many rows row of. not_counted number many rows row c.args.counts.now.items (sym of ∙ c.in_default.is)

pub returns-else-number-len : goal.returns-else-number-len
returns-else-number-len c =
    let test = c.if-number-len.false in
    let size = c.len.ensures in
    let kept = c.args.counts.now.ok.0 in
    let past : length c.args.counts.now.items ≤ c.in-Some.number = omega (arith, test, size, kept) in
    λ number many rows row of. past_counted number many rows row c.args.counts.now.items c.in-Some.number (sym c.in-Some.is ∙ of) past
