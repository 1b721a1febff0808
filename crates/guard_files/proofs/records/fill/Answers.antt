use Rattle.std.proofs.Common.{◌≡◌, ◌∙◌, ◌+◌, ℕ, arith, drop, subst, take}
use Rattle.std.specs.Io.KnownBytes.{Consumes}
use Rattle.guard_files.proofs.RecordLaws.{Consumes_more, asked_once, kept_before}
use Rattle.guard_files.proofs.records.fill.Goals as goal

pub returns-in_default-clause-kept : goal.returns-in_default-clause-kept
returns-in_default-clause-kept g c =
    kept_before c.args.from c.loop-filled.filled c.loop-filled.room c.take_more.new.room c.in_default.ensures.kept ∙ c.loop-filled.invariant.kept

pub returns-in_default-clause-counted : goal.returns-in_default-clause-counted
returns-in_default-clause-counted g c =
    let i = c.loop-filled.invariant in
    asked_once _ _ _ c.args.reads.now c.loop-filled.reads (omega (arith, c.if-reads-eq0.false)) i.fewer i.counted
    c.in_default.ensures.counted

pub returns-in_default-clause-fewer : goal.returns-in_default-clause-fewer
returns-in_default-clause-fewer g c = omega (arith, c.loop-filled.invariant.fewer)

pub returns-then-count-eq0-clause-kept : goal.returns-then-count-eq0-clause-kept
returns-then-count-eq0-clause-kept g c =
    kept_before c.args.from c.loop-filled.filled c.loop-filled.room c.take_more.new.room c.in-Ok.ensures.kept ∙ c.loop-filled.invariant.kept

pub returns-then-count-eq0-clause-given : goal.returns-then-count-eq0-clause-given
returns-then-count-eq0-clause-given g c =
    let e = c.in-Ok.ensures in
    let same : c.loop-filled.filled + c.in-Ok.count ≡ c.loop-filled.filled = omega (arith, c.if-count-eq0.true) in
    subst (λ (n : ℕ). Consumes (g.S.Source.tells c.args.source.now) (g.S.Source.tells c.take_more.new.source) (take n (drop c.args.from c.take_more.new.room)))
    same (Consumes_more _ _ _ c.args.from c.loop-filled.filled c.in-Ok.count c.loop-filled.room c.take_more.new.room e.kept c.loop-filled.invariant.given e.given)

pub returns-then-count-eq0-clause-counted : goal.returns-then-count-eq0-clause-counted
returns-then-count-eq0-clause-counted g c =
    let i = c.loop-filled.invariant in
    asked_once _ _ _ c.args.reads.now c.loop-filled.reads (omega (arith, c.if-reads-eq0.false)) i.fewer i.counted
    c.in-Ok.ensures.counted

pub returns-then-count-eq0-clause-fewer : goal.returns-then-count-eq0-clause-fewer
returns-then-count-eq0-clause-fewer g c = omega (arith, c.loop-filled.invariant.fewer)

pub loop-filled-preserved : goal.loop-filled-preserved
loop-filled-preserved g c =
    let i = c.loop-filled.invariant in
    let e = c.in-Ok.ensures in
    record {
      within = omega (arith, i.within, e.within);
      whole = omega (arith, i.whole, c.take_more.auto.room);
      kept = kept_before c.args.from c.loop-filled.filled c.loop-filled.room c.take_more.new.room e.kept ∙ i.kept;
      given = Consumes_more _ _ _ c.args.from c.loop-filled.filled c.in-Ok.count c.loop-filled.room c.take_more.new.room
          e.kept i.given e.given;
      fewer = omega (arith, i.fewer);
      some = λ _. omega (arith, i.fewer, c.if-reads-eq0.false);
      counted = asked_once _ _ _ c.args.reads.now c.loop-filled.reads
          (omega (arith, c.if-reads-eq0.false)) i.fewer i.counted e.counted;
    }
