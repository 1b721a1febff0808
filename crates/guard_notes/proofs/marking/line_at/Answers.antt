use Rattle.std.proofs.Common.{◌≡◌, ◌∙◌, ◌+◌, ◌-◌, ℕ, List, [], suc, ap, arith}
use Rattle.std.specs.Prelude.{Option, slice_get, unwrap_or}
use Rattle.guard_notes.specs.Lines.{lines_of}
use Rattle.guard_notes.proofs.MarkingLaws.{first_is}
use Rattle.guard_notes.proofs.marking.line_at.Goals as goal

pub returns : goal.returns
returns c =
    let i = c.loop.invariant in
    let e = c.line_end.ensures in
    let past = c.loop-test.false in
    let far = i.far in
    let same : 0 + (c.loop.counter - 1) ≡ c.args.number - 1 = omega (arith, past, far) in
    first_is c.loop.rest.now c.line_end.result e.within e.before e.there
    ∙ ap (λ (o : Option (List ℕ)). unwrap_or o []) (i.lines 0 ∙ ap (λ n. slice_get (lines_of c.args.text.now) n) same)

pub loop-preserved : goal.loop-preserved
loop-preserved c =
    let i = c.loop.invariant in
    let more = c.loop-test.true in
    let from = c.loop.auto.counter in
    record {
      lines = λ k.
          let same : suc k + (c.loop.counter - 1) ≡ k + (c.loop.counter + 1 - 1) = omega (arith, from) in
          c.after_line-rest.ensures k ∙ i.lines (suc k) ∙ ap (λ n. slice_get (lines_of c.args.text.now) n) same;
      far = omega (arith, more);
    }
