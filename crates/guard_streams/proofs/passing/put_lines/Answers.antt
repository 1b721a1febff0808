use Rattle.std.proofs.Common.{◌++◌, [], refl, subst}
use Rattle.std.specs.List.{All}
use Rattle.guard_frames.proofs.Asking.{asks_none, asks_trans}
use Rattle.guard_frames.proofs.Elements.{All_first, All_rest}
use Rattle.guard_frames.proofs.Appending.{Appends_none, Appends_trans}
use Rattle.guard_streams.specs.Passing.{IsShort, lines_of, marked_line}
use Rattle.guard_streams.proofs.PassingLaws.{marked_first, lines_more, lines_part}
use Rattle.guard_streams.proofs.Putting.{puts_part}
use Rattle.guard_streams.proofs.passing.put_lines.Goals as goal

pub returns-in_err-put_line-clause-puts : goal.returns-in_err-put_line-clause-puts
returns-in_err-put_line-clause-puts g c =
    let i = c.loop-rest.invariant in
    let l = c.first_line.result in
    let p = c.in_err-put_line.ensures.puts in
    puts_part _ _ _ _ c.from_residual.ensures.1 (
      i.0 ++ p.0,
      lines_part c.args.link c.args.text.now c.loop-rest.rest.now l.0.now l.1.now i.0 i.2 (marked_first c.args.link c.loop-rest.rest.now l.0.now l.1.now c.first_line.ensures.lines) p.0 p.1,
      Appends_trans _ _ _ i.0 p.0 i.1 p.2,
      p.3,
    )

pub loop-rest-preserved : goal.loop-rest-preserved
loop-rest-preserved g c =
    let i = c.loop-rest.invariant in
    let l = c.first_line.result in (
      i.0 ++ marked_line c.args.link l.0.now,
      Appends_trans _ _ _ i.0 (marked_line c.args.link l.0.now) i.1 c.in_ok-put_line.ensures.puts,
      lines_more c.args.link c.args.text.now c.loop-rest.rest.now l.0.now l.1.now i.0 i.2 (marked_first c.args.link c.loop-rest.rest.now l.0.now l.1.now c.first_line.ensures.lines),
      λ all. All_rest IsShort l.0.now (lines_of l.1.now) (subst (All IsShort) c.first_line.ensures.lines (i.3 all)),
      λ all. asks_trans _ _ _ (i.4 all)
          (c.in_ok-put_line.ensures.lines (All_first IsShort l.0.now (lines_of l.1.now) (subst (All IsShort) c.first_line.ensures.lines (i.3 all)))),
    )

pub loop-rest-init : goal.loop-rest-init
loop-rest-init g c = ([], Appends_none _, refl, λ all. all, λ all. asks_none _)

pub returns-in_err-put_line-clause-lines : goal.returns-in_err-put_line-clause-lines
returns-in_err-put_line-clause-lines g c = λ all.
    let i = c.loop-rest.invariant in
    let l = c.first_line.result in
    asks_trans _ _ _ (i.4 all)
    (c.in_err-put_line.ensures.lines (All_first IsShort l.0.now (lines_of l.1.now) (subst (All IsShort) c.first_line.ensures.lines (i.3 all))))

pub returns-clause-lines : goal.returns-clause-lines
returns-clause-lines g c = c.loop-rest.invariant.4
