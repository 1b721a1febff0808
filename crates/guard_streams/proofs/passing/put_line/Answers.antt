use Rattle.std.proofs.Common.{◌≡◌, ◌∙◌, ◌++◌, ap, arith, codes, refl, subst}
use Rattle.std.specs.Io.KnownBytes.{Appends}
use Rattle.guard_frames.specs.Prefix.{IsProperPrefix}
use Rattle.guard_streams.specs.Passing.{link_mark, marked_line}
use Rattle.guard_streams.proofs.Chains.{two}
use Rattle.guard_streams.proofs.Putting.{puts, puts_behind, puts_part, part_first}
use Rattle.guard_streams.proofs.passing.put_line.Goals as goal

pub returns-in_err-put_all-clause-puts : goal.returns-in_err-put_all-clause-puts
returns-in_err-put_all-clause-puts g c =
    let mark : c.as_slice.result.now ≡ link_mark c.args.link = c.as_slice.ensures.value ∙ c.marked-whole.ensures.mark in
    let p = c.in_err-put_all.ensures.part in
    puts_part _ _ _ _ c.from_residual.ensures.1 (part_first (link_mark c.args.link) (c.args.line.now ++ codes "\n") _
    (p.0, subst (IsProperPrefix p.0) mark p.1, p.2, c.in_err-put_all.ensures.failed))

pub returns-then-line-gt-SHORT-clause-puts : goal.returns-then-line-gt-SHORT-clause-puts
returns-then-line-gt-SHORT-clause-puts g c =
    let mark : c.as_slice.result.now ≡ link_mark c.args.link = c.as_slice.ensures.value ∙ c.marked-whole.ensures.mark in
    puts_behind (link_mark c.args.link) (c.args.line.now ++ codes "\n") _ _ _ _ _
    (subst (Appends _ _) mark c.in_ok-put_all.ensures.all)
    (puts _ _ _ _ refl c.put_both.ensures.all c.put_both.ensures.part c.put_both.ensures.failed)

pub returns-then-line-gt-SHORT-clause-lines : goal.returns-then-line-gt-SHORT-clause-lines
returns-then-line-gt-SHORT-clause-lines g c short = absurd (omega (arith, short, c.if-line-gt-SHORT.true))

pub returns-in_err-put_all-clause-lines : goal.returns-in_err-put_all-clause-lines
returns-in_err-put_all-clause-lines g c short = absurd (omega (arith, short, c.if-line-gt-SHORT.true))

pub returns-clause-puts : goal.returns-clause-puts
returns-clause-puts g c =
    let whole : c.as_slice-2.result.now ≡ marked_line c.args.link c.args.line.now =
    c.as_slice-2.ensures.value ∙ two _ _ _ _ _ c.append.ensures c.append-2.ensures
    ∙ ap (λ x. x ++ (c.args.line.now ++ codes "\n")) c.marked-whole.ensures.mark in
    puts _ _ _ _ whole c.put_all-2.ensures.all c.put_all-2.ensures.part c.put_all-2.ensures.failed
