use Rattle.std.proofs.Common.{◌≡◌, Bool, false, List, length, get_or, chars, sym, ap, ◌∙◌}
use Rattle.guard_eval.proofs.CodeWindows.{none_below, window_done, window_refused, windows_end}
use Rattle.guard_eval.proofs.windows.are_permitted_by_windows.Goals as goal

pub loop-first-init : goal.loop-first-init
loop-first-init c = none_below c.args.ranges.now (chars c.args.text.now)

pub returns-then-not-are_kept : goal.returns-then-not-are_kept
returns-then-not-are_kept c =
    let size : length c.as_slice.result.now ≡ 1024 = ap length c.as_slice.ensures ∙ c.codes_from.ensures.whole in
    window_refused c.args.ranges.now c.as_slice.result.now c.in-Some.first size (λ place lt. ap (λ (k : List Bool). get_or k place false) c.as_slice.ensures ∙ c.codes_from.ensures.marked place lt)
    (chars c.args.text.now) (sym c.are_kept.ensures ∙ c.if-not-are_kept.true)

pub loop-first-preserved : goal.loop-first-preserved
loop-first-preserved c =
    let size : length c.as_slice.result.now ≡ 1024 = ap length c.as_slice.ensures ∙ c.codes_from.ensures.whole in
    window_done c.args.ranges.now c.as_slice.result.now c.in-Some.first size (λ place lt. ap (λ (k : List Bool). get_or k place false) c.as_slice.ensures ∙ c.codes_from.ensures.marked place lt)
    c.loop-first.begin (chars c.args.text.now) c.loop-first.invariant c.in-Some.ensures.clear (sym c.are_kept.ensures ∙ c.if-not-are_kept.false)

pub returns : goal.returns
returns c = windows_end c.args.ranges.now c.loop-first.begin (chars c.args.text.now) c.loop-first.invariant c.in_default.ensures.clear
