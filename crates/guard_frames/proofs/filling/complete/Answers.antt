use Rattle.std.proofs.Common.{◌≡◌, ◌<◌, ◌≤◌, ◌+◌, ◌-◌, min, ◌∙◌, ap, take, drop, length, length-append, length-take, arith}
use Rattle.std.proofs.lemmas.Grind.{common_steps}
use Rattle.guard_frames.specs.Frames.{stated_length}
use Rattle.guard_frames.proofs.Holding.{no_more_after}
use Rattle.guard_frames.proofs.filling.complete.Goals as goal
use Rattle.guard_frames.proofs.filling.complete.Goals.{then-len-lt4+else-len-lt4-2, else-len-lt4}

pub returns-clause-no_more : goal.returns-clause-no_more
returns-clause-no_more c =
    let h = c.if-len-lt4.held.items in
    let rest = take (length c.args.piece.now - c.if-len-lt4.used) (drop c.if-len-lt4.used c.args.piece.now) in
    let header : 4 ≤ length c.if-len-lt4.held.items = elim c.if-len-lt4.branch [ then-len-lt4+else-len-lt4-2 w ↦ grind (arith, common_steps) | else-len-lt4 w ↦ grind (arith, common_steps) ] in
    let body : c.in-Some.body ≡ stated_length c.if-len-lt4.held.items = c.in-Some.ensures.allowed.0 ∙ ap stated_length c.deref.ensures.value in
    let small : length c.if-len-lt4.held.items ≤ c.in-Some.body + 4 =
    elim c.if-len-lt4.branch [
      | then-len-lt4+else-len-lt4-2 w ↦
          let long : length w.hold_some-used.new.held.items ≡ length c.args.held.now.items + min w.hold_some-used.result (length c.args.piece.now) =
          simp (length-append, length-take) at (ap length w.hold_some-used.ensures.held) in
          let same : length c.if-len-lt4.held.items ≡ length w.hold_some-used.new.held.items = cc in
          omega (arith, same, long, w.hold_some-used.ensures.most)
      | else-len-lt4 w ↦
          let same : stated_length c.if-len-lt4.held.items ≡ stated_length c.args.held.now.items = cc in
          let four : 4 ≤ length c.args.held.now.items = omega arith in
          let short : length c.args.held.now.items < stated_length c.args.held.now.items + 4 = c.requires.unfinished.short four in
          let long : length c.if-len-lt4.held.items ≡ length c.args.held.now.items = cc in
          omega (arith, long, same, body, short)
    ] in
    let added : length (take c.hold_some.result rest) ≤ c.in-Some.body + 4 - length c.if-len-lt4.held.items =
    omega (arith, length-take c.hold_some.result rest, c.hold_some.ensures.most, c.len-2.ensures) in
    λ four fits. no_more_after h (take c.hold_some.result rest) c.hold_some.new.held.items c.in-Some.body
    (c.in-Some.body + 4 - length c.if-len-lt4.held.items) 0 c.hold_some.ensures.held header body added (omega (arith, small))
