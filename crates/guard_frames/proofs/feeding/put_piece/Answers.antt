use Rattle.std.proofs.Common.{◌≡◌, ◌∙◌, ◌<◌, ◌++◌, ℕ, List, ap, sym, subst, drop, length, rules, arith}
use Rattle.guard_frames.specs.Added.{Added, joined}
use Rattle.std.proofs.lemmas.List.{take_rest}
use Rattle.guard_frames.specs.Frames.{stated_length}
use Rattle.guard_frames.specs.Reasons.{Noted}
use Rattle.guard_frames.specs.inside.Closing.{Puts}
use Rattle.guard_frames.proofs.Appending.{both_joined}
use Rattle.guard_frames.proofs.Asking.{asks_trans}
use Rattle.guard_frames.proofs.Holding.{not_too_long, still_unfinished, too_long_now, broken_longer, broken_puts, puts_left}
use Rattle.guard_frames.proofs.Leavings.{broken_noted, broken_failed}
use Rattle.guard_frames.proofs.Noting.{noted_by_on}
use Rattle.guard_frames.proofs.Reading.{is_empty_list}
use Rattle.guard_frames.proofs.feeding.put_piece.Goals as goal

pub returns-then-is_empty-clause-puts : goal.returns-then-is_empty-clause-puts
returns-then-is_empty-clause-puts g c =
    let none : length c.args.held.now.items ≡ 0 = search rules in
    let x = c.put_rest.ensures.puts in (
      x.0,
      subst (λ (s : List ℕ). Puts (g.D.Decide.decides c.args.policy.now) c.args.totals.now (s ++ c.args.piece.now) c.put_rest.new.held.items c.put_rest.new.totals
          c.put_rest.result x.0) (sym (is_empty_list c.args.held.now.items none)) x.1,
      x.2,
      x.3,
    )

pub returns-in-Err-clause-puts : goal.returns-in-Err-clause-puts
returns-in-Err-clause-puts g c =
    let d = g.D.Decide.decides c.args.policy.now in
    let x = rw c.as_slice.ensures.value at c.in-Err.ensures.failure in
    let so : Added → Type 0 =
    λ added. Noted (g.D.Decide.gives c.args.policy.now) (g.D.Decide.lets c.args.policy.now) g.W.Watch.notes c.args.watch.now added c.put_frames.new.watch in
    let y = broken_longer d c.args.totals.now c.args.held.now.items c.args.piece.now c.complete-used.new.held.items c.complete-used.result
    c.in-Err.broken x.0 so c.complete-used.ensures.held x.1 in (
      x.0,
      broken_puts d c.args.totals.now c.broken_at.new.totals (c.args.held.now.items ++ c.args.piece.now) c.complete-used.new.held.items c.in-Err.broken c.broken_at.result x.0 so y
          c.broken_at.ensures,
      x.2,
      broken_noted d c.args.totals.now c.broken_at.new.totals (c.args.held.now.items ++ c.args.piece.now) c.in-Err.broken c.broken_at.result x.0 so y
          c.broken_at.ensures,
    )

pub returns-in-Err-clause-failed : goal.returns-in-Err-clause-failed
returns-in-Err-clause-failed g c =
    broken_failed c.in-Err.broken c.broken_at.result c.broken_at.new.totals _ _ c.in-Err.ensures.failed c.broken_at.ensures

pub returns-in-TooLong-clause-puts : goal.returns-in-TooLong-clause-puts
returns-in-TooLong-clause-puts g c =
    let x = rw c.as_slice.ensures.value at c.in-Ok.ensures.whole in (
      x.0,
      too_long_now (g.D.Decide.decides c.args.policy.now) c.args.totals.now c.in-Ok.whole c.args.held.now.items c.args.piece.now
          c.complete-used.new.held.items c.complete-used.result c.body_length.result x.0 c.complete-used.ensures.held x.1 c.in-TooLong.is
          (c.body_length.ensures.value ∙ ap stated_length (take_rest c.deref.result.now c.in-Ok.whole.end ∙ ap (drop c.in-Ok.whole.end) c.deref.ensures.value)),
      x.2,
      x.3,
    )

pub returns-then-whole-eq0-clause-puts : goal.returns-then-whole-eq0-clause-puts
returns-then-whole-eq0-clause-puts g c =
    let x = rw c.as_slice.ensures.value at c.in-Ok.ensures.whole in
    let all = still_unfinished (g.D.Decide.decides c.args.policy.now) c.args.totals.now c.in-Ok.whole c.args.held.now.items c.args.piece.now
    c.complete-used.new.held.items c.complete-used.result x.0 c.complete-used.ensures.held c.complete-used.ensures.all x.1
    (not_too_long c.in-Ok.whole.rest c.in_default.not-TooLong) c.if-whole-eq0.true in
    (x.0, all, x.2, x.3)

pub returns-clause-puts : goal.returns-clause-puts
returns-clause-puts g c =
    let x = rw c.as_slice.ensures.value at c.in-Ok.ensures.whole in
    let y = rw (take_rest c.args.piece.now c.complete-used.result) at c.put_rest-2.ensures.puts in
    let some : 0 < c.in-Ok.whole.end = omega (arith, c.if-whole-eq0.false) in (
      joined x.0 y.0,
      puts_left (g.D.Decide.decides c.args.policy.now) c.args.totals.now c.put_rest-2.new.totals c.in-Ok.whole c.args.held.now.items c.args.piece.now
          c.complete-used.new.held.items c.put_rest-2.new.held.items c.complete-used.result c.put_rest-2.result x.0 y.0
          c.complete-used.ensures.held c.complete-used.ensures.no_more x.1 some y.1,
      both_joined _ _ _ _ _ _ x.0 y.0 x.2 y.2,
      noted_by_on _ (g.D.Decide.gives c.args.policy.now) (g.D.Decide.lets c.args.policy.now) g.W.Watch.notes c.put_rest-2.result c.args.watch.now c.put_frames.new.watch c.put_rest-2.new.watch
          x.0 y.0 x.3 y.3,
    )

pub returns-clause-lines : goal.returns-clause-lines
returns-clause-lines g c = asks_trans _ _ _ c.in-Ok.ensures.lines c.put_rest-2.ensures.lines
