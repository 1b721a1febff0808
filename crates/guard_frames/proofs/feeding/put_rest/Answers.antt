use Rattle.std.proofs.Common.{◌≡◌, List, ℕ, ap, subst, sym, ◌∙◌, drop}
use Rattle.std.proofs.lemmas.List.{take_rest}
use Rattle.guard_frames.specs.Frames.{stated_length, IsUnfinished, IsTooLong}
use Rattle.guard_frames.specs.Added.{Added}
use Rattle.guard_frames.specs.Feeding.{Decides}
use Rattle.guard_frames.specs.Cutting.{IsRest}
use Rattle.guard_frames.specs.Reasons.{Noted}
use Rattle.guard_frames.proofs.Holding.{broken_puts}
use Rattle.guard_frames.proofs.Leavings.{broken_noted, broken_failed}
use Rattle.guard_frames.proofs.feeding.put_rest.Goals as goal

pub returns-in-Err-clause-puts : goal.returns-in-Err-clause-puts
returns-in-Err-clause-puts g c =
    let d = g.D.Decide.decides c.args.policy.now in
    let so : Added → Type 0 =
    λ added. Noted (g.D.Decide.gives c.args.policy.now) (g.D.Decide.lets c.args.policy.now) g.W.Watch.notes c.args.watch.now added c.put_frames.new.watch in
    let x = c.in-Err.ensures.failure in (
      x.0,
      broken_puts d c.args.totals.now c.broken_at.new.totals c.args.piece.now c.args.held.now.items c.in-Err.broken c.broken_at.result x.0 so x.1 c.broken_at.ensures,
      x.2,
      broken_noted d c.args.totals.now c.broken_at.new.totals c.args.piece.now c.in-Err.broken c.broken_at.result x.0 so x.1 c.broken_at.ensures,
    )

pub returns-in-Err-clause-failed : goal.returns-in-Err-clause-failed
returns-in-Err-clause-failed g c =
    broken_failed c.in-Err.broken c.broken_at.result c.broken_at.new.totals _ _ c.in-Err.ensures.failed c.broken_at.ensures

pub returns-in-TooLong-clause-puts : goal.returns-in-TooLong-clause-puts
returns-in-TooLong-clause-puts g c =
    let x = c.in-Ok.ensures.whole in
    let w = c.in-Ok.whole in
    let long : IsTooLong (drop w.end c.args.piece.now) = subst (IsRest (drop w.end c.args.piece.now)) c.in-TooLong.is x.1.next in
    let stated = c.body_length.ensures.value ∙ ap stated_length (take_rest c.args.piece.now w.end) in
    (x.0, (record { rest = drop w.end c.args.piece.now; decided = x.1.decided; too_long = long }, stated), x.2, x.3)

pub returns-in-Unfinished-clause-puts : goal.returns-in-Unfinished-clause-puts
returns-in-Unfinished-clause-puts g c =
    let d = g.D.Decide.decides c.args.policy.now in
    let x = c.in-Ok.ensures.whole in
    let w = c.in-Ok.whole in
    let p = c.args.piece.now in
    let held : c.hold.new.held.items ≡ drop w.end p = c.hold.ensures.held ∙ take_rest p w.end in
    let rest : IsUnfinished (drop w.end p) = subst (IsRest (drop w.end p)) c.in-Unfinished.is x.1.next in
    let decided : Decides d c.args.totals.now p c.hold.new.held.items w.totals x.0 =
    subst (λ (r : List ℕ). Decides d c.args.totals.now p r w.totals x.0) (sym held) x.1.decided in
    (x.0, (decided, rw held rest), x.2, x.3)
