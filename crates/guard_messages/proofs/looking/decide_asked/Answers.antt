use Rattle.std.proofs.Common.{◌∙◌, ap, inl, inr, refl}
use Rattle.std.specs.Prelude.{option_map}
use Rattle.guard_frames.specs.Bodies.{body_view}
use Rattle.guard_policy.specs.Policies.{AbstractRoute}
use Rattle.guard_files.specs.Explaining.{IsNoPolicyWith}
use Rattle.guard_files.proofs.GivenAnswers.{gives}
use Rattle.guard_messages.specs.Questions.{asked_route, question_view, spot_view}
use Rattle.guard_messages.specs.Decided.{IsHeldDecided}
use Rattle.guard_messages.specs.Deciding.{held_in}
use Rattle.guard_messages.proofs.looking.decide_asked.Goals as goal

pub returns-in-Ok : goal.returns-in-Ok
returns-in-Ok g c =
    let later = g.F.Files.told c.find.new.files in
    let q = question_view c.args.question.now in
    let octets = c.in-Ok.octets.items in
    let d = c.decide_held-decided in
    let spot = spot_view c.in-Some.spot in
    let same = c.held_in-held.ensures ∙ ap (λ (r : AbstractRoute). held_in r spot c.deref.result.now) c.route_asked.ensures
    ∙ ap (held_in (asked_route q) spot) c.deref.ensures.value in
    rw (← c.in-Some.ensures) (
      c.find.ensures.unread,
      inl (
        octets,
        later,
        c.in-Ok.ensures.found,
        rw (← same)
            (gives (IsHeldDecided q later spot (option_map body_view c.held_in-held.result) octets) (IsNoPolicyWith q.explain later q.policy) _ _ c.give.result d.result
            (rw c.deref-in-Ok.ensures.value at d.ensures.decided) d.ensures.none c.give.ensures.written c.give.ensures.told),
      ),
    )

pub returns-in-Err : goal.returns-in-Err
returns-in-Err g c =
    rw (← c.in-Some.ensures) (c.find.ensures.unread, inr (c.in-Err.reason, c.in-Err.ensures.unfound, refl, c.tell_unfound.ensures))
