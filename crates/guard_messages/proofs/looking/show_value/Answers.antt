use Rattle.std.proofs.Common.{◌∙◌, ap, false, inl, inr, refl}
use Rattle.std.specs.Prelude.{option_map}
use Rattle.guard_frames.specs.Bodies.{body_view}
use Rattle.guard_policy.specs.Policies.{AbstractRoute}
use Rattle.guard_files.specs.Explaining.{IsNoPolicyWith}
use Rattle.guard_files.proofs.GivenAnswers.{gives}
use Rattle.guard_messages.specs.Questions.{asked_route, question_view, spot_view}
use Rattle.guard_messages.specs.Deciding.{IsHeldShown, held_in}
use Rattle.guard_messages.proofs.looking.show_value.Goals as goal

pub returns-in-Ok : goal.returns-in-Ok
returns-in-Ok g c =
    let later = g.F.Files.told c.find.new.files in
    let q = question_view c.args.question.now in
    let s = c.show_held in
    let spot = spot_view c.in-Some.spot in
    let same = c.held_in-held.ensures ∙ ap (λ (r : AbstractRoute). held_in r spot c.deref.result.now) c.route_asked.ensures
    ∙ ap (held_in (asked_route q) spot) c.deref.ensures.value in
    rw (← c.in-Some.ensures) (
      c.find.ensures.unread,
      inl (
        c.in-Ok.octets.items,
        later,
        c.in-Ok.ensures.found,
        rw (← same)
            (gives (IsHeldShown q later (option_map body_view c.held_in-held.result)) (IsNoPolicyWith false later q.policy) _ _ c.give.result s.result
            s.ensures.shown s.ensures.none c.give.ensures.written c.give.ensures.told),
      ),
    )

pub returns-in-Err : goal.returns-in-Err
returns-in-Err g c =
    rw (← c.in-Some.ensures) (c.find.ensures.unread, inr (c.in-Err.reason, c.in-Err.ensures.unfound, refl, c.tell_unfound.ensures))
