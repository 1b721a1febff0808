use Rattle.std.proofs.lemmas.Result.{IfOk-weaker}
use Rattle.guard_frames.specs.Bodies.{body_view}
use Rattle.guard_policy.specs.PolicyView.{route_view}
use Rattle.guard_authors.specs.Differing.{comparison_view, texts_view}
use Rattle.guard_authors.proofs.FramesCompared.{line_is}
use Rattle.guard_authors.proofs.differing.body_line.Goals as goal

pub returns : goal.returns
returns c =
    IfOk-weaker c.compared_line.result _ _ (λ line e.
    line_is (comparison_view c.args.comparison.now) c.args.number (body_view c.args.body.now) (route_view c.route_of-route.result)
    (texts_view c.in_ok-old.old) (texts_view c.in_ok-new.new) line.items c.route_of-route.ensures c.in_ok-old.ensures
    c.in_ok-new.ensures e) c.compared_line.ensures
