use Rattle.std.proofs.Common.{◌∙◌}
use Rattle.guard_frames.specs.Added.{Added}
use Rattle.guard_frames.specs.GatewayView.{gateway_view}
use Rattle.guard_streams.specs.inside.Following.{AreNoted}
use Rattle.guard_streams.proofs.Doings.{fed_of, fed_there, same_length}
use Rattle.guard_streams.proofs.Followed.{noted_followed}
use Rattle.guard_streams.proofs.sinks.feed_link.Goals as goal

pub answer_of-requires : goal.answer_of-requires
answer_of-requires c =
    let s = c.step.ensures in
    fed_there (gateway_view c.args.gateway.now) (gateway_view c.step.new.self) c.args.link c.args.octets.now c.step.result
    s.added c.requires.link c.requires.ready.many s.step

pub returns : goal.returns
returns c =
    let s = c.step.ensures in
    fed_of c.args.gateway.now c.step.new.self c.args.link c.args.octets.now c.step.result c.answer_of.result s.added
    c.requires.ready.empty
    (same_length c.args.gateway.now ∙ c.requires.ready.many) c.requires.link c.answer_of.ensures s.step s.took
    (λ (x : Added). AreNoted (gateway_view c.args.gateway.now).policy c.args.followed.now x c.step.new.watch)
    (λ well. noted_followed (gateway_view c.args.gateway.now).policy c.args.followed.now c.step.new.watch s.added (s.noted well))
