use Rattle.std.proofs.Common.{◌-◌, length, take, drop}
use Rattle.guard_der.proofs.Functions.Arcs.{first_written, one_more}
use Rattle.guard_der.proofs.encoding.simple.object_identifier.Goals as goal

pub loop-arc-init : goal.loop-arc-init
loop-arc-init c = first_written c.args.arcs.now c.new-out.result.items c.push_base_128.new.out.items c.in-len2-up.len_at_least c.new-out.ensures.items c.in_ok-push_base_128.ensures

pub loop-arc-preserved : goal.loop-arc-preserved
loop-arc-preserved c =
    one_more (take (length c.args.arcs.now - 2) (drop 2 c.args.arcs.now)) c.loop-arc.arc-index c.loop-arc.out.items c.push_base_128-in-loop-arc.new.out.items _ c.loop-arc-test.true c.in_ok-push_base_128-2.ensures c.loop-arc.invariant
