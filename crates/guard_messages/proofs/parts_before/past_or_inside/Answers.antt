use Rattle.std.proofs.Common.{◌-◌, Bool, drop, take, option_map, subst}
use Rattle.guard_messages.specs.inside.Spots.{AddsPart, part_view, spot_in_view}
use Rattle.guard_messages.proofs.Spots.{goes_in}
use Rattle.guard_messages.proofs.parts_before.past_or_inside.Goals as goal

pub returns-then-not-branch-clause-lines : goal.returns-then-not-branch-clause-lines
returns-then-not-branch-clause-lines c =
    let octets = c.args.octets.now in
    let s = spot_in_view c.args.spot.now in
    let p = part_view c.args.part in
    let old = c.args.lines.now.items in
    let new = c.add_line.new.lines.items in
    let adds = subst (λ (b : Bool). AddsPart b p (take (c.args.end - s.at) (drop s.at octets)) old new) c.if-not-branch.true c.in_ok-add_line.ensures in
    goes_in octets c.args.breach s c.args.end p old new (option_map spot_in_view c.inside-then-not-branch.result) c.if-end-breach.false adds c.inside-then-not-branch.ensures
