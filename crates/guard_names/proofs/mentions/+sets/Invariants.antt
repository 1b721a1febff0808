use Rattle.std.proofs.Common.{◌≡◌, ◌++◌, map, drop}
use Rattle.guard_syntax.specs.Trees.{united_of, met_of, parts_of}
use Rattle.guard_syntax.specs.SetViews.{joined_intersection_view, joined_difference_view, part_view}
use Rattle.guard_names.specs.Mentions as mentions
use Rattle.guard_names.specs.inside.Views.{mention_view}
use Rattle.guard_names.proofs.mentions.+sets.Given as goal

abbrev pub invariant-add_united-loop-joined : goal.invariant-add_united-loop-joined
invariant-add_united-loop-joined l =
    map mention_view l.into.items ++ mentions.in_united (united_of (map joined_intersection_view (drop l.joined-index l.others)))
    ≡ map mention_view l.fn.into.items ++ mentions.in_united (united_of (map joined_intersection_view l.others))

abbrev pub invariant-add_met-loop-joined : goal.invariant-add_met-loop-joined
invariant-add_met-loop-joined l =
    map mention_view l.into.items ++ mentions.in_met (met_of (map joined_difference_view (drop l.joined-index l.others)))
    ≡ map mention_view l.fn.into.items ++ mentions.in_met (met_of (map joined_difference_view l.others))

abbrev pub invariant-add_parts-loop-part : goal.invariant-add_parts-loop-part
invariant-add_parts-loop-part l =
    map mention_view l.into.items ++ mentions.in_parts (parts_of (map part_view (drop l.part-index l.parts)))
    ≡ map mention_view l.fn.into.items ++ mentions.in_parts (parts_of (map part_view l.parts))
