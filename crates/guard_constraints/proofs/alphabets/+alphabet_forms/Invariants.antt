use Rattle.std.proofs.Common.{◌≡◌, drop, map}
use Rattle.guard_syntax.specs.Trees.{united_of}
use Rattle.guard_syntax.specs.SetViews.{joined_intersection_view}
use Rattle.guard_constraints.specs.PermittedAlphabets.{items_of_united}
use Rattle.guard_constraints.specs.inside.Reading.{gathered}
use Rattle.guard_constraints.specs.Views.{item_view}
use Rattle.guard_constraints.proofs.alphabets.+alphabet_forms.Given as goal

abbrev pub invariant-in_united-loop-other : goal.invariant-in_united-loop-other
invariant-in_united-loop-other l =
    gathered l.site (map item_view l.all.items) (items_of_united (united_of (map joined_intersection_view (drop l.other-index l.others))))
    ≡ gathered l.site (map item_view l.initial.all.items) (items_of_united (united_of (map joined_intersection_view l.others)))
