use Rattle.std.proofs.Common.{◌≡◌, drop, map}
use Rattle.guard_syntax.specs.Trees.{alternatives_of}
use Rattle.guard_syntax.specs.TypeViews as written
use Rattle.guard_tagging.specs.Types.{has_tagged_alternative}
use Rattle.guard_tagging.proofs.automatic.has_tagged_alternative.Given as goal

abbrev pub invariant-loop-alternative : goal.invariant-loop-alternative
invariant-loop-alternative l =
    has_tagged_alternative (alternatives_of (map written.alternative_view (drop l.alternative-index l.alternatives)))
    ≡ has_tagged_alternative (alternatives_of (map written.alternative_view l.alternatives))
