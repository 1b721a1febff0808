use Rattle.std.proofs.Common.{◌≡◌, ℕ, List, map, take}
use Rattle.guard_policy.specs.SaidView.{said_view}
use Rattle.guard_policy.specs.inside.Listings.{numbers_for}
use Rattle.guard_policy.proofs.MessageNumbers.{items_of, found}
use Rattle.guard_policy.proofs.numbered.Numbered.of.Given as goal

abbrev pub invariant-loop-number : goal.invariant-loop-number
invariant-loop-number l = (name : List ℕ) → items_of (found name l.named.entries) ≡ numbers_for name 0 (map said_view (take l.number l.rules))
