use Rattle.std.proofs.Common.{◌≡◌}
use Rattle.guard_model.specs.TypeView.{type_view}
use Rattle.guard_tagcheck.specs.Search.{one_shares_tag}
use Rattle.guard_model.proofs.Components.{left}
use Rattle.guard_tagcheck.proofs.first_tags.+sharing.Given as goal

abbrev pub invariant-one_shares_tag-loop-alternative : goal.invariant-one_shares_tag-loop-alternative
invariant-one_shares_tag-loop-alternative l = one_shares_tag (left l.alternatives l.alternative-index) (type_view l.b) ≡ one_shares_tag (left l.alternatives 0) (type_view l.b)
