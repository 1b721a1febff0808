use Rattle.std.proofs.Common.{◌≡◌, suc}
use Rattle.guard_model.specs.TypeView.{type_view}
use Rattle.guard_tagcheck.specs.Search.{partner}
use Rattle.guard_model.proofs.Components.{left}
use Rattle.guard_tagcheck.proofs.search.partner.Given as goal

abbrev pub invariant-loop-later : goal.invariant-loop-later
invariant-loop-later l = partner l.in_sequence (type_view l.ty) l.later (left l.comps l.later) ≡ partner l.in_sequence (type_view l.ty) (suc l.index) (left l.comps (suc l.index))
