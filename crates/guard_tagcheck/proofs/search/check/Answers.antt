use Rattle.std.proofs.Common.{ap, Err}
use Rattle.guard_model.specs.TypeView.{type_view}
use Rattle.guard_tagcheck.specs.Views.{clash_view}
use Rattle.guard_tagcheck.proofs.SearchLoops.{found, found_none}
use Rattle.guard_tagcheck.proofs.Clashes.{type_some, type_none}
use Rattle.guard_tagcheck.proofs.OneClash.{one_clash, not_distinct}
use Rattle.guard_tagcheck.proofs.search.check.Goals as goal

pub returns-in-Some-clause-accepted : goal.returns-in-Some-clause-accepted
returns-in-Some-clause-accepted c = λ distinct.
    absurd (not_distinct (type_view c.args.ty.now) (clash_view c.in-Some.clash)
    (type_some (type_view c.args.ty.now) (clash_view c.in-Some.clash) (found c.args.ty.now c.first_clash.result c.in-Some.clash c.in-Some.is c.first_clash.ensures)) distinct)

pub returns-in-Some-clause-clash : goal.returns-in-Some-clause-clash
returns-in-Some-clause-clash c = type_some (type_view c.args.ty.now) (clash_view c.in-Some.clash) (found c.args.ty.now c.first_clash.result c.in-Some.clash c.in-Some.is c.first_clash.ensures)

pub returns-in-Some-clause-only : goal.returns-in-Some-clause-only
returns-in-Some-clause-only c = λ other is.
    ap Err (one_clash (type_view c.args.ty.now) other (clash_view c.in-Some.clash) is
    (type_some (type_view c.args.ty.now) (clash_view c.in-Some.clash) (found c.args.ty.now c.first_clash.result c.in-Some.clash c.in-Some.is c.first_clash.ensures)))

pub returns-in-None-clause-distinct : goal.returns-in-None-clause-distinct
returns-in-None-clause-distinct c = type_none (type_view c.args.ty.now) (found_none c.args.ty.now c.first_clash.result c.in-None.is c.first_clash.ensures)

pub returns-in-None-clause-only : goal.returns-in-None-clause-only
returns-in-None-clause-only c = λ other is.
    absurd (not_distinct (type_view c.args.ty.now) other is (type_none (type_view c.args.ty.now) (found_none c.args.ty.now c.first_clash.result c.in-None.is c.first_clash.ensures)))
