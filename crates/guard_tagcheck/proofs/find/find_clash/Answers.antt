use Rattle.guard_tagcheck.proofs.Finding.{found_distinct, distinct_found, found_is_clash, clash_is_found}
use Rattle.guard_tagcheck.proofs.find.find_clash.Goals as goal

pub returns-clause-distinct : goal.returns-clause-distinct
returns-clause-distinct c = found_distinct c.args.ty.now c.first_clash.result c.first_clash.ensures

pub returns-clause-accepted : goal.returns-clause-accepted
returns-clause-accepted c = distinct_found c.args.ty.now c.first_clash.result c.first_clash.ensures

pub returns-clause-clash : goal.returns-clause-clash
returns-clause-clash c = found_is_clash c.args.ty.now c.first_clash.result c.first_clash.ensures

pub returns-clause-only : goal.returns-clause-only
returns-clause-only c = clash_is_found c.args.ty.now c.first_clash.result c.first_clash.ensures
