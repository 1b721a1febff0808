use Rattle.std.proofs.Common.{map}
use Rattle.guard_syntax.specs.ModuleViews.{module_view}
use Rattle.guard_names.proofs.ByNames.Found.{lists_inside, first_within, recursive_fault, acyclic_so}
use Rattle.guard_names.proofs.resolution.check_recursion.Goals as goal

pub first_recursive-requires : goal.first_recursive-requires
first_recursive-requires c = lists_inside (map module_view c.args.modules.now) c.requires.named (map (λ v. v.items) c.args.uses.now) c.requires.used

pub recursive-requires : goal.recursive-requires
recursive-requires c = first_within (map module_view c.args.modules.now) c.requires.named (map (λ v. v.items) c.args.uses.now) c.requires.used c.in-Some.number (rw c.in-Some.is at c.in_ok-number.ensures)

pub returns-in-Some-clause-refused : goal.returns-in-Some-clause-refused
returns-in-Some-clause-refused c =
    recursive_fault (map module_view c.args.modules.now) c.requires.named (map (λ v. v.items) c.args.uses.now) c.requires.used c.in-Some.number (rw c.in-Some.is at c.in_ok-number.ensures) c.recursive.result c.recursive.ensures

pub returns-in-None-clause-acyclic : goal.returns-in-None-clause-acyclic
returns-in-None-clause-acyclic c = acyclic_so (map module_view c.args.modules.now) c.requires.named (map (λ v. v.items) c.args.uses.now) c.requires.used (rw c.in-None.is at c.in_ok-number.ensures)
