use Rattle.std.proofs.Common.{sym, refl, subst}
use Rattle.std.specs.Prelude.{take, drop}
use Rattle.guard_lexer.specs.Lexing.{item_fault}
use Rattle.guard_lexer.proofs.LongestItems.{IsFound, is_found}
use Rattle.guard_lexer.proofs.ReadItems.{item-from, no_item, item_fault_named, none_from_is_some}
use Rattle.guard_lexer.proofs.lexer.read_item.Goals as goal

pub returns-in_default-clause-fault : goal.returns-in_default-clause-fault
returns-in_default-clause-fault c =
    λ before at. no_item c.args.site.text before c.args.left.now c.args.site c.no_item_fault.result c.requires.some (sym c.in_default.ensures) at c.no_item_fault.ensures.0 c.no_item_fault.ensures.1

pub item_fault-requires-clause-within : goal.item_fault-requires-clause-within
item_fault-requires-clause-within c = (subst (IsFound c.args.left.now) (sym c.in-Some.ensures) (is_found c.args.left.now)).1

pub item_fault-requires-clause-item : goal.item_fault-requires-clause-item
item_fault-requires-clause-item c = (subst (IsFound c.args.left.now) (sym c.in-Some.ensures) (is_found c.args.left.now)).2

pub returns-in-Some-item_fault-clause-fault : goal.returns-in-Some-item_fault-clause-fault
returns-in-Some-item_fault-clause-fault c =
    let p = c.in-Some.item in
    let left = c.args.left.now in
    λ before at. item_fault_named c.args.site.text before left p (item_fault p.kind (take p.len left) (drop p.len left)) c.in-Some-item_fault.fault (sym c.in-Some.ensures) refl (c.in-Some-item_fault.ensures.named before at)

pub returns-in-None-clause-item : goal.returns-in-None-clause-item
returns-in-None-clause-item c =
    item-from c.args.left.now c.in-Some.item (sym c.in-Some.ensures) (none_from_is_some _ c.in-None.ensures.found)
