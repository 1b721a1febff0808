use Rattle.std.proofs.Common.{◌≡◌, ◌-◌, Some, length, sym, ◌∙◌, subst}
use Rattle.std.specs.List.{slice_get}
use Rattle.guard_names.proofs.Recursive.Lists.{pending_before, last_element}
use Rattle.guard_names.proofs.recursion.next_use.Goals as goal

pub returns-then-last-start-clause-none : goal.returns-then-last-start-clause-none
returns-then-last-start-clause-none c = λ rises.
    let was : Some c.in_ok-last.last ≡ slice_get c.args.pending.now.items (length c.args.pending.now.items - 1) =
    subst (λ x. Some c.in_ok-last.last ≡ slice_get x (length x - 1)) c.deref.ensures.value (sym c.in_ok-last.was ∙ c.copied.ensures ∙ c.last.ensures.value) in
    pending_before c.args.pending.now.items c.in_ok-last.last c.args.start (last_element c.args.pending.now.items c.in_ok-last.last was) rises c.if-last-start.true
