use Rattle.std.proofs.Common.{◌≡◌, ℕ, ◌≤◌, true, false, List, get_or, take}
use Rattle.guard_names.specs.declared.recursion.Mark.TheVariants.{New, Done}
use Rattle.guard_names.specs.Order.{is_listed}
use Rattle.guard_names.specs.inside.Searches.{new_left}
use Rattle.guard_names.proofs.recursion.mark_done.Given as goal

abbrev pub invariant-loop-number : goal.invariant-loop-number
invariant-loop-number l = record {
  listed : (number : ℕ) → is_listed (take l.number-index l.numbers) number ≡ true → get_or l.marks number New ≡ Done;
  others : (number : ℕ) → is_listed (take l.number-index l.numbers) number ≡ false → get_or l.marks number New ≡ get_or l.fn.marks number New;
  left : (us : List (List ℕ)) → new_left l.marks us ≤ new_left l.fn.marks us;
}
