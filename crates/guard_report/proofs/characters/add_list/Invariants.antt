use Rattle.std.proofs.Common.{◌≡◌, ◌++◌, length, drop}
use Rattle.std.specs.Str.{chars}
use Rattle.guard_report.specs.declared.characters.Last.TheVariants.{Nothing}
use Rattle.guard_report.specs.inside.Listing.{still_to_come}
use Rattle.guard_report.proofs.characters.add_list.Given as goal

-- what is written, with what is still to come, is the whole list
abbrev pub invariant-loop-character : goal.invariant-loop-character
invariant-loop-character l =
    l.text.items ++ still_to_come l.kind l.last (drop (length l.yielded) (chars l.string)) ≡ l.initial.text.items ++ still_to_come l.kind Nothing (chars l.string)
