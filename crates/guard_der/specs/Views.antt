-- The code's results as the definitions see them.
use Rattle.std.specs.Prelude.{ℕ, List, Option, Some, None}
use Rattle.std.specs.Borrow.{Bor}
use Rattle.guard_der.specs.declared.breach.Breach.{Breach}
use Rattle.guard_der.specs.declared.breach.DecodeFault.{DecodeFault}
use Rattle.guard_der.specs.declared.breach.DecodeFault.TheVariants as fault
use Rattle.guard_der.specs.declared.head.Head.{Head as CodeHead}
use Rattle.guard_der.specs.Head.{Head}
use Rattle.guard_der.specs.Breach.{AbstractBreach}

-- with the octets after it
abbrev pub rest_view : ℕ × Bor (List ℕ) → ℕ × List ℕ
rest_view x = (x.0, x.1.now)

abbrev pub head_view : CodeHead → Head
head_view h = record { tag = h.tag; constructed = h.constructed; size = h.size; contents = h.contents }

abbrev pub breach_view : Breach → AbstractBreach
breach_view b = record { code = b.code; at = b.at; path = b.path.items }

-- the breach that a refusal names, where memory didn't run out
abbrev pub breach_of : DecodeFault → Option AbstractBreach
breach_of (fault.Breach b) = Some (breach_view b)
breach_of fault.OutOfMemory = None
