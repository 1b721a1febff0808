-- The numbers that calls answer.
use Rattle.std.specs.Prelude.{◌≡◌, ℕ}
use Rattle.guard_c.specs.declared.status.Status.{Status}
use Rattle.guard_c.specs.declared.status.Status.TheVariants.{Done, Refused, OutOfMemory, NoPolicy, NoLink, BadNames, TooSmall, FrameTooLong, WriteFailed, Closed, TornFrame}

-- as `derguard.h` has them
abbrev pub number : Status → ℕ
number Done = 0
number Refused = 1
number OutOfMemory = 2
number NoPolicy = 3
number NoLink = 4
number BadNames = 5
number TooSmall = 6
number FrameTooLong = 7
number WriteFailed = 8
number Closed = 9
number TornFrame = 10

-- The number is that of a status, and this holds of the call that ended so.
abbrev pub Answers : ℕ → (Status → Type 0) → Type 0
Answers n Ends = (status : Status) × (n ≡ number status) × Ends status
