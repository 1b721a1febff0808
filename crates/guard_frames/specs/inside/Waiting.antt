-- What may wait to be put.
use Rattle.std.specs.Prelude.{◌<◌, ℕ, List, length}
use Rattle.guard_frames.specs.Calls.{EndsLine}

-- nothing, or whole lines
abbrev pub AreLines : List ℕ → Type 0
AreLines octets = 0 < length octets → EndsLine octets
