-- What comes of octets that are put, by the answer: the sink took all of them, or a part and failed.
use Rattle.std.specs.Prelude.{ℕ, List, Result, Ok, Err}
use Rattle.guard_frames.specs.declared.devices.Failed.{Failed}
use Rattle.guard_files.specs.Devices.{Device}
use Rattle.guard_files.specs.Writing.{TookAll, TookPart}

abbrev pub Puts : List ℕ → Result (Unit {0}) Failed → Device → Type 0
Puts octets (Ok done) sink = TookAll octets sink
Puts octets (Err f) sink = TookPart octets sink
