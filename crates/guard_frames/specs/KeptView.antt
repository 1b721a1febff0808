-- What contracts see of a sink in memory.
use Rattle.std.specs.Prelude.{ℕ, Bool, List}
use Rattle.guard_frames.specs.declared.kept.Kept.{Kept}

-- the octets that it took since it was new, or since it was last emptied
abbrev pub kept_octets : Kept → List ℕ
kept_octets sink = sink.kept.items

-- whether it has failed
abbrev pub kept_failed : Kept → Bool
kept_failed sink = sink.is_broken
