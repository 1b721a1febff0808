-- What contracts see of a reader or a writer, beside itself.
use Rattle.std.specs.Prelude.{Bool}
use Rattle.guard_frames.specs.declared.through.Through.{Through}

-- whether it has failed
abbrev pub through_failed : {T : Type 0} → Through T → Bool
through_failed device = device.is_broken
