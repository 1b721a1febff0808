-- What the values of the code say.
use Rattle.std.specs.Prelude.{option_map}
use Rattle.guard_tagging.specs.declared.names.Placed as code
use Rattle.guard_tagging.specs.Faults.{Placed}
use Rattle.guard_tagging.specs.inside.ReadNames.{signed_key}

abbrev pub place_view : code.Placed → Placed
place_view p = record { site = p.site; name = p.name.now; number = option_map signed_key p.number }
