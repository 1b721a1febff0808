-- What the code's answers mean.
use Rattle.std.specs.Arc.{arc_str_bytes}
use Rattle.guard_tagcheck.specs.declared.clash.Clash.{Clash}
use Rattle.guard_tagcheck.specs.declared.in_common.InCommon.{InCommon}
use Rattle.guard_tagcheck.specs.Distinct.{AbstractClash}
use Rattle.guard_tagcheck.specs.InCommon.{AbstractCommon}

abbrev pub clash_view : Clash → AbstractClash
clash_view c = record { path = c.path.items; first = c.first; second = c.second }

abbrev pub common_view : InCommon → AbstractCommon
common_view c = record { first = arc_str_bytes c.first; second = arc_str_bytes c.second; tag = c.tag }
