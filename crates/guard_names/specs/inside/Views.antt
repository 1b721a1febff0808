-- What the definitions see of values of the code.
use Rattle.guard_names.specs.Mentions as mentions
use Rattle.guard_names.specs.declared.mentions.Mention.{Mention}

abbrev pub mention_view : Mention → mentions.Mention
mention_view m = record { site = m.site; kind = m.kind; name = m.name.now }
