use Rattle.std.proofs.Common.{ap, sym, ◌∙◌}
use Rattle.guard_syntax.specs.inside.ReadTokens.{site_at}
use Rattle.guard_syntax.proofs.values.+values.Goals as goal

-- an entry without a name begins where its value does
pub entry-entry_of-requires : goal.entry-entry_of-requires
entry-entry_of-requires t c = λ none. c.in_ok-value.ensures.site ∙ ap site_at (c.in_ok-name.ensures.none none) ∙ sym c.site.ensures
