use Rattle.std.proofs.Common.{inl, inr, refl}
use Rattle.guard_authors.proofs.comparing.compare.Goals as goal

pub returns-in-Some : goal.returns-in-Some
returns-in-Some g c = inl (c.in-Some.origin, c.in-Some.ensures.some, c.compare_under.ensures)

pub returns-in-None : goal.returns-in-None
returns-in-None g c = inr (c.origin_of.ensures.none c.in-None.is, ((refl, refl), refl, c.tell_text.ensures))
