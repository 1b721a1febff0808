use Rattle.std.proofs.Common.{inl, inr, refl}
use Rattle.guard_files.specs.Reading.{loaded_view}
use Rattle.guard_authors.proofs.encoding.encode.Goals as goal

pub returns-in-Ok : goal.returns-in-Ok
returns-in-Ok g c = inl (loaded_view c.in-Ok.loaded, c.in-Ok.ensures.there, c.encode_under.ensures)

pub returns : goal.returns
returns g c = inr (c.in-Err.refusal.fault, c.in-Err.ensures.none.0, (refl, refl), refl, c.tell.ensures)
