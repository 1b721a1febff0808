use Rattle.std.proofs.Common.{inl, inr, refl}
use Rattle.guard_files.specs.Reading.{loaded_view}
use Rattle.guard_authors.proofs.testing.test.Goals as goal

pub returns-in-Ok : goal.returns-in-Ok
returns-in-Ok g c =
    inl (loaded_view c.in-Ok.loaded, g.F.Files.told c.at.new.files, c.in-Ok.ensures.there, c.in-Ok.ensures.later, c.test_beside.ensures)

pub returns : goal.returns
returns g c = inr (c.in-Err.refusal.fault, c.in-Err.ensures.none.0, refl, c.tell.ensures)
