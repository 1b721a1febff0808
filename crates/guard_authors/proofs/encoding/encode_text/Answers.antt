use Rattle.std.proofs.Common.{inl, inr, refl}
use Rattle.guard_files.specs.Remarked.{remarked_view}
use Rattle.guard_authors.proofs.encoding.encode_text.Goals as goal

pub returns-in-Ok-Some : goal.returns-in-Ok-Some
returns-in-Ok-Some g c = inl (remarked_view c.in-Ok-Some.encoded, rw c.in-Ok-Some.field-0-is at c.in-Ok-Some.ensures.encoded, c.write_remarked.ensures)

pub returns-in-Ok-None : goal.returns-in-Ok-None
returns-in-Ok-None g c = inr (inr (c.in-Ok-None.ensures.unframed c.in-Ok-None.field-0-is, refl, c.tell_text.ensures))

pub returns-in-Err : goal.returns-in-Err
returns-in-Err g c = inr (inl (c.in-Err.fault, c.in-Err.ensures.none, refl, c.tell_no_value.ensures))
