use Rattle.std.proofs.Common.{refl}
use Rattle.guard_authors.proofs.encoding.encode_given.Goals as goal

pub returns-in-Some : goal.returns-in-Some
returns-in-Some g c = rw c.in-Some.is ((refl, refl), rw c.as_bytes.ensures.value at c.encode_text.ensures)

pub returns-in-None : goal.returns-in-None
returns-in-None g c = rw c.in-None.is c.encode_read.ensures
