use Rattle.std.specs.Prelude.{string_bytes}
use Rattle.guard_authors.proofs.cases.no_document_lines.Goals as goal

pub returns : goal.returns
returns c = (string_bytes c.in_ok-note.note, c.in_ok-note.ensures, c.in_ok-format.ensures.ok)
