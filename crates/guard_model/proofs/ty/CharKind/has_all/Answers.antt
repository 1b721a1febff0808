use Rattle.std.proofs.Common.{sym}
use Rattle.std.proofs.lemmas.Str.{scalars-chars}
use Rattle.guard_model.proofs.ty.CharKind.has_all.Goals as goal

pub returns-in-Utf8 : goal.returns-in-Utf8
returns-in-Utf8 c = rw c.in-Utf8.is (sym (scalars-chars c.args.text.now c.utf8.text))
