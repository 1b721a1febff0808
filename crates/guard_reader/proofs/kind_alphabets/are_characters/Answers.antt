use Rattle.guard_reader.proofs.KindAlphabets.{any_utf8}
use Rattle.guard_reader.proofs.kind_alphabets.are_characters.Goals as goal

pub returns-in-Utf8 : goal.returns-in-Utf8
returns-in-Utf8 c = any_utf8 c.args.kind c.in-Utf8.is c.args.inside.now
