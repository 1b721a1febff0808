use Rattle.std.proofs.Common.{◌∙◌, sym}
use Rattle.guard_der.proofs.Simple.Texts.{characters_written}
use Rattle.guard_der.proofs.encoding.simple.characters.Goals as goal

pub returns : goal.returns
returns c = c.in_ok-from_slice.ensures.items ∙ c.as_bytes.ensures.value ∙ sym (characters_written c.args.kind c.args.text.now c.utf8.text c.requires)
