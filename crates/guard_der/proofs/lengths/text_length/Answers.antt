use Rattle.std.proofs.Common.{ℕ, List, length, ap, sym, ◌∙◌}
use Rattle.guard_der.specs.Encoding.{short}
use Rattle.guard_der.proofs.Simple.Texts.{characters_written}
use Rattle.guard_der.proofs.lengths.text_length.Goals as goal

pub returns : goal.returns
returns c = c.within.ensures.value ∙ ap (λ (os : List ℕ). short (length os)) (sym (characters_written c.args.kind c.args.text.now c.utf8.text c.requires))
