use Rattle.std.proofs.Common.{◌≡◌, ℕ, List, length, Option, Some, None, ap, sym, ◌∙◌}
use Rattle.std.specs.Prelude.{IfSome, IsTrue}
use Rattle.std.specs.Str.{chars}
use Rattle.guard_model.specs.Alphabets.{fits_characters}
use Rattle.guard_der.specs.Contents.{character_octets}
use Rattle.guard_der.specs.Encoding.{short}
use Rattle.guard_der.proofs.Simple.Texts.{characters_written}
use Rattle.guard_der.proofs.lengths.characters_length.Goals as goal

where_told : (found : Option ℕ) (octets : List ℕ) (P : Type 0) (written : List ℕ) → (P → written ≡ octets) → found ≡ short (length octets) → IfSome found (λ n. P → short (length written) ≡ Some n)
where_told None octets P written same is = tt
where_told (Some n) octets P written same is = λ fit. ap (λ (os : List ℕ). short (length os)) (same fit) ∙ sym is

pub returns-clause-short : goal.returns-clause-short
returns-clause-short c =
    where_told c.within.result c.args.text.now (IsTrue (fits_characters c.args.kind (chars c.args.text.now))) (character_octets c.args.kind (chars c.args.text.now))
    (characters_written c.args.kind c.args.text.now c.utf8.text) c.within.ensures.value
