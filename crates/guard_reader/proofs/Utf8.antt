-- Octets that are UTF-8, and those that aren't.
use Rattle.std.proofs.Common.{◌≡◌, ℕ, Bool, true, false, List, refl}
use Rattle.std.specs.Str.{IsUtf8, is_utf8}
use Rattle.std.proofs.lemmas.Str.{IsUtf8-from_is_utf8}

tested : (os : List ℕ) (b : Bool) → is_utf8 os ≡ b → (IsUtf8 os → ⊥) → b ≡ false
tested os true e none = absurd (none (IsUtf8-from_is_utf8 os e))
tested os false e none = refl

pub not_spelled : (os : List ℕ) → (IsUtf8 os → ⊥) → is_utf8 os ≡ false
not_spelled os none = tested os (is_utf8 os) refl none
