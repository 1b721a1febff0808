-- Texts, character by character.
use Rattle.std.proofs.Common.{◌≡◌, ℕ, Bool, true, false, ◌&&◌, cond, List, Option, Some, None, refl}
use Rattle.std.specs.Str.{chars, is_utf8, IsUtf8}
use Rattle.std.proofs.lemmas.Str.{IsUtf8-from_is_utf8, is_utf8-from_IsUtf8}
use Rattle.guard_model.specs.Alphabets.{fits_characters}
use Rattle.guard_model.specs.declared.ty.CharKind.{CharKind}

abbrev pub text_in : CharKind → List ℕ → Option (List ℕ)
text_in k octets = cond (is_utf8 octets && fits_characters k (chars octets)) (Some octets) None

pub is_read : (k : CharKind) (octets : List ℕ) → IsUtf8 octets → fits_characters k (chars octets) ≡ true → Some octets ≡ text_in k octets
is_read k octets spelled fits = rw (is_utf8-from_IsUtf8 octets spelled, fits) refl

pub is_not_read : (k : CharKind) (octets : List ℕ) → IsUtf8 octets → fits_characters k (chars octets) ≡ false → None ≡ text_in k octets
is_not_read k octets spelled fits = rw (is_utf8-from_IsUtf8 octets spelled, fits) refl

unspelled : (k : CharKind) (octets : List ℕ) (b : Bool) → is_utf8 octets ≡ b → (IsUtf8 octets → false ≡ true) → None ≡ text_in k octets
unspelled k octets true e none = let spelled : false ≡ true = none (IsUtf8-from_is_utf8 octets e) in absurd cc
unspelled k octets false e none = rw e refl

pub not_spelled : (k : CharKind) (octets : List ℕ) → (IsUtf8 octets → false ≡ true) → None ≡ text_in k octets
not_spelled k octets none = unspelled k octets (is_utf8 octets) refl none
