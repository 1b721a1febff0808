-- The elements of a SET OF in the order in which a value of it has them: as their encodings ascend (X.690 11.6).
use Rattle.std.specs.Prelude.{◌≡◌, ℕ, Bool, true, ◌&&◌, List, [], ◌∷◌, Option, Some, None, if◌then◌else◌}
use Rattle.guard_model.specs.AbstractType.{AbstractType}
use Rattle.guard_model.specs.AbstractValue.{AbstractValue}
use Rattle.guard_der.specs.Der.{der}
use Rattle.guard_der.specs.Fits.{descends}
use Rattle.guard_der.specs.ProperConstraints.{is_short}

-- the octets of an encoding, or no octets where there is no encoding
abbrev pub octets_in : Option (List ℕ) → List ℕ
octets_in None = []
octets_in (Some os) = os

abbrev pub encoding_in : AbstractType → AbstractValue → List ℕ
encoding_in t v = octets_in (der t v)

-- the first descends to the second, by their encodings
abbrev pub comes_after : AbstractType → AbstractValue → AbstractValue → Bool
comes_after t v w = descends (encoding_in t v) (encoding_in t w)

-- before the first one that doesn't come before it
abbrev pub inserted : AbstractType → AbstractValue → List AbstractValue → List AbstractValue
inserted t v [] = v ∷ []
inserted t v (w ∷ ws) = if comes_after t v w then w ∷ inserted t v ws else v ∷ w ∷ ws

abbrev pub arranged : AbstractType → List AbstractValue → List AbstractValue
arranged t [] = []
arranged t (v ∷ vs) = inserted t v (arranged t vs)

-- ---- values with their encodings, in that order

pub record EncodedValue : Type 0 where
  pub octets : List ℕ
  pub value : AbstractValue

abbrev pub encoded_value : EncodedValue → AbstractValue
encoded_value e = e.value

abbrev pub inserted_encoding : EncodedValue → List EncodedValue → List EncodedValue
inserted_encoding e [] = e ∷ []
inserted_encoding e (f ∷ fs) = if descends e.octets f.octets then f ∷ inserted_encoding e fs else e ∷ f ∷ fs

abbrev pub arranged_encodings : List EncodedValue → List EncodedValue
arranged_encodings [] = []
arranged_encodings (e ∷ es) = inserted_encoding e (arranged_encodings es)

-- each has its encoding
abbrev pub AreEncodings : AbstractType → List EncodedValue → Type 0
AreEncodings t [] = Unit {0}
AreEncodings t (e ∷ es) = (der t e.value ≡ Some e.octets) × AreEncodings t es

-- Each has an encoding of at most 1,048,576 octets.
abbrev pub are_short : AbstractType → List AbstractValue → Bool
are_short t [] = true
are_short t (v ∷ vs) = is_short (der t v) && are_short t vs
