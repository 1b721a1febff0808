-- Equality of abstract values, as a test.
use Rattle.std.specs.Prelude.{ℕ, Bool, true, false, ◌&&◌, List, [], ◌∷◌, nat_eq}
use Rattle.std.specs.Ordering.{int_eq}
use Rattle.guard_model.specs.AbstractValue.{AbstractValue, Fields, Items, boolean, integer, enumerated, null, bit_string, octet_string, object_identifier, characters, fields, items, chosen, no_fields, present, absent, no_items, item}

abbrev pub same_numbers : List ℕ → List ℕ → Bool
same_numbers [] [] = true
same_numbers (x ∷ xs) (y ∷ ys) = nat_eq x y && same_numbers xs ys
same_numbers [] (y ∷ ys) = false
same_numbers (x ∷ xs) [] = false

abbrev pub same_truth : Bool → Bool → Bool
same_truth true b = b
same_truth false true = false
same_truth false false = true

abbrev mutual
  pub same : AbstractValue → AbstractValue → Bool
  same (boolean a) (boolean b) = same_truth a b
  same (integer a) (integer b) = int_eq a b
  same (enumerated a) (enumerated b) = int_eq a b
  same null null = true
  same (bit_string xs m) (bit_string ys n) = nat_eq m n && same_numbers xs ys
  same (octet_string xs) (octet_string ys) = same_numbers xs ys
  same (object_identifier xs) (object_identifier ys) = same_numbers xs ys
  same (characters xs) (characters ys) = same_numbers xs ys
  same (fields a) (fields b) = same_fields a b
  same (items a) (items b) = same_items a b
  same (chosen i a) (chosen j b) = nat_eq i j && same a b
  same _ _ = false

  pub same_fields : Fields → Fields → Bool
  same_fields no_fields no_fields = true
  same_fields (present a as') (present b bs) = same a b && same_fields as' bs
  same_fields (absent as') (absent bs) = same_fields as' bs
  same_fields _ _ = false

  pub same_items : Items → Items → Bool
  same_items no_items no_items = true
  same_items (item a as') (item b bs) = same a b && same_items as' bs
  same_items _ _ = false
