-- The test `same` decides equality of abstract values.
use Rattle.std.proofs.Common.{◌≡◌, ℕ, Bool, true, false, List, [], ◌∷◌, Option, Some, None, nat_eq, suc, refl, ap, sym, ◌∙◌, length}
use Rattle.std.specs.Bool.{Decides}
use Rattle.std.specs.Str.{bytes_eq, chars, IsUtf8, encode_utf8_all}
use Rattle.std.proofs.lemmas.Bool.{and_from, and_parts, false_from_ne_true, false≢true}
use Rattle.std.proofs.lemmas.Bool.Decides.{Decides-eqb, Decides-int_eq, Decides-like, same_from_decides}
use Rattle.std.proofs.lemmas.Slice.Eq.{bytes_eq-Decides}
use Rattle.std.proofs.lemmas.Str.{encodes-chars}
use Rattle.std.proofs.lemmas.List.{length-map}
use Rattle.guard_model.specs.AbstractValue.{AbstractValue, Fields, Items, boolean, integer, enumerated, null, bit_string, octet_string, object_identifier, characters, fields, items, chosen, no_fields, present, absent, no_items, item, fields_of, items_of}
use Rattle.guard_model.specs.Same.{same, same_fields, same_items, same_numbers, same_truth}
use Rattle.guard_model.specs.ValueView.{value_view, slot_view, fields_view, items_view}
use Rattle.guard_model.specs.declared.value.Value.{Value}
use Rattle.std.specs.Global.{Global}
use Rattle.std.specs.declared.sync.Arc.{Arc}

pub equal_numbers : (xs ys : List ℕ) → same_numbers xs ys ≡ true → xs ≡ ys
equal_numbers [] [] h = refl
equal_numbers (x ∷ xs) (y ∷ ys) h =
    let first : x ≡ y = (Decides-eqb x y).0 (and_parts _ _ h).0 in
    let others : xs ≡ ys = equal_numbers xs ys (and_parts (nat_eq x y) _ h).1 in
    cc
equal_numbers [] (y ∷ ys) h = absurd (false≢true h)
equal_numbers (x ∷ xs) [] h = absurd (false≢true h)

pub same_numbers_itself : (xs : List ℕ) → same_numbers xs xs ≡ true
same_numbers_itself [] = refl
same_numbers_itself (x ∷ xs) = and_from _ _ ((Decides-eqb x x).1 refl) (same_numbers_itself xs)

pub equal_truth : (a b : Bool) → same_truth a b ≡ true → a ≡ b
equal_truth true b h = sym h
equal_truth false true h = absurd (false≢true h)
equal_truth false false h = refl

pub same_truth_itself : (a : Bool) → same_truth a a ≡ true
same_truth_itself true = refl
same_truth_itself false = refl

mutual
  -- values that are the same are equal
  pub equal_values : (a b : AbstractValue) → same a b ≡ true → a ≡ b
  equal_values (boolean a) (boolean b) h = ap boolean (equal_truth a b h)
  equal_values (integer a) (integer b) h = ap integer ((Decides-int_eq a b).0 h)
  equal_values (enumerated a) (enumerated b) h = ap enumerated ((Decides-int_eq a b).0 h)
  equal_values null null h = refl
  equal_values (bit_string xs m) (bit_string ys n) h =
      let unused : m ≡ n = (Decides-eqb m n).0 (and_parts _ _ h).0 in
      let octets : xs ≡ ys = equal_numbers xs ys (and_parts (nat_eq m n) _ h).1 in
      cc
  equal_values (octet_string xs) (octet_string ys) h = ap octet_string (equal_numbers xs ys h)
  equal_values (object_identifier xs) (object_identifier ys) h = ap object_identifier (equal_numbers xs ys h)
  equal_values (characters xs) (characters ys) h = ap characters (equal_numbers xs ys h)
  equal_values (fields a) (fields b) h = ap fields (equal_fields a b h)
  equal_values (items a) (items b) h = ap items (equal_items a b h)
  equal_values (chosen i a) (chosen j b) h =
      let place : i ≡ j = (Decides-eqb i j).0 (and_parts _ _ h).0 in
      let inside : a ≡ b = equal_values a b (and_parts (nat_eq i j) _ h).1 in
      cc
  equal_values _ _ h = absurd (false≢true h)

  pub equal_fields : (a b : Fields) → same_fields a b ≡ true → a ≡ b
  equal_fields no_fields no_fields h = refl
  equal_fields (present a more) (present b others) h =
      let first : a ≡ b = equal_values a b (and_parts _ _ h).0 in
      let behind : more ≡ others = equal_fields more others (and_parts (same a b) _ h).1 in
      cc
  equal_fields (absent more) (absent others) h = ap absent (equal_fields more others h)
  equal_fields _ _ h = absurd (false≢true h)

  pub equal_items : (a b : Items) → same_items a b ≡ true → a ≡ b
  equal_items no_items no_items h = refl
  equal_items (item a more) (item b others) h =
      let first : a ≡ b = equal_values a b (and_parts _ _ h).0 in
      let behind : more ≡ others = equal_items more others (and_parts (same a b) _ h).1 in
      cc
  equal_items _ _ h = absurd (false≢true h)

mutual
  -- a value is the same as itself
  pub same_itself : (a : AbstractValue) → same a a ≡ true
  same_itself (boolean a) = same_truth_itself a
  same_itself (integer a) = (Decides-int_eq a a).1 refl
  same_itself (enumerated a) = (Decides-int_eq a a).1 refl
  same_itself null = refl
  same_itself (bit_string xs n) = and_from _ _ ((Decides-eqb n n).1 refl) (same_numbers_itself xs)
  same_itself (octet_string xs) = same_numbers_itself xs
  same_itself (object_identifier xs) = same_numbers_itself xs
  same_itself (characters xs) = same_numbers_itself xs
  same_itself (fields a) = same_fields_itself a
  same_itself (items a) = same_items_itself a
  same_itself (chosen i a) = and_from _ _ ((Decides-eqb i i).1 refl) (same_itself a)

  pub same_fields_itself : (a : Fields) → same_fields a a ≡ true
  same_fields_itself no_fields = refl
  same_fields_itself (present a more) = and_from _ _ (same_itself a) (same_fields_itself more)
  same_fields_itself (absent more) = same_fields_itself more

  pub same_items_itself : (a : Items) → same_items a a ≡ true
  same_items_itself no_items = refl
  same_items_itself (item a more) = and_from _ _ (same_itself a) (same_items_itself more)

pub same_from_equal : (a b : AbstractValue) → a ≡ b → same a b ≡ true
same_from_equal a b e = rw e (same_itself b)

-- `same` is true exactly where both are equal
pub same-Decides : (a b : AbstractValue) → Decides (same a b) (a ≡ b)
same-Decides a b = (equal_values a b, same_from_equal a b)

pub same_numbers-Decides : (xs ys : List ℕ) → Decides (same_numbers xs ys) (xs ≡ ys)
same_numbers-Decides xs ys = (equal_numbers xs ys, λ e. rw e (same_numbers_itself ys))

-- texts are equal by their octets where they are by their characters
pub same_characters : (xs ys : List ℕ) → IsUtf8 xs → IsUtf8 ys → bytes_eq xs ys ≡ same_numbers (chars xs) (chars ys)
same_characters xs ys first second =
    same_from_decides _ _ (bytes_eq-Decides xs ys) (Decides-like _ (λ e. sym (encodes-chars xs first) ∙ ap encode_utf8_all e ∙ encodes-chars ys second) (λ e. ap chars e) (same_numbers-Decides (chars xs) (chars ys)))

pub same_fields_long : (xs ys : List (Option AbstractValue)) → same_fields (fields_of xs) (fields_of ys) ≡ true → length xs ≡ length ys
same_fields_long [] [] h = refl
same_fields_long (Some x ∷ xs) (Some y ∷ ys) h = ap suc (same_fields_long xs ys (and_parts (same x y) _ h).1)
same_fields_long (None ∷ xs) (None ∷ ys) h = ap suc (same_fields_long xs ys h)
same_fields_long (Some x ∷ xs) (None ∷ ys) h = absurd (false≢true h)
same_fields_long (None ∷ xs) (Some y ∷ ys) h = absurd (false≢true h)
same_fields_long [] (Some y ∷ ys) h = absurd (false≢true h)
same_fields_long [] (None ∷ ys) h = absurd (false≢true h)
same_fields_long (Some x ∷ xs) [] h = absurd (false≢true h)
same_fields_long (None ∷ xs) [] h = absurd (false≢true h)

pub same_items_long : (xs ys : List AbstractValue) → same_items (items_of xs) (items_of ys) ≡ true → length xs ≡ length ys
same_items_long [] [] h = refl
same_items_long (x ∷ xs) (y ∷ ys) h = ap suc (same_items_long xs ys (and_parts (same x y) _ h).1)
same_items_long [] (y ∷ ys) h = absurd (false≢true h)
same_items_long (x ∷ xs) [] h = absurd (false≢true h)

-- lists of fields of different lengths are not the same
pub fields_apart : (xs ys : List (Arc (Option Value) Global)) → (length xs ≡ length ys → ⊥) → false ≡ same_fields (fields_view xs) (fields_view ys)
fields_apart xs ys h = sym (false_from_ne_true _ (λ e. h (sym (length-map xs slot_view) ∙ same_fields_long _ _ e ∙ length-map ys slot_view)))

pub items_apart : (xs ys : List Value) → (length xs ≡ length ys → ⊥) → false ≡ same_items (items_view xs) (items_view ys)
items_apart xs ys h = sym (false_from_ne_true _ (λ e. h (sym (length-map xs value_view) ∙ same_items_long _ _ e ∙ length-map ys value_view)))
