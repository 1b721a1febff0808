-- How many octets the elements of a list have, in turn and in any order.
use Rattle.std.proofs.Common.{◌≡◌, ℕ, ◌+◌, ◌-◌, ◌≤◌, Bool, true, false, cond, List, [], ◌∷◌, ◌++◌, length, Option, Some, None, Ok, Err, refl, sym, ap, ◌∙◌, arith}
use Rattle.std.specs.Prelude.{nat_le}
use Rattle.std.proofs.lemmas.Bool.{leb-true}
use Rattle.std.proofs.lemmas.List.{length-append}
use Rattle.guard_model.specs.declared.site.Site.{Site}
use Rattle.guard_model.specs.AbstractType.{AbstractType}
use Rattle.guard_model.specs.AbstractValue.{AbstractValue, items_of}
use Rattle.guard_der.specs.Der.{der, item_encodings, joined, ◌>>=◌}
use Rattle.guard_der.specs.Encoding.{longest_encoding, short, short_length}
use Rattle.guard_der.proofs.Functions.Lengths.{short_low}
use Rattle.guard_model.proofs.Results.{same_Ok}
use Rattle.guard_values.specs.declared.fault.ValueFault.TheVariants.{TooLarge}
use Rattle.guard_values.specs.Arrangement.{inserted, arranged, comes_after}
use Rattle.guard_values.specs.inside.Lengths.{short_sum}
use Rattle.guard_values.specs.inside.Reading.{room_without, room_after}
use Rattle.guard_values.proofs.Counting.Sums.{size, short_size, total, total_swap, total_regroup, total_zero, sum_short}

-- the elements' encodings, one after another
abbrev pub items_joined : AbstractType → List AbstractValue → Option (List ℕ)
items_joined u vs = item_encodings (der u) (items_of vs) >>= λ es. Some (joined es)

added_by : (first : Option (List ℕ)) (others : Option (List (List ℕ))) → size ((first >>= λ os. others >>= λ es. Some (os ∷ es)) >>= λ es. Some (joined es)) ≡ total (size first) (size (others >>= λ es. Some (joined es)))
added_by None others = refl
added_by (Some os) None = refl
added_by (Some os) (Some es) = ap (λ (n : ℕ). Some n) (length-append os (joined es))

pub item_added : (u : AbstractType) (v : AbstractValue) (vs : List AbstractValue) → size (items_joined u (v ∷ vs)) ≡ total (size (der u v)) (size (items_joined u vs))
item_added u v vs = added_by (der u v) (item_encodings (der u) (items_of vs))

-- ---- in another order

inserted_size : (u : AbstractType) (v : AbstractValue) (vs : List AbstractValue) → size (items_joined u (inserted u v vs)) ≡ size (items_joined u (v ∷ vs))
inserted_size u v [] = refl
inserted_size u v (w ∷ ws) = here (comes_after u v w) (inserted_size u v ws) where
  here : (b : Bool) → size (items_joined u (inserted u v ws)) ≡ size (items_joined u (v ∷ ws)) → size (items_joined u (cond b (w ∷ inserted u v ws) (v ∷ w ∷ ws))) ≡ size (items_joined u (v ∷ w ∷ ws))
  here true later =
      item_added u w (inserted u v ws) ∙ ap (total (size (der u w))) (later ∙ item_added u v ws) ∙ total_swap (size (der u w)) (size (der u v)) (size (items_joined u ws))
      ∙ sym (item_added u v (w ∷ ws) ∙ ap (total (size (der u v))) (item_added u w ws))
  here false later = refl

pub arranged_size : (u : AbstractType) (vs : List AbstractValue) → size (items_joined u (arranged u vs)) ≡ size (items_joined u vs)
arranged_size u [] = refl
arranged_size u (v ∷ vs) = inserted_size u v (arranged u vs) ∙ item_added u v (arranged u vs) ∙ ap (total (size (der u v))) (arranged_size u vs) ∙ sym (item_added u v vs)

pub arranged_short : (u : AbstractType) (vs : List AbstractValue) → short_length (items_joined u (arranged u vs)) ≡ short_length (items_joined u vs)
arranged_short u vs = short_size (items_joined u (arranged u vs)) ∙ ap (λ (n : Option ℕ). n >>= short) (arranged_size u vs) ∙ sym (short_size (items_joined u vs))

-- ---- one more at the end

last_size : (u : AbstractType) (vs : List AbstractValue) (v : AbstractValue) → size (items_joined u (vs ++ v ∷ [])) ≡ total (size (items_joined u vs)) (size (der u v))
last_size u [] v = item_added u v [] ∙ total_zero (size (der u v))
last_size u (w ∷ ws) v =
    item_added u w (ws ++ v ∷ []) ∙ ap (total (size (der u w))) (last_size u ws v) ∙ total_regroup (size (der u w)) (size (items_joined u ws)) (size (der u v))
    ∙ ap (λ (n : Option ℕ). total n (size (der u v))) (sym (item_added u w ws))

-- what is left of the room after an element
room_used : (site : Site) (room left : ℕ) (n : Option ℕ) → room_without site room n ≡ Ok left → (k : ℕ) × (n ≡ Some k) × (k + left ≡ room)
room_used site room left None e = absurd cc
room_used site room left (Some k) e = here (nat_le k room) refl e where
  here : (b : Bool) → nat_le k room ≡ b → cond b (Ok (room - k)) (Err (TooLarge site)) ≡ Ok left → (j : ℕ) × (Some k ≡ Some j) × (j + left ≡ room)
  here true within is = let le = leb-true k room within in let same : room - k ≡ left = same_Ok (room - k) left is in (k, refl, omega (arith, le, same))
  here false within is = absurd cc

-- an element is counted, and what is left for those after it
pub last_counted : (u : AbstractType) (vs : List AbstractValue) (v : AbstractValue) (site : Site) (room left : ℕ) → short_length (items_joined u vs) ≡ Some (longest_encoding - room) → room ≤ longest_encoding
    → room_without site room (short_length (der u v)) ≡ Ok left → (short_length (items_joined u (vs ++ v ∷ [])) ≡ Some (longest_encoding - left)) × (left ≤ longest_encoding)
last_counted u vs v site room left so_far low took =
    let used = room_used site room left (short_length (der u v)) took in
    let sum : short_length (items_joined u (vs ++ v ∷ [])) ≡ short_sum (short_length (items_joined u vs)) (short_length (der u v)) =
    short_size (items_joined u (vs ++ v ∷ [])) ∙ ap (λ (n : Option ℕ). n >>= short) (last_size u vs v) ∙ sym (sum_short (size (items_joined u vs)) (size (der u v)))
    ∙ ap (λ (n : Option ℕ). short_sum n (size (der u v) >>= short)) (sym (short_size (items_joined u vs))) ∙ ap (short_sum (short_length (items_joined u vs))) (sym (short_size (der u v))) in
    let whole : (longest_encoding - room) + used.0 ≡ longest_encoding - left = omega (arith, used.2, low) in
    let within : longest_encoding - left ≤ longest_encoding = omega arith in (
      sum ∙ ap (λ (n : Option ℕ). short_sum n (short_length (der u v))) so_far ∙ ap (short_sum (Some (longest_encoding - room))) used.1 ∙ ap short whole ∙ short_low (longest_encoding - left) within,
      omega (arith, used.2, low),
    )

-- it is no more than before, also where nothing is counted
pub room_low : (counted : Bool) (site : Site) (room left : ℕ) (n : Option ℕ) → room ≤ longest_encoding → cond counted (room_without site room n) (Ok room) ≡ Ok left → left ≤ longest_encoding
room_low true site room left n low e = let used = room_used site room left n e in omega (arith, used.2, low)
room_low false site room left n low e = let same : room ≡ left = same_Ok room left e in omega (arith, same, low)

-- as the definition has it, which looks at the value
pub room_told : (counted : Bool) (site : Site) (t : AbstractType) (v : AbstractValue) (room : ℕ) (n : Option ℕ) → (counted ≡ true → n ≡ short_length (der t v)) → cond counted (room_without site room n) (Ok room) ≡ room_after counted site t v room
room_told true site t v room n told = ap (room_without site room) (told refl)
room_told false site t v room n told = refl
