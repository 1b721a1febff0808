-- Where the answer is that nothing meets what is asked, nothing does.
use Rattle.std.proofs.Common.{◌↔◌, ◌≡◌, ℕ, suc, ◌+◌, ℤ, Bool, true, false, not, ◌&&◌, ◌||◌, List, [], ◌∷◌, Some, true≢false, refl, sym, ap, ◌∙◌, subst, arith}
use Rattle.std.specs.Prelude.{pos, negsuc, ◌^◌, ◌-◌, IsTrue, int_le, ◌≤ℤ◌, ◌<ℤ◌, ◌+ℤ◌}
use Rattle.guard_integers.specs.Integers.{Integers, holds, only_fitting}
use Rattle.std.specs.List.{list_any, list_all}
use Rattle.std.proofs.lemmas.Bool.{and_parts}
use Rattle.std.proofs.lemmas.Bool.Decides.{nat_tests}
use Rattle.std.proofs.lemmas.Int.{ints, by_lt_z}
use Rattle.guard_model.specs.AbstractType as type
use Rattle.guard_model.specs.AbstractType.{AbstractType, AbstractKind, AbstractPresence, Components, NamedNumber, type_of, no_components, component}
use Rattle.guard_model.specs.AbstractValue as value
use Rattle.guard_model.specs.AbstractValue.{AbstractValue, Fields}
use Rattle.guard_model.specs.Kinds.{is_integer}
use Rattle.guard_model.specs.Limits.{fits_128_bits}
use Rattle.guard_model.specs.declared.ty.CharKind.{CharKind}
use Rattle.guard_der.specs.Fits.{fits, fits_kind, fits_fields, may_be_absent}
use Rattle.guard_eval.specs.Elements.{size_of}
use Rattle.guard_eval.specs.Member.{is_member, holds as has_value, all_hold, parts_are_members}
use Rattle.guard_eval.specs.Presence.{field_at}
use Rattle.guard_tables.specs.Demands.{Demand, by_type, by_constraint, meets}
use Rattle.guard_policy.specs.Barren.{starts_of, least_number, demand_has_number, all_have_number, have_no_number, demand_may_have_size, is_size, have_no_size, demands_within, has_no_value, kind_has_no_value, some_has_no_value, BarrenShareNothing, IntegersAreTold}
use Rattle.guard_policy.proofs.Starts.{last_of, low_bound, high_bound, next_fits, same_demands}
use Rattle.guard_policy.proofs.SizesOfValues.{size_of_demands, kept_demands}
use Rattle.guard_policy.proofs.Within.{met, demands_met}

not_both : (b : Bool) → not b ≡ true → b ≡ true → ⊥
not_both true n e = true≢false (sym n)
not_both false n e = true≢false (sym e)

both_true : (a b : Bool) → a ≡ true → b ≡ true → (a && b) ≡ true
both_true a b e f = ap (λ (x : Bool). x && b) e ∙ f

pub no_number : (asked : List Demand) (z : ℤ) → fits_128_bits z ≡ true → all_have_number asked z ≡ true → have_no_number asked ≡ true → ⊥
no_number asked z z_fits all none =
    let l = last_of z least_number (starts_of asked) refl (low_bound z z_fits) in
    not_both (list_any (λ x. fits_128_bits x && all_have_number asked x) (least_number ∷ starts_of asked)) none
    (l.among (λ x. fits_128_bits x && all_have_number asked x)
    (both_true (fits_128_bits l.last) (all_have_number asked l.last) l.fits (same_demands l.last z l.below l.fits z_fits asked l.reaches ∙ all)))

pub no_size : (asked : List Demand) (n : ℕ) → list_all (demand_may_have_size (pos n)) asked ≡ true → have_no_size asked ≡ true → ⊥
no_size asked n all none =
    let least : pos 0 ≤ℤ pos n = omega (arith, ints) in
    let l = last_of (pos n) (pos 0) (starts_of asked) refl least in
    let above = l.above in
    let sized : is_size l.last ≡ true = both_true (fits_128_bits l.last) (int_le (pos 0) l.last) l.fits (grind (arith, ints, nat_tests, above)) in
    not_both (list_any (λ z. is_size z && list_all (demand_may_have_size z) asked) (pos 0 ∷ starts_of asked)) none
    (l.among (λ z. is_size z && list_all (demand_may_have_size z) asked)
    (both_true (is_size l.last) (list_all (demand_may_have_size l.last) asked) sized (kept_demands l.last (pos n) l.below l.fits asked l.reaches all)))

no_sized : (asked : List Demand) (v : AbstractValue) (n : ℕ) → size_of v ≡ Some n → met asked v ≡ true → have_no_size asked ≡ true → ⊥
no_sized asked v n sized all none = no_size asked n (size_of_demands v n sized asked all) none

-- an integer that meets all is one that all have
one_number : (d : Demand) (z : ℤ) → meets d (value.integer z) ≡ true → demand_has_number z d ≡ true
one_number (by_type t) z h = h
one_number (by_constraint kind c) z h = or_so (not (is_integer kind)) (has_value c kind (value.integer z)) h
  where
    or_so : (a b : Bool) → b ≡ true → (a || b) ≡ true
    or_so true b h = refl
    or_so false b h = h

all_numbers : (asked : List Demand) (z : ℤ) → met asked (value.integer z) ≡ true → all_have_number asked z ≡ true
all_numbers [] z h = refl
all_numbers (d ∷ ds) z h =
    let both = and_parts (meets d (value.integer z)) (met ds (value.integer z)) h in
    both_true (demand_has_number z d) (all_have_number ds z) (one_number d z both.0) (all_numbers ds z both.1)

-- ---- values that fit

abbrev Fielded : AbstractValue → Type 0
Fielded v = (fs : Fields) × (v ≡ value.fields fs)

fielded : (cs : Components) (v : AbstractValue) → fits_kind (type.sequence cs) v ≡ true → Fielded v
fielded cs (value.boolean b) h = absurd cc
fielded cs (value.integer z) h = absurd cc
fielded cs (value.enumerated z) h = absurd cc
fielded cs value.null h = absurd cc
fielded cs (value.bit_string os unused) h = absurd cc
fielded cs (value.octet_string os) h = absurd cc
fielded cs (value.object_identifier arcs) h = absurd cc
fielded cs (value.characters os) h = absurd cc
fielded cs (value.fields fs) h = (fs, refl)
fielded cs (value.items vs) h = absurd cc
fielded cs (value.chosen i v) h = absurd cc

set_fielded : (cs : Components) (v : AbstractValue) → fits_kind (type.set cs) v ≡ true → Fielded v
set_fielded cs (value.boolean b) h = absurd cc
set_fielded cs (value.integer z) h = absurd cc
set_fielded cs (value.enumerated z) h = absurd cc
set_fielded cs value.null h = absurd cc
set_fielded cs (value.bit_string os unused) h = absurd cc
set_fielded cs (value.octet_string os) h = absurd cc
set_fielded cs (value.object_identifier arcs) h = absurd cc
set_fielded cs (value.characters os) h = absurd cc
set_fielded cs (value.fields fs) h = (fs, refl)
set_fielded cs (value.items vs) h = absurd cc
set_fielded cs (value.chosen i v) h = absurd cc

-- it has a size
abbrev Sized : AbstractValue → Type 0
Sized v = (n : ℕ) × (size_of v ≡ Some n)

bits_sized : (names : List NamedNumber) (v : AbstractValue) → fits_kind (type.bit_string names) v ≡ true → Sized v
bits_sized names (value.boolean b) h = absurd cc
bits_sized names (value.integer z) h = absurd cc
bits_sized names (value.enumerated z) h = absurd cc
bits_sized names value.null h = absurd cc
bits_sized names (value.bit_string os unused) h = (_, refl)
bits_sized names (value.octet_string os) h = absurd cc
bits_sized names (value.object_identifier arcs) h = absurd cc
bits_sized names (value.characters os) h = absurd cc
bits_sized names (value.fields fs) h = absurd cc
bits_sized names (value.items vs) h = absurd cc
bits_sized names (value.chosen i v) h = absurd cc

octets_sized : (v : AbstractValue) → fits_kind type.octet_string v ≡ true → Sized v
octets_sized (value.boolean b) h = absurd cc
octets_sized (value.integer z) h = absurd cc
octets_sized (value.enumerated z) h = absurd cc
octets_sized value.null h = absurd cc
octets_sized (value.bit_string os unused) h = absurd cc
octets_sized (value.octet_string os) h = (_, refl)
octets_sized (value.object_identifier arcs) h = absurd cc
octets_sized (value.characters os) h = absurd cc
octets_sized (value.fields fs) h = absurd cc
octets_sized (value.items vs) h = absurd cc
octets_sized (value.chosen i v) h = absurd cc

characters_sized : (k : CharKind) (v : AbstractValue) → fits_kind (type.characters k) v ≡ true → Sized v
characters_sized k (value.boolean b) h = absurd cc
characters_sized k (value.integer z) h = absurd cc
characters_sized k (value.enumerated z) h = absurd cc
characters_sized k value.null h = absurd cc
characters_sized k (value.bit_string os unused) h = absurd cc
characters_sized k (value.octet_string os) h = absurd cc
characters_sized k (value.object_identifier arcs) h = absurd cc
characters_sized k (value.characters os) h = (_, refl)
characters_sized k (value.fields fs) h = absurd cc
characters_sized k (value.items vs) h = absurd cc
characters_sized k (value.chosen i v) h = absurd cc

items_sized : (t : AbstractType) (v : AbstractValue) → fits_kind (type.sequence_of t) v ≡ true → Sized v
items_sized t (value.boolean b) h = absurd cc
items_sized t (value.integer z) h = absurd cc
items_sized t (value.enumerated z) h = absurd cc
items_sized t value.null h = absurd cc
items_sized t (value.bit_string os unused) h = absurd cc
items_sized t (value.octet_string os) h = absurd cc
items_sized t (value.object_identifier arcs) h = absurd cc
items_sized t (value.characters os) h = absurd cc
items_sized t (value.fields fs) h = absurd cc
items_sized t (value.items vs) h = (_, refl)
items_sized t (value.chosen i v) h = absurd cc

set_sized : (t : AbstractType) (v : AbstractValue) → fits_kind (type.set_of t) v ≡ true → Sized v
set_sized t (value.boolean b) h = absurd cc
set_sized t (value.integer z) h = absurd cc
set_sized t (value.enumerated z) h = absurd cc
set_sized t value.null h = absurd cc
set_sized t (value.bit_string os unused) h = absurd cc
set_sized t (value.octet_string os) h = absurd cc
set_sized t (value.object_identifier arcs) h = absurd cc
set_sized t (value.characters os) h = absurd cc
set_sized t (value.fields fs) h = absurd cc
set_sized t (value.items vs) h = (_, refl)
set_sized t (value.chosen i v) h = absurd cc

-- those from a place on
abbrev FieldsFrom : ℕ → Fields → Fields → Type 0
FieldsFrom i gs fs = (k : ℕ) → field_at k gs ≡ field_at (i + k) fs

from_first : (fs : Fields) → FieldsFrom 0 fs fs
from_first fs k = let same : k ≡ 0 + k = omega arith in ap (λ n. field_at n fs) same

next_fields : (i : ℕ) (v : AbstractValue) (gs fs : Fields) → FieldsFrom i (value.present v gs) fs → FieldsFrom (suc i) gs fs
next_fields i v gs fs h k = let same : i + suc k ≡ suc i + k = omega arith in h (suc k) ∙ ap (λ n. field_at n fs) same

next_absent : (i : ℕ) (gs fs : Fields) → FieldsFrom i (value.absent gs) fs → FieldsFrom (suc i) gs fs
next_absent i gs fs h k = let same : i + suc k ≡ suc i + k = omega arith in h (suc k) ∙ ap (λ n. field_at n fs) same

either : (a b : Bool) → (a || b) ≡ true → (a ≡ true → ⊥) → (b ≡ true → ⊥) → ⊥
either true b e f g = f refl
either false b e f g = g e

no_absent : (a b : Bool) → a ≡ true → (not a && b) ≡ true → ⊥
no_absent true b e h = true≢false (sym h)
no_absent false b e h = true≢false (sym e)

mutual
  nothing_of_type : (t : AbstractType) (asked : List Demand) (v : AbstractValue) → fits t v ≡ true → met asked v ≡ true → has_no_value t asked ≡ true → ⊥
  nothing_of_type (type_of tags kind cons) asked v f all none = nothing_of_kind kind asked v f all none

  nothing_of_kind : (kind : AbstractKind) (asked : List Demand) (v : AbstractValue) → fits_kind kind v ≡ true → met asked v ≡ true → kind_has_no_value kind asked ≡ true → ⊥
  nothing_of_kind type.boolean asked v f all none = absurd cc
  nothing_of_kind type.null asked v f all none = absurd cc
  nothing_of_kind type.object_identifier asked v f all none = absurd cc
  nothing_of_kind (type.enumerated items) asked v f all none = absurd cc
  nothing_of_kind (type.choice alternatives) asked v f all none = absurd cc
  nothing_of_kind (type.integer names) asked (value.integer z) f all none = no_number asked z f (all_numbers asked z all) none
  nothing_of_kind (type.integer names) asked (value.boolean b) f all none = absurd cc
  nothing_of_kind (type.integer names) asked (value.enumerated z) f all none = absurd cc
  nothing_of_kind (type.integer names) asked value.null f all none = absurd cc
  nothing_of_kind (type.integer names) asked (value.bit_string os unused) f all none = absurd cc
  nothing_of_kind (type.integer names) asked (value.octet_string os) f all none = absurd cc
  nothing_of_kind (type.integer names) asked (value.object_identifier arcs) f all none = absurd cc
  nothing_of_kind (type.integer names) asked (value.characters os) f all none = absurd cc
  nothing_of_kind (type.integer names) asked (value.fields fs) f all none = absurd cc
  nothing_of_kind (type.integer names) asked (value.items vs) f all none = absurd cc
  nothing_of_kind (type.integer names) asked (value.chosen i v) f all none = absurd cc
  nothing_of_kind (type.bit_string names) asked v f all none = let s = bits_sized names v f in no_sized asked v s.0 s.1 all none
  nothing_of_kind type.octet_string asked v f all none = let s = octets_sized v f in no_sized asked v s.0 s.1 all none
  nothing_of_kind (type.characters k) asked v f all none = let s = characters_sized k v f in no_sized asked v s.0 s.1 all none
  nothing_of_kind (type.sequence_of t) asked v f all none = let s = items_sized t v f in no_sized asked v s.0 s.1 all none
  nothing_of_kind (type.set_of t) asked v f all none = let s = set_sized t v f in no_sized asked v s.0 s.1 all none
  nothing_of_kind (type.sequence cs) asked v f all none =
      let p = fielded cs v f in
      nothing_in_some 0 cs asked p.0 p.0 (subst (λ (x : AbstractValue). fits_kind (type.sequence cs) x ≡ true) p.1 f) (from_first p.0) (subst (λ (x : AbstractValue). met asked x ≡ true) p.1 all) none
  nothing_of_kind (type.set cs) asked v f all none =
      let p = set_fielded cs v f in
      nothing_in_some 0 cs asked p.0 p.0 (subst (λ (x : AbstractValue). fits_kind (type.set cs) x ≡ true) p.1 f) (from_first p.0) (subst (λ (x : AbstractValue). met asked x ≡ true) p.1 all) none

  nothing_in_some : (i : ℕ) (cs : Components) (asked : List Demand) (gs fs : Fields) → fits_fields cs gs ≡ true → FieldsFrom i gs fs → met asked (value.fields fs) ≡ true
      → some_has_no_value i cs asked ≡ true → ⊥
  nothing_in_some i no_components asked gs fs f from all none = absurd cc
  nothing_in_some i (component name t presence cs) asked value.no_fields fs f from all none = absurd cc
  nothing_in_some i (component name t presence cs) asked (value.present v gs) fs f from all none =
      let two = and_parts (fits t v) (fits_fields cs gs) f in
      let same : i ≡ i + 0 = omega arith in
      let here : field_at i fs ≡ Some v = ap (λ n. field_at n fs) same ∙ sym (from 0) in
      either (not (may_be_absent presence) && has_no_value t (demands_within i asked)) (some_has_no_value (suc i) cs asked) none
      (λ h. nothing_of_type t (demands_within i asked) v two.0 (demands_met fs i v here asked all) (and_parts (not (may_be_absent presence)) (has_no_value t (demands_within i asked)) h).1)
      (nothing_in_some (suc i) cs asked gs fs two.1 (next_fields i v gs fs from) all)
  nothing_in_some i (component name t presence cs) asked (value.absent gs) fs f from all none =
      let two = and_parts (may_be_absent presence) (fits_fields cs gs) f in
      either (not (may_be_absent presence) && has_no_value t (demands_within i asked)) (some_has_no_value (suc i) cs asked) none
      (no_absent (may_be_absent presence) (has_no_value t (demands_within i asked)) two.0)
      (nothing_in_some (suc i) cs asked gs fs two.1 (next_absent i gs fs from) all)

member_fits : (t : AbstractType) (v : AbstractValue) → is_member t v ≡ true → fits t v ≡ true
member_fits (type_of tags kind cons) v h = (and_parts (fits_kind kind v) (all_hold cons kind v) (and_parts (fits_kind kind v && all_hold cons kind v) (parts_are_members kind v) h).0).0

pub barren_share_nothing : BarrenShareNothing
barren_share_nothing declared t v barren member other =
    nothing_of_type declared (by_type declared ∷ by_type t ∷ []) v (member_fits declared v member)
    (ap (λ (b : Bool). b && (is_member t v && true)) member ∙ ap (λ (b : Bool). b && true) other) barren

-- ---- of integers all is known

-- what has no integer has none where it may begin
pub none_at : (f : ℤ → Bool) (xs : List ℤ) → ((x : ℤ) → f x ≡ false) → not (list_any f xs) ≡ true
none_at f [] none = refl
none_at f (x ∷ xs) none = ap not (ap (λ (b : Bool). b || list_any f xs) (none x)) ∙ none_at f xs none

pub integers_are_told : IntegersAreTold
integers_are_told tags names cons t apart =
    let declared = type_of tags (type.integer names) cons in
    let asked = by_type declared ∷ by_type t ∷ [] in
    none_at (λ z. fits_128_bits z && all_have_number asked z) (least_number ∷ starts_of asked)
    (λ z. neither (fits_128_bits z) (is_member declared (value.integer z)) (is_member t (value.integer z)) (apart z))
  where
    neither : (s a b : Bool) → (a ≡ true → b ≡ true → ⊥) → (s && (a && (b && true))) ≡ false
    neither true true true h = absurd (h refl refl)
    neither true true false h = refl
    neither true false b h = refl
    neither false a b h = refl

-- ---- a set of what meets all that is asked

-- it is empty exactly where the definition says that nothing does
told_by : (f : ℤ → Bool) (told : Bool) (set : Integers) (empty : Bool) → IsTrue empty ↔ ((z : ℤ) → holds set z ≡ false) → ((z : ℤ) → holds set z ≡ f z)
    → (((z : ℤ) → f z ≡ false) → told ≡ true) → ((z : ℤ) → f z ≡ true → told ≡ true → ⊥) → empty ≡ told
told_by f told set true tests same if_none if_some = sym (if_none (λ z. sym (same z) ∙ tests.0 refl z))
told_by f told set false tests same if_none if_some =
    (elim told as (λ (b : Bool). told ≡ b → false ≡ b) [
      | false ↦ λ none. refl
      | true ↦ λ none. absurd (true≢false (sym (tests.1 (λ z. same z ∙ is_not (f z) (λ some. if_some z some none)))))
    ]) refl
  where
    is_not : (b : Bool) → (b ≡ true → ⊥) → b ≡ false
    is_not true h = absurd (h refl)
    is_not false h = refl

pub numbers_told : (asked : List Demand) (set : Integers) (empty : Bool) → IsTrue empty ↔ ((z : ℤ) → holds set z ≡ false)
    → ((z : ℤ) → holds set z ≡ (fits_128_bits z && all_have_number asked z)) → empty ≡ have_no_number asked
numbers_told asked set empty tests same =
    told_by (λ z. fits_128_bits z && all_have_number asked z) (have_no_number asked) set empty tests same
    (none_at (λ z. fits_128_bits z && all_have_number asked z) (least_number ∷ starts_of asked))
    (λ z some. let both = and_parts (fits_128_bits z) (all_have_number asked z) some in no_number asked z both.0 both.1)

pub sizes_told : (asked : List Demand) (set : Integers) (empty : Bool) → IsTrue empty ↔ ((z : ℤ) → holds set z ≡ false)
    → ((z : ℤ) → holds set z ≡ (is_size z && list_all (demand_may_have_size z) asked)) → empty ≡ have_no_size asked
sizes_told asked set empty tests same =
    told_by (λ z. is_size z && list_all (demand_may_have_size z) asked) (have_no_size asked) set empty tests same
    (none_at (λ z. is_size z && list_all (demand_may_have_size z) asked) (pos 0 ∷ starts_of asked)) some_size
  where
    below : (a b : Bool) → ((a && false) && b) ≡ false
    below true b = refl
    below false b = refl

    some_size : (z : ℤ) → (is_size z && list_all (demand_may_have_size z) asked) ≡ true → have_no_size asked ≡ true → ⊥
    some_size (pos n) some = no_size asked n (and_parts (is_size (pos n)) (list_all (demand_may_have_size (pos n)) asked) some).1
    some_size (negsuc n) some = absurd (true≢false (sym some ∙ below (fits_128_bits (negsuc n)) (list_all (demand_may_have_size (negsuc n)) asked)))

pub whole : (b : Bool) → (b && true) ≡ b
whole true = refl
whole false = refl

-- a set is empty where it hasn't the least integer, and is alike up to the greatest
alike_to_end : (set : Integers) (last : ℤ) → holds set least_number ≡ false → ((z : ℤ) → least_number ≤ℤ z → z ≤ℤ last → holds set z ≡ holds set least_number)
    → pos (2 ^ 127 - 1) ≤ℤ last → (z : ℤ) → holds set z ≡ false
alike_to_end set last first alike all z =
    (elim (fits_128_bits z) as (λ (b : Bool). fits_128_bits z ≡ b → holds set z ≡ false) [
      | true ↦ λ fits. let high = high_bound z fits in alike z (low_bound z fits) (omega (arith, ints, all, high)) ∙ first
      | false ↦ λ past. only_fitting set z ∙ ap (λ (b : Bool). b && holds set z) past
    ]) refl

-- where it is alike up to a lesser one, it has the next
unlike_next : (set : Integers) (last : ℤ) → last <ℤ pos (2 ^ 127 - 1) → least_number ≤ℤ last
    → (fits_128_bits (last +ℤ pos 1) ≡ true → holds set (last +ℤ pos 1) ≡ not (holds set least_number))
    → ((z : ℤ) → holds set z ≡ false) → ⊥
unlike_next set last less above next none =
    true≢false (ap not (sym (none least_number)) ∙ sym (next (next_fits last less above)) ∙ none (last +ℤ pos 1))

le_true : (a b : ℤ) → int_le a b ≡ true → a ≤ℤ b
le_true a b e = by_lt_z {P = a ≤ℤ b} b a (λ less. absurd (let no : int_le a b ≡ false = grind (arith, ints, nat_tests, less) in true≢false (sym e ∙ no))) (λ done. done)

true_le : (a b : ℤ) → a ≤ℤ b → int_le a b ≡ true
true_le a b le = grind (arith, ints, nat_tests, le)

-- so that shows whether it is empty
pub empty_exactly : (set : Integers) (last : ℤ) (ends : Bool) → holds set least_number ≡ false
    → ((z : ℤ) → least_number ≤ℤ z → z ≤ℤ last → holds set z ≡ holds set least_number) → least_number ≤ℤ last
    → (fits_128_bits (last +ℤ pos 1) ≡ true → holds set (last +ℤ pos 1) ≡ not (holds set least_number))
    → ends ≡ int_le (pos (2 ^ 127 - 1)) last → IsTrue ends ↔ ((z : ℤ) → holds set z ≡ false)
empty_exactly set last ends first alike above next tests = (
  λ is. alike_to_end set last first alike (le_true (pos (2 ^ 127 - 1)) last (sym tests ∙ is)),
  λ none. by_lt_z {P = ends ≡ true} last (pos (2 ^ 127 - 1)) (λ less. absurd (unlike_next set last less above next none))
      (λ done. tests ∙ true_le (pos (2 ^ 127 - 1)) last done),
)
