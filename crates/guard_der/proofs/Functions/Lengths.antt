-- How many octets an encoding has, as it is counted part after part.
use Rattle.std.proofs.Common.{◌≡◌, ℕ, ◌+◌, ◌<◌, ◌≤◌, ◌^◌, Bool, true, false, cond, List, [], ◌∷◌, ◌++◌, length, get_or, Option, Some, None, refl, sym, ap, ◌∙◌, append_assoc, arith}
use Rattle.std.specs.Prelude.{nat_le, nat_lt, option_and_then}
use Rattle.std.proofs.lemmas.Bool.{cond_both, cond-true, le-leb, lt-leb, leb-true, leb-false, lt-ltb}
use Rattle.std.proofs.lemmas.List.{length-append}
use Rattle.guard_model.specs.declared.tag.Tag.{Tag}
use Rattle.guard_model.specs.declared.ty.Comp.{Comp}
use Rattle.guard_model.specs.declared.ty.Kind.TheViews.{out-Ty}
use Rattle.guard_model.specs.declared.ty.Ty.{Ty}
use Rattle.guard_model.specs.AbstractType.{AbstractType}
use Rattle.guard_model.specs.AbstractValue.{AbstractValue}
use Rattle.guard_model.specs.TypeView.{type_view, kind_view}
use Rattle.guard_model.proofs.TypeViews.{type_view_is}
use Rattle.guard_der.specs.Der.{Part, der, contents_octets, is_constructed, parts_joined, ascending, insert_part, tag_before, ◌>>=◌}
use Rattle.guard_der.specs.Element.{element, identifier_octets, length_octets, tagged}
use Rattle.guard_der.specs.Encoding.{longest_encoding, short, short_length, header_length, length_in}
use Rattle.guard_der.specs.Octets.{base_128}
use Rattle.guard_der.specs.inside.EncodingSteps.{with_parts, sequence_octets, set_octets}
use Rattle.guard_der.specs.inside.Lengths.{short_after}
use Rattle.guard_der.proofs.Functions.Encoding.{Slot, others, sent_of, next_sent}

-- ---- the limit

pub short_low : (n : ℕ) → n ≤ longest_encoding → short n ≡ Some n
short_low n h = ap (λ (b : Bool). cond {A = Option ℕ} b (Some n) None) (le-leb n longest_encoding h)

pub short_high : (n : ℕ) → longest_encoding < n → short n ≡ None
short_high n h = ap (λ (b : Bool). cond {A = Option ℕ} b (Some n) None) (lt-leb n longest_encoding h)

-- what is said of a sum that is cut off where it is too great
cut_off : (n k r : ℕ) (b : Bool) → nat_le (n + k) longest_encoding ≡ b → short (n + (k + r)) ≡ (short (n + k) >>= λ m. short (m + r))
cut_off n k r true e =
    let whole : n + (k + r) ≡ (n + k) + r = omega arith in
    ap short whole ∙ sym (ap (λ (x : Option ℕ). x >>= λ m. short (m + r)) (short_low (n + k) (leb-true (n + k) longest_encoding e)))
cut_off n k r false e =
    let high : longest_encoding < n + k = leb-false (n + k) longest_encoding e in
    short_high (n + (k + r)) (omega (arith, high)) ∙ sym (ap (λ (x : Option ℕ). x >>= λ m. short (m + r)) (short_high (n + k) high))

pub short_more : (n k r : ℕ) → short (n + (k + r)) ≡ (short (n + k) >>= λ m. short (m + r))
short_more n k r = cut_off n k r (nat_le (n + k) longest_encoding) refl

-- ---- tags

same_count : (b : Bool) (x y z w : ℕ) (os : List ℕ) → length (cond b (x ∷ []) (y ∷ os)) ≡ length (cond b (z ∷ []) (w ∷ os))
same_count true x y z w os = refl
same_count false x y z w os = refl

-- the identifier of a constructed encoding is as long as that of a primitive one
same_header : (t : Tag) (constructed : Bool) → length (identifier_octets t constructed) ≡ length (identifier_octets t false)
unfolding identifier_octets
same_header t constructed = same_count (nat_lt t.number 31) _ _ _ _ (base_128 t.number)

with_header : (t : Tag) (constructed : Bool) (os : List ℕ) → length ((identifier_octets t constructed ++ length_octets (length os)) ++ os) ≡ length os + header_length t (length os)
with_header t constructed os =
    let first = length-append (identifier_octets t constructed ++ length_octets (length os)) os in
    let second = length-append (identifier_octets t constructed) (length_octets (length os)) in
    omega (arith, first, second, same_header t constructed)

element_by : (t : Tag) (constructed : Bool) (os : List ℕ) (low : Bool) → nat_le (length os) longest_encoding ≡ low → short_length (element t constructed os) ≡ (short (length os) >>= λ k. short (k + header_length t k))
unfolding element
element_by t constructed os true e =
    let low = leb-true (length os) longest_encoding e in
    ap short_length (cond-true (nat_lt (length os) (2 ^ 32)) _ _ (lt-ltb (length os) (2 ^ 32) (omega (arith, low))))
    ∙ ap short (with_header t constructed os)
    ∙ sym (ap (λ (x : Option ℕ). x >>= λ k. short (k + header_length t k)) (short_low (length os) low))
element_by t constructed os false e =
    let high = leb-false (length os) longest_encoding e in
    let whole = with_header t constructed os in
    let octets : List ℕ = (identifier_octets t constructed ++ length_octets (length os)) ++ os in
    cond_both (nat_lt (length os) (2 ^ 32)) (Some octets) None (λ (x : Option (List ℕ)). short_length x ≡ None) (λ _. short_high (length octets) (omega (arith, whole, high))) (λ _. refl)
    ∙ sym (ap (λ (x : Option ℕ). x >>= λ k. short (k + header_length t k)) (short_high (length os) high))

element_short : (t : Tag) (constructed : Bool) (os : List ℕ) → short_length (element t constructed os) ≡ (short (length os) >>= λ k. short (k + header_length t k))
element_short t constructed os = element_by t constructed os (nat_le (length os) longest_encoding) refl

wrapped : (t : Tag) (x : Option (List ℕ)) → short_length (option_and_then (element t true) x) ≡ (short_length x >>= λ k. short (k + header_length t k))
wrapped t None = refl
wrapped t (Some os) = element_short t true os

tagged_short : (ts : List Tag) (constructed : Bool) (os : List ℕ) → short_length (tagged ts constructed os) ≡ length_in ts (short (length os))
tagged_short [] constructed os = refl
tagged_short (t ∷ []) constructed os = element_short t constructed os
tagged_short (t ∷ u ∷ ts) constructed os =
    wrapped t (tagged (u ∷ ts) constructed os) ∙ ap (λ (x : Option ℕ). x >>= λ k. short (k + header_length t k)) (tagged_short (u ∷ ts) constructed os)

pub none_in : (ts : List Tag) → length_in ts None ≡ None
none_in [] = refl
none_in (t ∷ ts) = ap (λ (x : Option ℕ). x >>= λ k. short (k + header_length t k)) (none_in ts)

pub in_tags : (ts : List Tag) (constructed : Bool) (x : Option (List ℕ)) → short_length (x >>= λ os. tagged ts constructed os) ≡ length_in ts (short_length x)
in_tags ts constructed None = sym (none_in ts)
in_tags ts constructed (Some os) = tagged_short ts constructed os

pub whole_length : (ty : Ty) (v : AbstractValue) → short_length (der (type_view ty) v) ≡ length_in (out-Ty ty).tags.items (short_length (contents_octets (kind_view (out-Ty ty).kind) v))
whole_length ty v =
    ap (λ (t : AbstractType). short_length (der t v)) (type_view_is ty)
    ∙ in_tags (out-Ty ty).tags.items (is_constructed (kind_view (out-Ty ty).kind)) (contents_octets (kind_view (out-Ty ty).kind) v)

-- ---- octets and those after them

pub after_none : (x : Option (List ℕ)) → short_after 0 x ≡ short_length x
after_none None = refl
after_none (Some os) =
    let e : 0 + length os ≡ length os = omega arith in
    ap short e

none_at_all : (x : Option ℕ) → (x >>= λ m. short_after m None) ≡ None
none_at_all None = refl
none_at_all (Some m) = refl

one_by : (n k : ℕ) (f : ℕ → Option ℕ) (low : Bool) → nat_le k longest_encoding ≡ low → (short k >>= λ l. short (n + l) >>= f) ≡ (short (n + k) >>= f)
one_by n k f true e = ap (λ (x : Option ℕ). x >>= λ l. short (n + l) >>= f) (short_low k (leb-true k longest_encoding e))
one_by n k f false e =
    let high = leb-false k longest_encoding e in
    ap (λ (x : Option ℕ). x >>= λ l. short (n + l) >>= f) (short_high k high) ∙ sym (ap (λ (x : Option ℕ). x >>= f) (short_high (n + k) (omega (arith, high))))

one_more : (n k : ℕ) (f : ℕ → Option ℕ) → (short k >>= λ l. short (n + l) >>= f) ≡ (short (n + k) >>= f)
one_more n k f = one_by n k f (nat_le k longest_encoding) refl

none_behind : (n : ℕ) (x : Option ℕ) → (x >>= λ k. short (n + k) >>= λ m. short_after m None) ≡ None
none_behind n None = refl
none_behind n (Some k) = none_at_all (short (n + k))

-- what follows octets is counted after them
pub behind : (n : ℕ) (x y : Option (List ℕ)) → short_after n (x >>= λ xs. y >>= λ ys. Some (xs ++ ys)) ≡ (short_length x >>= λ k. short (n + k) >>= λ m. short_after m y)
behind n None y = refl
behind n (Some xs) None = sym (none_behind n (short (length xs)))
behind n (Some xs) (Some ys) =
    ap (λ (k : ℕ). short (n + k)) (length-append xs ys) ∙ short_more n (length xs) (length ys) ∙ sym (one_more n (length xs) (λ m. short (m + length ys)))

-- where nothing is left
pub nothing_left : (n : ℕ) → n ≤ longest_encoding → short_after n (Some []) ≡ Some n
nothing_left n low =
    let e : n + 0 ≡ n = omega arith in
    ap short e ∙ short_low n low

-- ---- components

parts_append : (ps qs : List Part) → parts_joined (ps ++ qs) ≡ parts_joined ps ++ parts_joined qs
parts_append [] qs = refl
parts_append (p ∷ ps) qs = ap (λ (os : List ℕ). p.octets ++ os) (parts_append ps qs) ∙ sym (append_assoc p.octets (parts_joined ps) (parts_joined qs))

parts_behind : (one rest : Option (List Part)) → sequence_octets (one >>= λ ps. with_parts ps rest) ≡ (sequence_octets one >>= λ xs. sequence_octets rest >>= λ ys. Some (xs ++ ys))
parts_behind None rest = refl
parts_behind (Some ps) None = refl
parts_behind (Some ps) (Some qs) = ap (λ (os : List ℕ). Some os) (parts_append ps qs)

-- the octets of one component and of those after it
next_part : (comps : List Comp) (fs : List Slot) (i : ℕ) (comp : Comp) (f : Slot) (n : ℕ) → i < length comps → i < length fs → comp ≡ get_or comps i comp → f ≡ get_or fs i f
    → short_after n (sequence_octets (others comps fs i)) ≡ (short_length (sequence_octets (sent_of comp f)) >>= λ k. short (n + k) >>= λ m. short_after m (sequence_octets (others comps fs (i + 1))))
next_part comps fs i comp f n lt lf is is_f =
    ap (λ (ps : Option (List Part)). short_after n (sequence_octets ps)) (next_sent comps fs i comp f lt lf is is_f)
    ∙ ap (short_after n) (parts_behind (sent_of comp f) (others comps fs (i + 1)))
    ∙ behind n (sequence_octets (sent_of comp f)) (sequence_octets (others comps fs (i + 1)))

-- ---- the loop over components

pub parts_on : (comps : List Comp) (fs : List Slot) (i : ℕ) (comp : Comp) (f : Slot) (n more next : ℕ) (whole : Option ℕ) → i < length comps → i < length fs → comp ≡ get_or comps i comp → f ≡ get_or fs i f
    → short_length (sequence_octets (sent_of comp f)) ≡ Some more → short (n + more) ≡ Some next → short_after n (sequence_octets (others comps fs i)) ≡ whole → short_after next (sequence_octets (others comps fs (i + 1))) ≡ whole
parts_on comps fs i comp f n more next whole lt lf is is_f one sum so_far =
    sym (next_part comps fs i comp f n lt lf is is_f ∙ ap (λ (x : Option ℕ). x >>= λ k. short (n + k) >>= λ m. short_after m (sequence_octets (others comps fs (i + 1)))) one ∙ ap (λ (x : Option ℕ). x >>= λ m. short_after m (sequence_octets (others comps fs (i + 1)))) sum) ∙ so_far

-- one component has too many octets by itself
pub part_long : (comps : List Comp) (fs : List Slot) (i : ℕ) (comp : Comp) (f : Slot) (n : ℕ) (whole : Option ℕ) → i < length comps → i < length fs → comp ≡ get_or comps i comp → f ≡ get_or fs i f
    → short_length (sequence_octets (sent_of comp f)) ≡ None → short_after n (sequence_octets (others comps fs i)) ≡ whole → None ≡ whole
part_long comps fs i comp f n whole lt lf is is_f none so_far =
    sym (next_part comps fs i comp f n lt lf is is_f ∙ ap (λ (x : Option ℕ). x >>= λ k. short (n + k) >>= λ m. short_after m (sequence_octets (others comps fs (i + 1)))) none) ∙ so_far

-- it has too many with those before it
pub sum_long : (comps : List Comp) (fs : List Slot) (i : ℕ) (comp : Comp) (f : Slot) (n more : ℕ) (whole : Option ℕ) → i < length comps → i < length fs → comp ≡ get_or comps i comp → f ≡ get_or fs i f
    → short_length (sequence_octets (sent_of comp f)) ≡ Some more → short (n + more) ≡ None → short_after n (sequence_octets (others comps fs i)) ≡ whole → None ≡ whole
sum_long comps fs i comp f n more whole lt lf is is_f one sum so_far =
    sym (next_part comps fs i comp f n lt lf is is_f ∙ ap (λ (x : Option ℕ). x >>= λ k. short (n + k) >>= λ m. short_after m (sequence_octets (others comps fs (i + 1)))) one ∙ ap (λ (x : Option ℕ). x >>= λ m. short_after m (sequence_octets (others comps fs (i + 1)))) sum) ∙ so_far

-- ---- a SET

-- sorted parts have as many octets
sum_inserted : (p : Part) (ps : List Part) → length (parts_joined (insert_part p ps)) ≡ length p.octets + length (parts_joined ps)
sum_inserted p [] = length-append p.octets []
sum_inserted p (q ∷ qs) =
    let later = sum_inserted p qs in
    let first = length-append q.octets (parts_joined qs) in
    let moved = length-append q.octets (parts_joined (insert_part p qs)) in
    cond_both (tag_before q.tag p.tag) (q ∷ insert_part p qs) (p ∷ q ∷ qs) (λ (xs : List Part). length (parts_joined xs) ≡ length p.octets + length (parts_joined (q ∷ qs))) (λ _. omega (arith, moved, later, first)) (λ _. length-append p.octets (parts_joined (q ∷ qs)))

sum_sorted : (ps : List Part) → length (parts_joined (ascending ps)) ≡ length (parts_joined ps)
sum_sorted [] = refl
sum_sorted (p ∷ ps) = omega (arith, sum_inserted p (ascending ps), sum_sorted ps, length-append p.octets (parts_joined ps))

pub set_short : (parts : Option (List Part)) → short_length (set_octets parts) ≡ short_length (sequence_octets parts)
set_short None = refl
set_short (Some ps) = ap short (sum_sorted ps)
