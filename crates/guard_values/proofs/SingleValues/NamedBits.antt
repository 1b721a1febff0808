-- Bits that names in braces set, and those that a string keeps.
use Rattle.std.proofs.Common.{◌≡◌, ◌≢◌, ℕ, zero, suc, ◌+◌, ◌<◌, ◌≤◌, Bool, true, false, cond, ◌||◌, List, [], ◌∷◌, ◌++◌, length, take, get_or, Option, Some, None, Ok, Err, inl, inr, ◌⊎◌, refl, sym, ap, ◌∙◌, subst, arith, add-one}
use Rattle.std.proofs.lemmas.List.Elements.{All-cons, All-nil}
use Rattle.std.specs.Prelude.{All, nat_eq, nat_lt, set, replicate, option_and_then}
use Rattle.std.proofs.Math.Seq.{take-suc}
use Rattle.std.proofs.lemmas.Bool.{eq-eqb}
use Rattle.std.proofs.lemmas.Bool.Decides.{eqb_tells}
use Rattle.std.proofs.lemmas.Grind.{common_steps, get_or-set_at}
use Rattle.std.proofs.lemmas.List.{length-set, length-replicate, get_or-replicate, get_or-set_other}
use Rattle.std.proofs.lemmas.List.FromFn.{fill_by_all, get_or-map-range_with_len, length-map-range_with_len}
use Rattle.guard_model.specs.Answer.{◌>>=◌, Refuses}
use Rattle.guard_model.specs.inside.Each.{each}
use Rattle.guard_model.proofs.Results.{bind_ok, made_ok, same_Ok, refuses_bind}
use Rattle.guard_model.specs.declared.site.Site.{Site}
use Rattle.guard_model.specs.AbstractType.{NamedNumber}
use Rattle.guard_model.specs.AbstractValue as value
use Rattle.guard_model.specs.ValueView.{value_view, value_step}
use Rattle.guard_model.specs.declared.value.Value.TheFolds.{fold-roll-Value}
use Rattle.guard_model.specs.declared.value.Value.TheOpen.{Value-F}
use Rattle.guard_model.specs.declared.value.Value.TheVariants as variant
use Rattle.guard_model.specs.declared.value.Value.TheVariants.{rolls-Null}
use Rattle.guard_model.specs.AbstractValue.{AbstractValue}
use Rattle.guard_syntax.specs.Trees.{WrittenEntry, WrittenEntries, no_entries, entry, entries_of}
use Rattle.guard_der.specs.Fits.{last_octet}
use Rattle.guard_values.specs.declared.fault.ValueFault.{ValueFault}
use Rattle.guard_values.specs.declared.fault.ValueFault.TheVariants.{WrongNotation, UnknownName}
use Rattle.guard_values.specs.NamedBits.{name_alone, named_bit, one_more, places_named, is_in, bits_to_last, bit_among, ones_at, before_ones, to_last_one, bits_kept}
use Rattle.guard_values.specs.inside.Reading.{Read, answered, kept_read, read_bit, read_place, read_places, read_named_bits}
use Rattle.guard_values.specs.Simple.{bits_value}

-- ---- what is read of names in braces is what they say

answer_is : {A : Type 0} (f : ValueFault) (o : Option A) (v : A) → answered f o ≡ Ok v → o ≡ Some v
answer_is f None v e = absurd cc
answer_is f (Some w) v e = ap Some (same_Ok {F = ValueFault} w v e)

bit_said : (names : List NamedNumber) (site : Site) (name : Option (List ℕ)) (place : ℕ) → read_bit names site name ≡ Ok place → option_and_then (named_bit names) name ≡ Some place
bit_said names site None place e = absurd cc
bit_said names site (Some n) place e = answer_is (UnknownName site) (named_bit names n) place e

pub places_said : (names : List NamedNumber) (es : WrittenEntries) (places : List ℕ) → read_places names es ≡ Ok places → places_named names es ≡ Some places
places_said names no_entries places e = ap Some (same_Ok {F = ValueFault} [] places e)
places_said names (entry site label tree rest) places e =
    let b = bind_ok (read_bit names site (name_alone label tree)) (λ place. read_places names rest >>= λ others. Ok (place ∷ others)) places e in
    let c = made_ok (read_places names rest) (λ others. b.0 ∷ others) places b.2 in
    rw (bit_said names site (name_alone label tree) b.0 b.1, places_said names rest c.0 c.1) (ap Some c.2)

more_parts : (o : Option ℕ) (os : Option (List ℕ)) (places : List ℕ) → one_more o os ≡ Some places → (p : ℕ) × (ps : List ℕ) × (o ≡ Some p) × (os ≡ Some ps) × (p ∷ ps ≡ places)
more_parts None os places e = absurd cc
more_parts (Some p) None places e = absurd cc
more_parts (Some p) (Some ps) places e = (p, ps, refl, refl, cc)

bit_again : (names : List NamedNumber) (site : Site) (name : Option (List ℕ)) (place : ℕ) → option_and_then (named_bit names) name ≡ Some place → read_bit names site name ≡ Ok place
bit_again names site None place e = absurd cc
bit_again names site (Some n) place e = ap (answered (UnknownName site)) e

pub places_again : (names : List NamedNumber) (es : WrittenEntries) (places : List ℕ) → places_named names es ≡ Some places → read_places names es ≡ Ok places
places_again names no_entries places e = let same : ◌≡◌ {A = List ℕ} [] places = cc in ap Ok same
places_again names (entry site label tree rest) places e =
    let m = more_parts (option_and_then (named_bit names) (name_alone label tree)) (places_named names rest) places e in
    rw (bit_again names site (name_alone label tree) m.0 m.2, places_again names rest m.1 m.3) (ap Ok m.4)

-- one entry after another, as a loop reads them
pub each_place : (names : List NamedNumber) (es : List WrittenEntry) → read_places names (entries_of es) ≡ each (read_place names) es
unfolding each
each_place names [] = refl
each_place names (e ∷ es) = ap (λ (r : Read (List ℕ)). read_place names e >>= λ place. r >>= λ places. Ok (place ∷ places)) (each_place names es)

-- ---- ones at places

second_true : (a b : Bool) → b ≡ true → (a || b) ≡ true
second_true true b e = refl
second_true false b e = e

-- one after another is set
abbrev pub marked : List ℕ → List ℕ → List ℕ
marked bits [] = bits
marked bits (p ∷ ps) = marked (set bits p 1) ps

one_either : (b : Bool) (n : ℕ) → cond b n n ≡ n
one_either true n = refl
one_either false n = refl

pub marked_length : (ps bits : List ℕ) → length (marked bits ps) ≡ length bits
marked_length [] bits = refl
marked_length (p ∷ ps) bits = marked_length ps (set bits p 1) ∙ length-set bits p 1

marked_at : (ps bits : List ℕ) (k : ℕ) → k < length bits → get_or (marked bits ps) k 0 ≡ cond (is_in k ps) 1 (get_or bits k 0)
marked_at [] bits k lt = refl
marked_at (p ∷ ps) bits k lt =
    let count : length (set bits p 1) ≡ length bits = length-set bits p 1 in
    let rest : get_or (marked (set bits p 1) ps) k 0 ≡ cond (is_in k ps) 1 (get_or (set bits p 1) k 0) = marked_at ps (set bits p 1) k (omega (arith, count, lt)) in
    elim (eqb_tells k p) [
      | inl h ↦
          let there : get_or (set bits p 1) k 0 ≡ 1 = get_or-set_at bits p k 1 0 h.1 (let same = h.1 in omega (arith, same, lt)) in
          rest ∙ ap (λ (n : ℕ). cond (is_in k ps) 1 n) there ∙ one_either (is_in k ps) 1 ∙ sym (ap (λ (b : Bool). cond (b || is_in k ps) 1 (get_or bits k 0)) h.0)
      | inr h ↦
          let other : k ≢ p = λ same. let equal : nat_eq k p ≡ true = eq-eqb k p same in let differ = h.0 in absurd cc in
          rest ∙ ap (λ (n : ℕ). cond (is_in k ps) 1 n) (get_or-set_other bits p k 1 0 other) ∙ sym (ap (λ (b : Bool). cond (b || is_in k ps) 1 (get_or bits k 0)) h.0)
    ]

pub marked_is : (places : List ℕ) → marked (replicate (bits_to_last places) 0) places ≡ ones_at places
marked_is places =
    let n = bits_to_last places in
    let count : length (replicate n 0) ≡ n = length-replicate n 0 in
    fill_by_all (bit_among places) (marked (replicate n 0) places) n 0 (marked_length places (replicate n 0) ∙ count)
    (λ k lt. marked_at places (replicate n 0) k (omega (arith, count, lt)) ∙ ap (λ (d : ℕ). cond (is_in k places) 1 d) (get_or-replicate n k 0 0 lt))

first_below : (p n : ℕ) (b : Bool) → nat_lt p n ≡ b → p < cond b n (p + 1)
first_below p n true e = grind (arith, common_steps)
first_below p n false e = omega arith

not_below : (p n : ℕ) (b : Bool) → nat_lt p n ≡ b → n ≤ cond b n (p + 1)
not_below p n true e = omega arith
not_below p n false e = grind (arith, common_steps)

-- each place is one of so many bits
pub place_below : (places : List ℕ) (i d : ℕ) → i < length places → get_or places i d < bits_to_last places
place_below [] i d lt = absurd (omega (arith, lt))
place_below (p ∷ ps) zero d lt = first_below p (bits_to_last ps) (nat_lt p (bits_to_last ps)) refl
place_below (p ∷ ps) (suc i) d lt =
    let rest : get_or ps i d < bits_to_last ps = place_below ps i d (omega (arith, lt)) in
    let more : bits_to_last ps ≤ bits_to_last (p ∷ ps) = not_below p (bits_to_last ps) (nat_lt p (bits_to_last ps)) refl in
    omega (arith, rest, more)

-- the greater of how many bits there are so far, and how many the rest has
abbrev pub greatest : ℕ → ℕ → ℕ
greatest count rest = cond (nat_lt count rest) rest count

-- ---- digits, and where they end

abbrev pub AreBits : List ℕ → Type 0
AreBits [] = Unit {0}
AreBits (b ∷ bits) = (b < 2) × AreBits bits

-- none, or the last is one
abbrev pub EndsInOne : List ℕ → Type 0
EndsInOne bits = (bits ≡ []) ⊎ (last_octet bits ≡ 1)

pub bits_all : (bits : List ℕ) (P : (i : ℕ) → Type 0) → ((i : ℕ) → i < length bits → get_or bits i 0 < 2) → AreBits bits
bits_all [] P h = tt
bits_all (b ∷ bits) P h = (h 0 (omega arith), bits_all bits P (λ i lt. h (suc i) (omega (arith, lt))))

small_bit : (places : List ℕ) (b : Bool) → cond b 1 0 < 2
small_bit places true = omega arith
small_bit places false = omega arith

pub ones_count : (places : List ℕ) → length (ones_at places) ≡ bits_to_last places
ones_count places = length-map-range_with_len (bit_among places) 0 (bits_to_last places)

pub ones_small : (places : List ℕ) → AreBits (ones_at places)
ones_small places =
    let n = bits_to_last places in
    let count : length (ones_at places) ≡ n = length-map-range_with_len (bit_among places) 0 n in
    bits_all (ones_at places) (λ i. ℕ)
    (λ i lt. let e : get_or (ones_at places) i 0 ≡ bit_among places i = get_or-map-range_with_len (bit_among places) 0 n i i 0 (omega (arith, count, lt)) (omega arith) in rw e (small_bit places (is_in i places)))

-- the last place is one of them
last_place : (p : ℕ) (ps : List ℕ) → (m : ℕ) × (bits_to_last (p ∷ ps) ≡ m + 1) × (is_in m (p ∷ ps) ≡ true)
last_place p [] = (p, here (nat_lt p 0) refl, rw (eq-eqb p p refl) refl) where
  here : (b : Bool) → nat_lt p 0 ≡ b → cond b 0 (p + 1) ≡ p + 1
  here true e = absurd (grind (arith, common_steps))
  here false e = refl
last_place p (q ∷ qs) = later (nat_lt p (bits_to_last (q ∷ qs))) refl (last_place q qs) where
  later : (b : Bool) → nat_lt p (bits_to_last (q ∷ qs)) ≡ b → (m : ℕ) × (bits_to_last (q ∷ qs) ≡ m + 1) × (is_in m (q ∷ qs) ≡ true)
      → (m : ℕ) × (cond b (bits_to_last (q ∷ qs)) (p + 1) ≡ m + 1) × (is_in m (p ∷ q ∷ qs) ≡ true)
  later true e h = (h.0, h.1, second_true (nat_eq h.0 p) (is_in h.0 (q ∷ qs)) h.2)
  later false e h = (p, refl, rw (eq-eqb p p refl) refl)

last_is : (xs : List ℕ) (n : ℕ) → length xs ≡ n + 1 → last_octet xs ≡ get_or xs n 0
last_is [] n e = absurd (omega (arith, e))
last_is (x ∷ []) zero e = refl
last_is (x ∷ []) (suc n) e = absurd (omega (arith, e))
last_is (x ∷ y ∷ xs) zero e = absurd (omega (arith, e))
last_is (x ∷ y ∷ xs) (suc n) e = last_is (y ∷ xs) n (omega (arith, e))

pub ones_end : (places : List ℕ) → EndsInOne (ones_at places)
ones_end [] = inl refl
ones_end (p ∷ ps) =
    let l = last_place p ps in
    let f = bit_among (p ∷ ps) in
    let n = bits_to_last (p ∷ ps) in
    let count : length (ones_at (p ∷ ps)) ≡ n = length-map-range_with_len f 0 n in
    let all = l.1 in
    let bit : get_or (ones_at (p ∷ ps)) l.0 0 ≡ f l.0 = get_or-map-range_with_len f 0 n l.0 l.0 0 (omega (arith, all)) (omega arith) in
    inr (last_is (ones_at (p ∷ ps)) l.0 (count ∙ all) ∙ bit ∙ ap (λ (b : Bool). cond b 1 0) l.2)

bits_are : (bits : List ℕ) → AreBits bits → All (λ b. b < 2) bits
bits_are [] h = All-nil (λ b. b < 2)
bits_are (b ∷ bits) h = All-cons (λ c. c < 2) b bits h.0 (bits_are bits h.1)

-- ---- a whole value

pub names_refused : (f : Option ValueFault) (site : Site) (names : List NamedNumber) (es : List WrittenEntry) → 1 ≤ length names → Refuses f (each (read_place names) es) → Refuses f (read_named_bits site names (entries_of es))
names_refused f site [] es some h = absurd (omega (arith, some))
names_refused f site (n ∷ ns) es some h =
    refuses_bind f (read_places (n ∷ ns) (entries_of es)) (λ places. Ok (bits_value (ones_at places))) (subst (λ (r : Read (List ℕ)). Refuses f r) (sym (each_place (n ∷ ns) es)) h)

pub names_read : (site : Site) (names : List NamedNumber) (es : List WrittenEntry) (places : List ℕ) → 1 ≤ length names → each (read_place names) es ≡ Ok places
    → read_named_bits site names (entries_of es) ≡ Ok (bits_value (ones_at places))
names_read site [] es places some h = absurd (omega (arith, some))
names_read site (n ∷ ns) es places some h =
    ap (λ (r : Read (List ℕ)). r >>= λ places. Ok (bits_value (ones_at places))) (each_place (n ∷ ns) es ∙ h)

pub no_names : (site : Site) (names : List NamedNumber) (es : WrittenEntries) → length names ≡ 0 → read_named_bits site names es ≡ Err (WrongNotation site)
no_names site [] es none = refl
no_names site (n ∷ ns) es none = absurd (omega (arith, none))

-- ---- what is kept

pub kept_refused : (f : Option ValueFault) (sorted : Bool) (r : Read AbstractValue) → Refuses f r → Refuses f (kept_read sorted r)
kept_refused f true r h = h
kept_refused f false r h = refuses_bind f r (λ v. Ok value.null) h

pub null_is : value_view variant.Null ≡ value.null
null_is = ap value_view (sym rolls-Null) ∙ fold-roll-Value AbstractValue value_step Value-F.Null

pub none_kept : (sorted : Bool) (r : Read AbstractValue) (v : AbstractValue) → sorted ≡ false → r ≡ Ok v → kept_read sorted r ≡ Ok value.null
none_kept sorted r v not_sorted is = subst (λ b. kept_read b r ≡ Ok value.null) (sym not_sorted) (ap (λ (s : Read AbstractValue). s >>= λ w. Ok value.null) is)

pub all_kept : (sorted : Bool) (r : Read AbstractValue) (v : AbstractValue) → sorted ≡ true → r ≡ Ok v → kept_read sorted r ≡ Ok v
all_kept sorted r v is_sorted is = subst (λ b. kept_read b r ≡ Ok v) (sym is_sorted) is

-- ---- up to the last one

before_small : (b : ℕ) (bits : List ℕ) → b < 2 → AreBits bits → AreBits (before_ones b bits)
before_small zero [] lt small = tt
before_small zero (c ∷ bits) lt small = (lt, small)
before_small (suc b) [] lt small = (lt, tt)
before_small (suc b) (c ∷ bits) lt small = (lt, small)

pub last_one_small : (bits : List ℕ) → AreBits bits → AreBits (to_last_one bits)
last_one_small [] small = tt
last_one_small (b ∷ bits) small = before_small b (to_last_one bits) small.0 (last_one_small bits small.1)

before_end : (b : ℕ) (bits : List ℕ) → b < 2 → EndsInOne bits → EndsInOne (before_ones b bits)
before_end zero [] lt h = inl refl
before_end (suc zero) [] lt h = inr refl
before_end (suc (suc b)) [] lt h = absurd (omega (arith, lt))
before_end zero (c ∷ bits) lt (inl e) = absurd cc
before_end zero (c ∷ bits) lt (inr e) = inr e
before_end (suc b) (c ∷ bits) lt (inl e) = absurd cc
before_end (suc b) (c ∷ bits) lt (inr e) = inr e

pub last_one_end : (bits : List ℕ) → AreBits bits → EndsInOne (to_last_one bits)
last_one_end [] small = inl refl
last_one_end (b ∷ bits) small = before_end b (to_last_one bits) small.0 (last_one_end bits small.1)

pub kept_small : (names : List NamedNumber) (bits : List ℕ) → AreBits bits → All (λ b. b < 2) (bits_kept names bits)
kept_small [] bits small = bits_are bits small
kept_small (n ∷ ns) bits small = bits_are (to_last_one bits) (last_one_small bits small)

without_zero : (xs : List ℕ) → to_last_one (xs ++ 0 ∷ []) ≡ to_last_one xs
without_zero [] = refl
without_zero (x ∷ xs) = ap (before_ones x) (without_zero xs)

pub one_fewer : (bits : List ℕ) (n : ℕ) → n < length bits → get_or bits n 0 ≡ 0 → to_last_one (take (n + 1) bits) ≡ to_last_one (take n bits)
one_fewer bits n lt e =
    ap (λ (k : ℕ). to_last_one (take k bits)) (add-one n) ∙ ap to_last_one (take-suc bits n 0 lt) ∙ ap (λ (b : ℕ). to_last_one (take n bits ++ b ∷ [])) e ∙ without_zero (take n bits)

before_some : (x : ℕ) (xs : List ℕ) (b : ℕ) → before_ones x (xs ++ b ∷ []) ≡ x ∷ (xs ++ b ∷ [])
before_some zero [] b = refl
before_some zero (y ∷ xs) b = refl
before_some (suc x) [] b = refl
before_some (suc x) (y ∷ xs) b = refl

with_one : (xs : List ℕ) (b : ℕ) → b ≢ 0 → to_last_one (xs ++ b ∷ []) ≡ xs ++ b ∷ []
with_one [] zero some = absurd (some refl)
with_one [] (suc b) some = refl
with_one (x ∷ xs) b some = ap (before_ones x) (with_one xs b some) ∙ before_some x xs b

pub ends_there : (bits : List ℕ) (n : ℕ) → n < length bits → get_or bits n 0 ≢ 0 → to_last_one (take (n + 1) bits) ≡ take (n + 1) bits
ends_there bits n lt some =
    let front : take (n + 1) bits ≡ take n bits ++ get_or bits n 0 ∷ [] = ap (λ (k : ℕ). take k bits) (add-one n) ∙ take-suc bits n 0 lt in
    ap to_last_one front ∙ with_one (take n bits) (get_or bits n 0) some ∙ sym front
