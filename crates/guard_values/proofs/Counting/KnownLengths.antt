-- Lengths of known values, as they are kept beside them.
use Rattle.std.proofs.Common.{◌≡◌, ℕ, zero, suc, ◌<◌, ◌≤◌, true, List, [], ◌∷◌, ◌++◌, length, Option, Some, None, option_map, refl, sym, ap, subst, ◌∙◌, IfSome, arith}
use Rattle.std.specs.Borrow.{Bor}
use Rattle.std.specs.Prelude.{slice_get, MatchOption, HoldsAt}
use Rattle.std.proofs.lemmas.Option.{slice_get_past, slice_get_read}
use Rattle.std.specs.Global.{Global}
use Rattle.std.specs.declared.sync.Arc.{Arc}
use Rattle.guard_model.specs.AbstractType.{AbstractType, type_of, no_constraints}
use Rattle.guard_model.specs.AbstractValue.{AbstractValue}
use Rattle.guard_model.specs.Kinds.{kind_of}
use Rattle.guard_model.specs.SameType.{same_base}
use Rattle.guard_model.specs.TypeView.{shared_type_view}
use Rattle.guard_model.specs.declared.ty.Ty.{Ty}
use Rattle.guard_model.specs.declared.value.Value.{Value}
use Rattle.guard_model.proofs.SameTypes.{same_base-Decides}
use Rattle.guard_der.specs.Der.{contents_octets, ◌>>=◌}
use Rattle.guard_der.specs.Encoding.{short_length}
use Rattle.guard_der.proofs.Types.BareTypes.{der_by_base}
use Rattle.guard_values.specs.KeptLengths.{contents_length, length_beside, lengths_beside}
use Rattle.guard_values.specs.Views.{known_pair, shared_view}
use Rattle.guard_values.proofs.OneAnswer.LengthsInside.{same_Some}

-- ---- what is beside a known value

pub kept_at : (ts : List (Arc Ty Global)) (vs : List (Option (Arc Value Global))) (place : ℕ)
    → IfSome (known_pair (slice_get ts place) (slice_get vs place)) (λ g. slice_get (lengths_beside ts vs) place ≡ Some (contents_length g.ty g.value))
kept_at [] vs place = tt
kept_at (t ∷ ts) [] zero = tt
kept_at (t ∷ ts) [] (suc place) = none (slice_get ts place) where
  none : (o : Option (Arc Ty Global)) → IfSome (known_pair o None) (λ g. slice_get [] (suc place) ≡ Some (contents_length g.ty g.value))
  none None = tt
  none (Some t) = tt
kept_at (t ∷ ts) (None ∷ vs) zero = tt
kept_at (t ∷ ts) (Some v ∷ vs) zero = refl
kept_at (t ∷ ts) (v ∷ vs) (suc place) = kept_at ts vs place

-- one more definition
pub one_more_kept : (ts : List (Arc Ty Global)) (vs : List (Option (Arc Value Global))) (t : Arc Ty Global) (v : Option (Arc Value Global)) → length vs ≡ length ts
    → lengths_beside ts vs ++ length_beside t v ∷ [] ≡ lengths_beside (ts ++ t ∷ []) (vs ++ v ∷ [])
one_more_kept [] [] t v even = refl
one_more_kept [] (w ∷ vs) t v even = absurd (omega (arith, even))
one_more_kept (u ∷ ts) [] t v even = absurd (omega (arith, even))
one_more_kept (u ∷ ts) (w ∷ vs) t v even = ap (λ (ns : List (Option ℕ)). length_beside u w ∷ ns) (one_more_kept ts vs t v (omega (arith, even)))

-- ---- types of the same base

untagged : (o : Option (List ℕ)) → (o >>= λ os. Some os) ≡ o
untagged None = refl
untagged (Some os) = refl

base_contents : (t u : AbstractType) (v : AbstractValue) → same_base t u ≡ true → contents_octets (kind_of t) v ≡ contents_octets (kind_of u) v
base_contents (type_of tags kind cons) (type_of tags_too other cons_too) v e =
    sym (untagged (contents_octets kind v))
    ∙ der_by_base [] kind other no_constraints no_constraints ((same_base-Decides (type_of tags kind cons) (type_of tags_too other cons_too)).0 e) v
    ∙ untagged (contents_octets other v)

pub base_counted : (t u : AbstractType) (v : AbstractValue) (n : Option ℕ) → same_base t u ≡ true → n ≡ contents_length u v → n ≡ contents_length t v
base_counted t u v n same counted = counted ∙ ap short_length (sym (base_contents t u v same))

-- ---- as the code finds them

slot : {A : Type 0} (found : Option (Bor A)) (xs : List A) (i : ℕ) → MatchOption found (length xs ≤ i) (λ c. (i < length xs) × HoldsAt (λ d. c.now ≡ d) xs i)
    → slice_get xs i ≡ option_map (λ b. b.now) found
slot None xs i h = slice_get_past xs i h
slot (Some g) xs i h = slice_get_read xs (length xs) i g.now refl h.0 (h.1 g.now)

pub slot_found : {A : Type 0} (found : Option (Bor A)) (xs ys : List A) (i : ℕ) (g : Bor A) → ys ≡ xs → MatchOption found (length ys ≤ i) (λ c. (i < length ys) × HoldsAt (λ d. c.now ≡ d) ys i) → found ≡ Some g → slice_get xs i ≡ Some g.now
slot_found found xs ys i g same h is = ap (λ zs. slice_get zs i) (sym same) ∙ slot found ys i h ∙ ap (option_map (λ b. b.now)) is

pub slot_empty : {A : Type 0} (found : Option (Bor A)) (xs ys : List A) (i : ℕ) → ys ≡ xs → MatchOption found (length ys ≤ i) (λ c. (i < length ys) × HoldsAt (λ d. c.now ≡ d) ys i) → found ≡ None → slice_get xs i ≡ None
slot_empty found xs ys i same h is = ap (λ zs. slice_get zs i) (sym same) ∙ slot found ys i h ∙ ap (option_map (λ b. b.now)) is

pub no_clash : {A B : Type 0} (o : Option A) (x : A) → o ≡ None → o ≡ Some x → B
no_clash None x e f = absurd cc
no_clash (Some y) x e f = absurd cc

pub found_pair : (ts : List (Arc Ty Global)) (vs : List (Option (Arc Value Global))) (i : ℕ) (t : Arc Ty Global) (v : Arc Value Global) → slice_get ts i ≡ Some t → slice_get vs i ≡ Some (Some v)
    → known_pair (slice_get ts i) (slice_get vs i) ≡ Some (record { ty = shared_type_view t; value = shared_view v })
found_pair ts vs i t v typed valued = ap (λ o. known_pair o (slice_get vs i)) typed ∙ ap (known_pair (Some t)) valued

pub same_value : {A : Type 0} (o : Option A) (x y : A) → o ≡ Some x → o ≡ Some y → x ≡ y
same_value None x y e f = absurd cc
same_value (Some z) x y e f = sym (same_Some z x e) ∙ same_Some z y f

pub kept_length : (ts : List (Arc Ty Global)) (vs : List (Option (Arc Value Global))) (ls : List (Option ℕ)) (i : ℕ) (t : Arc Ty Global) (v : Arc Value Global) → ls ≡ lengths_beside ts vs → slice_get ts i ≡ Some t → slice_get vs i ≡ Some (Some v)
    → slice_get ls i ≡ Some (contents_length (shared_type_view t) (shared_view v))
kept_length ts vs ls i t v is typed valued =
    ap (λ (ns : List (Option ℕ)). slice_get ns i) is
    ∙ subst (λ o. IfSome (known_pair (Some t) o) (λ g. slice_get (lengths_beside ts vs) i ≡ Some (contents_length g.ty g.value))) valued
    (subst (λ o. IfSome (known_pair o (slice_get vs i)) (λ g. slice_get (lengths_beside ts vs) i ≡ Some (contents_length g.ty g.value))) typed (kept_at ts vs i))
