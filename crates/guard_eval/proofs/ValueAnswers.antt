-- Gathered constraints that many strings are asked for: SIZE as a set of sizes, and the others at their places.
use Rattle.std.proofs.Common.{◌≡◌, ℕ, ◌+◌, ◌<◌, ◌≤◌, ℤ, pos, Bool, true, false, not, ◌&&◌, List, [], ◌∷◌, ◌++◌, length, drop, get_or, Option, Some, None, option_map, Bor, MatchOption, refl, sym, ap, ◌∙◌, arith}
use Rattle.std.specs.Arc.{arc_value}
use Rattle.std.specs.Global.{Global}
use Rattle.std.specs.List.{list_all, HoldsAt}
use Rattle.std.specs.declared.sync.Arc.{Arc}
use Rattle.std.proofs.lemmas.List.{at_drop_more, at_drop_all, drop-map}
use Rattle.std.proofs.lemmas.List.Folds.{list_all-append}
use Rattle.std.proofs.lemmas.Option.{same_Some}
use Rattle.guard_integers.specs.Integers.{Integers, holds, only_fitting}
use Rattle.guard_model.specs.AbstractType.{AbstractKind, Constraint, at}
use Rattle.guard_model.specs.AbstractValue as value
use Rattle.guard_model.specs.AbstractValue.{AbstractValue}
use Rattle.guard_model.specs.Limits.{fits_128_bits}
use Rattle.guard_model.specs.TypeView.{constraint_view}
use Rattle.guard_model.specs.declared.ty.Cons.{Cons}
use Rattle.guard_model.specs.declared.ty.Kind.TheViews.{out-Cons}
use Rattle.guard_model.specs.declared.ty.Rule.{Size}
use Rattle.guard_eval.specs.Elements.{size_of, some_passes, is_in_some, is_spelled_in}
use Rattle.guard_eval.specs.inside.Together.{gathered_view, passes, passes_all}
use Rattle.guard_eval.specs.declared.held_codes.HeldCodes.{HeldCodes}
use Rattle.guard_eval.specs.inside.HeldCodes.{has_code}
use Rattle.guard_eval.specs.inside.ValueAnswers.{IsSize, IsAlphabet, is_coded_in, is_in_each, is_spelled_in_each, is_some_in, is_sized_in, is_sized_by, is_sized_by_all, passes_first, passes_at, passes_all_at}
use Rattle.guard_eval.proofs.AtPlace.{constraint_view_is}
use Rattle.guard_eval.proofs.Law.{clear_unless}
use Rattle.guard_eval.proofs.RuleViews.{view_size}

-- ---- sizes

both_all : {X : Type 0} (f : Bool) (p : X → Bool) (x : X) (xs : List X) → (f && list_all p (x ∷ xs)) ≡ list_all (λ y. f && p y) (x ∷ xs)
both_all true p x xs = refl
both_all false p x xs = refl

by_size : (set : Integers) (c : Constraint) (cs : List Constraint) (kind : AbstractKind) → ((z : ℤ) → holds set z ≡ (fits_128_bits z && passes_all (c ∷ cs) kind (value.integer z)))
    → (size : Option ℕ) → is_some_in set (option_map pos size) ≡ list_all (λ d. some_passes (λ n. passes kind n d) size) (c ∷ cs)
by_size set c cs kind is None = refl
by_size set c cs kind is (Some n) = is (pos n) ∙ both_all (fits_128_bits (pos n)) (passes kind (value.integer (pos n))) c cs

pub sized_in_set : (set : Integers) (cs : List (Bor Cons)) (kind : AbstractKind) (v : AbstractValue) → 0 < length cs
    → ((z : ℤ) → holds set z ≡ (fits_128_bits z && passes_all (gathered_view cs) kind (value.integer z))) → is_sized_in (Some set) v ≡ is_sized_by_all (gathered_view cs) kind v
sized_in_set set [] kind v some is = absurd (omega arith)
sized_in_set set (c ∷ cs) kind v some is = by_size set (constraint_view c.now) (gathered_view cs) kind is (size_of v)

pub passes_size : (c : Cons) (size : Arc Cons Global) → (out-Cons c).rule ≡ Size size → (kind : AbstractKind) (v : AbstractValue)
    → passes kind v (constraint_view c) ≡ is_sized_by kind v (constraint_view (arc_value size))
passes_size c size is kind v =
    ap (passes kind v) (constraint_view_is c ∙ ap (at (out-Cons c).site) (view_size (out-Cons c).rule size is)) ∙ clear_unless _ (out-Cons c).site

-- ---- one more constraint

pub gathered_next : (cs : List (Bor Cons)) (i : ℕ) (c : Bor Cons) → i < length cs → c ≡ get_or cs i c → (kind : AbstractKind) (v : AbstractValue)
    → passes_all (gathered_view (drop i cs)) kind v ≡ (passes kind v (constraint_view c.now) && passes_all (gathered_view (drop (i + 1) cs)) kind v)
gathered_next cs i c lt is kind v =
    at_drop_more (λ (ds : List (Bor Cons)). passes_all (gathered_view ds) kind v) cs i c lt ∙ ap (λ (d : Bor Cons). passes kind v (constraint_view d.now) && passes_all (gathered_view (drop (i + 1) cs)) kind v) (sym is)

-- the constraint at a place, and none past the end
pub at_place : (cs : List (Bor Cons)) (i : ℕ) (c : Bor Cons) → i < length cs → c ≡ get_or cs i c → (kind : AbstractKind) (v : AbstractValue) → passes_at (gathered_view cs) kind v i ≡ passes kind v (constraint_view c.now)
at_place cs i c lt is kind v =
    ap (passes_first kind v) (drop-map (λ (d : Bor Cons). constraint_view d.now) i cs)
    ∙ at_drop_more (λ (ds : List (Bor Cons)). passes_first kind v (gathered_view ds)) cs i c lt ∙ ap (λ (d : Bor Cons). passes kind v (constraint_view d.now)) (sym is)

take_size : (s a o one rest total : Bool) → (((s && a) && o) && (one && rest)) ≡ total → ((((s && (one && true)) && a) && o) && rest) ≡ total
take_size true a o true rest total h = h
take_size true true true false rest total h = h
take_size true true false false rest total h = h
take_size true false o false rest total h = h
take_size false a o one rest total h = h

take_alphabet : (s a o one rest total : Bool) → (((s && a) && o) && (one && rest)) ≡ total → (((s && (a && (one && true))) && o) && rest) ≡ total
take_alphabet true true o true rest total h = h
take_alphabet true true true false rest total h = h
take_alphabet true true false false rest total h = h
take_alphabet true false o one rest total h = h
take_alphabet false a o one rest total h = h

take_other : (s o one rest total : Bool) → ((s && o) && (one && rest)) ≡ total → ((s && (o && (one && true))) && rest) ≡ total
take_other true true true rest total h = h
take_other true true false rest total h = h
take_other true false one rest total h = h
take_other false o one rest total h = h

-- as `get` finds it
pub found_at : (found : Option (Bor (Bor Cons))) (cs : List (Bor Cons)) (i : ℕ) (c : Bor (Bor Cons)) → MatchOption found (length cs ≤ i) (λ c. (i < length cs) × HoldsAt (λ d. c.now ≡ d) cs i) → found ≡ Some c
    → (kind : AbstractKind) (v : AbstractValue) → passes_at (gathered_view cs) kind v i ≡ passes kind v (constraint_view c.now.now)
found_at None cs i c found is kind v = absurd cc
found_at (Some d) cs i c found is kind v = at_place cs i d.now found.0 (found.1 d.now) kind v ∙ ap (λ (x : Bor (Bor Cons)). passes kind v (constraint_view x.now.now)) (same_Some _ _ is)

sized_as : (found : Option (Bor Cons)) (size : Bor Cons) (c : Constraint) → IsSize found c → found ≡ Some size → (kind : AbstractKind) (v : AbstractValue) → passes kind v c ≡ is_sized_by kind v (constraint_view size.now)
sized_as None size c h is kind v = absurd cc
sized_as (Some s) size c h is kind v = h kind v ∙ ap (λ (x : Bor Cons). is_sized_by kind v (constraint_view x.now)) (same_Some _ _ is)

both_later : (a b c : Bool) → (a && (b && c)) ≡ ((a && b) && c)
both_later true b c = refl
both_later false b c = refl

one_size_more : (sizes : List (Bor Cons)) (size : Bor Cons) (kind : AbstractKind) (v : AbstractValue)
    → is_sized_by_all (gathered_view (sizes ++ size ∷ [])) kind v ≡ (is_sized_by_all (gathered_view sizes) kind v && (is_sized_by kind v (constraint_view size.now) && true))
one_size_more [] size kind v = refl
one_size_more (s ∷ sizes) size kind v =
    ap (λ (b : Bool). is_sized_by kind v (constraint_view s.now) && b) (one_size_more sizes size kind v) ∙ both_later (is_sized_by kind v (constraint_view s.now)) _ _

spelled_as : (found : Option (Bor (List (ℕ × ℕ)))) (ranges : Bor (List (ℕ × ℕ))) (c : Constraint) → IsAlphabet found c → found ≡ Some ranges → (kind : AbstractKind) (v : AbstractValue) → passes kind v c ≡ is_spelled_in ranges.now v
spelled_as None ranges c h is kind v = absurd cc
spelled_as (Some r) ranges c h is kind v = h kind v ∙ ap (λ (x : Bor (List (ℕ × ℕ))). is_spelled_in x.now v) (same_Some _ _ is)

-- what is gathered so far and what is to come ask as much as all
abbrev pub IsSplit : List (Bor Cons) → List (Bor (List (ℕ × ℕ))) → List ℕ → ℕ → List (Bor Cons) → Type 0
IsSplit sizes alphabets others i cs = (kind : AbstractKind) (v : AbstractValue) →
    (((is_sized_by_all (gathered_view sizes) kind v && is_spelled_in_each alphabets v) && passes_all_at others (gathered_view cs) kind v) && passes_all (gathered_view (drop i cs)) kind v) ≡ passes_all (gathered_view cs) kind v

pub more_sizes : (cs : List (Bor Cons)) (i : ℕ) (c : Bor Cons) (found : Option (Bor Cons)) (size : Bor Cons) (sizes sizes2 : List (Bor Cons)) (alphabets alphabets2 : List (Bor (List (ℕ × ℕ)))) (others others2 : List ℕ)
    → i < length cs → c ≡ get_or cs i c → IsSize found (constraint_view c.now) → found ≡ Some size → sizes2 ≡ sizes ++ size ∷ [] → alphabets2 ≡ alphabets → others2 ≡ others → IsSplit sizes alphabets others i cs → IsSplit sizes2 alphabets2 others2 (i + 1) cs
more_sizes cs i c found size sizes sizes2 alphabets alphabets2 others others2 lt is one found_is added same_a same_o split = λ kind v.
    let rest = passes_all (gathered_view (drop (i + 1) cs)) kind v in
    let s = is_sized_by_all (gathered_view sizes) kind v in
    let a = is_spelled_in_each alphabets v in
    let o = passes_all_at others (gathered_view cs) kind v in
    ap (λ (ss : List (Bor Cons)). ((is_sized_by_all (gathered_view ss) kind v && is_spelled_in_each alphabets2 v) && passes_all_at others2 (gathered_view cs) kind v) && rest) added
    ∙ ap (λ (ls : List (Bor (List (ℕ × ℕ)))). ((is_sized_by_all (gathered_view (sizes ++ size ∷ [])) kind v && is_spelled_in_each ls v) && passes_all_at others2 (gathered_view cs) kind v) && rest) same_a
    ∙ ap (λ (os : List ℕ). ((is_sized_by_all (gathered_view (sizes ++ size ∷ [])) kind v && a) && passes_all_at os (gathered_view cs) kind v) && rest) same_o
    ∙ ap (λ (b : Bool). ((b && a) && o) && rest) (one_size_more sizes size kind v)
    ∙ take_size s a o (is_sized_by kind v (constraint_view size.now)) rest _
    (ap (λ (b : Bool). ((s && a) && o) && b) (sym (gathered_next cs i c lt is kind v ∙ ap (λ (b : Bool). b && rest) (sized_as found size (constraint_view c.now) one found_is kind v))) ∙ split kind v)

pub more_alphabets : (cs : List (Bor Cons)) (i : ℕ) (c : Bor Cons) (found : Option (Bor (List (ℕ × ℕ)))) (ranges : Bor (List (ℕ × ℕ))) (sizes sizes2 : List (Bor Cons)) (alphabets alphabets2 : List (Bor (List (ℕ × ℕ)))) (others others2 : List ℕ)
    → i < length cs → c ≡ get_or cs i c → IsAlphabet found (constraint_view c.now) → found ≡ Some ranges → sizes2 ≡ sizes → alphabets2 ≡ alphabets ++ ranges ∷ [] → others2 ≡ others → IsSplit sizes alphabets others i cs → IsSplit sizes2 alphabets2 others2 (i + 1) cs
more_alphabets cs i c found ranges sizes sizes2 alphabets alphabets2 others others2 lt is one found_is same_s added same_o split = λ kind v.
    let rest = passes_all (gathered_view (drop (i + 1) cs)) kind v in
    let s = is_sized_by_all (gathered_view sizes) kind v in
    let a = is_spelled_in_each alphabets v in
    let o = passes_all_at others (gathered_view cs) kind v in
    ap (λ (ss : List (Bor Cons)). ((is_sized_by_all (gathered_view ss) kind v && is_spelled_in_each alphabets2 v) && passes_all_at others2 (gathered_view cs) kind v) && rest) same_s
    ∙ ap (λ (ls : List (Bor (List (ℕ × ℕ)))). ((s && is_spelled_in_each ls v) && passes_all_at others2 (gathered_view cs) kind v) && rest) added
    ∙ ap (λ (os : List ℕ). ((s && is_spelled_in_each (alphabets ++ ranges ∷ []) v) && passes_all_at os (gathered_view cs) kind v) && rest) same_o
    ∙ ap (λ (b : Bool). ((s && b) && o) && rest) (list_all-append (λ (r : Bor (List (ℕ × ℕ))). is_spelled_in r.now v) alphabets (ranges ∷ []))
    ∙ take_alphabet s a o (is_spelled_in ranges.now v) rest _
    (ap (λ (b : Bool). ((s && a) && o) && b) (sym (gathered_next cs i c lt is kind v ∙ ap (λ (b : Bool). b && rest) (spelled_as found ranges (constraint_view c.now) one found_is kind v))) ∙ split kind v)

pub more_others : (cs : List (Bor Cons)) (i : ℕ) (c : Bor Cons) (sizes sizes2 : List (Bor Cons)) (alphabets alphabets2 : List (Bor (List (ℕ × ℕ)))) (others others2 : List ℕ)
    → i < length cs → c ≡ get_or cs i c → sizes2 ≡ sizes → alphabets2 ≡ alphabets → others2 ≡ others ++ i ∷ [] → IsSplit sizes alphabets others i cs → IsSplit sizes2 alphabets2 others2 (i + 1) cs
more_others cs i c sizes sizes2 alphabets alphabets2 others others2 lt is same_s same_a added split = λ kind v.
    let rest = passes_all (gathered_view (drop (i + 1) cs)) kind v in
    let s = is_sized_by_all (gathered_view sizes) kind v in
    let a = is_spelled_in_each alphabets v in
    let o = passes_all_at others (gathered_view cs) kind v in
    ap (λ (ss : List (Bor Cons)). ((is_sized_by_all (gathered_view ss) kind v && is_spelled_in_each alphabets2 v) && passes_all_at others2 (gathered_view cs) kind v) && rest) same_s
    ∙ ap (λ (ls : List (Bor (List (ℕ × ℕ)))). ((s && is_spelled_in_each ls v) && passes_all_at others2 (gathered_view cs) kind v) && rest) same_a
    ∙ ap (λ (os : List ℕ). ((s && a) && passes_all_at os (gathered_view cs) kind v) && rest) added
    ∙ ap (λ (b : Bool). ((s && a) && b) && rest) (list_all-append (passes_at (gathered_view cs) kind v) others (i ∷ []))
    ∙ ap (λ (b : Bool). ((s && a) && (o && (b && true))) && rest) (at_place cs i c lt is kind v)
    ∙ take_other (s && a) o (passes kind v (constraint_view c.now)) rest _ (ap (λ (b : Bool). ((s && a) && o) && b) (sym (gathered_next cs i c lt is kind v)) ∙ split kind v)

and_true : (a : Bool) → (a && true) ≡ a
and_true true = refl
and_true false = refl

pub none_more : (cs : List (Bor Cons)) (i : ℕ) (sizes : List (Bor Cons)) (alphabets : List (Bor (List (ℕ × ℕ)))) (others : List ℕ) (kind : AbstractKind) (v : AbstractValue) (sized coded : Bool)
    → length cs ≤ i → sized ≡ is_sized_by_all (gathered_view sizes) kind v → coded ≡ is_spelled_in_each alphabets v → IsSplit sizes alphabets others i cs → ((sized && coded) && passes_all_at others (gathered_view cs) kind v) ≡ passes_all (gathered_view cs) kind v
none_more cs i sizes alphabets others kind v sized coded ends is_s is_c split =
    let s = is_sized_by_all (gathered_view sizes) kind v in
    let a = is_spelled_in_each alphabets v in
    let o = passes_all_at others (gathered_view cs) kind v in
    ap (λ (b : Bool). (b && coded) && o) is_s ∙ ap (λ (b : Bool). (s && b) && o) is_c ∙ sym (and_true ((s && a) && o))
    ∙ ap (λ (b : Bool). ((s && a) && o) && b) (sym (at_drop_all (λ (ds : List (Bor Cons)). passes_all (gathered_view ds) kind v) cs i ends)) ∙ split kind v

-- ---- FROM

allowed : (f h rest : Bool) → h ≡ (f && h) → (h && not (f && not (h && rest))) ≡ (h && rest)
allowed true true true e = refl
allowed true true false e = refl
allowed true false rest e = refl
allowed false false rest e = refl
allowed false true rest e = absurd cc

all_alike : (p q : ℕ → Bool) → ((c : ℕ) → p c ≡ q c) → (cs : List ℕ) → list_all p cs ≡ list_all q cs
all_alike p q e [] = refl
all_alike p q e (c ∷ cs) = ap (λ (b : Bool). b && list_all p cs) (e c) ∙ ap (λ (b : Bool). q c && b) (all_alike p q e cs)

four : (a b c d : Bool) → ((a && b) && (c && d)) ≡ ((a && c) && (b && d))
four true true c d = refl
four true false true d = refl
four true false false d = refl
four false b c d = refl

all_both : (p q : ℕ → Bool) (cs : List ℕ) → list_all (λ c. p c && q c) cs ≡ (list_all p cs && list_all q cs)
all_both p q [] = refl
all_both p q (c ∷ cs) = ap (λ (b : Bool). (p c && q c) && b) (all_both p q cs) ∙ four (p c) (q c) (list_all p cs) (list_all q cs)

all_true : (cs : List ℕ) → list_all (λ c. true) cs ≡ true
all_true [] = refl
all_true (c ∷ cs) = all_true cs

-- all characters in each alphabet, and each alphabet with all characters
swapped : (ls : List (Bor (List (ℕ × ℕ)))) (cs : List ℕ) → list_all (is_in_each ls) cs ≡ is_spelled_in_each ls (value.characters cs)
swapped [] cs = all_true cs
swapped (a ∷ ls) cs = all_both (is_in_some a.now) (is_in_each ls) cs ∙ ap (λ (b : Bool). list_all (is_in_some a.now) cs && b) (swapped ls cs)

by_code : (set first left : Integers) (a : Bor (List (ℕ × ℕ))) (ls : List (Bor (List (ℕ × ℕ)))) → ((c : ℕ) → holds first (pos c) ≡ is_in_some a.now c)
    → ((c : ℕ) → holds left (pos c) ≡ (fits_128_bits (pos c) && not (is_in_each (a ∷ ls) c))) → ((x : ℤ) → holds set x ≡ (holds first x && not (holds left x)))
    → (c : ℕ) → holds set (pos c) ≡ is_in_each (a ∷ ls) c
by_code set first left a ls one out is c =
    let f = fits_128_bits (pos c) in
    let rest = is_in_each ls c in
    is (pos c) ∙ ap (λ (b : Bool). holds first (pos c) && not b) (out c) ∙ ap (λ (b : Bool). holds first (pos c) && not (f && not (b && rest))) (sym (one c))
    ∙ allowed f (holds first (pos c)) rest (only_fitting first (pos c)) ∙ ap (λ (b : Bool). b && rest) (one c)

pub coded_in_set : (codes : HeldCodes) (set first left : Integers) (a : Bor (List (ℕ × ℕ))) (ls : List (Bor (List (ℕ × ℕ)))) → 0 < length ls → ((c : ℕ) → holds first (pos c) ≡ is_in_some (get_or ls 0 a).now c)
    → ((c : ℕ) → holds left (pos c) ≡ (fits_128_bits (pos c) && not (is_in_each ls c))) → ((x : ℤ) → holds set x ≡ (holds first x && not (holds left x)))
    → ((c : ℕ) → has_code codes c ≡ holds set (pos c)) → (v : AbstractValue) → is_coded_in (Some codes) v ≡ is_spelled_in_each ls v
coded_in_set codes set first left a [] some one out is kept v = absurd (omega arith)
coded_in_set codes set first left a (b ∷ ls) some one out is kept (value.characters cs) = all_alike (has_code codes) (is_in_each (b ∷ ls)) (λ c. kept c ∙ by_code set first left b ls one out is c) cs ∙ swapped (b ∷ ls) cs
coded_in_set codes set first left a (b ∷ ls) some one out is kept _ = refl
