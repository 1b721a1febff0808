-- Reading the elements of an OF type as the code does: one, and a loop of them.
use Rattle.std.proofs.Common.{◌≡◌, ℕ, suc, ◌+◌, ◌-◌, ◌≤◌, Bool, true, false, cond, eqb, List, [], ◌∷◌, ◌++◌, length, take, drop, map, Option, Some, None, Result, Ok, Err, refl, sym, ap, ◌∙◌, arith}
use Rattle.std.specs.Prelude.{◌&&◌, option_map}
use Rattle.std.specs.Arc.{arc_slice_items}
use Rattle.std.specs.declared.sync.ArcSlice.{ArcSlice}
use Rattle.std.specs.Global.{Global, Box}
use Rattle.std.proofs.lemmas.Bool.{eqb-true}
use Rattle.std.proofs.lemmas.List.{length-append, map_push}
use Rattle.guard_model.specs.Answer.{◌>>=◌, Refuses}
use Rattle.guard_model.specs.declared.tag.Tag.{Tag}
use Rattle.guard_model.specs.declared.site.Step.TheVariants.{Element}
use Rattle.guard_model.specs.declared.ty.Ty.{Ty}
use Rattle.guard_model.specs.declared.ty.Kind.{Kind, SequenceOf, SetOf}
use Rattle.guard_model.specs.declared.ty.Kind.TheViews.{out-Ty}
use Rattle.guard_model.specs.declared.value.Value.{Value}
use Rattle.guard_model.specs.declared.value.Value.TheVariants as values
use Rattle.guard_model.specs.AbstractType.{AbstractType, AbstractKind, Constraints, type_of}
use Rattle.guard_model.specs.AbstractValue as value
use Rattle.guard_model.specs.AbstractValue.{AbstractValue, Items, items_of}
use Rattle.guard_model.specs.TypeView.{type_view, kind_view}
use Rattle.guard_model.specs.ValueView.{value_view, items_view}
use Rattle.guard_tagcheck.specs.FirstTags.{begins_with}
use Rattle.guard_der.specs.declared.breach.Code.TheVariants as code
use Rattle.guard_der.specs.Element.{identifier_octets}
use Rattle.guard_der.specs.Octets.{base_128}
use Rattle.guard_der.specs.Head.{Head, head_of}
use Rattle.guard_der.specs.Fits.{descends}
use Rattle.guard_der.specs.Breach.{AbstractBreach, below}
use Rattle.guard_der.specs.Reading.{Reader, due_at, element_at, contents_at, item_alone, item_at, items_at, items_read, fault}
use Rattle.guard_der.proofs.Elements.Steps.{due_ok}
use Rattle.guard_der.proofs.Numbers.Digits.{AreDigits}
use Rattle.guard_der.proofs.Headers.Heads.{head_takes}
use Rattle.guard_der.proofs.Functions.Decoding.{whole}
use Rattle.guard_der.proofs.Lists.Elements.{Read, item_fails, alone_reads, alone_fails, alone_descends, items_on, items_fail, items_end}
use Rattle.guard_model.proofs.TypeViews.{type_view_is, kind_view_sequence_of, kind_view_set_of}
use Rattle.guard_model.proofs.Results.{refuses_bind}
use Rattle.guard_model.proofs.ValueViews.{value_view_items}

-- ---- one element

some_octets : (small : Bool) (x y : ℕ) (ys : List ℕ) → 1 ≤ length (cond small (x ∷ []) (y ∷ ys))
some_octets true x y ys = omega arith
some_octets false x y ys = omega arith

identifier_some : (tag : Tag) (constructed : Bool) → 1 ≤ length (identifier_octets tag constructed)
unfolding identifier_octets
identifier_some tag constructed = some_octets _ _ _ (base_128 tag.number)

-- a header has an octet
pub head_size : (os : List ℕ) (h : Head) → AreDigits 256 os → head_of os ≡ Ok h → 1 ≤ h.size
head_size os h digits e = omega (arith, (head_takes os h digits e).size, identifier_some h.tag h.constructed)

-- the octets of an element that was due are some
pub due_some : (wanted : Tag → Bool) (at : ℕ) (os : List ℕ) (h : Head) → AreDigits 256 os → due_at wanted at os ≡ Ok h → 1 ≤ h.size + h.contents
due_some wanted at os h digits e = omega (arith, head_size os h digits (due_ok wanted at os h e).0)

item_cons : (tags : List Tag) (kind : AbstractKind) (cons : Constraints) (ordered : Bool) (before : List ℕ) (at : ℕ) (os : List ℕ)
    → item_alone ordered (begins_with (type_of tags kind cons)) (element_at (type_of tags kind cons)) before at os ≡ item_alone ordered (begins_with (whole tags kind)) (element_at (whole tags kind)) before at os
unfolding item_alone element_at
item_cons [] kind cons ordered before at os = refl
item_cons (t ∷ ts) kind cons ordered before at os = refl

-- an element of the type by its tags and its kind
pub item_tags : (ty : Ty) (tags : List Tag) (ordered : Bool) (before : List ℕ) (at : ℕ) (os : List ℕ) → tags ≡ (out-Ty ty).tags.items
    → item_alone ordered (begins_with (type_view ty)) (element_at (type_view ty)) before at os ≡ item_alone ordered (begins_with (whole tags (kind_view (out-Ty ty).kind))) (element_at (whole tags (kind_view (out-Ty ty).kind))) before at os
item_tags ty tags ordered before at os is =
    ap (λ (t : AbstractType). item_alone ordered (begins_with t) (element_at t) before at os) (type_view_is ty)
    ∙ item_cons (out-Ty ty).tags.items (kind_view (out-Ty ty).kind) _ ordered before at os
    ∙ ap (λ (ts : List Tag). item_alone ordered (begins_with (whole ts (kind_view (out-Ty ty).kind))) (element_at (whole ts (kind_view (out-Ty ty).kind))) before at os) (sym is)

pub item_not_due : (f : Option AbstractBreach) (ordered : Bool) (wanted : Tag → Bool) (read : Reader) (before : List ℕ) (at : ℕ) (os : List ℕ) → Refuses f (due_at wanted at os) → Refuses f (item_alone ordered wanted read before at os)
unfolding item_alone
item_not_due f ordered wanted read before at os e = refuses_bind f (due_at wanted at os) _ e

pub item_not_read : (f : Option AbstractBreach) (ordered : Bool) (wanted : Tag → Bool) (read : Reader) (before : List ℕ) (at : ℕ) (os : List ℕ) (h : Head) → due_at wanted at os ≡ Ok h → Refuses f (read at h os) → Refuses f (item_alone ordered wanted read before at os)
item_not_read None ordered wanted read before at os h due e = tt
item_not_read (Some b) ordered wanted read before at os h due e = let d = due_ok wanted at os h due in alone_fails ordered wanted read before at os h b d.0 d.1 e

pub item_descends : (ordered : Bool) (wanted : Tag → Bool) (read : Reader) (before : List ℕ) (at : ℕ) (os : List ℕ) (h : Head) (v : AbstractValue) → due_at wanted at os ≡ Ok h → read at h os ≡ Ok v
    → (ordered && descends before (take (h.size + h.contents) os)) ≡ true → item_alone ordered wanted read before at os ≡ Err (fault code.SetOfOrder at)
item_descends ordered wanted read before at os h v due e down = let d = due_ok wanted at os h due in alone_descends ordered wanted read before at os h v d.0 d.1 e down

pub item_is_read : (ordered : Bool) (wanted : Tag → Bool) (read : Reader) (before : List ℕ) (at : ℕ) (os : List ℕ) (h : Head) (v : AbstractValue) → due_at wanted at os ≡ Ok h → read at h os ≡ Ok v
    → (ordered && descends before (take (h.size + h.contents) os)) ≡ false → item_alone ordered wanted read before at os ≡ Ok (v, h.size + h.contents)
item_is_read ordered wanted read before at os h v due e up = let d = due_ok wanted at os h due in alone_reads ordered wanted read before at os h v d.0 d.1 e up

-- ---- several

-- elements, and then more
abbrev pub followed : List AbstractValue → Items → Items
followed [] vs = vs
followed (v ∷ front) vs = value.item v (followed front vs)

-- what was read before, and what is still read
abbrev pub with_items : List AbstractValue → Result Items AbstractBreach → Result Items AbstractBreach
with_items front read = read >>= λ vs. Ok (followed front vs)

followed_push : (front : List AbstractValue) (v : AbstractValue) (vs : Items) → followed (front ++ v ∷ []) vs ≡ followed front (value.item v vs)
followed_push [] v vs = refl
followed_push (w ∷ front) v vs = ap (value.item w) (followed_push front v vs)

followed_all : (front : List AbstractValue) → followed front value.no_items ≡ items_of front
followed_all [] = refl
followed_all (v ∷ front) = ap (value.item v) (followed_all front)

regroup : (front : List AbstractValue) (v : AbstractValue) (read : Result Items AbstractBreach) → with_items front (read >>= λ vs. Ok (value.item v vs)) ≡ with_items (front ++ v ∷ []) read
regroup front v (Ok vs) = ap (λ (vs : Items). Ok vs) (sym (followed_push front v vs))
regroup front v (Err b) = refl

no_items_before : (read : Result Items AbstractBreach) → with_items [] read ≡ read
no_items_before (Ok vs) = refl
no_items_before (Err b) = refl

-- what is still read where so many octets were there and so many elements are read
abbrev pub items_left : AbstractType → Bool → ℕ → ℕ → List ℕ → ℕ → List ℕ → Result Items AbstractBreach
items_left t ordered all i before at rest = Read t ordered (all - i) i before at rest

pub items_begin : (t : AbstractType) (ordered : Bool) (at : ℕ) (os : List ℕ) → with_items [] (items_left t ordered (length os) 0 [] at os) ≡ items_at (length os) ordered (begins_with t) (element_at t) 0 [] at os
items_begin t ordered at os =
    let all : length os - 0 ≡ length os = omega arith in
    no_items_before (items_left t ordered (length os) 0 [] at os) ∙ ap (λ (n : ℕ). Read t ordered n 0 [] at os) all

some_left : (rest : List ℕ) → eqb (length rest) 0 ≡ false → 1 ≤ length rest
some_left [] e = absurd cc
some_left (o ∷ rest) e = omega arith

pub items_go_on : (t : AbstractType) (ordered : Bool) (all : ℕ) (items : List Value) (x : Value) (before : List ℕ) (at n : ℕ) (rest : List ℕ) (total : Result Items AbstractBreach) → eqb (length rest) 0 ≡ false → length items + length rest ≤ all
    → item_at ordered (begins_with t) (element_at t) (length items) before at rest ≡ Ok (value_view x, n) → with_items (map value_view items) (items_left t ordered all (length items) before at rest) ≡ total
    → with_items (map value_view (items ++ x ∷ [])) (items_left t ordered all (length (items ++ x ∷ [])) (take n rest) (at + n) (drop n rest)) ≡ total
items_go_on t ordered all items x before at n rest total more counted read so_far =
    let some = some_left rest more in
    let left : ℕ = all - suc (length items) in
    let tries : all - length items ≡ suc left = omega (arith, some, counted) in
    let count : length (items ++ x ∷ []) ≡ suc (length items) = omega (arith, length-append items (x ∷ [])) in
    let next : with_items (map value_view items) (items_left t ordered all (length items) before at rest) ≡ with_items (map value_view items ++ value_view x ∷ []) (Read t ordered left (suc (length items)) (take n rest) (at + n) (drop n rest)) =
    ap (λ (k : ℕ). with_items (map value_view items) (Read t ordered k (length items) before at rest)) tries
    ∙ ap (with_items (map value_view items)) (items_on left ordered (λ tag. begins_with t tag) (element_at t) (length items) before at rest (value_view x, n) some read)
    ∙ regroup (map value_view items) (value_view x) (Read t ordered left (suc (length items)) (take n rest) (at + n) (drop n rest)) in
    ap (λ (front : List AbstractValue). with_items front (items_left t ordered all (length (items ++ x ∷ [])) (take n rest) (at + n) (drop n rest))) (map_push value_view items x)
    ∙ ap (λ (k : ℕ). with_items (map value_view items ++ value_view x ∷ []) (items_left t ordered all k (take n rest) (at + n) (drop n rest))) count
    ∙ sym next ∙ so_far

pub items_refused : (f : Option AbstractBreach) (t : AbstractType) (ordered : Bool) (all : ℕ) (items : List Value) (before : List ℕ) (at : ℕ) (rest : List ℕ) (total : Result Items AbstractBreach) → eqb (length rest) 0 ≡ false → length items + length rest ≤ all
    → Refuses f (item_at ordered (begins_with t) (element_at t) (length items) before at rest) → with_items (map value_view items) (items_left t ordered all (length items) before at rest) ≡ total → Refuses f total
items_refused None t ordered all items before at rest total more counted read so_far = tt
items_refused (Some b) t ordered all items before at rest total more counted read so_far =
    let some = some_left rest more in
    let left : ℕ = all - suc (length items) in
    let tries : all - length items ≡ suc left = omega (arith, some, counted) in
    sym so_far
    ∙ ap (λ (k : ℕ). with_items (map value_view items) (Read t ordered k (length items) before at rest)) tries
    ∙ ap (with_items (map value_view items)) (items_fail left ordered (λ tag. begins_with t tag) (element_at t) (length items) before at rest b some read)

nothing_left : (rest : List ℕ) → eqb (length rest) 0 ≡ true → rest ≡ []
nothing_left [] e = refl
nothing_left (o ∷ rest) e = absurd (omega (arith, eqb-true (length (o ∷ rest)) 0 e))

pub items_done : (t : AbstractType) (ordered : Bool) (all : ℕ) (items : List Value) (before : List ℕ) (at : ℕ) (rest : List ℕ) (total : Result Items AbstractBreach) → eqb (length rest) 0 ≡ true
    → with_items (map value_view items) (items_left t ordered all (length items) before at rest) ≡ total → total ≡ Ok (items_view items)
items_done t ordered all items before at rest total none so_far =
    sym so_far
    ∙ ap (λ (x : List ℕ). with_items (map value_view items) (items_left t ordered all (length items) before at x)) (nothing_left rest none)
    ∙ ap (with_items (map value_view items)) (items_end (all - length items) ordered (λ tag. begins_with t tag) (element_at t) (length items) before at)
    ∙ ap (λ (vs : Items). Ok vs) (followed_all (map value_view items))

-- ---- contents

pub sequence_of_contents : (kind : Kind) (t : Box Ty) (at start : ℕ) (os : List ℕ) → kind ≡ SequenceOf t → contents_at (kind_view kind) at start os ≡ items_read (items_at (length os) false (begins_with (type_view t.value)) (element_at (type_view t.value)) 0 [] start os)
unfolding contents_at
sequence_of_contents kind t at start os is = ap (λ (k : AbstractKind). contents_at k at start os) (ap kind_view is ∙ kind_view_sequence_of t)

pub set_of_contents : (kind : Kind) (t : Box Ty) (at start : ℕ) (os : List ℕ) → kind ≡ SetOf t → contents_at (kind_view kind) at start os ≡ items_read (items_at (length os) true (begins_with (type_view t.value)) (element_at (type_view t.value)) 0 [] start os)
unfolding contents_at
set_of_contents kind t at start os is = ap (λ (k : AbstractKind). contents_at k at start os) (ap kind_view is ∙ kind_view_set_of t)

pub contents_refused : (f : Option AbstractBreach) (whole : Result AbstractValue AbstractBreach) (r : Result Items AbstractBreach) → whole ≡ items_read r → Refuses f r → Refuses f whole
contents_refused None whole r is e = tt
contents_refused (Some b) whole r is e = is ∙ ap items_read e

pub contents_read : (vs : ArcSlice Value Global) (whole : Result AbstractValue AbstractBreach) (r : Result Items AbstractBreach) → whole ≡ items_read r → r ≡ Ok (items_view (arc_slice_items vs)) → whole ≡ Ok (value_view (values.Items vs))
contents_read vs whole r is e = is ∙ ap items_read e ∙ ap (λ (v : AbstractValue). Ok v) (sym (value_view_items vs))

abbrev below_if : ℕ → Option AbstractBreach → Option AbstractBreach
below_if i f = option_map (below (Element i)) f

-- faults of an element, seen from the value round it
pub item_refused : (f : Option AbstractBreach) (ordered : Bool) (wanted : Tag → Bool) (read : Reader) (i : ℕ) (before : List ℕ) (at : ℕ) (os : List ℕ) → Refuses f (item_alone ordered wanted read before at os) → Refuses (below_if i f) (item_at ordered wanted read i before at os)
item_refused None ordered wanted read i before at os e = tt
item_refused (Some b) ordered wanted read i before at os e = item_fails ordered wanted read i before at os b e
