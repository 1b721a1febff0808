-- What the name of a message leads to, as the index is made and as it is read.
use Rattle.std.proofs.Common.{◌≡◌, ℕ, zero, suc, ◌+◌, ◌<◌, Bool, true, false, cond, ◌&&◌, List, [], ◌∷◌, ◌++◌, length, get_or, take, drop, map, slice_get, Option, Some, None, option_map, option_and_then, is_some, refl, ap, sym, ◌∙◌, subst, arith, add-one}
use Rattle.std.specs.Prelude.{bytes_eq}
use Rattle.std.specs.Borrow.{Bor}
use Rattle.std.specs.Map.{lookup}
use Rattle.std.specs.Option.{option_or}
use Rattle.std.specs.Slice.{IsItemAt}
use Rattle.std.proofs.Math.Seq.{drop-cons}
use Rattle.std.proofs.lemmas.Option.{same_Some, slice_get_past, slice_get_read, slice_get-map, some_pair_parts}
use Rattle.std.proofs.lemmas.Slice.Eq.{bytes_eq-Decides}
use Rattle.indexmap.specs.IndexMap.{insert_entry}
use Rattle.guard_model.specs.AbstractType.{AbstractType}
use Rattle.guard_policy.specs.declared.index.Listed.{Listed}
use Rattle.guard_policy.specs.Decisions.{NumberedRule, speaks_of, speaking}
use Rattle.guard_policy.specs.Names.{is_meant}
use Rattle.guard_policy.specs.inside.Listings.{AbstractListed, place_among, numbers_for, listing, listed_view, rules_at, heard}
use Rattle.guard_policy.specs.Policies.{AbstractMessage, AbstractRule, AbstractRoute, declared_among}

-- ---- what is at a place of a list

pub drop_get : {A : Type 0} (xs : List A) (i : ℕ) (y : A) (ys : List A) → drop i xs ≡ y ∷ ys → slice_get xs i ≡ Some y
drop_get [] zero y ys e = absurd cc
drop_get [] (suc i) y ys e = absurd cc
drop_get {A} (x ∷ xs) zero y ys e = ap (λ (all : List A). slice_get all 0) e
drop_get (x ∷ xs) (suc i) y ys e = drop_get xs i y ys e

drop_behind : {A : Type 0} (xs : List A) (i : ℕ) (y : A) (ys : List A) → drop i xs ≡ y ∷ ys → drop (suc i) xs ≡ ys
drop_behind [] zero y ys e = absurd cc
drop_behind [] (suc i) y ys e = absurd cc
drop_behind {A} (x ∷ xs) zero y ys e = ap (λ (all : List A). drop 1 all) e
drop_behind (x ∷ xs) (suc i) y ys e = drop_behind xs i y ys e

pub drop_rest : {A : Type 0} (xs : List A) (i : ℕ) (y : A) (ys : List A) → drop i xs ≡ y ∷ ys → drop (i + 1) xs ≡ ys
drop_rest xs i y ys e = ap (λ n. drop n xs) (add-one i) ∙ drop_behind xs i y ys e

-- what is left begins with the item at the place
pub front_is : {A : Type 0} (xs : List A) (i : ℕ) (d : A) → i < length xs → drop i xs ≡ get_or xs i d ∷ drop (i + 1) xs
front_is {A} xs i d lt = drop-cons xs i d lt ∙ ap (λ n. get_or xs i d ∷ drop n xs) (sym (add-one i))

fused : {X Y : Type 0} (view : X → Y) (r : Option (Bor X)) → option_map (λ x. view x.now) r ≡ option_map view (option_map (λ x. x.now) r)
fused view None = refl
fused view (Some x) = refl

pub item_there : {X : Type 0} (xs : List X) (i : ℕ) (r : Option (Bor X)) → IsItemAt xs i r → option_map (λ x. x.now) r ≡ slice_get xs i
item_there xs i None h = sym (slice_get_past xs i h.3)
item_there xs i (Some x) h = sym (slice_get_read xs (length xs) i x.now refl h.3.0 h.1)

-- what a look-up by a place finds
pub viewed : {X Y : Type 0} (view : X → Y) (xs : List X) (i : ℕ) (r : Option (Bor X)) → IsItemAt xs i r → option_map (λ x. view x.now) r ≡ slice_get (map view xs) i
viewed view xs i r h = fused view r ∙ ap (option_map view) (item_there xs i r h) ∙ sym (slice_get-map view xs i)

-- how many were taken
pub taken_length : {X Y : Type 0} (view : X → Y) (xs : List X) (i : ℕ) → i < length xs → i ≡ length (map view (take i xs))
taken_length view [] i lt = absurd (omega (arith, lt))
taken_length view (x ∷ xs) zero lt = refl
taken_length view (x ∷ xs) (suc i) lt = ap suc (taken_length view xs i (omega (arith, lt)))

-- ---- the rules that speak of the message are those that its name leads to

pub speaks_not : (route : AbstractRoute) (r : AbstractRule) → bytes_eq r.message route.message ≡ false → speaks_of route r ≡ false
speaks_not route r e =
    ap (λ b. is_meant r.from route.from && is_meant r.to route.to && b) e ∙ neither (is_meant r.from route.from) (is_meant r.to route.to)
  where
    neither : (a b : Bool) → (a && b && false) ≡ false
    neither true true = refl
    neither true false = refl
    neither false b = refl

heard_from : (route : AbstractRoute) (all rest : List AbstractRule) (i : ℕ) → drop i all ≡ rest → heard route (rules_at all (numbers_for route.message i rest)) ≡ speaking route i rest
heard_from route all [] i e = refl
heard_from route all (r ∷ rs) i e =
    let more : heard route (rules_at all (numbers_for route.message (i + 1) rs)) ≡ speaking route (i + 1) rs = heard_from route all rs (i + 1) (drop_rest all i r rs e) in
    let front : List NumberedRule → List NumberedRule = λ others. record { number = i; rule = r } ∷ others in
    (elim (bytes_eq r.message route.message) as (λ (b : Bool). bytes_eq r.message route.message ≡ b
    → heard route (rules_at all (cond b (i ∷ numbers_for route.message (i + 1) rs) (numbers_for route.message (i + 1) rs))) ≡ speaking route i (r ∷ rs)) [
      | true ↦ λ same.
          ap (λ (o : Option AbstractRule). heard route (elim o [ Some x ↦ record { number = i; rule = x } ∷ rules_at all (numbers_for route.message (i + 1) rs) | None ↦ rules_at all (numbers_for route.message (i + 1) rs) ])) (drop_get all i r rs e)
          ∙ ap (λ (others : List NumberedRule). cond (speaks_of route r) (front others) others) more
      | false ↦ λ other. more ∙ ap (λ b. cond b (front (speaking route (i + 1) rs)) (speaking route (i + 1) rs)) (sym (speaks_not route r other))
    ]) refl

heard_all : (route : AbstractRoute) (rules : List AbstractRule) → heard route (rules_at rules (numbers_for route.message 0 rules)) ≡ speaking route 0 rules
heard_all route rules = heard_from route rules rules 0 refl

pub heard_listed : (route : AbstractRoute) (rules : List AbstractRule) (numbers : List ℕ) → numbers ≡ numbers_for route.message 0 rules → heard route (rules_at rules numbers) ≡ speaking route 0 rules
heard_listed route rules numbers e = ap (λ (ns : List ℕ). heard route (rules_at rules ns)) e ∙ heard_all route rules

-- ---- what a name leads to

-- where it leads to something
pub listed_parts : (messages : List AbstractMessage) (rules : List AbstractRule) (name : List ℕ) (l : AbstractListed) → listing messages rules name ≡ Some l
    → (place_among name 0 messages ≡ Some l.place) × (l.numbers ≡ numbers_for name 0 rules)
listed_parts messages rules name l e = parts (place_among name 0 messages) e
  where
    parts : (o : Option ℕ) → option_map {U = AbstractListed} (λ place. record { place = place; numbers = numbers_for name 0 rules }) o ≡ Some l
        → (o ≡ Some l.place) × (l.numbers ≡ numbers_for name 0 rules)
    parts None is = absurd cc
    parts (Some i) is = (ap (option_map (λ (x : AbstractListed). x.place)) is, ap (λ (x : AbstractListed). x.numbers) (sym (same_Some _ _ is)))

-- where it leads to nothing
pub unlisted : (messages : List AbstractMessage) (rules : List AbstractRule) (name : List ℕ) → listing messages rules name ≡ None → place_among name 0 messages ≡ None
unlisted messages rules name e = parts (place_among name 0 messages) e
  where
    parts : (o : Option ℕ) → option_map {U = AbstractListed} (λ place. record { place = place; numbers = numbers_for name 0 rules }) o ≡ None → o ≡ None
    parts None is = refl
    parts (Some i) is = absurd cc

-- ---- what is declared is what the index leads to

-- a declared type with the numbers of the rules
abbrev pub with_numbers : List AbstractRule → List ℕ → AbstractType → AbstractType × List ℕ
with_numbers rules name t = (t, numbers_for name 0 rules)

-- what is at a place, with numbers
abbrev pub type_at : List AbstractMessage → AbstractListed → Option (AbstractType × List ℕ)
type_at messages l = option_map (λ m. (m.ty, l.numbers)) (slice_get messages l.place)

abbrev listed_with : List ℕ → ℕ → AbstractListed
listed_with numbers place = record { place = place; numbers = numbers }

declared_from : (all rest : List AbstractMessage) (i : ℕ) (name numbers : List ℕ) → drop i all ≡ rest
    → option_map (λ (t : AbstractType). (t, numbers)) (declared_among rest name) ≡ option_and_then (type_at all) (option_map (listed_with numbers) (place_among name i rest))
declared_from all [] i name numbers e = refl
declared_from all (m ∷ ms) i name numbers e =
    let more = declared_from all ms (i + 1) name numbers (drop_rest all i m ms e) in
    elim (bytes_eq m.name name) as (λ (b : Bool). option_map (λ (t : AbstractType). (t, numbers)) (cond b (Some m.ty) (declared_among ms name))
    ≡ option_and_then (type_at all) (option_map (listed_with numbers) (cond b (Some i) (place_among name (i + 1) ms)))) [
      | true ↦ ap (option_map (λ (x : AbstractMessage). (x.ty, numbers))) (sym (drop_get all i m ms e))
      | false ↦ more
    ]

pub declared_listed : (messages : List AbstractMessage) (rules : List AbstractRule) (name : List ℕ)
    → option_map (with_numbers rules name) (declared_among messages name) ≡ option_and_then (type_at messages) (listing messages rules name)
declared_listed messages rules name = declared_from messages messages 0 name (numbers_for name 0 rules) refl

pub listed_nothing : (messages : List AbstractMessage) (rules : List AbstractRule) (name : List ℕ) → listing messages rules name ≡ None
    → option_map (with_numbers rules name) (declared_among messages name) ≡ None
listed_nothing messages rules name none = declared_listed messages rules name ∙ ap (option_and_then (type_at messages)) none

pub listed_type : (messages : List AbstractMessage) (rules : List AbstractRule) (name : List ℕ) (l : AbstractListed) (o : Option AbstractMessage) → listing messages rules name ≡ Some l → slice_get messages l.place ≡ o
    → option_map (with_numbers rules name) (declared_among messages name) ≡ option_map {U = AbstractType × List ℕ} (λ m. (m.ty, l.numbers)) o
listed_type messages rules name l o some at =
    declared_listed messages rules name ∙ ap (option_and_then (type_at messages)) some ∙ ap (option_map {U = AbstractType × List ℕ} (λ (m : AbstractMessage). (m.ty, l.numbers))) at

-- what the index leads to is what is declared
pub declared_pair : (rules : List AbstractRule) (name : List ℕ) (o : Option AbstractType) (t : AbstractType) (numbers : List ℕ)
    → ◌≡◌ {A = Option (AbstractType × List ℕ)} (Some (t, numbers)) (option_map (with_numbers rules name) o) → (o ≡ Some t) × (numbers ≡ numbers_for name 0 rules)
declared_pair rules name None t numbers e = absurd cc
declared_pair rules name (Some u) t numbers e =
    let p = some_pair_parts t u numbers (numbers_for name 0 rules) e in (ap Some (sym p.0), p.1)

pub declared_none : (rules : List AbstractRule) (name : List ℕ) (o : Option AbstractType)
    → ◌≡◌ {A = Option (AbstractType × List ℕ)} None (option_map (with_numbers rules name) o) → o ≡ None
declared_none rules name None e = refl
declared_none rules name (Some u) e = absurd cc

-- ---- one message more

place-push : (name : List ℕ) (i n : ℕ) (ms : List AbstractMessage) (m : AbstractMessage) → n ≡ i + length ms
    → place_among name i (ms ++ m ∷ []) ≡ option_or (place_among name i ms) (cond (bytes_eq m.name name) (Some n) None)
place-push name i n [] m e = let same : i ≡ n = omega (arith, e) in ap (λ k. cond (bytes_eq m.name name) (Some k) None) same
place-push name i n (x ∷ xs) m e =
    elim (bytes_eq x.name name) as (λ (b : Bool). cond b (Some i) (place_among name (i + 1) (xs ++ m ∷ [])) ≡ option_or (cond b (Some i) (place_among name (i + 1) xs)) (cond (bytes_eq m.name name) (Some n) None)) [
      | true ↦ refl
      | false ↦ place-push name (i + 1) n xs m (omega (arith, e))
    ]

map_or : {A B : Type 0} (f : A → B) (a : Option A) (b : Bool) (x : A) → option_map f (option_or a (cond b (Some x) None)) ≡ option_or (option_map f a) (cond b (Some (f x)) None)
map_or f (Some y) b x = refl
map_or f None true x = refl
map_or f None false x = refl

lookup-push : {K X : Type 0} (p : K → Bool) (es : List (K × X)) (k : K) (v : X) → lookup p (es ++ (k, v) ∷ []) ≡ option_or (lookup p es) (cond (p k) (Some v) None)
lookup-push p [] k v = refl
lookup-push p (e ∷ es) k v =
    elim (p e.0) as (λ (b : Bool). cond b (Some e.1) (lookup p (es ++ (k, v) ∷ [])) ≡ option_or (cond b (Some e.1) (lookup p es)) (cond (p k) (Some v) None)) [
      | true ↦ refl
      | false ↦ lookup-push p es k v
    ]

-- names are alike whichever comes first
pub alike : (a b : List ℕ) → bytes_eq a b ≡ bytes_eq b a
alike a b =
    (elim (bytes_eq a b) as (λ (x : Bool). bytes_eq a b ≡ x → x ≡ bytes_eq b a) [
      | true ↦ λ same. let e : a ≡ b = (bytes_eq-Decides a b).0 same in sym (ap (λ (c : List ℕ). bytes_eq b c) e ∙ (bytes_eq-Decides b b).1 refl)
      | false ↦ λ other.
          (elim (bytes_eq b a) as (λ (y : Bool). bytes_eq b a ≡ y → false ≡ y) [
            | true ↦ λ same. sym other ∙ (bytes_eq-Decides a b).1 (sym ((bytes_eq-Decides b a).0 same))
            | false ↦ λ neither. refl
          ]) refl
    ]) refl

listing-push : (messages : List AbstractMessage) (rules : List AbstractRule) (m : AbstractMessage) (n : ℕ) (name : List ℕ) → n ≡ length messages
    → listing (messages ++ m ∷ []) rules name ≡ option_or (listing messages rules name) (cond (bytes_eq m.name name) (Some (listed_with (numbers_for name 0 rules) n)) None)
listing-push messages rules m n name is =
    ap (option_map (listed_with (numbers_for name 0 rules))) (place-push name 0 n messages m (omega (arith, is)))
    ∙ map_or (listed_with (numbers_for name 0 rules)) (place_among name 0 messages) (bytes_eq m.name name) n

-- the numbers are those of the name
same_numbers : (name other : List ℕ) (rules : List AbstractRule) (n : ℕ)
    → cond (bytes_eq name other) (Some (listed_with (numbers_for other 0 rules) n)) None ≡ cond (bytes_eq other name) (Some (listed_with (numbers_for name 0 rules) n)) None
same_numbers name other rules n =
    (elim (bytes_eq name other) as (λ (b : Bool). bytes_eq name other ≡ b
    → cond b (Some (listed_with (numbers_for other 0 rules) n)) None ≡ cond b (Some (listed_with (numbers_for name 0 rules) n)) None) [
      | true ↦ λ same. ap (λ (x : List ℕ). Some (listed_with (numbers_for x 0 rules) n)) (sym ((bytes_eq-Decides name other).0 same))
      | false ↦ λ differ. refl
    ]) refl ∙ ap (λ b. cond b (Some (listed_with (numbers_for name 0 rules) n)) None) (alike name other)

module _ (messages : List AbstractMessage) (rules : List AbstractRule) (m : AbstractMessage) (n : ℕ) (is : n ≡ length messages) where
  -- a message whose name is new
  pub says_new : {K : Type 0} (items : K → List ℕ) (es new : List (K × Listed)) (k : K) (l : Listed)
      → ((name : List ℕ) → option_map listed_view (lookup (λ key. bytes_eq name (items key)) es) ≡ listing messages rules name)
      → new ≡ es ++ (k, l) ∷ [] → items k ≡ m.name → listed_view l ≡ listed_with (numbers_for m.name 0 rules) n
      → (name : List ℕ) → option_map listed_view (lookup (λ key. bytes_eq name (items key)) new) ≡ listing (messages ++ m ∷ []) rules name
  says_new {K} items es new k l says more key value name =
      ap (λ (all : List (K × Listed)). option_map listed_view (lookup (λ x. bytes_eq name (items x)) all)) more
      ∙ ap (option_map listed_view) (lookup-push (λ x. bytes_eq name (items x)) es k l)
      ∙ map_or listed_view (lookup (λ x. bytes_eq name (items x)) es) (bytes_eq name (items k)) l
      ∙ ap (λ (o : Option AbstractListed). option_or o (cond (bytes_eq name (items k)) (Some (listed_view l)) None)) (says name)
      ∙ ap (λ (x : List ℕ). option_or (listing messages rules name) (cond (bytes_eq name x) (Some (listed_view l)) None)) key
      ∙ ap (λ (x : AbstractListed). option_or (listing messages rules name) (cond (bytes_eq name m.name) (Some x) None)) value
      ∙ ap (option_or (listing messages rules name)) (same_numbers name m.name rules n)
      ∙ sym (listing-push messages rules m n name is)

  or_none : {A : Type 0} (o : Option A) → option_or o None ≡ o
  or_none None = refl
  or_none (Some x) = refl

  or_some : {A : Type 0} (o : Option A) (b : Option A) → is_some o ≡ true → option_or o b ≡ o
  or_some None b e = absurd cc
  or_some (Some x) b e = refl

  -- a message whose name another has
  pub says_old : is_some (listing messages rules m.name) ≡ true → (name : List ℕ) → listing messages rules name ≡ listing (messages ++ m ∷ []) rules name
  says_old there name = sym (listing-push messages rules m n name is ∙ kept)
    where
      kept : option_or (listing messages rules name) (cond (bytes_eq m.name name) (Some (listed_with (numbers_for name 0 rules) n)) None) ≡ listing messages rules name
      kept =
          (elim (bytes_eq m.name name) as (λ (b : Bool). bytes_eq m.name name ≡ b
          → option_or (listing messages rules name) (cond b (Some (listed_with (numbers_for name 0 rules) n)) None) ≡ listing messages rules name) [
            | true ↦ λ same. or_some (listing messages rules name) (Some (listed_with (numbers_for name 0 rules) n))
                (subst (λ (x : List ℕ). is_some (listing messages rules x) ≡ true) ((bytes_eq-Decides m.name name).0 same) there)
            | false ↦ λ other. or_none (listing messages rules name)
          ]) refl

-- a new key goes last
pub inserted_last : {K X : Type 0} (eq : K → K → Bool) (es : List (K × X)) (k : K) (v : X) → is_some (lookup (eq k) es) ≡ false → insert_entry eq es k v ≡ es ++ (k, v) ∷ []
inserted_last eq [] k v absent = refl
inserted_last {K} {X} eq (e ∷ es) k v absent =
    (elim (eq k e.0) as (λ (b : Bool). is_some (cond b (Some e.1) (lookup (eq k) es)) ≡ false → cond b ((e.0, v) ∷ es) (e ∷ insert_entry eq es k v) ≡ e ∷ (es ++ (k, v) ∷ [])) [
      | true ↦ λ there. absurd cc
      | false ↦ λ none. ap (λ (all : List (K × X)). e ∷ all) (inserted_last eq es k v none)
    ]) absent

pub is_some-map : {X Y : Type 0} (f : X → Y) (o : Option X) → is_some (option_map f o) ≡ is_some o
is_some-map f None = refl
is_some-map f (Some x) = refl
