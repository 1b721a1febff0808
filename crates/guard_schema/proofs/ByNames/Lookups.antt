-- Look-ups by one name and by two, as the index is made and as it is read.
use Rattle.std.proofs.Common.{◌≡◌, ℕ, ◌+◌, ◌<◌, Bool, true, false, cond, ◌&&◌, List, [], ◌∷◌, ◌++◌, length, map, take}
use Rattle.std.specs.Global.{Global}
use Rattle.std.specs.declared.sync.Arc.{Arc}
use Rattle.std.proofs.Common.{get_or, Option, Some, None, option_map, option_and_then, slice_get, is_some, refl, sym}
use Rattle.std.proofs.Common.{ap, ◌∙◌, true≢false}
use Rattle.std.specs.Prelude.{bytes_eq, All}
use Rattle.std.proofs.lemmas.List.Elements.{All-head, All-tail}
use Rattle.std.specs.Map.{remove_entry}
use Rattle.std.specs.Option.{option_or}
use Rattle.std.proofs.lemmas.List.{map_more}
use Rattle.std.proofs.lemmas.Slice.Eq.{bytes_eq-Decides}
use Rattle.indexmap.specs.IndexMap.{insert_entry}
use Rattle.std.proofs.Math.Path.{fun_ext}
use Rattle.guard_model.specs.TypeView.{shared_type_view}
use Rattle.guard_model.specs.declared.ty.Ty.{Ty}
use Rattle.guard_schema.specs.Entries.{Entry, looked_up, first_named, first_place, place_if, place_named}
use Rattle.guard_schema.specs.Schemas.{AbstractSchema}
use Rattle.guard_schema.specs.Views.{entry_view, found_in, place_in}
use Rattle.guard_schema.specs.declared.build.NamedDefinition.{NamedDefinition}
use Rattle.guard_schema.specs.declared.index.TypeIndex.{TypeIndex}

or_none : {X : Type 0} (o : Option X) → option_or o None ≡ o
or_none None = refl
or_none (Some x) = refl

-- two names that are a third are one
both : (q x y : List ℕ) → bytes_eq q x ≡ true → bytes_eq q y ≡ true → bytes_eq y x ≡ true
both q x y a b = (bytes_eq-Decides y x).1 (sym ((bytes_eq-Decides q y).0 b) ∙ (bytes_eq-Decides q x).0 a)

twist : {X : Type 0} (a b : Bool) (s v l : Option X) → (a ≡ true → b ≡ true → ⊥)
    → cond a s (cond b v l) ≡ cond b v (cond a s l)
twist true true s v l apart = absurd (apart refl refl)
twist true false s v l apart = refl
twist false true s v l apart = refl
twist false false s v l apart = refl

again : {X : Type 0} (b : Bool) (v w l : Option X) → cond b v l ≡ cond b v (cond b w l)
again true v w l = refl
again false v w l = refl

abbrev pub same : {K : Type 0} → (K → List ℕ) → K → K → Bool
same items x y = bytes_eq (items x) (items y)

module _ {K X : Type 0} (items : K → List ℕ) where
  -- what is found after an insertion
  pub inserted : (q : List ℕ) (es : List (K × X)) (k : K) (v : X)
      → looked_up items q (insert_entry (same items) es k v) ≡ cond (bytes_eq q (items k)) (Some v)
      (looked_up items q es)
  inserted q [] k v = refl
  inserted q (e ∷ es) k v =
      (elim (bytes_eq (items k) (items e.0)) as (λ (t : Bool). bytes_eq (items k) (items e.0) ≡ t
      → looked_up items q (cond t ((e.0, v) ∷ es) (e ∷ insert_entry (same items) es k v)) ≡ cond (bytes_eq q (items k))
      (Some v) (cond (bytes_eq q (items e.0)) (Some e.1) (looked_up items q es))) [
        | true ↦ λ is.
            ap (λ (x : List ℕ). cond (bytes_eq q x) (Some v) (looked_up items q es))
            (sym ((bytes_eq-Decides (items k) (items e.0)).0 is))
            ∙ again (bytes_eq q (items k)) (Some v) (Some e.1) (looked_up items q es)
            ∙ ap (λ (x : List ℕ). cond (bytes_eq q (items k)) (Some v)
            (cond (bytes_eq q x) (Some e.1) (looked_up items q es))) ((bytes_eq-Decides (items k) (items e.0)).0 is)
        | false ↦ λ other.
            ap (λ (o : Option X). cond (bytes_eq q (items e.0)) (Some e.1) o) (inserted q es k v)
            ∙ twist (bytes_eq q (items e.0)) (bytes_eq q (items k)) (Some e.1) (Some v) (looked_up items q es)
            (λ a b. true≢false (sym (both q (items e.0) (items k) a b) ∙ other))
      ]) refl

  -- what is found of another name once one is taken out
  pub removed : (q home : List ℕ) (es : List (K × X)) → bytes_eq q home ≡ false
      → looked_up items q (remove_entry (λ key. bytes_eq home (items key)) es) ≡ looked_up items q es
  removed q home [] other = refl
  removed q home (e ∷ es) other =
      (elim (bytes_eq home (items e.0)) as (λ (t : Bool). bytes_eq home (items e.0) ≡ t
      → looked_up items q (cond t es (e ∷ remove_entry (λ key. bytes_eq home (items key)) es)) ≡ cond
      (bytes_eq q (items e.0)) (Some e.1) (looked_up items q es)) [
        | true ↦ λ is.
            let none : bytes_eq q (items e.0) ≡ false =
            ap (λ (x : List ℕ). bytes_eq q x) (sym ((bytes_eq-Decides home (items e.0)).0 is)) ∙ other in
            ap (λ (b : Bool). cond b (Some e.1) (looked_up items q es)) (sym none)
        | false ↦ λ miss. ap (λ (o : Option X). cond (bytes_eq q (items e.0)) (Some e.1) o) (removed q home es other)
      ]) refl

  -- ---- the first of a name stays

  pub placed : (q name : List ℕ) (es after : List (K × X)) (k : K) (v : X) → after ≡ insert_entry (same items) es k v
      → items k ≡ name → is_some (looked_up items name es) ≡ false
      → looked_up items q after ≡ option_or (looked_up items q es) (cond (bytes_eq q name) (Some v) None)
  placed q name es after k v is named absent =
      ap (λ (all : List (K × X)). looked_up items q all) is ∙ inserted q es k v
      ∙ ap (λ (x : List ℕ). cond (bytes_eq q x) (Some v) (looked_up items q es)) named
      ∙ (elim (bytes_eq q name) as (λ (b : Bool). bytes_eq q name ≡ b
      → cond b (Some v) (looked_up items q es) ≡ option_or (looked_up items q es) (cond b (Some v) None)) [
        | true ↦ λ is_it.
            let none : is_some (looked_up items q es) ≡ false =
            ap (λ (x : List ℕ). is_some (looked_up items x es)) ((bytes_eq-Decides q name).0 is_it) ∙ absent in
            (elim (looked_up items q es) as (λ (o : Option X). is_some o ≡ false → Some v ≡ option_or o (Some v)) [
              | None ↦ λ z. refl
              | Some x ↦ λ z. absurd (true≢false z)
            ]) none
        | false ↦ λ other. sym (or_none (looked_up items q es))
      ]) refl

  pub kept : (q name : List ℕ) (es : List (K × X)) (v : X) → is_some (looked_up items name es) ≡ true
      → looked_up items q es ≡ option_or (looked_up items q es) (cond (bytes_eq q name) (Some v) None)
  kept q name es v there =
      (elim (bytes_eq q name) as (λ (b : Bool). bytes_eq q name ≡ b
      → looked_up items q es ≡ option_or (looked_up items q es) (cond b (Some v) None)) [
        | true ↦ λ is_it.
            let some : is_some (looked_up items q es) ≡ true =
            ap (λ (x : List ℕ). is_some (looked_up items x es)) ((bytes_eq-Decides q name).0 is_it) ∙ there in
            (elim (looked_up items q es) as (λ (o : Option X). is_some o ≡ true → o ≡ option_or o (Some v)) [
              | None ↦ λ z. absurd (true≢false (sym z))
              | Some x ↦ λ z. refl
            ]) some
        | false ↦ λ other. sym (or_none (looked_up items q es))
      ]) refl

  -- ---- by two names

  -- one home's entries are taken out, and are put there again with one more
  pub renewed : {Y : Type 0} (see : List ℕ → X → Option Y) (home : List ℕ) (before less after : List (K × X)) (k : K)
      (own : X) (old : Option X) (extra : List ℕ → Option Y)
      → old ≡ looked_up items home before → less ≡ remove_entry (λ key. bytes_eq home (items key)) before
      → after ≡ insert_entry (same items) less k own → items k ≡ home
      → ((n : List ℕ) → see n own ≡ option_or (option_and_then (see n) old) (extra n))
      → (h n : List ℕ) → option_and_then (see n) (looked_up items h after) ≡ option_or
      (option_and_then (see n) (looked_up items h before)) (cond (bytes_eq h home) (extra n) None)
  renewed see home before less after k own old extra was taken put named more h n =
      ap (λ (all : List (K × X)). option_and_then (see n) (looked_up items h all)) put
      ∙ ap (option_and_then (see n)) (inserted h less k own)
      ∙ ap (λ (x : List ℕ). option_and_then (see n) (cond (bytes_eq h x) (Some own) (looked_up items h less))) named
      ∙ (elim (bytes_eq h home) as (λ (b : Bool). bytes_eq h home ≡ b
      → option_and_then (see n) (cond b (Some own) (looked_up items h less)) ≡ option_or
      (option_and_then (see n) (looked_up items h before)) (cond b (extra n) None)) [
        | true ↦ λ is.
            more n ∙ ap (λ (o : Option X). option_or (option_and_then (see n) o) (extra n))
            (was ∙ ap (λ (x : List ℕ). looked_up items x before) (sym ((bytes_eq-Decides h home).0 is)))
        | false ↦ λ miss.
            ap (λ (all : List (K × X)). option_and_then (see n) (looked_up items h all)) taken
            ∙ ap (option_and_then (see n)) (removed h home before miss)
            ∙ sym (or_none (option_and_then (see n) (looked_up items h before)))
      ]) refl

-- ---- the first of some definitions

or_within : {X : Type 0} (a b c : Option X) → option_or (option_or a b) c ≡ option_or a (option_or b c)
or_within None b c = refl
or_within (Some x) b c = refl

-- those of one module after others
pub first_append : (home name : List ℕ) (es others : List Entry)
    → first_named home name (es ++ others) ≡ option_or (first_named home name es) (first_named home name others)
first_append home name [] others = refl
first_append home name (d ∷ ds) others =
    elim (bytes_eq home d.home && bytes_eq name d.name) as
    (λ (b : Bool). cond b (Some d.place) (first_named home name (ds ++ others)) ≡ option_or
    (cond b (Some d.place) (first_named home name ds)) (first_named home name others)) [
      | true ↦ refl
      | false ↦ first_append home name ds others
    ]

none_either : (b : Bool) → ◌≡◌ {A = Option (Option ℕ)} (cond b None None) None
none_either true = refl
none_either false = refl

one_home : (a b : Bool) (p : Option ℕ) (rest : Option (Option ℕ))
    → cond (a && b) (Some p) (cond a rest None) ≡ cond a (cond b (Some p) rest) None
one_home true b p rest = refl
one_home false b p rest = refl

-- those of one module by their own names
pub own_named : (home q name : List ℕ) (es : List Entry) → All (λ e. e.home ≡ home) es
    → first_named q name es ≡ cond (bytes_eq q home) (first_place name es) None
own_named home q name [] own = sym (none_either (bytes_eq q home))
own_named home q name (e ∷ es) own =
    ap (λ (x : List ℕ). cond (bytes_eq q x && bytes_eq name e.name) (Some e.place) (first_named q name es))
    (All-head (λ (x : Entry). x.home ≡ home) e es own)
    ∙ ap (λ (o : Option (Option ℕ)). cond (bytes_eq q home && bytes_eq name e.name) (Some e.place) o)
    (own_named home q name es (All-tail (λ (x : Entry). x.home ≡ home) e es own))
    ∙ one_home (bytes_eq q home) (bytes_eq name e.name) e.place (first_place name es)

place_more : (q : List ℕ) (es : List Entry) (e : Entry)
    → first_place q (es ++ e ∷ []) ≡ option_or (first_place q es) (place_if q e.name e.place)
place_more q [] e = refl
place_more q (d ∷ ds) e =
    elim (bytes_eq q d.name) as
    (λ (b : Bool). cond b (Some d.place) (first_place q (ds ++ e ∷ [])) ≡ option_or
    (cond b (Some d.place) (first_place q ds)) (place_if q e.name e.place)) [
      | true ↦ refl
      | false ↦ place_more q ds e
    ]

-- as a loop reads definitions
pub places_more : (definitions : List NamedDefinition) (i : ℕ) (d : NamedDefinition) → i < length definitions
    → (q : List ℕ) (start before after : Option (Option ℕ))
    → before ≡ option_or start (first_place q (map entry_view (take i definitions)))
    → after ≡ option_or before (place_if q (get_or definitions i d).name.now (get_or definitions i d).place)
    → after ≡ option_or start (first_place q (map entry_view (take (i + 1) definitions)))
places_more definitions i d lt q start before after so_far next =
    let one = entry_view (get_or definitions i d) in
    next ∙ ap (λ (o : Option (Option ℕ)). option_or o (place_if q one.name one.place)) so_far
    ∙ or_within start (first_place q (map entry_view (take i definitions))) (place_if q one.name one.place)
    ∙ ap (option_or start) (sym (place_more q (map entry_view (take i definitions)) one)
    ∙ ap (λ (es : List Entry). first_place q es) (sym (map_more entry_view definitions i d lt)))

pub places_before : (start : Option (Option ℕ)) → start ≡ option_or start None
places_before start = sym (or_none start)

-- ---- what a schema finds by an index

flattened : (home name : List ℕ) (es : List Entry)
    → option_and_then (λ place. place) (first_named home name es) ≡ place_named home name es
flattened home name [] = refl
flattened home name (e ∷ es) =
    elim (bytes_eq home e.home && bytes_eq name e.name) as
    (λ (b : Bool). option_and_then (λ place. place)
    (cond b (Some e.place) (first_named home name es)) ≡ cond b e.place (place_named home name es)) [
      | true ↦ refl
      | false ↦ flattened home name es
    ]

pub by_index : (ts : List (Arc Ty Global)) (names : List (List ℕ)) (index : TypeIndex) (es : List Entry)
    → ((home name : List ℕ) → found_in index home name ≡ first_named home name es)
    → ◌≡◌ {A = AbstractSchema} (record {
      modules = names;
      types =
          λ home name. option_map shared_type_view (option_and_then (slice_get ts) (place_in index home name));
    })
    (record {
      modules = names;
      types = λ home name. option_map shared_type_view
          (option_and_then (slice_get ts) (place_named home name es));
    })
by_index ts names index es says =
    let places : place_in index ≡ (λ (home name : List ℕ). place_named home name es) =
    fun_ext (λ home. fun_ext (λ name. ap (option_and_then (λ place. place)) (says home name)
    ∙ flattened home name es)) in
    ap (λ (f : List ℕ → List ℕ → Option ℕ). record
    { modules = names; types = λ home name. option_map shared_type_view (option_and_then (slice_get ts) (f home name)) })
    places
