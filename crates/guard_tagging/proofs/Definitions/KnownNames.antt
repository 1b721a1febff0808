-- The names of types in a definition mean definitions that come before it in the order, so that they are known when it
-- is built.
use Rattle.std.proofs.Common.{◌≡◌, ℕ, zero, suc, ◌<◌, ◌≤◌, Bool, true, false, cond, not, ◌&&◌, List, [], ◌∷◌, ◌++◌, length, map, take, Option, Some, None, option_map, is_some, slice_get, Contains, refl, sym, subst, arith, append_assoc}
use Rattle.std.specs.Option.{option_and_then}
use Rattle.std.proofs.lemmas.List.{append-nil}
use Rattle.std.proofs.lemmas.Option.{same_Some, slice_get_within}
use Rattle.guard_model.specs.AbstractType.{AbstractType}
use Rattle.guard_model.proofs.Options.{option_or_none}
use Rattle.std.specs.List.{flat_map}
use Rattle.guard_syntax.specs.Trees.{WrittenType, type_node, WrittenBase, numbers, structure, choice, of_type, named_type, WrittenComponents, no_components, component, components_from, WrittenAlternatives, no_alternatives, alternative, WrittenAssignment, WrittenModule}
use Rattle.guard_names.specs.declared.fault.NameFault.TheVariants.{Duplicate, Undefined, NoModule, NotExported, ImportNotDefined, TooManyModules}
use Rattle.guard_names.specs.Declarations.{Definition, definitions, declarations, definition_of, origin_there, Origins, Numbers}
use Rattle.guard_names.specs.Faults.{first_where, first_found, too_many, duplicate, no_module, not_defined, not_exported, is_type, is_undefined_mention, undefined_export_in, undefined_mention_in, undefined_in, undefined, fault_of_names}
use Rattle.guard_names.specs.Meanings.{Uses}
use Rattle.guard_names.specs.Mentions.{Mention, mentions, in_type, in_base, in_components, in_alternatives, in_constraint, in_of_constraint, in_presence, in_perhaps_value}
use Rattle.guard_names.specs.Order.{is_listed, Follow, IsOrder}
use Rattle.guard_names.specs.Places.{place_in}
use Rattle.guard_names.proofs.InOrder.Places.{placed_before}
use Rattle.guard_names.proofs.ByNames.SameUses.{are_means}
use Rattle.guard_tagging.specs.Skeletons.{AreMeanings}
use Rattle.guard_tagging.specs.Surroundings.{surroundings}
use Rattle.guard_tagging.specs.Types.{Surroundings, Meaning}
use Rattle.guard_tagging.specs.KnownNames.{IsKnown, IsKnownInside, AreKnown, AreKnownOthers}
use Rattle.guard_tagging.proofs.Definitions.Meanings.{as_many}

-- ---- a name of a type that means nothing would be a fault of names

no_site : {A B : Type 0} (f : A → B) (o : Option A) → option_map f o ≡ None → o ≡ None
no_site f None h = refl
no_site f (Some a) h = absurd cc

undefined_none : (ms : List WrittenModule) → fault_of_names ms ≡ None → undefined ms ≡ None
undefined_none ms h =
    let a = option_or_none (cond (too_many ms) (Some TooManyModules) None) _ h in
    let b = option_or_none (option_map Duplicate (duplicate ms)) _ a.1 in
    let c = option_or_none (option_map NoModule (no_module ms)) _ b.1 in
    let d = option_or_none (option_map ImportNotDefined (not_defined ms)) _ c.1 in
    let e = option_or_none (option_map NotExported (not_exported ms)) (option_map Undefined (undefined ms)) d.1 in
    no_site Undefined (undefined ms) e.1

module _ (numbers : Numbers) where
  abbrev Defined : Definition → Type 0
  Defined d = undefined_mention_in numbers d.home.name d.assignment ≡ None

  assigned_defined : (m : WrittenModule) (assignments : List WrittenAssignment) (rest : List Definition)
      → first_found (undefined_mention_in numbers m.name) assignments ≡ None
      → ((i : ℕ) (d : Definition) → slice_get rest i ≡ Some d → Defined d)
      → (i : ℕ) (d : Definition) → slice_get (map (λ a. record { home = m; assignment = a }) assignments
      ++ rest) i ≡ Some d → Defined d
  assigned_defined m [] rest s others i d h = others i d h
  assigned_defined m (a ∷ assignments) rest s others zero d h =
      subst (λ (x : Definition). undefined_mention_in numbers x.home.name x.assignment ≡ None) (same_Some _ d h)
      (option_or_none (undefined_mention_in numbers m.name a)
      (first_found (undefined_mention_in numbers m.name) assignments) s).0
  assigned_defined m (a ∷ assignments) rest s others (suc i) d h =
      assigned_defined m assignments rest (option_or_none (undefined_mention_in numbers m.name a)
      (first_found (undefined_mention_in numbers m.name) assignments) s).1 others i d h

  module _ (origins : Origins) where
    all_defined : (ms : List WrittenModule) → first_found (undefined_in origins numbers) ms ≡ None
        → (i : ℕ) (d : Definition) → slice_get (definitions ms) i ≡ Some d → Defined d
    all_defined [] s i d h = absurd cc
    all_defined (m ∷ ms) s i d h =
        let n = option_or_none (undefined_in origins numbers m) (first_found (undefined_in origins numbers) ms) s in
        assigned_defined m m.assignments (definitions ms)
        (option_or_none (undefined_export_in origins m)
        (first_found (undefined_mention_in numbers m.name) m.assignments) n.0).1 (all_defined ms n.1) i d h

  -- each name of a type has a number
  abbrev HasNumber : List ℕ → Mention → Type 0
  HasNumber home x = is_type x.kind ≡ true → (number : ℕ) × (numbers home x.name ≡ Some number)

  numbered_here : (kind : Bool) (o : Option ℕ) → (kind && not (is_some o)) ≡ false → kind ≡ true
      → (number : ℕ) × (o ≡ Some number)
  numbered_here true None h e = absurd cc
  numbered_here true (Some n) h e = (n, refl)
  numbered_here false o h e = absurd cc

  passed : {A : Type 0} (wrong : Bool) (a : A) (rest : Option A) → cond wrong (Some a) rest ≡ None
      → (wrong ≡ false) × (rest ≡ None)
  passed true a rest h = absurd cc
  passed false a rest h = (refl, h)

  have_numbers : (home : List ℕ) (xs : List Mention)
      → first_where (is_undefined_mention numbers home) (λ x. x.site) xs ≡ None → (x : Mention) → Contains xs x
      → HasNumber home x
  have_numbers home [] h x is = absurd (omega (arith, is.1))
  have_numbers home (y ∷ xs) h x (zero, l, e) =
      subst (λ (z : Mention). HasNumber home z) e
      (numbered_here (is_type y.kind) (numbers home y.name)
      (passed (is_undefined_mention numbers home y) y.site
      (first_where (is_undefined_mention numbers home) (λ z. z.site) xs) h).0)
  have_numbers home (y ∷ xs) h x (suc k, l, e) =
      have_numbers home xs (passed (is_undefined_mention numbers home y) y.site
      (first_where (is_undefined_mention numbers home) (λ z. z.site) xs) h).1 x (k, omega (arith, l), e)

-- ---- names that are mentioned in a type

module _ (around : Surroundings) where
  abbrev AreMeant : List Mention → Type 0
  AreMeant [] = Unit {0}
  AreMeant (x ∷ xs) = (is_type x.kind ≡ true → is_some (around.meaning x.name) ≡ true) × AreMeant xs

  first_meant : (xs ys : List Mention) → AreMeant (xs ++ ys) → AreMeant xs
  first_meant [] ys h = tt
  first_meant (x ∷ xs) ys h = (h.0, first_meant xs ys h.1)

  later_meant : (xs ys : List Mention) → AreMeant (xs ++ ys) → AreMeant ys
  later_meant [] ys h = h
  later_meant (x ∷ xs) ys h = later_meant xs ys h.1

  mutual
    type_known : (t : WrittenType) → AreMeant (in_type t) → IsKnown around t
    type_known (type_node site tags base cons) h =
        inside_known base (first_meant (in_base base) (flat_map in_constraint cons) h)

    inside_known : (base : WrittenBase) → AreMeant (in_base base) → IsKnownInside around base
    inside_known (structure k cs) h = components_known cs h
    inside_known (choice others) h = others_known others h
    inside_known (of_type k cons t) h = type_known t (later_meant (in_of_constraint cons) (in_type t) h)
    inside_known (named_type site name) h = h.0 refl
    inside_known base h = tt

    components_known : (cs : WrittenComponents) → AreMeant (in_components cs) → AreKnown around cs
    components_known no_components h = tt
    components_known (component site name t presence cs) h = (
      type_known t (first_meant (in_type t) (in_presence presence)
          (first_meant (in_type t ++ in_presence presence) (in_components cs) h)),
      components_known cs (later_meant (in_type t ++ in_presence presence) (in_components cs) h),
    )
    components_known (components_from site t cs) h = (
      type_known t (first_meant (in_type t) (in_components cs) h),
      components_known cs (later_meant (in_type t) (in_components cs) h),
    )

    others_known : (others : WrittenAlternatives) → AreMeant (in_alternatives others) → AreKnownOthers around others
    others_known no_alternatives h = tt
    others_known (alternative site name t others) h = (
      type_known t (first_meant (in_type t) (in_alternatives others) h),
      others_known others (later_meant (in_type t) (in_alternatives others) h),
    )

-- ---- what is used comes before

module _ (count : ℕ) (uses : ℕ → ℕ → Type 0) where
  listed_before : (listed rest : List ℕ) → Follow count uses listed rest → (place id used : ℕ)
      → slice_get rest place ≡ Some id → uses id used → is_listed (listed ++ take place rest) used ≡ true
  listed_before listed [] f place id used h u = absurd cc
  listed_before listed (x ∷ rest) f zero id used h u =
      subst (λ (xs : List ℕ). is_listed xs used ≡ true) (sym (append-nil listed))
      (f.0.ready.met used (subst (λ (y : ℕ). uses y used) (sym (same_Some x id h)) u))
  listed_before listed (x ∷ rest) f (suc place) id used h u =
      subst (λ (xs : List ℕ). is_listed xs used ≡ true) (append_assoc listed (x ∷ []) (take place rest))
      (listed_before (listed ++ x ∷ []) rest f.1 place id used h u)

there_is : {A : Type 0} (xs : List A) (place : ℕ) → place < length xs → is_some (slice_get xs place) ≡ true
there_is [] place l = absurd (omega (arith, l))
there_is (x ∷ xs) zero l = refl
there_is (x ∷ xs) (suc place) l = there_is xs place (omega (arith, l))

known_listed : (order : List ℕ) (known : List Meaning) (place number : ℕ) → place ≤ length known
    → is_listed (take place order) number ≡ true
    → is_some (option_and_then (slice_get known) (place_in order number)) ≡ true
known_listed order known place number l h =
    let p = placed_before order place number h in
    subst (λ (o : Option ℕ). is_some (option_and_then (slice_get known) o) ≡ true) (sym p.1)
    (there_is known p.0 (omega (arith, p.2, l)))

-- ---- so each name of a type is known

module _ (ms : List WrittenModule) (none : fault_of_names ms ≡ None) (order : List ℕ)
    (ordered : IsOrder (length (definitions ms)) (Uses ms) order)
    (types : List AbstractType) (known : List Meaning) (are : AreMeanings ms order types known)
    (id : ℕ) (next : slice_get order (length types) ≡ Some id) (d : Definition)
    (is : slice_get (definitions ms) id ≡ Some d) where
  abbrev around : Surroundings
  around = surroundings ms order known d.home

  abbrev by_name : Numbers
  by_name = definition_of (origin_there (declarations ms))

  used_known : (number : ℕ) → Uses ms id number
      → is_some (option_and_then (slice_get known) (place_in order number)) ≡ true
  used_known number u =
      let within = slice_get_within order (length types) id next in
      let many = as_many ms order types known are (omega (arith, within)) in
      known_listed order known (length types) number (omega (arith, many))
      (listed_before (length (definitions ms)) (Uses ms) [] order ordered.follow (length types) id number next u)

  meant : (x : Mention) → Contains (mentions d.assignment) x → is_type x.kind ≡ true
      → is_some (around.meaning x.name) ≡ true
  meant x here kind =
      let n =
      have_numbers by_name d.home.name (mentions d.assignment)
      (all_defined by_name (origin_there (declarations ms)) ms (undefined_none ms none) id d is) x here kind in
      subst (λ (o : Option ℕ). is_some (option_and_then (slice_get known) (option_and_then (place_in order) o)) ≡ true)
      (sym n.1)
      (used_known n.0 (d, is, x, here, are_means ms none d.home.name x.name n.0 n.1))

  all_meant : (xs : List Mention) → ((x : Mention) → Contains xs x → is_type x.kind ≡ true
      → is_some (around.meaning x.name) ≡ true) → AreMeant around xs
  all_meant [] h = tt
  all_meant (x ∷ xs) h = (h x (zero, omega arith, refl), all_meant xs (λ y c. h y (suc c.0, omega (arith, c.1), c.2)))

  pub known_in_type : IsKnown around d.assignment.ty
  known_in_type =
      type_known around d.assignment.ty (first_meant around (in_type d.assignment.ty)
      (in_perhaps_value d.assignment.value) (all_meant (mentions d.assignment) meant))
