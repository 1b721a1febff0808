-- A type without its tags, without its constraints, and as if no component could be left out. None of these changes a
-- name. So what is proved here of what is left, from the lists of its names, holds of the type.
use Rattle.std.proofs.Common.{◌≡◌, ℕ, suc, Bool, true, false, cond, List, [], ◌∷◌, ◌++◌, map, Option, Some, None, refl}
use Rattle.std.proofs.Common.{ap, ◌∙◌}
use Rattle.std.specs.Prelude.{bytes_eq}
use Rattle.std.specs.Option.{option_map}
use Rattle.std.specs.List.{AllByRecursion, list_any}
use Rattle.std.proofs.lemmas.Bool.{or_parts}
use Rattle.guard_model.specs.declared.tag.Tag.{Tag}
use Rattle.guard_model.specs.AbstractType as type
use Rattle.guard_model.specs.AbstractType.{AbstractType, AbstractKind, Components, NamedNumber, type_of}
use Rattle.guard_model.specs.Components.{components_in}
use Rattle.guard_syntax.specs.declared.tree.TagDefault.{TagDefault}
use Rattle.guard_syntax.specs.Trees.{WrittenTag}
use Rattle.guard_tagging.specs.Tagging.{is_explicit, is_untagged_choice, tag_of, put_tag, with_tags, automatic_tag}
use Rattle.guard_tagging.specs.Tagging.{with_automatic_tags}
use Rattle.guard_tagging.specs.Types.{join, parts_of, tagged_where}
use Rattle.guard_model.specs.NamedLists.{number_named}
use Rattle.guard_values.specs.Places.{Located, further, located}
use Rattle.reads_back.specs.Names.{HaveNames, HasNames, KindHasNames, PartsHaveNames}
use Rattle.reads_back.proofs.WrittenNames.{AreIdentifiers}

abbrev mutual
  pub stripped : AbstractType → AbstractType
  stripped (type_of tags kind cons) = type_of [] (stripped_kind kind) type.no_constraints

  pub stripped_kind : AbstractKind → AbstractKind
  stripped_kind type.boolean = type.boolean
  stripped_kind (type.integer ns) = type.integer ns
  stripped_kind (type.bit_string bits) = type.bit_string bits
  stripped_kind type.octet_string = type.octet_string
  stripped_kind type.null = type.null
  stripped_kind type.object_identifier = type.object_identifier
  stripped_kind (type.enumerated items) = type.enumerated items
  stripped_kind (type.characters k) = type.characters k
  stripped_kind (type.sequence cs) = type.sequence (stripped_parts cs)
  stripped_kind (type.set cs) = type.set (stripped_parts cs)
  stripped_kind (type.choice cs) = type.choice (stripped_parts cs)
  stripped_kind (type.sequence_of t) = type.sequence_of (stripped t)
  stripped_kind (type.set_of t) = type.set_of (stripped t)

  pub stripped_parts : Components → Components
  stripped_parts type.no_components = type.no_components
  stripped_parts (type.component name t presence cs) =
      type.component name (stripped t) type.mandatory (stripped_parts cs)

-- ---- tags

put_stripped : (explicit : Bool) (tag : Tag) (t : AbstractType) → stripped (put_tag explicit tag t) ≡ stripped t
put_stripped true tag (type_of tags kind cons) = refl
put_stripped false tag (type_of [] kind cons) = refl
put_stripped false tag (type_of (outermost ∷ tags) kind cons) = refl

pub tags_stripped : (default : TagDefault) (ws : List WrittenTag) (t : AbstractType)
    → stripped (with_tags default ws t) ≡ stripped t
tags_stripped default [] t = refl
tags_stripped default (w ∷ ws) t =
    let inner = with_tags default ws t in
    put_stripped (is_explicit w.mode default (is_untagged_choice inner)) (tag_of w) inner ∙ tags_stripped default ws t

automatic_stripped : (number : ℕ) (cs : Components) → stripped_parts (with_automatic_tags number cs) ≡ stripped_parts cs
automatic_stripped number type.no_components = refl
automatic_stripped number (type.component name t presence cs) =
    ap (λ (u : AbstractType). type.component name u type.mandatory
    (stripped_parts (with_automatic_tags (suc number) cs)))
    (put_stripped (is_untagged_choice t) (automatic_tag number) t)
    ∙ ap (type.component name (stripped t) type.mandatory) (automatic_stripped (suc number) cs)

pub where_stripped : (automatic : Bool) (cs : Components)
    → stripped_parts (tagged_where automatic cs) ≡ stripped_parts cs
where_stripped true cs = automatic_stripped 0 cs
where_stripped false cs = refl

-- ---- lists of names

abbrev pub names_of : Components → List (List ℕ)
names_of type.no_components = []
names_of (type.component name t presence cs) = name ∷ names_of cs

-- no name is that of a further one
abbrev pub Differ : List (List ℕ) → Type 0
Differ [] = Unit {0}
Differ (n ∷ ns) = (list_any (bytes_eq n) ns ≡ false) × Differ ns

pub names_join : (xs ys : Components) → names_of (join xs ys) ≡ names_of xs ++ names_of ys
names_join type.no_components ys = refl
names_join (type.component name t presence xs) ys = ap (λ (ns : List (List ℕ)). name ∷ ns) (names_join xs ys)

-- each of the types in them has names
abbrev pub TypesHaveNames : Components → Type 0
TypesHaveNames type.no_components = Unit {0}
TypesHaveNames (type.component name t presence cs) = HasNames (stripped t) × TypesHaveNames cs

pub types_join : (xs ys : Components) → TypesHaveNames xs → TypesHaveNames ys → TypesHaveNames (join xs ys)
types_join type.no_components ys h k = k
types_join (type.component name t presence xs) ys h k = (h.0, types_join xs ys h.1 k)

pub each_joined : {A : Type 0} (P : A → Type 0) (xs ys : List A) → AllByRecursion P xs → AllByRecursion P ys
    → AllByRecursion P (xs ++ ys)
each_joined P [] ys h k = k
each_joined P (x ∷ xs) ys h k = (h.0, each_joined P xs ys h.1 k)

-- ---- where names differ, none is found among the further ones

no_number : (name : List ℕ) (ns : List NamedNumber) → list_any (bytes_eq name) (map (λ n. n.name) ns) ≡ false
    → number_named name ns ≡ None
no_number name [] h = refl
no_number name (n ∷ ns) h =
    let p = or_parts (bytes_eq name n.name) (list_any (bytes_eq name) (map (λ m. m.name) ns)) h in
    rw p.0 (no_number name ns p.1)

pub have_names : (ns : List NamedNumber) → AreIdentifiers (map (λ n. n.name) ns) → Differ (map (λ n. n.name) ns)
    → HaveNames ns
have_names [] i d = tt
have_names (n ∷ ns) i d = (i.0, no_number n.name ns d.0, have_names ns i.1 d.1)

not_located : (name : List ℕ) (cs : Components) → list_any (bytes_eq name) (names_of cs) ≡ false
    → located name (stripped_parts cs) ≡ None
not_located name type.no_components h = refl
not_located name (type.component other t presence cs) h =
    let p = or_parts (bytes_eq name other) (list_any (bytes_eq name) (names_of cs)) h in
    rw p.0 (ap (option_map further) (not_located name cs p.1))

pub parts_have_names : (cs : Components) → AreIdentifiers (names_of cs) → Differ (names_of cs) → TypesHaveNames cs
    → PartsHaveNames (stripped_parts cs)
parts_have_names type.no_components i d h = tt
parts_have_names (type.component name t presence cs) i d h =
    (i.0, not_located name cs d.0, h.0, parts_have_names cs i.1 d.1 h.1)

-- ---- what a type with names has inside

parts_named : (cs : Components) → PartsHaveNames (stripped_parts cs) → AreIdentifiers (names_of cs) × TypesHaveNames cs
parts_named type.no_components h = (tt, tt)
parts_named (type.component name t presence cs) h =
    let others = parts_named cs h.3 in ((h.0, others.0), (h.2, others.1))

kind_named : (kind : AbstractKind) → KindHasNames (stripped_kind kind)
    → AreIdentifiers (names_of (components_in kind)) × TypesHaveNames (components_in kind)
kind_named (type.sequence cs) h = parts_named cs h
kind_named (type.set cs) h = parts_named cs h
kind_named (type.choice cs) h = parts_named cs h
kind_named kind h = (tt, tt)

pub inside_named : (t : AbstractType) → HasNames (stripped t)
    → AreIdentifiers (names_of (parts_of t)) × TypesHaveNames (parts_of t)
inside_named (type_of tags kind cons) h = kind_named kind h

-- ---- the type itself has these names

none_inside : (o : Option Located) → option_map further o ≡ None → o ≡ None
none_inside None h = refl
none_inside (Some l) h = absurd cc

unlocated : (name : List ℕ) (cs : Components) → located name (stripped_parts cs) ≡ None → located name cs ≡ None
unlocated name type.no_components h = refl
unlocated name (type.component other t presence cs) h =
    by (bytes_eq name other) h (λ e. unlocated name cs e)
  where
    by : (here : Bool)
        → cond here (Some (record { place = 0; ty = stripped t }))
        (option_map further (located name (stripped_parts cs))) ≡ None
        → (located name (stripped_parts cs) ≡ None → located name cs ≡ None)
        → cond here (Some (record { place = 0; ty = t })) (option_map further (located name cs)) ≡ None
    by true e others = absurd cc
    by false e others =
        ap (option_map further) (others (none_inside (located name (stripped_parts cs)) e))

mutual
  pub has_names : (t : AbstractType) → HasNames (stripped t) → HasNames t
  has_names (type_of tags kind cons) h = kind_has_names kind h

  kind_has_names : (kind : AbstractKind) → KindHasNames (stripped_kind kind) → KindHasNames kind
  kind_has_names (type.bit_string bits) h = h
  kind_has_names (type.enumerated items) h = h
  kind_has_names (type.sequence cs) h = parts_again cs h
  kind_has_names (type.set cs) h = parts_again cs h
  kind_has_names (type.choice cs) h = parts_again cs h
  kind_has_names (type.sequence_of t) h = has_names t h
  kind_has_names (type.set_of t) h = has_names t h
  kind_has_names kind h = tt

  parts_again : (cs : Components) → PartsHaveNames (stripped_parts cs) → PartsHaveNames cs
  parts_again type.no_components h = tt
  parts_again (type.component name t presence cs) h =
      (h.0, unlocated name cs h.1, has_names t h.2, parts_again cs h.3)
