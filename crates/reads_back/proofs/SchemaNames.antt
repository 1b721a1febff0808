-- Each type of a schema has the names that a value's text takes from it.
use Rattle.std.proofs.Common.{◌≡◌, inl, inr, ℕ, zero, suc, ◌+◌, false, List, [], ◌∷◌, ◌++◌, map, length, Option, Some}
use Rattle.std.proofs.Common.{None, Ok, IsTrue, slice_get, sym, ap, subst, ◌∙◌}
use Rattle.std.specs.Prelude.{IfSome}
use Rattle.std.specs.List.{AllByRecursion}
use Rattle.std.specs.Option.{option_and_then}
use Rattle.std.proofs.lemmas.List.Elements.{recursion_from_All}
use Rattle.std.proofs.lemmas.Option.{IfSome_then}
use Rattle.guard_model.proofs.Results.{same_Ok}
use Rattle.guard_model.specs.AbstractType.{AbstractType}
use Rattle.guard_model.specs.AbstractValue.{AbstractValue}
use Rattle.guard_der.specs.Sound.{is_sound}
use Rattle.guard_syntax.specs.Trees.{WrittenAssignment, WrittenModule}
use Rattle.guard_names.specs.Declarations.{Definition, definitions, defined_in}
use Rattle.guard_names.specs.Places.{place_in, place_meant}
use Rattle.guard_tagging.specs.Faults.{nodes}
use Rattle.guard_tagging.specs.Skeletons.{AreMeanings}
use Rattle.guard_tagging.specs.Surroundings.{nodes_of_all}
use Rattle.guard_tagging.specs.Types.{Meaning, Surroundings, denoted}
use Rattle.guard_schema.specs.Accepts.{Accepts}
use Rattle.guard_schema.specs.Building.{Builds, BuildsAll}
use Rattle.guard_schema.specs.EachType.{HaveTheirTypes}
use Rattle.guard_schema.specs.Known.{Built, Known, none_known, with_built, types_of, built_at, visible, IsWrittenUnder}
use Rattle.guard_schema.specs.Known.{IsSoundBuilt}
use Rattle.guard_schema.specs.Schemas.{AbstractSchema, number_assigned, type_unless, assigned_type, schema_of}
use Rattle.guard_schema.specs.Texts.{ReadsTexts}
use Rattle.guard_schema.specs.Unfinished.{IsTaggedAgain}
use Rattle.guard_schema.proofs.Modules.Parts.{parts}
use Rattle.reads_back.specs.Names.{HasNames}
use Rattle.reads_back.proofs.WrittenNames.{IsNamed, AreNamedAssignments, IsNamedModule, module_named}
use Rattle.reads_back.proofs.NamesAlone.{stripped, each_joined, has_names}
use Rattle.reads_back.proofs.NamesKept.{type_kept}
use Rattle.reads_back.proofs.TypeNames.{MeanNamed, type_named}

-- ---- lists

at_place : {A : Type 0} (P : A → Type 0) (xs : List A) → AllByRecursion P xs → (k : ℕ) → IfSome (slice_get xs k) P
at_place P [] h k = tt
at_place P (x ∷ xs) h zero = h.0
at_place P (x ∷ xs) h (suc k) = at_place P xs h.1 k

-- where there is a place, what is there
at_some : {A : Type 0} (P : A → Type 0) (xs : List A) → AllByRecursion P xs → (o : Option ℕ)
    → IfSome (option_and_then (slice_get xs) o) P
at_some P xs h None = tt
at_some P xs h (Some k) = at_place P xs h k

it_is : {A : Type 0} (P : A → Type 0) (o : Option A) (x : A) → IfSome o P → o ≡ Some x → P x
it_is P o x h e = subst (λ (p : Option _). IfSome p P) e h

-- ---- modules

modules_read : (ms : List WrittenModule) (texts : List (List ℕ)) (before : List WrittenModule)
    → AllByRecursion IsNamedModule before → ReadsTexts before texts (Ok ms) → AllByRecursion IsNamedModule ms
modules_read ms [] before h e = subst (AllByRecursion IsNamedModule) (sym (same_Ok ms before e)) h
modules_read ms (text ∷ texts) before h (inl (m, is, rest)) =
    modules_read ms texts (before ++ m ∷ [])
    (each_joined IsNamedModule before (m ∷ []) h
    (module_named (suc (length before)) text is.tokens m is.lexes is.written, tt)) rest
modules_read ms (text ∷ texts) before h (inr (f, is, e)) = absurd cc

abbrev IsNamedDefinition : Definition → Type 0
IsNamedDefinition d = IsNamed d.assignment.ty

those_named : (m : WrittenModule) (assignments : List WrittenAssignment) → AreNamedAssignments assignments
    → AllByRecursion IsNamedDefinition (map (λ a. record { home = m; assignment = a }) assignments)
those_named m [] h = tt
those_named m (a ∷ assignments) h = (h.0, those_named m assignments h.1)

all_named : (ms : List WrittenModule) → AllByRecursion IsNamedModule ms
    → AllByRecursion IsNamedDefinition (definitions ms)
all_named [] h = tt
all_named (m ∷ ms) h =
    each_joined IsNamedDefinition (defined_in m) (definitions ms) (those_named m m.assignments h.0) (all_named ms h.1)

-- ---- what names mean

abbrev HasNamesAlone : AbstractType → Type 0
HasNamesAlone t = HasNames (stripped t)

abbrev IsNamedMeaning : Meaning → Type 0
IsNamedMeaning m = HasNamesAlone m.ty

meanings_named : (ms : List WrittenModule) (order : List ℕ) (types : List AbstractType) (known : List Meaning)
    → AllByRecursion HasNamesAlone types → AreMeanings ms order types known → AllByRecursion IsNamedMeaning known
meanings_named ms [] types known h e = subst (AllByRecursion IsNamedMeaning) (sym e) tt
meanings_named ms (number ∷ order) [] known h e = subst (AllByRecursion IsNamedMeaning) (sym e) tt
meanings_named ms (number ∷ order) (t ∷ types) [] h e = tt
meanings_named ms (number ∷ order) (t ∷ types) (m ∷ known) h e =
    (subst HasNamesAlone (sym e.0.0) h.0, meanings_named ms order types known h.1 e.1)

mean_named : (k : Known) (d : Definition) (around : Surroundings) → AllByRecursion HasNamesAlone (types_of k.built)
    → IsWrittenUnder k d around → MeanNamed around
mean_named k d around h (known, are, is) =
    subst MeanNamed (sym is) (λ name. at_some IsNamedMeaning known
    (meanings_named k.modules k.order (types_of k.built) known h are)
    (place_meant k.modules k.order d.home.name name))

-- ---- definitions

abbrev IsNamedBuilt : Built → Type 0
IsNamedBuilt b = HasNamesAlone b.ty

types_named : (bs : List Built) → AllByRecursion IsNamedBuilt bs → AllByRecursion HasNamesAlone (types_of bs)
types_named [] h = tt
types_named (b ∷ bs) h = (h.0, types_named bs h.1)

module _ (again : IsTaggedAgain) where
  one_named : (k : Known) (d : Definition) (b : Built) → IsNamedDefinition d → AllByRecursion IsNamedBuilt k.built
      → Builds k d (Ok b) → IsNamedBuilt b
  one_named k d b i h builds = by builds
    where
      by : Builds k d (Ok b) → IsNamedBuilt b
      by (inl (bare, (around, under, tagged), rest)) =
          let tree = d.assignment.ty in
          let before = nodes_of_all (types_of k.built) in
          let same : stripped (denoted around tree) ≡ stripped b.ty =
          ap stripped (sym (again k d around b under builds)) ∙ type_kept (visible k d.home.name) tree b.ty in
          subst HasNames same
          (type_named around (mean_named k d around (types_named k.built h) under) false before
          (before + nodes (denoted around tree)) tree i tagged.0)
      by (inr (f, tagged, e)) = absurd cc

  each_named : (numbers : List ℕ) (k : Known) (built : List Built)
      → AllByRecursion IsNamedDefinition (definitions k.modules) → AllByRecursion IsNamedBuilt k.built
      → BuildsAll k numbers (Ok built) → AllByRecursion IsNamedBuilt built
  each_named [] k built i h e = subst (AllByRecursion IsNamedBuilt) (sym (same_Ok built k.built e)) h
  each_named (n ∷ ns) k built i h (inl (b, (d, is, builds), rest)) =
      let named : IsNamedDefinition d = it_is IsNamedDefinition (slice_get (definitions k.modules) n) d
      (at_place IsNamedDefinition (definitions k.modules) i n) is in
      each_named ns (with_built k b) built i
      (each_joined IsNamedBuilt k.built (b ∷ []) h (one_named k d b named h builds, tt)) rest
  each_named (n ∷ ns) k built i h (inr (f, b, e)) = absurd cc

-- ---- by names

unless_value : (P : AbstractType → Type 0) (t : AbstractType) (v : Option AbstractValue) → P t
    → IfSome (type_unless t v) P
unless_value P t None h = h
unless_value P t (Some v) h = tt

assigned : (P : AbstractType → Type 0) (o : Option Built) → IfSome o (λ b. P b.ty) → IfSome (assigned_type o) P
assigned P None h = tt
assigned P (Some b) h = unless_value P b.ty b.value h

-- what holds of the types of all definitions holds of each type of the schema
pub each_type : (P : AbstractType → Type 0) (k : Known) → AllByRecursion (λ b. P b.ty) k.built → (home name : List ℕ)
    → IfSome ((schema_of k).types home name) P
each_type P k h home name =
    let place = option_and_then (place_in k.order) (number_assigned home name (definitions k.modules)) in
    assigned P (built_at k.built place) (at_some (λ (b : Built). P b.ty) k.built h place)

pub schema_has_names : IsTaggedAgain → (texts : List (List ℕ)) (s : AbstractSchema) → Accepts texts s
    → (home name : List ℕ) → IfSome (s.types home name) HasNames
schema_has_names again texts s a home name =
    let p = parts texts s a in
    let whole : Known = record { modules = p.modules; order = p.order; built = p.built } in
    let named = each_named again p.order (none_known p.modules p.order) p.built
    (all_named p.modules (modules_read p.modules texts [] tt p.read)) tt p.builds in
    subst (λ (x : AbstractSchema). IfSome (x.types home name) HasNames) (sym p.schema)
    (IfSome_then ((schema_of whole).types home name) (each_type HasNamesAlone whole named home name)
    (λ t h. has_names t h))

-- ---- and each is sound

pub schema_sound : HaveTheirTypes → (texts : List (List ℕ)) (s : AbstractSchema) → Accepts texts s
    → (home name : List ℕ) → IfSome (s.types home name) (λ t. IsTrue (is_sound t))
schema_sound types texts s a home name =
    let has = types texts s a in
    subst (λ (x : AbstractSchema). IfSome (x.types home name) (λ t. IsTrue (is_sound t))) (sym has.schema)
    (each_type (λ t. IsTrue (is_sound t)) has.whole
    (sound_types has.whole.built (recursion_from_All IsSoundBuilt has.whole.built has.sound)) home name)
  where
    sound_types : (bs : List Built) → AllByRecursion IsSoundBuilt bs
        → AllByRecursion (λ b. IsTrue (is_sound b.ty)) bs
    sound_types [] h = tt
    sound_types (b ∷ bs) h = (h.0.0, sound_types bs h.1)
