-- What a written type denotes by its tags, it denotes also where more names mean something, if each of its own does.
use Rattle.std.proofs.Common.{◌≡◌, ℕ, zero, suc, List, [], ◌∷◌, ◌++◌, Option, Some, None, is_some, slice_get, IsTrue}
use Rattle.std.proofs.Common.{refl, sym, ap, ◌∙◌}
use Rattle.std.specs.Option.{option_and_then}
use Rattle.guard_model.specs.AbstractType as type
use Rattle.guard_model.specs.AbstractType.{AbstractType, Components, type_of}
use Rattle.guard_syntax.specs.declared.tree.TagDefault.{TagDefault}
use Rattle.guard_syntax.specs.Trees.{WrittenModule, WrittenType, type_node, WrittenBase}
use Rattle.guard_syntax.specs.Trees.{structure, choice, of_type, named_type, WrittenComponents}
use Rattle.guard_syntax.specs.Trees.{no_components, component, components_from, WrittenAlternatives, no_alternatives}
use Rattle.guard_syntax.specs.Trees.{alternative}
use Rattle.guard_tagging.specs.Tagging.{with_tags}
use Rattle.guard_tagging.specs.Types as types
use Rattle.guard_tagging.specs.Types.{Meaning, Surroundings, universal, collection_number, structure_kind, of_kind}
use Rattle.guard_tagging.specs.Types.{presence_of, is_automatic_list, is_automatic_choice, tagged_where, parts_of, join}
use Rattle.guard_tagging.specs.Types.{denoted, denoted_base, denoted_components, denoted_alternatives}
use Rattle.guard_tagging.specs.Surroundings.{meaning_at, known_after, known_from}
use Rattle.guard_tagging.specs.KnownNames.{IsKnown, IsKnownInside, AreKnown, AreKnownOthers}
use Rattle.guard_schema.proofs.Throughout.Values.{Grows}

module _ (tag_default : TagDefault) (fewer more : List ℕ → Option Meaning) (grows : Grows fewer more) where
  abbrev before : Surroundings
  before = record { tag_default = tag_default; meaning = fewer }

  abbrev after : Surroundings
  after = record { tag_default = tag_default; meaning = more }

  same_meaning : (name : List ℕ) (m : Option Meaning) → fewer name ≡ m → IsTrue (is_some m) → m ≡ more name
  same_meaning name None e h = absurd cc
  same_meaning name (Some m) e h = sym (grows name m e)

  mutual
    pub denoted_grown : (t : WrittenType) → IsKnown before t → denoted before t ≡ denoted after t
    denoted_grown (type_node site tags base cons) h = ap (with_tags tag_default tags) (base_grown base h)

    base_grown : (base : WrittenBase) → IsKnownInside before base → denoted_base before base ≡ denoted_base after base
    base_grown (structure k cs) h =
        ap (λ (parts : Components). type_of (universal (collection_number k))
        (structure_kind k (tagged_where (is_automatic_list tag_default cs) parts)) type.no_constraints)
        (components_grown cs h)
    base_grown (choice others) h =
        ap (λ (parts : Components). type_of []
        (type.choice (tagged_where (is_automatic_choice tag_default others) parts)) type.no_constraints)
        (others_grown others h)
    base_grown (of_type k c t) h = ap (λ (u : AbstractType). type_of (universal (collection_number k))
        (of_kind k u) type.no_constraints) (denoted_grown t h)
    base_grown (named_type site name) h = ap types.meant (same_meaning name (fewer name) refl h)
    base_grown base h = refl

    components_grown : (cs : WrittenComponents) → AreKnown before cs
        → denoted_components before cs ≡ denoted_components after cs
    components_grown no_components h = refl
    components_grown (component site name t presence cs) h =
        ap (λ (u : AbstractType). type.component name u (presence_of presence) (denoted_components before cs))
        (denoted_grown t h.0)
        ∙ ap (λ (rest : Components). type.component name (denoted after t) (presence_of presence) rest)
        (components_grown cs h.1)
    components_grown (components_from site t cs) h =
        ap (λ (u : AbstractType). join (parts_of u) (denoted_components before cs)) (denoted_grown t h.0)
        ∙ ap (λ (rest : Components). join (parts_of (denoted after t)) rest) (components_grown cs h.1)

    others_grown : (others : WrittenAlternatives) → AreKnownOthers before others
        → denoted_alternatives before others ≡ denoted_alternatives after others
    others_grown no_alternatives h = refl
    others_grown (alternative site name t others) h =
        ap (λ (u : AbstractType). type.component name u type.mandatory (denoted_alternatives before others))
        (denoted_grown t h.0)
        ∙ ap (λ (rest : Components). type.component name (denoted after t) type.mandatory rest)
        (others_grown others h.1)

-- ---- what is known of definitions stays so with more of them

pub at_front : {A : Type 0} (xs ys : List A) (p : ℕ) (x : A) → slice_get xs p ≡ Some x → slice_get (xs ++ ys) p ≡ Some x
at_front [] ys p x h = absurd cc
at_front (y ∷ xs) ys zero x h = h
at_front (y ∷ xs) ys (suc p) x h = at_front xs ys p x h

pub found_more : {A : Type 0} (xs ys : List A) → ((p : ℕ) (x : A) → slice_get xs p ≡ Some x → slice_get ys p ≡ Some x)
    → (place : Option ℕ) (x : A) → option_and_then (slice_get xs) place ≡ Some x
    → option_and_then (slice_get ys) place ≡ Some x
found_more xs ys there None x h = absurd cc
found_more xs ys there (Some p) x h = there p x h

module _ (ms : List WrittenModule) (order : List ℕ) where
  still_known : (known : List Meaning) (rest : List ℕ) (types : List AbstractType) (p : ℕ) (m : Meaning)
      → slice_get known p ≡ Some m → slice_get (known_after ms order known rest types) p ≡ Some m
  still_known known [] types p m h = h
  still_known known (n ∷ rest) [] p m h = h
  still_known known (n ∷ rest) (t ∷ types) p m h =
      still_known (known ++ meaning_at ms order known n t ∷ []) rest types p m
      (at_front known (meaning_at ms order known n t ∷ []) p m h)

  known_after_more : (known : List Meaning) (rest : List ℕ) (ts more : List AbstractType) (p : ℕ) (m : Meaning)
      → slice_get (known_after ms order known rest ts) p ≡ Some m
      → slice_get (known_after ms order known rest (ts ++ more)) p ≡ Some m
  known_after_more known [] ts more p m h = h
  known_after_more known (n ∷ rest) [] more p m h = still_known known (n ∷ rest) more p m h
  known_after_more known (n ∷ rest) (t ∷ ts) more p m h =
      known_after_more (known ++ meaning_at ms order known n t ∷ []) rest ts more p m h

  pub known_more : (ts more : List AbstractType) (p : ℕ) (m : Meaning) → slice_get (known_from ms order ts) p ≡ Some m
      → slice_get (known_from ms order (ts ++ more)) p ≡ Some m
  known_more ts more p m h = known_after_more [] order ts more p m h
