-- The search for a shared tag finds one where there is one.
use Rattle.std.proofs.Common.{Bool, [], ◌∷◌, inl, inr, ap, ◌∙◌}
use Rattle.std.specs.Prelude.{IsTrue}
use Rattle.std.proofs.lemmas.Bool.{or_cases, or_left, or_right}
use Rattle.guard_model.specs.declared.tag.Tag.{Tag}
use Rattle.guard_model.proofs.Tags.{equal_tags, same_tag_itself}
use Rattle.guard_model.specs.AbstractType as type
use Rattle.guard_model.specs.AbstractType.{AbstractType, AbstractKind, Components, type_of, no_components, component}
use Rattle.guard_tagcheck.specs.FirstTags.{begins_with, alternative_begins_with, one_begins_with}
use Rattle.guard_tagcheck.specs.Distinct.{ShareTag}
use Rattle.guard_tagcheck.specs.Search.{share_tag, alternative_shares_tag, one_shares_tag}

-- ---- what is found is shared

abbrev Common : (Tag → Bool) → AbstractType → Type 0
Common begins b = (tag : Tag) × IsTrue (begins tag) × IsTrue (begins_with b tag)

mutual
  pub share_from : (a b : AbstractType) → IsTrue (share_tag a b) → ShareTag a b
  share_from (type_of (t ∷ ts) kind cons) b e = (t, same_tag_itself t, e)
  share_from (type_of [] kind cons) b e = alternative_from kind b e

  alternative_from : (kind : AbstractKind) (b : AbstractType) → IsTrue (alternative_shares_tag kind b) → Common (alternative_begins_with kind) b
  alternative_from (type.choice cs) b e = one_from cs b e
  alternative_from type.boolean b e = absurd cc
  alternative_from (type.integer ns) b e = absurd cc
  alternative_from (type.bit_string ns) b e = absurd cc
  alternative_from type.octet_string b e = absurd cc
  alternative_from type.null b e = absurd cc
  alternative_from type.object_identifier b e = absurd cc
  alternative_from (type.enumerated ns) b e = absurd cc
  alternative_from (type.characters k) b e = absurd cc
  alternative_from (type.sequence cs) b e = absurd cc
  alternative_from (type.set cs) b e = absurd cc
  alternative_from (type.sequence_of t) b e = absurd cc
  alternative_from (type.set_of t) b e = absurd cc

  one_from : (cs : Components) (b : AbstractType) → IsTrue (one_shares_tag cs b) → Common (one_begins_with cs) b
  one_from no_components b e = absurd cc
  one_from (component name t presence rest) b e = elim (or_cases (share_tag t b) (one_shares_tag rest b) e) [
    | inl first ↦ let s = share_from t b first in (s.0, or_left (begins_with t s.0) (one_begins_with rest s.0) s.1, s.2)
    | inr later ↦ let s = one_from rest b later in (s.0, or_right (begins_with t s.0) (one_begins_with rest s.0) s.1, s.2)
  ]

-- ---- what is shared is found

mutual
  pub share_to : (a b : AbstractType) → ShareTag a b → IsTrue (share_tag a b)
  share_to (type_of (t ∷ ts) kind cons) b (tag, first, second) = ap (begins_with b) (equal_tags t tag first) ∙ second
  share_to (type_of [] kind cons) b (tag, first, second) = alternative_to kind b tag first second

  alternative_to : (kind : AbstractKind) (b : AbstractType) (tag : Tag) → IsTrue (alternative_begins_with kind tag) → IsTrue (begins_with b tag) → IsTrue (alternative_shares_tag kind b)
  alternative_to (type.choice cs) b tag first second = one_to cs b tag first second
  alternative_to type.boolean b tag first second = absurd cc
  alternative_to (type.integer ns) b tag first second = absurd cc
  alternative_to (type.bit_string ns) b tag first second = absurd cc
  alternative_to type.octet_string b tag first second = absurd cc
  alternative_to type.null b tag first second = absurd cc
  alternative_to type.object_identifier b tag first second = absurd cc
  alternative_to (type.enumerated ns) b tag first second = absurd cc
  alternative_to (type.characters k) b tag first second = absurd cc
  alternative_to (type.sequence cs) b tag first second = absurd cc
  alternative_to (type.set cs) b tag first second = absurd cc
  alternative_to (type.sequence_of t) b tag first second = absurd cc
  alternative_to (type.set_of t) b tag first second = absurd cc

  one_to : (cs : Components) (b : AbstractType) (tag : Tag) → IsTrue (one_begins_with cs tag) → IsTrue (begins_with b tag) → IsTrue (one_shares_tag cs b)
  one_to no_components b tag first second = absurd cc
  one_to (component name t presence rest) b tag first second = elim (or_cases (begins_with t tag) (one_begins_with rest tag) first) [
    | inl here ↦ or_left (share_tag t b) (one_shares_tag rest b) (share_to t b (tag, here, second))
    | inr later ↦ or_right (share_tag t b) (one_shares_tag rest b) (one_to rest b tag later second)
  ]
