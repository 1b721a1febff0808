-- Which tags a type shows, whether they tell its parts apart and how deep it is nested, is a matter of its shape.
use Rattle.std.proofs.Common.{◌≡◌, ℕ, suc, ◌+◌, Bool, true, false, ◌||◌, [], ◌∷◌, length, max, Option, Some, None, refl}
use Rattle.std.proofs.Common.{ap, ◌∙◌}
use Rattle.std.specs.Prelude.{if◌then◌else◌}
use Rattle.std.specs.Option.{option_or}
use Rattle.guard_model.specs.declared.site.Step.TheVariants.{Component, Element}
use Rattle.guard_model.specs.declared.tag.Tag.{Tag}
use Rattle.guard_model.specs.AbstractType as type
use Rattle.guard_model.specs.AbstractType.{AbstractType, AbstractKind, AbstractPresence, Components, type_of}
use Rattle.guard_tagcheck.specs.FirstTags.{begins_with, alternative_begins_with, one_begins_with}
use Rattle.guard_tagcheck.specs.Distinct.{AbstractClash}
use Rattle.guard_tagcheck.specs.Limits.{nesting, nesting_inside, deepest}
use Rattle.guard_tagcheck.specs.Search.{share_tag, alternative_shares_tag, one_shares_tag, is_passed, partner, paired}
use Rattle.guard_tagcheck.specs.Search.{first_pair, here, inside, first_clash, clash_of_kind, clash_inside}
use Rattle.guard_schema.proofs.Sound.Shapes.{shape_of_presence, shape, shape_of_kind, shape_of_parts}

-- ---- the tags with which an encoding may begin

mutual
  begins_shape : (t : AbstractType) (tag : Tag) → begins_with (shape t) tag ≡ begins_with t tag
  begins_shape (type_of (x ∷ xs) kind cons) tag = refl
  begins_shape (type_of [] kind cons) tag = alternative_begins_shape kind tag

  alternative_begins_shape : (kind : AbstractKind) (tag : Tag)
      → alternative_begins_with (shape_of_kind kind) tag ≡ alternative_begins_with kind tag
  alternative_begins_shape (type.choice cs) tag = one_begins_shape cs tag
  alternative_begins_shape kind tag = refl

  one_begins_shape : (cs : Components) (tag : Tag) → one_begins_with (shape_of_parts cs) tag ≡ one_begins_with cs tag
  one_begins_shape type.no_components tag = refl
  one_begins_shape (type.component name t presence cs) tag =
      ap (λ (b : Bool). b || one_begins_with (shape_of_parts cs) tag) (begins_shape t tag)
      ∙ ap (λ (b : Bool). begins_with t tag || b) (one_begins_shape cs tag)

-- ---- tags that two types share

mutual
  shares_shape : (a b : AbstractType) → share_tag (shape a) (shape b) ≡ share_tag a b
  shares_shape (type_of (x ∷ xs) kind cons) b = begins_shape b x
  shares_shape (type_of [] kind cons) b = alternative_shares_shape kind b

  alternative_shares_shape : (kind : AbstractKind) (b : AbstractType)
      → alternative_shares_tag (shape_of_kind kind) (shape b) ≡ alternative_shares_tag kind b
  alternative_shares_shape (type.choice cs) b = one_shares_shape cs b
  alternative_shares_shape kind b = refl

  one_shares_shape : (cs : Components) (b : AbstractType)
      → one_shares_tag (shape_of_parts cs) (shape b) ≡ one_shares_tag cs b
  one_shares_shape type.no_components b = refl
  one_shares_shape (type.component name t presence cs) b =
      ap (λ (x : Bool). x || one_shares_tag (shape_of_parts cs) (shape b)) (shares_shape t b)
      ∙ ap (λ (x : Bool). share_tag t b || x) (one_shares_shape cs b)

-- ---- the first pair

passed_shape : (s : Bool) (presence : AbstractPresence)
    → is_passed s (shape_of_presence presence) ≡ is_passed s presence
passed_shape s type.mandatory = refl
passed_shape s presence = refl

partner_shape : (s : Bool) (a : AbstractType) (j : ℕ) (cs : Components)
    → partner s (shape a) j (shape_of_parts cs) ≡ partner s a j cs
partner_shape s a j type.no_components = refl
partner_shape s a j (type.component name t presence cs) =
    ap (λ (b : Bool). if b then Some j else (if is_passed s (shape_of_presence presence) then partner s (shape a)
    (suc j) (shape_of_parts cs) else None)) (shares_shape a t)
    ∙ ap (λ (b : Bool). if share_tag a t then Some j else
    (if b then partner s (shape a) (suc j) (shape_of_parts cs) else None)) (passed_shape s presence)
    ∙ ap (λ (o : Option ℕ). if share_tag a t then Some j else (if is_passed s presence then o else None))
    (partner_shape s a (suc j) cs)

pair_shape : (s : Bool) (i : ℕ) (cs : Components) → first_pair s i (shape_of_parts cs) ≡ first_pair s i cs
pair_shape s i type.no_components = refl
pair_shape s i (type.component name t presence cs) =
    ap (λ (b : Bool). option_or (if b then paired i (partner s (shape t) (suc i) (shape_of_parts cs)) else None)
    (first_pair s (suc i) (shape_of_parts cs))) (passed_shape s presence)
    ∙ ap (λ (o : Option ℕ). option_or (if is_passed s presence then paired i o else None)
    (first_pair s (suc i) (shape_of_parts cs))) (partner_shape s t (suc i) cs)
    ∙ ap (λ (o : Option (ℕ × ℕ)). option_or (if is_passed s presence then paired i (partner s t (suc i) cs) else None)
    o) (pair_shape s (suc i) cs)

-- ---- the first clash

list_shape : (s : Bool) (cs : Components) → clash_inside 0 (shape_of_parts cs) ≡ clash_inside 0 cs
    → option_or (here (first_pair s 0 (shape_of_parts cs))) (clash_inside 0 (shape_of_parts cs)) ≡ option_or
    (here (first_pair s 0 cs)) (clash_inside 0 cs)
list_shape s cs e =
    ap (λ (o : Option (ℕ × ℕ)). option_or (here o) (clash_inside 0 (shape_of_parts cs))) (pair_shape s 0 cs)
    ∙ ap (λ (o : Option AbstractClash). option_or (here (first_pair s 0 cs)) o) e

mutual
  pub clash_shape : (t : AbstractType) → first_clash (shape t) ≡ first_clash t
  clash_shape (type_of tags kind cons) = clash_kind_shape kind

  clash_kind_shape : (kind : AbstractKind) → clash_of_kind (shape_of_kind kind) ≡ clash_of_kind kind
  clash_kind_shape (type.sequence cs) = list_shape true cs (clash_inside_shape 0 cs)
  clash_kind_shape (type.set cs) = list_shape false cs (clash_inside_shape 0 cs)
  clash_kind_shape (type.choice cs) = list_shape false cs (clash_inside_shape 0 cs)
  clash_kind_shape (type.sequence_of t) = ap (inside (Element 0)) (clash_shape t)
  clash_kind_shape (type.set_of t) = ap (inside (Element 0)) (clash_shape t)
  clash_kind_shape kind = refl

  clash_inside_shape : (i : ℕ) (cs : Components) → clash_inside i (shape_of_parts cs) ≡ clash_inside i cs
  clash_inside_shape i type.no_components = refl
  clash_inside_shape i (type.component name t presence cs) =
      ap (λ (o : Option AbstractClash). option_or (inside (Component i) o) (clash_inside (suc i) (shape_of_parts cs)))
      (clash_shape t)
      ∙ ap (λ (o : Option AbstractClash). option_or (inside (Component i) (first_clash t)) o)
      (clash_inside_shape (suc i) cs)

-- ---- nesting

mutual
  pub nesting_shape : (t : AbstractType) → nesting (shape t) ≡ nesting t
  nesting_shape (type_of tags kind cons) = ap (λ (n : ℕ). length tags + n) (nesting_inside_shape kind)

  nesting_inside_shape : (kind : AbstractKind) → nesting_inside (shape_of_kind kind) ≡ nesting_inside kind
  nesting_inside_shape (type.sequence cs) = deepest_shape cs
  nesting_inside_shape (type.set cs) = deepest_shape cs
  nesting_inside_shape (type.choice cs) = ap suc (deepest_shape cs)
  nesting_inside_shape (type.sequence_of t) = nesting_shape t
  nesting_inside_shape (type.set_of t) = nesting_shape t
  nesting_inside_shape kind = refl

  deepest_shape : (cs : Components) → deepest (shape_of_parts cs) ≡ deepest cs
  deepest_shape type.no_components = refl
  deepest_shape (type.component name t presence cs) =
      ap (λ (n : ℕ). max n (deepest (shape_of_parts cs))) (nesting_shape t)
      ∙ ap (λ (n : ℕ). max (nesting t) n) (deepest_shape cs)
