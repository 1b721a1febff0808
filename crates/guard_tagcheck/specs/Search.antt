-- How the first clash is looked for: each type before its parts, pairs of components in the order of their positions.
use Rattle.std.specs.Prelude.{ℕ, suc, Bool, true, false, not, ◌||◌, [], ◌∷◌, Option, Some, None, if◌then◌else◌}
use Rattle.std.specs.Option.{option_or}
use Rattle.guard_model.specs.declared.site.Step.{Step}
use Rattle.guard_model.specs.declared.site.Step.TheVariants.{Component, Element}
use Rattle.guard_model.specs.AbstractType as type
use Rattle.guard_model.specs.AbstractType.{AbstractType, AbstractKind, AbstractPresence, Components, type_of, no_components, component}
use Rattle.guard_tagcheck.specs.FirstTags.{begins_with}
use Rattle.guard_tagcheck.specs.Distinct.{AbstractClash}

abbrev mutual
  -- some tag with which the one begins is one with which the other begins
  pub share_tag : AbstractType → AbstractType → Bool
  share_tag (type_of (t ∷ ts) kind cons) b = begins_with b t
  share_tag (type_of [] kind cons) b = alternative_shares_tag kind b

  pub alternative_shares_tag : AbstractKind → AbstractType → Bool
  alternative_shares_tag (type.choice cs) b = one_shares_tag cs b
  alternative_shares_tag _ b = false

  pub one_shares_tag : Components → AbstractType → Bool
  one_shares_tag no_components b = false
  one_shares_tag (component name t presence rest) b = share_tag t b || one_shares_tag rest b

abbrev pub is_mandatory : AbstractPresence → Bool
is_mandatory type.mandatory = true
is_mandatory _ = false

-- A later component may come next, past one with this presence: in a SEQUENCE only where it can be absent.
abbrev pub is_passed : Bool → AbstractPresence → Bool
is_passed in_sequence presence = not in_sequence || not (is_mandatory presence)

-- the position of the first of these components that shares a tag with a type before them; component j is the first of
-- them
abbrev pub partner : Bool → AbstractType → ℕ → Components → Option ℕ
partner in_sequence a j no_components = None
partner in_sequence a j (component name t presence rest) =
    if share_tag a t then Some j
    else if is_passed in_sequence presence then partner in_sequence a (suc j) rest
    else None

abbrev pub paired : ℕ → Option ℕ → Option (ℕ × ℕ)
paired i None = None
paired i (Some j) = Some (i, j)

-- the least pair of positions; the first of these components is component i
abbrev pub first_pair : Bool → ℕ → Components → Option (ℕ × ℕ)
first_pair in_sequence i no_components = None
first_pair in_sequence i (component name t presence rest) =
    option_or
    (if is_passed in_sequence presence then paired i (partner in_sequence t (suc i) rest) else None)
    (first_pair in_sequence (suc i) rest)

abbrev pub here : Option (ℕ × ℕ) → Option AbstractClash
here None = None
here (Some pair) = Some (record { path = []; first = pair.0; second = pair.1 })

abbrev pub below : Step → AbstractClash → AbstractClash
below step c = record { path = step ∷ c.path; first = c.first; second = c.second }

abbrev pub inside : Step → Option AbstractClash → Option AbstractClash
inside step None = None
inside step (Some c) = Some (below step c)

abbrev mutual
  pub first_clash : AbstractType → Option AbstractClash
  first_clash (type_of tags kind cons) = clash_of_kind kind

  pub clash_of_kind : AbstractKind → Option AbstractClash
  clash_of_kind (type.sequence cs) = option_or (here (first_pair true 0 cs)) (clash_inside 0 cs)
  clash_of_kind (type.set cs) = option_or (here (first_pair false 0 cs)) (clash_inside 0 cs)
  clash_of_kind (type.choice cs) = option_or (here (first_pair false 0 cs)) (clash_inside 0 cs)
  clash_of_kind (type.sequence_of t) = inside (Element 0) (first_clash t)
  clash_of_kind (type.set_of t) = inside (Element 0) (first_clash t)
  clash_of_kind _ = None

  -- in the types of these components, of which the first is component i
  pub clash_inside : ℕ → Components → Option AbstractClash
  clash_inside i no_components = None
  clash_inside i (component name t presence rest) =
      option_or (inside (Component i) (first_clash t)) (clash_inside (suc i) rest)
