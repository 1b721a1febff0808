-- What WITH COMPONENTS lists (X.680 51.8.5 to 51.8.9): components or alternatives by name, perhaps with a presence
-- word.
use Rattle.std.specs.Prelude.{ℕ, Bool, true, false, ◌||◌, not, List, [], ◌∷◌, ◌++◌, bytes_eq, Option, Some, None, if◌then◌else◌}
use Rattle.std.specs.Option.{is_none, option_and_then}
use Rattle.guard_model.specs.declared.site.Site.{Site}
use Rattle.guard_model.specs.declared.ty.Word.{Word}
use Rattle.guard_model.specs.declared.ty.Word.TheVariants as word
use Rattle.guard_model.specs.AbstractType.{AbstractKind, AbstractPresence}
use Rattle.guard_model.specs.Components.{components_in, component_at}
use Rattle.guard_model.specs.TypeView.{OneComponent}
use Rattle.guard_model.specs.Kinds.{is_choice}
use Rattle.guard_der.specs.Fits.{may_be_absent}
use Rattle.guard_syntax.specs.declared.tree.PresenceWord.{PresenceWord}
use Rattle.guard_syntax.specs.declared.tree.PresenceWord.TheVariants.{Present, Absent, Optional}
use Rattle.guard_syntax.specs.Trees.{WrittenParts, WrittenPart, no_parts, part, part_in}
use Rattle.guard_values.specs.Places.{Located, located}

-- ---- parts

-- one part, its constraint aside
pub record PartHead : Type 0 where
  pub site : Site
  pub name : List ℕ
  pub presence : Option PresenceWord

abbrev pub head_of : WrittenPart → PartHead
head_of p = record { site = p.site; name = p.name; presence = p.presence }

-- of all parts in written order
abbrev pub heads : WrittenParts → List PartHead
heads no_parts = []
heads (part site name presence others) = record { site = site; name = name; presence = presence } ∷ heads others
heads (part_in site name c presence others) = record { site = site; name = name; presence = presence } ∷ heads others

abbrev pub word_of : PresenceWord → Word
word_of Present = word.Present
word_of Absent = word.Absent
word_of Optional = word.Optional

-- ---- what they name

-- the place and the type of the component or alternative with this name
abbrev pub named_in : AbstractKind → List ℕ → Option Located
named_in kind name = located name (components_in kind)

-- the component or alternative itself
abbrev pub component_named : AbstractKind → List ℕ → Option OneComponent
component_named kind name = option_and_then (λ l. component_at l.place (components_in kind)) (named_in kind name)

-- ---- which presence words there may be

-- Over a SEQUENCE or SET a word speaks of an OPTIONAL component; over a CHOICE an alternative is PRESENT or ABSENT
-- (51.8.9). That none may be at a component with a DEFAULT is this profile's rule.
abbrev pub may_say : Bool → AbstractPresence → Option PresenceWord → Bool
may_say choice presence None = true
may_say true presence (Some Present) = true
may_say true presence (Some Absent) = true
may_say true presence (Some Optional) = false
may_say false presence (Some Present) = may_be_absent presence
may_say false presence (Some Absent) = may_be_absent presence
may_say false presence (Some Optional) = may_be_absent presence

-- a word at a component or alternative that it can't speak of
abbrev pub is_misused : Bool → Option PresenceWord → Option OneComponent → Bool
is_misused choice presence None = false
is_misused choice presence (Some c) = not (may_say choice c.presence presence)

abbrev pub has_bad_word : AbstractKind → PartHead → Bool
has_bad_word kind h = is_misused (is_choice kind) h.presence (component_named kind h.name)

abbrev pub is_unknown : AbstractKind → PartHead → Bool
is_unknown kind h = is_none (named_in kind h.name)

abbrev pub says_present : Option PresenceWord → Bool
says_present None = false
says_present (Some Present) = true
says_present (Some Absent) = false
says_present (Some Optional) = false

abbrev pub is_present : PartHead → Bool
is_present h = says_present h.presence

-- ---- where a part is at fault

-- the first one that passes the test
abbrev pub first_where : (PartHead → Bool) → List PartHead → Option Site
first_where test [] = None
first_where test (h ∷ hs) = if test h then Some h.site else first_where test hs

-- those after the first one that passes the test
abbrev pub after_first : (PartHead → Bool) → List PartHead → List PartHead
after_first test [] = []
after_first test (h ∷ hs) = if test h then hs else after_first test hs

abbrev pub is_among : List ℕ → List PartHead → Bool
is_among name [] = false
is_among name (h ∷ hs) = bytes_eq name h.name || is_among name hs

-- the first whose name is that of one before it
abbrev pub first_repeated : List PartHead → List PartHead → Option Site
first_repeated before [] = None
first_repeated before (h ∷ hs) = if is_among h.name before then Some h.site else first_repeated (before ++ h ∷ []) hs

-- over a CHOICE the second one that is PRESENT
abbrev pub second_present : Bool → List PartHead → Option Site
second_present false hs = None
second_present true hs = first_where is_present (after_first is_present hs)
