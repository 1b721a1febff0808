-- How the code fills a type: component by component, from those that are left to those that are finished. What it makes
-- so is what `Finishes` says. The bare type is the one that the written type has by its tags (`IsReady`), so that other
-- kinds, and lists with too few components, have no outcome.
use Rattle.std.specs.Prelude.{◌≡◌, ℕ, List, [], ◌∷◌, ◌++◌, take, drop, Some, slice_get}
use Rattle.guard_model.specs.declared.site.Site.{Site}
use Rattle.guard_model.specs.AbstractType as type
use Rattle.guard_model.specs.AbstractType.{AbstractType, AbstractKind, Components, type_of}
use Rattle.guard_model.specs.TypeView.{OneComponent, components_of}
use Rattle.guard_syntax.specs.Trees.{WrittenPresence, mandatory, WrittenType, type_node, WrittenBase, plain, numbers}
use Rattle.guard_syntax.specs.Trees.{named_bits, enumerated, structure, choice, of_type, named_type}
use Rattle.guard_syntax.specs.Trees.{WrittenComponents, no_components, component, components_from}
use Rattle.guard_syntax.specs.Trees.{WrittenAlternatives, no_alternatives, alternative, WrittenAlternative}
use Rattle.guard_syntax.specs.Trees.{WrittenComponentForm, named, components_of_type, WrittenAssignment}
use Rattle.guard_names.specs.Declarations.{Definition, definitions}
use Rattle.guard_constraints.specs.Visible.{Visible}
use Rattle.guard_schema.specs.Outcomes.{Is, Then}
use Rattle.guard_schema.specs.Faults.{Outcome}
use Rattle.guard_schema.specs.Known.{Built, Known}
use Rattle.guard_schema.specs.Finishing.{count_of_meant, Adds, ConstrainsBefore, FillsPresence, FinishesComponent}
use Rattle.guard_schema.specs.Building.{HasTags, TellsApart, HasValue}
use Rattle.guard_schema.specs.inside.Ready.{listed}

-- a list of components: those that are finished, and those that are left
pub record Filling : Type 0 where
  pub done : List OneComponent
  pub left : List OneComponent

-- one that is finished, after those that are
abbrev pub with_done : OneComponent → Filling → Filling
with_done c f = record { done = f.done ++ c ∷ []; left = f.left }

-- as many of those that are left, taken over as they are
abbrev pub taken_over : ℕ → Filling → Filling
taken_over n f = record { done = f.done ++ take n f.left; left = drop n f.left }

module _ (names : Visible) where
  -- the constraints of a type that is written so, whose parts are finished
  abbrev pub ConstrainsWritten : WrittenType → AbstractType → Outcome AbstractType → Type 0
  ConstrainsWritten (type_node site tags base cs) t = Then (ConstrainsBefore names base t) (Adds names cs)

  -- ---- parts, where `Finish` is what the written type of one makes of it, and `Fill` what a written list makes of the
  -- parts that are left

  -- a component of this name and this finished type: its default
  abbrev pub WithPresence : WrittenPresence → List ℕ → AbstractType → Outcome OneComponent → Type 0
  WithPresence presence name u = Then (FillsPresence names u presence)
      (λ p. Is (record { name = name; ty = u; presence = p }))

  abbrev pub OneInTurn : (AbstractType → Outcome AbstractType → Type 0) → WrittenPresence → OneComponent
      → Outcome OneComponent → Type 0
  OneInTurn Finish presence c = FinishesComponent names Finish presence c.name c.ty

  -- this one, before those that are left
  abbrev pub FillsOne : (AbstractType → Outcome AbstractType → Type 0) → WrittenPresence → OneComponent → Filling
      → Outcome Filling → Type 0
  FillsOne Finish presence c f = Then (OneInTurn Finish presence c) (λ one. Is (with_done one f))

  -- the next one
  abbrev pub FillsNext : (AbstractType → Outcome AbstractType → Type 0) → WrittenPresence → List OneComponent
      → List OneComponent → Outcome Filling → Type 0
  FillsNext Finish presence done [] answer = ⊥
  FillsNext Finish presence done (c ∷ left) answer =
      Then (OneInTurn Finish presence c) (λ one. Is (record { done = done ++ one ∷ []; left = left })) answer

-- all of them
abbrev pub FillsAll : (Filling → Outcome Filling → Type 0) → List OneComponent → Outcome (List OneComponent) → Type 0
FillsAll Fill bare = Then (Fill (record { done = []; left = bare })) (λ f. Is f.done)

abbrev pub ListInTurn : (Filling → Outcome Filling → Type 0) → AbstractKind → Outcome AbstractKind → Type 0
ListInTurn Fill (type.sequence bare) answer = Then (FillsAll Fill (listed bare))
    (λ parts. Is (type.sequence (components_of parts))) answer
ListInTurn Fill (type.set bare) answer = Then (FillsAll Fill (listed bare))
    (λ parts. Is (type.set (components_of parts))) answer
ListInTurn Fill kind answer = ⊥

abbrev pub ChoiceInTurn : (Filling → Outcome Filling → Type 0) → AbstractKind → Outcome AbstractKind → Type 0
ChoiceInTurn Fill (type.choice bare) answer = Then (FillsAll Fill (listed bare))
    (λ parts. Is (type.choice (components_of parts))) answer
ChoiceInTurn Fill kind answer = ⊥

abbrev pub ElementInTurn : (AbstractType → Outcome AbstractType → Type 0) → AbstractKind → Outcome AbstractKind → Type 0
ElementInTurn Finish (type.sequence_of bare) answer = Then (Finish bare) (λ u. Is (type.sequence_of u)) answer
ElementInTurn Finish (type.set_of bare) answer = Then (Finish bare) (λ u. Is (type.set_of u)) answer
ElementInTurn Finish kind answer = ⊥

-- ---- types

module _ (names : Visible) where
  abbrev mutual
    pub FinishesInTurn : WrittenType → AbstractType → Outcome AbstractType → Type 0
    FinishesInTurn (type_node site tags base cs) (type_of ts kind cons) =
        Then (KindInTurn base kind) (λ finished.
        Then (ConstrainsBefore names base (type_of ts finished cons)) (Adds names cs))

    pub KindInTurn : WrittenBase → AbstractKind → Outcome AbstractKind → Type 0
    KindInTurn (structure k cs) kind = ListInTurn (FillsInTurn cs) kind
    KindInTurn (choice others) kind = ChoiceInTurn (OthersInTurn others) kind
    KindInTurn (of_type k c t) kind = ElementInTurn (FinishesInTurn t) kind
    KindInTurn (plain p) kind = Is kind
    KindInTurn (numbers ns) kind = Is kind
    KindInTurn (named_bits ns) kind = Is kind
    KindInTurn (enumerated items) kind = Is kind
    KindInTurn (named_type site name) kind = Is kind

    pub FillsInTurn : WrittenComponents → Filling → Outcome Filling → Type 0
    FillsInTurn no_components f = Is f
    FillsInTurn (component site name t presence cs) f =
        Then (FillsNext names (FinishesInTurn t) presence f.done f.left) (FillsInTurn cs)
    FillsInTurn (components_from site t cs) f = Then (FromInTurn t f) (FillsInTurn cs)

    pub FromInTurn : WrittenType → Filling → Outcome Filling → Type 0
    FromInTurn (type_node site tags base cs) f = FromBaseInTurn base f

    pub FromBaseInTurn : WrittenBase → Filling → Outcome Filling → Type 0
    FromBaseInTurn (structure k cs) f answer = FillsInTurn cs f answer
    FromBaseInTurn (named_type site name) f answer = Is (taken_over (count_of_meant (names.types name)) f) answer
    FromBaseInTurn base f answer = ⊥

    pub OthersInTurn : WrittenAlternatives → Filling → Outcome Filling → Type 0
    OthersInTurn no_alternatives f = Is f
    OthersInTurn (alternative site name t others) f =
        Then (FillsNext names (FinishesInTurn t) mandatory f.done f.left) (OthersInTurn others)

  -- one entry of a list of components
  abbrev pub EntryInTurn : WrittenComponentForm → Filling → Outcome Filling → Type 0
  EntryInTurn (named name t presence) f = FillsNext names (FinishesInTurn t) presence f.done f.left
  EntryInTurn (components_of_type t) f = FromInTurn t f

  -- a type with its parts finished, and its constraints still to come
  abbrev pub PartsInTurn : WrittenBase → AbstractType → Outcome AbstractType → Type 0
  PartsInTurn base (type_of ts kind cons) = Then (KindInTurn base kind) (λ finished. Is (type_of ts finished cons))

  -- an alternative
  abbrev pub AlternativeInTurn : WrittenAlternative → Filling → Outcome Filling → Type 0
  AlternativeInTurn a f = FillsNext names (FinishesInTurn a.ty) mandatory f.done f.left

-- ---- definitions

-- the tags and parts of the definition of this number, which tags tell apart; its name is at the site
abbrev pub TagsNumber : Known → ℕ → Outcome AbstractType → Type 0
TagsNumber k number answer = (d : Definition) × (slice_get (definitions k.modules) number ≡ Some d)
    × HasTags k d answer

abbrev pub TagsApart : Known → ℕ → Site → Outcome AbstractType → Type 0
TagsApart k number site = Then (TagsNumber k number) (λ bare. Then (TellsApart site bare) (λ _. Is bare))

-- a definition of these tags and parts
abbrev pub CompletesInTurn : Known → Visible → WrittenAssignment → AbstractType → Outcome Built → Type 0
CompletesInTurn k names a bare = Then (FinishesInTurn names a.ty bare) (λ t. HasValue k names a t)
