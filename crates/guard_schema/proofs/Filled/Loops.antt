-- Components, alternatives and constraints one after another, as loops read them.
use Rattle.std.proofs.Common.{◌≡◌, ℕ, ◌+◌, ◌<◌, ◌≤◌, List, map, length, get_or, Option, Ok, refl}
use Rattle.guard_model.specs.AbstractType.{AbstractType}
use Rattle.guard_model.specs.declared.site.Site.{Site}
use Rattle.guard_syntax.specs.Trees.{WrittenComponentForm, named, components_of_type, WrittenComponents}
use Rattle.guard_syntax.specs.Trees.{component_before, components_of, alternatives_of}
use Rattle.guard_syntax.specs.TypeViews as written
use Rattle.guard_syntax.specs.SetViews.{constraint_view}
use Rattle.guard_syntax.specs.declared.tree.ConsTree.{ConsTree}
use Rattle.guard_syntax.specs.declared.tree.CompTree.{CompTree}
use Rattle.guard_syntax.specs.declared.tree.AlternativeTree.{AlternativeTree}
use Rattle.guard_constraints.specs.Visible.{Visible}
use Rattle.guard_schema.specs.Outcomes.{Is, Then, RefusesBy}
use Rattle.guard_schema.specs.Faults.{AbstractFault, Outcome}
use Rattle.guard_schema.specs.Known.{Known, with_built}
use Rattle.guard_schema.specs.Building.{BuildsNumber, BuildsAll}
use Rattle.guard_schema.specs.Finishing.{AddsOne, Adds}
use Rattle.guard_schema.specs.inside.InTurn.{Filling, FillsInTurn, EntryInTurn, OthersInTurn, AlternativeInTurn}
use Rattle.guard_schema.proofs.Turns.Loops as entries
use Rattle.guard_schema.proofs.Turns.Outcomes.{flattened}

-- ---- constraints

module _ (names : Visible) (trees : List ConsTree) (start : AbstractType) where
  abbrev pub ConstraintsSoFar : ℕ → AbstractType → Type 0
  ConstraintsSoFar i t = entries.SoFar (map constraint_view) (Adds names)
      (λ tree u. AddsOne names (constraint_view tree) u) (λ u. u) (λ u. refl) (λ tree ts u answer h. h) trees start i t

  pub next_constraint : (i : ℕ) (t : AbstractType) (x : ConsTree) → i < length trees → x ≡ get_or trees i x
      → ConstraintsSoFar i t → (u : AbstractType) → AddsOne names (constraint_view x) t (Ok u)
      → ConstraintsSoFar (i + 1) u
  next_constraint = entries.next (map constraint_view) (Adds names) (λ tree u. AddsOne names (constraint_view tree) u)
      (λ u. u) (λ u. refl) (λ tree ts u answer h. h) trees start

  pub constraint_stops : (i : ℕ) (t : AbstractType) (x : ConsTree) → i < length trees → x ≡ get_or trees i x
      → ConstraintsSoFar i t → (fault : Option AbstractFault) → RefusesBy fault (AddsOne names (constraint_view x) t)
      → RefusesBy fault (Adds names (map constraint_view trees) start)
  constraint_stops = entries.stops (map constraint_view) (Adds names) (λ tree u. AddsOne names (constraint_view tree) u)
      (λ u. u) (λ u. refl) (λ tree ts u answer h. h) trees start

  pub no_constraint : (i : ℕ) (t : AbstractType) → length trees ≤ i → ConstraintsSoFar i t
      → Adds names (map constraint_view trees) start (Ok t)
  no_constraint = entries.ends (map constraint_view) (Adds names) (λ tree u. AddsOne names (constraint_view tree) u)
      (λ u. u) (λ u. refl) (λ tree ts u answer h. h) trees start

-- ---- components

abbrev components : List CompTree → WrittenComponents
components ts = components_of (map written.component_view ts)

pub one_entry : (names : Visible) (site : Site) (form : WrittenComponentForm) (cs : WrittenComponents) (f : Filling)
    (answer : Outcome Filling)
    → Then (EntryInTurn names form f) (FillsInTurn names cs) answer
    → FillsInTurn names (component_before site form cs) f answer
one_entry names site (named name t presence) cs f answer h = h
one_entry names site (components_of_type t) cs f answer h = h

module _ (names : Visible) (trees : List CompTree) (start : Filling) where
  abbrev pub ComponentsSoFar : ℕ → Filling → Type 0
  ComponentsSoFar i f = entries.SoFar (λ ts. components_of (map written.component_view ts)) (FillsInTurn names)
      (λ tree g. EntryInTurn names (written.component_view tree).form g) (λ g. g) (λ g. refl)
      (λ tree ts g answer h. one_entry names (written.component_view tree).site (written.component_view tree).form
      (components_of (map written.component_view ts)) g answer h) trees start i f

  pub next_component : (i : ℕ) (f : Filling) (x : CompTree) → i < length trees → x ≡ get_or trees i x
      → ComponentsSoFar i f → (g : Filling) → EntryInTurn names (written.component_view x).form f (Ok g)
      → ComponentsSoFar (i + 1) g
  next_component = entries.next (λ ts. components_of (map written.component_view ts)) (FillsInTurn names)
      (λ tree g. EntryInTurn names (written.component_view tree).form g) (λ g. g) (λ g. refl)
      (λ tree ts g answer h. one_entry names (written.component_view tree).site (written.component_view tree).form
      (components_of (map written.component_view ts)) g answer h) trees start

  pub component_stops : (i : ℕ) (f : Filling) (x : CompTree) → i < length trees → x ≡ get_or trees i x
      → ComponentsSoFar i f → (fault : Option AbstractFault)
      → RefusesBy fault (EntryInTurn names (written.component_view x).form f)
      → RefusesBy fault (FillsInTurn names (components_of (map written.component_view trees)) start)
  component_stops = entries.stops (λ ts. components_of (map written.component_view ts)) (FillsInTurn names)
      (λ tree g. EntryInTurn names (written.component_view tree).form g) (λ g. g) (λ g. refl)
      (λ tree ts g answer h. one_entry names (written.component_view tree).site (written.component_view tree).form
      (components_of (map written.component_view ts)) g answer h) trees start

  pub no_component : (i : ℕ) (f : Filling) → length trees ≤ i → ComponentsSoFar i f
      → FillsInTurn names (components_of (map written.component_view trees)) start (Ok f)
  no_component = entries.ends (λ ts. components_of (map written.component_view ts)) (FillsInTurn names)
      (λ tree g. EntryInTurn names (written.component_view tree).form g) (λ g. g) (λ g. refl)
      (λ tree ts g answer h. one_entry names (written.component_view tree).site (written.component_view tree).form
      (components_of (map written.component_view ts)) g answer h) trees start

-- ---- alternatives

module _ (names : Visible) (trees : List AlternativeTree) (start : Filling) where
  abbrev pub AlternativesSoFar : ℕ → Filling → Type 0
  AlternativesSoFar i f = entries.SoFar (λ ts. alternatives_of (map written.alternative_view ts)) (OthersInTurn names)
      (λ tree g. AlternativeInTurn names (written.alternative_view tree) g) (λ g. g) (λ g. refl)
      (λ tree ts g answer h. h) trees start i f

  pub next_alternative : (i : ℕ) (f : Filling) (x : AlternativeTree) → i < length trees → x ≡ get_or trees i x
      → AlternativesSoFar i f → (g : Filling) → AlternativeInTurn names (written.alternative_view x) f (Ok g)
      → AlternativesSoFar (i + 1) g
  next_alternative = entries.next (λ ts. alternatives_of (map written.alternative_view ts)) (OthersInTurn names)
      (λ tree g. AlternativeInTurn names (written.alternative_view tree) g) (λ g. g) (λ g. refl)
      (λ tree ts g answer h. h) trees start

  pub alternative_stops : (i : ℕ) (f : Filling) (x : AlternativeTree) → i < length trees → x ≡ get_or trees i x
      → AlternativesSoFar i f → (fault : Option AbstractFault)
      → RefusesBy fault (AlternativeInTurn names (written.alternative_view x) f)
      → RefusesBy fault (OthersInTurn names (alternatives_of (map written.alternative_view trees)) start)
  alternative_stops = entries.stops (λ ts. alternatives_of (map written.alternative_view ts)) (OthersInTurn names)
      (λ tree g. AlternativeInTurn names (written.alternative_view tree) g) (λ g. g) (λ g. refl)
      (λ tree ts g answer h. h) trees start

  pub no_alternative : (i : ℕ) (f : Filling) → length trees ≤ i → AlternativesSoFar i f
      → OthersInTurn names (alternatives_of (map written.alternative_view trees)) start (Ok f)
  no_alternative = entries.ends (λ ts. alternatives_of (map written.alternative_view ts)) (OthersInTurn names)
      (λ tree g. AlternativeInTurn names (written.alternative_view tree) g) (λ g. g) (λ g. refl)
      (λ tree ts g answer h. h) trees start

-- ---- definitions

-- one definition more
abbrev pub BuildsOne : ℕ → Known → Outcome Known → Type 0
BuildsOne number k = Then (BuildsNumber k number) (λ b. Is (with_built k b))

module _ (order : List ℕ) (start : Known) where
  abbrev pub BuiltSoFar : ℕ → Known → Type 0
  BuiltSoFar i k = entries.SoFar (λ (ns : List ℕ). ns) (λ ns l. BuildsAll l ns) BuildsOne (λ l. l.built) (λ l. refl)
      (λ n ns l answer h. flattened (BuildsNumber l n) (with_built l) (λ m. BuildsAll m ns) answer h) order start i k

  pub next_definition : (i : ℕ) (k : Known) (n : ℕ) → i < length order → n ≡ get_or order i n → BuiltSoFar i k
      → (l : Known) → BuildsOne n k (Ok l) → BuiltSoFar (i + 1) l
  next_definition = entries.next (λ (ns : List ℕ). ns) (λ ns l. BuildsAll l ns) BuildsOne (λ l. l.built) (λ l. refl)
      (λ n ns l answer h. flattened (BuildsNumber l n) (with_built l) (λ m. BuildsAll m ns) answer h) order start

  pub definition_stops : (i : ℕ) (k : Known) (n : ℕ) → i < length order → n ≡ get_or order i n → BuiltSoFar i k
      → (fault : Option AbstractFault) → RefusesBy fault (BuildsOne n k) → RefusesBy fault (BuildsAll start order)
  definition_stops = entries.stops (λ (ns : List ℕ). ns) (λ ns l. BuildsAll l ns) BuildsOne (λ l. l.built) (λ l. refl)
      (λ n ns l answer h. flattened (BuildsNumber l n) (with_built l) (λ m. BuildsAll m ns) answer h) order start

  pub no_definition : (i : ℕ) (k : Known) → length order ≤ i → BuiltSoFar i k → BuildsAll start order (Ok k.built)
  no_definition = entries.ends (λ (ns : List ℕ). ns) (λ ns l. BuildsAll l ns) BuildsOne (λ l. l.built) (λ l. refl)
      (λ n ns l answer h. flattened (BuildsNumber l n) (with_built l) (λ m. BuildsAll m ns) answer h) order start
