-- What one part of WITH COMPONENTS asks, as private contracts cite it.
use Rattle.std.specs.Prelude.{ℕ, Bool, List, [], ◌∷◌, ◌++◌, Option, Some, None, if◌then◌else◌}
use Rattle.guard_model.specs.AbstractType.{AbstractKind, AbstractPresence, Constraint, Parts}
use Rattle.guard_model.specs.Components.{components_in, component_at}
use Rattle.guard_model.specs.TypeView.{OnePart}
use Rattle.guard_eval.specs.Presence.{kind_at, is_ruled_out}
use Rattle.guard_tables.specs.declared.slots.Slots.{Slots}
use Rattle.guard_tables.specs.Demands.{by_constraint, within, unsent, Term}
use Rattle.guard_tables.specs.Terms.{term, placed}

-- of the value that is there
abbrev pub inner_terms : Slots → AbstractKind → ℕ → Option Constraint → List Term
inner_terms k kind i None = []
inner_terms k kind i (Some c) = term k (within i (by_constraint (kind_at i kind) c)) ∷ []

abbrev pub part_terms : Slots → AbstractKind → Bool → OnePart → List Term
part_terms k kind partial p =
    placed partial (component_at p.place (components_in kind)) p.word p.place k ++ inner_terms k kind p.place p.within

-- of a component that a full list may leave out
abbrev pub ruled_out_terms : Slots → AbstractKind → Parts → ℕ → AbstractPresence → List Term
ruled_out_terms k kind ps i presence = if is_ruled_out kind ps i presence then term k (unsent i) ∷ [] else []
