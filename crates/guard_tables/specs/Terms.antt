-- The terms of one node that a part of WITH COMPONENTS, and the parts of a type, come to.
use Rattle.std.specs.Prelude.{ℕ, suc, Bool, true, false, not, ◌||◌, List, [], ◌∷◌, ◌++◌, Option, Some, None, if◌then◌else◌}
use Rattle.guard_model.specs.declared.ty.Word.{Word}
use Rattle.guard_model.specs.declared.ty.Word.TheVariants.{Present, Absent, Optional}
use Rattle.guard_model.specs.AbstractType as type
use Rattle.guard_model.specs.AbstractType.{AbstractKind, AbstractPresence, Components, Parts, no_components, component}
use Rattle.guard_model.specs.Components.{components_in, component_at}
use Rattle.guard_model.specs.TypeView.{OneComponent}
use Rattle.guard_der.specs.Fits.{may_be_absent}
use Rattle.guard_eval.specs.Presence.{kind_at, is_ruled_out}
use Rattle.guard_tables.specs.declared.slots.Slots.{Slots}
use Rattle.guard_tables.specs.Demands.{by_type, by_constraint, Atom, each, within, sent, unsent, Term}

abbrev pub term : Slots → Atom → Term
term k a = record { slots = k; atom = a }

-- the kinds whose values are truth values or numbers, or of which there is one value
abbrev pub is_scalar : AbstractKind → Bool
is_scalar type.boolean = true
is_scalar (type.integer names) = true
is_scalar (type.bit_string names) = false
is_scalar type.octet_string = false
is_scalar type.null = true
is_scalar type.object_identifier = false
is_scalar (type.enumerated items) = true
is_scalar (type.characters kind) = false
is_scalar (type.sequence cs) = false
is_scalar (type.set cs) = false
is_scalar (type.choice alternatives) = false
is_scalar (type.sequence_of t) = false
is_scalar (type.set_of t) = false

-- ---- presence in WITH COMPONENTS (X.680 51.8.5 to 51.8.9)

-- of a listed component: without a word a full list makes an OPTIONAL one PRESENT
abbrev pub said : Bool → AbstractPresence → Option Word → ℕ → Slots → List Term
said partial presence (Some Present) i k = term k (sent i) ∷ []
said partial presence (Some Absent) i k = term k (unsent i) ∷ []
said partial presence (Some Optional) i k = []
said partial presence None i k = if partial || not (may_be_absent presence) then [] else term k (sent i) ∷ []

-- A type has each component that is listed.
abbrev pub placed : Bool → Option OneComponent → Option Word → ℕ → Slots → List Term
placed partial None word i k = []
placed partial (Some c) word i k = said partial c.presence word i k

-- of those of these components that a full list rules out; the first of them is at this place
abbrev pub ruled_out : AbstractKind → Parts → ℕ → Slots → Components → List Term
ruled_out kind ps i k no_components = []
ruled_out kind ps i k (component name t presence rest) =
    (if is_ruled_out kind ps i presence then term k (unsent i) ∷ [] else []) ++ ruled_out kind ps (suc i) k rest

-- a partial list rules out none
abbrev pub unlisted : Bool → AbstractKind → Parts → Slots → List Term
unlisted true kind ps k = []
unlisted false kind ps k = ruled_out kind ps 0 k (components_in kind)

-- what the listed parts say
abbrev pub listed_terms : Slots → AbstractKind → Bool → Parts → List Term
listed_terms k kind partial type.no_parts = []
listed_terms k kind partial (type.part site i word ps) =
    placed partial (component_at i (components_in kind)) word i k ++ listed_terms k kind partial ps
listed_terms k kind partial (type.part_within site i c word ps) =
    placed partial (component_at i (components_in kind)) word i k
    ++ (term k (within i (by_constraint (kind_at i kind) c)) ∷ listed_terms k kind partial ps)

-- ---- the parts of a type: each is a member of its type

-- these components or alternatives, the first of which is at this place
abbrev pub parts_from : ℕ → Slots → Components → List Term
parts_from i k no_components = []
parts_from i k (component name t presence cs) = term k (within i (by_type t)) ∷ parts_from (suc i) k cs

abbrev pub kind_terms : Slots → AbstractKind → List Term
kind_terms k type.boolean = []
kind_terms k (type.integer names) = []
kind_terms k (type.bit_string names) = []
kind_terms k type.octet_string = []
kind_terms k type.null = []
kind_terms k type.object_identifier = []
kind_terms k (type.enumerated items) = []
kind_terms k (type.characters kind) = []
kind_terms k (type.sequence cs) = parts_from 0 k cs
kind_terms k (type.set cs) = parts_from 0 k cs
kind_terms k (type.choice cs) = parts_from 0 k cs
kind_terms k (type.sequence_of t) = term k (each (by_type t)) ∷ []
kind_terms k (type.set_of t) = term k (each (by_type t)) ∷ []
