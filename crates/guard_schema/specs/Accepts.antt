-- What it is for texts to denote a schema, and why they denote none. This is the page to read first.
use Rattle.std.specs.Prelude.{ℕ, List, [], length, Ok, Err}
use Rattle.guard_syntax.specs.Trees.{WrittenModule}
use Rattle.guard_names.specs.Declarations.{definitions}
use Rattle.guard_names.specs.Meanings.{Uses}
use Rattle.guard_names.specs.Order.{IsOrder}
use Rattle.guard_names.specs.Faults.{AreFaultless, IsFirstFault}
use Rattle.guard_schema.specs.Outcomes.{Is, Then}
use Rattle.guard_schema.specs.Faults.{AbstractFault, Name, Outcome}
use Rattle.guard_schema.specs.Texts.{ReadsTexts, CountsTexts}
use Rattle.guard_schema.specs.Known.{Known, none_known}
use Rattle.guard_schema.specs.Building.{BuildsAll}
use Rattle.guard_schema.specs.Schemas.{AbstractSchema, schema_of}

-- The names in modules have no fault, and this is the order in which each definition comes after all that it uses; or
-- this is their first fault.
abbrev pub OrdersNames : List WrittenModule → Outcome (List ℕ) → Type 0
OrdersNames ms (Ok order) = AreFaultless ms × IsOrder (length (definitions ms)) (Uses ms) order
OrdersNames ms (Err (Name f)) = IsFirstFault ms f
OrdersNames ms (Err _) = ⊥

-- The modules that texts are, or their first fault: how many texts there are; and each text in turn, its tokens and its
-- tree.
abbrev pub ReadsModules : List (List ℕ) → Outcome (List WrittenModule) → Type 0
ReadsModules texts = Then (CountsTexts texts) (λ _. ReadsTexts [] texts)

-- What is known of all definitions in modules, or the first fault: the names of all modules; and each definition after
-- those that it uses.
abbrev pub KnowsModules : List WrittenModule → Outcome Known → Type 0
KnowsModules modules =
    Then (OrdersNames modules) (λ order.
    Then (BuildsAll (none_known modules order) order) (λ built.
    Is (record { modules = modules; order = order; built = built })))

-- of those in texts
abbrev pub Knows : List (List ℕ) → Outcome Known → Type 0
Knows texts = Then (ReadsModules texts) KnowsModules

-- What texts denote, or their first fault: what is known of their definitions, of which the types get their names in
-- the end.
abbrev pub Denotes : List (List ℕ) → Outcome AbstractSchema → Type 0
Denotes texts = Then (Knows texts) (λ k. Is (schema_of k))

-- The texts denote the schema.
abbrev pub Accepts : List (List ℕ) → AbstractSchema → Type 0
Accepts texts schema = Denotes texts (Ok schema)

-- The texts denote no schema, and this is their first fault. Of the parser's faults it is one whose condition holds.
abbrev pub IsRefused : List (List ℕ) → AbstractFault → Type 0
IsRefused texts fault = Denotes texts (Err fault)
