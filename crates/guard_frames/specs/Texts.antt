-- What texts say: a policy over the schema of modules, or why they say none.
use Rattle.std.specs.Prelude.{ℕ, List, Option, Some, None, IsSomeAnd}
use Rattle.guard_schema.specs.declared.fault.SchemaFault.{SchemaFault}
use Rattle.guard_schema.specs.declared.fault.SchemaFault.TheVariants as schema_fault
use Rattle.guard_schema.specs.Schemas.{AbstractSchema, named_types}
use Rattle.guard_schema.specs.Faults as schema
use Rattle.guard_schema.specs.Accepts as schema_text
use Rattle.guard_schema.specs.Accepts.{Accepts}
use Rattle.guard_policy.specs.declared.fault.PolicyFault.{PolicyFault}
use Rattle.guard_policy.specs.declared.fault.PolicyFault.TheVariants as policy_fault
use Rattle.guard_policy.specs.Policies.{AbstractPolicy}
use Rattle.guard_policy.specs.PolicyFaults as policy
use Rattle.guard_policy.specs.Loads as policy_text
use Rattle.guard_policy.specs.Loads.{Loads}
use Rattle.guard_frames.specs.declared.running.RunFault.{RunFault}
use Rattle.guard_frames.specs.declared.running.RunFault.TheVariants as run_fault
use Rattle.guard_frames.specs.declared.texts.TextsFault.{TextsFault}
use Rattle.guard_frames.specs.declared.texts.TextsFault.TheVariants.{Schema, Policy, Run, OutOfMemory}

-- The texts of modules denote a schema, and over it the other text says this policy.
abbrev pub SayPolicy : List (List ℕ) → List ℕ → AbstractPolicy → Type 0
SayPolicy modules text p = (s : AbstractSchema) × Accepts modules s × Loads text (named_types s) p

-- Why they say none: the first fault of the modules; or, where they have none, that of the policy's text over them.
-- That memory ran out says nothing of them.
abbrev pub SayNone : List (List ℕ) → List ℕ → TextsFault → Type 0
SayNone modules text (Schema f) = IsSomeAnd (schema.named f) (schema_text.IsRefused modules)
SayNone modules text (Policy f) =
    (s : AbstractSchema) × Accepts modules s × IsSomeAnd (policy.named f) (policy_text.IsRefused text (named_types s))
SayNone modules text (Run f) = ⊥
SayNone modules text OutOfMemory = Unit {0}

-- a refusal is a fault, unless memory ran out
abbrev pub named : TextsFault → Option TextsFault
named (Schema f) = Some (Schema f)
named (Policy f) = Some (Policy f)
named (Run f) = Some (Run f)
named OutOfMemory = None

-- ---- that memory ran out has one name, whoever ran out of it

abbrev pub of_schema : SchemaFault → TextsFault
of_schema schema_fault.OutOfMemory = OutOfMemory
of_schema (schema_fault.Lex f) = Schema (schema_fault.Lex f)
of_schema (schema_fault.Syntax f) = Schema (schema_fault.Syntax f)
of_schema (schema_fault.Name f) = Schema (schema_fault.Name f)
of_schema (schema_fault.Tag f) = Schema (schema_fault.Tag f)
of_schema (schema_fault.Clash site c common) = Schema (schema_fault.Clash site c common)
of_schema (schema_fault.Cons f) = Schema (schema_fault.Cons f)
of_schema (schema_fault.Value f) = Schema (schema_fault.Value f)
of_schema (schema_fault.DefaultOutside site) = Schema (schema_fault.DefaultOutside site)
of_schema (schema_fault.TooLarge site) = Schema (schema_fault.TooLarge site)

abbrev pub of_policy : PolicyFault → TextsFault
of_policy policy_fault.OutOfMemory = OutOfMemory
of_policy policy_fault.Toml = Policy policy_fault.Toml
of_policy (policy_fault.UnknownKey place key) = Policy (policy_fault.UnknownKey place key)
of_policy (policy_fault.MissingKey place key) = Policy (policy_fault.MissingKey place key)
of_policy (policy_fault.BadName place) = Policy (policy_fault.BadName place)
of_policy (policy_fault.DuplicateName place) = Policy (policy_fault.DuplicateName place)
of_policy (policy_fault.NoSuchType place) = Policy (policy_fault.NoSuchType place)
of_policy (policy_fault.NoSuchMessage place) = Policy (policy_fault.NoSuchMessage place)
of_policy (policy_fault.BadEffect place) = Policy (policy_fault.BadEffect place)
of_policy (policy_fault.Table number f) = Policy (policy_fault.Table number f)

abbrev pub of_run : RunFault → TextsFault
of_run run_fault.OutOfMemory = OutOfMemory
of_run run_fault.FrameTooLong = Run run_fault.FrameTooLong
of_run run_fault.WriteFailed = Run run_fault.WriteFailed
of_run run_fault.TornFrame = Run run_fault.TornFrame
of_run run_fault.ReadFailed = Run run_fault.ReadFailed
