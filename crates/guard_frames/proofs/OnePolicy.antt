-- Texts that say a policy say one alone, and then have no fault.
use Rattle.std.proofs.Common.{◌≡◌, ℕ, List, Option, Some, None, Result, Ok, inl, inr, sym, ap, subst, ◌∙◌}
use Rattle.std.specs.Prelude.{IfSome}
use Rattle.std.proofs.lemmas.Option.{same_Some}
use Rattle.guard_model.specs.Answer.{Refuses}
use Rattle.guard_model.proofs.Results.{same_Ok}
use Rattle.guard_schema.specs.declared.fault.SchemaFault.{SchemaFault}
use Rattle.guard_schema.specs.declared.fault.SchemaFault.TheVariants as schema_fault
use Rattle.guard_schema.specs.Accepts as schema_text
use Rattle.guard_schema.specs.Accepts.{Accepts}
use Rattle.guard_schema.specs.Faults as schema
use Rattle.guard_schema.specs.Schemas.{AbstractSchema, named_types}
use Rattle.guard_policy.specs.declared.fault.PolicyFault.{PolicyFault}
use Rattle.guard_policy.specs.declared.fault.PolicyFault.TheVariants as policy_fault
use Rattle.guard_der.specs.NamedTypes.{AbstractTypes}
use Rattle.guard_policy.specs.EntryFaults.{document_fault}
use Rattle.guard_policy.specs.Loads as policy_text
use Rattle.guard_policy.specs.Loads.{Loads}
use Rattle.guard_policy.specs.Policies.{AbstractPolicy}
use Rattle.guard_policy.specs.PolicyFaults as policy
use Rattle.guard_frames.specs.Texts.{SayNone, named, of_schema, of_policy}

-- ---- faults of the modules

pub schema_refused : (modules : List (List ℕ)) (text : List ℕ) (f : SchemaFault) → IfSome (schema.named f) (schema_text.IsRefused modules) → SayNone modules text (of_schema f)
schema_refused modules text schema_fault.OutOfMemory h = tt
schema_refused modules text (schema_fault.Lex f) h = h
schema_refused modules text (schema_fault.Syntax f) h = h
schema_refused modules text (schema_fault.Name f) h = h
schema_refused modules text (schema_fault.Tag f) h = h
schema_refused modules text (schema_fault.Clash site c common) h = h
schema_refused modules text (schema_fault.Cons f) h = h
schema_refused modules text (schema_fault.Value f) h = h
schema_refused modules text (schema_fault.DefaultOutside site) h = h
schema_refused modules text (schema_fault.TooLarge site) h = h

-- where they denote a schema, a refusal is that memory ran out
pub schema_there : (s : AbstractSchema) (p : AbstractPolicy) (f : SchemaFault) → Refuses (schema.named f) (Ok s) → Refuses (named (of_schema f)) (Ok p)
schema_there s p schema_fault.OutOfMemory h = tt
schema_there s p (schema_fault.Lex f) h = absurd cc
schema_there s p (schema_fault.Syntax f) h = absurd cc
schema_there s p (schema_fault.Name f) h = absurd cc
schema_there s p (schema_fault.Tag f) h = absurd cc
schema_there s p (schema_fault.Clash site c common) h = absurd cc
schema_there s p (schema_fault.Cons f) h = absurd cc
schema_there s p (schema_fault.Value f) h = absurd cc
schema_there s p (schema_fault.DefaultOutside site) h = absurd cc
schema_there s p (schema_fault.TooLarge site) h = absurd cc

-- ---- faults of the policy's text

both_ways : {A : Type 0} (o : Option A) (x : A) → o ≡ None → o ≡ Some x → ⊥
both_ways o x e f = let both : None ≡ Some x = sym e ∙ f in absurd cc

-- a text that says a policy has no fault
pub no_fault : (text : List ℕ) (s : AbstractTypes) (p : AbstractPolicy) (f : policy.AbstractFault) → Loads text s p → policy_text.IsRefused text s f → ⊥
no_fault text s p f (top, document, none, is) (inl (no_document, e)) = both_ways _ top (no_document document.0) document.1
no_fault text s p f (top, document, none, is) (inr (other, again, fault)) =
    let same : top ≡ other = same_Some top other (sym document.1 ∙ again.1) in
    both_ways (document_fault s top) f none (ap (document_fault s) same ∙ fault)

pub policy_refused : (modules : List (List ℕ)) (text : List ℕ) (s : AbstractSchema) → Accepts modules s → (f : PolicyFault)
    → IfSome (policy.named f) (policy_text.IsRefused text (named_types s)) → SayNone modules text (of_policy f)
policy_refused modules text s accepted policy_fault.OutOfMemory h = tt
policy_refused modules text s accepted policy_fault.Toml h = (s, accepted, h)
policy_refused modules text s accepted (policy_fault.UnknownKey place key) h = (s, accepted, h)
policy_refused modules text s accepted (policy_fault.MissingKey place key) h = (s, accepted, h)
policy_refused modules text s accepted (policy_fault.BadName place) h = (s, accepted, h)
policy_refused modules text s accepted (policy_fault.DuplicateName place) h = (s, accepted, h)
policy_refused modules text s accepted (policy_fault.NoSuchType place) h = (s, accepted, h)
policy_refused modules text s accepted (policy_fault.NoSuchMessage place) h = (s, accepted, h)
policy_refused modules text s accepted (policy_fault.BadEffect place) h = (s, accepted, h)
policy_refused modules text s accepted (policy_fault.Table number fault) h = (s, accepted, h)

-- where it says a policy, a refusal is that memory ran out
pub policy_there : (text : List ℕ) (s : AbstractTypes) (p : AbstractPolicy) → Loads text s p → (f : PolicyFault)
    → IfSome (policy.named f) (policy_text.IsRefused text s) → Refuses (named (of_policy f)) (Ok p)
policy_there text s p said policy_fault.OutOfMemory h = tt
policy_there text s p said policy_fault.Toml h = absurd (no_fault text s p _ said h)
policy_there text s p said (policy_fault.UnknownKey place key) h = absurd (no_fault text s p _ said h)
policy_there text s p said (policy_fault.MissingKey place key) h = absurd (no_fault text s p _ said h)
policy_there text s p said (policy_fault.BadName place) h = absurd (no_fault text s p _ said h)
policy_there text s p said (policy_fault.DuplicateName place) h = absurd (no_fault text s p _ said h)
policy_there text s p said (policy_fault.NoSuchType place) h = absurd (no_fault text s p _ said h)
policy_there text s p said (policy_fault.NoSuchMessage place) h = absurd (no_fault text s p _ said h)
policy_there text s p said (policy_fault.BadEffect place) h = absurd (no_fault text s p _ said h)
policy_there text s p said (policy_fault.Table number fault) h = absurd (no_fault text s p _ said h)

-- ---- the policy

-- over a schema that the modules denote: `s` is what was built, and `t` what they denote
pub policy_said : (modules : List (List ℕ)) (text : List ℕ) (s t : AbstractSchema) (p : AbstractPolicy) → ◌≡◌ {A = Result AbstractSchema schema.AbstractFault} (Ok t) (Ok s)
    → Loads text (named_types t) p → Loads text (named_types s) p
policy_said modules text s t p e said = subst (λ (x : AbstractSchema). Loads text (named_types x) p) (same_Ok t s e) said
