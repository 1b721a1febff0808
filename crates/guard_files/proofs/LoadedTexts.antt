-- What texts say together: the policy with its modules, or why they say none.
use Rattle.std.proofs.Common.{◌≡◌, ℕ, List, Option, Some, None, Ok, inl, inr, refl, subst, MatchOption}
use Rattle.std.specs.Prelude.{IfSome}
use Rattle.guard_schema.specs.declared.fault.SchemaFault.{SchemaFault}
use Rattle.guard_schema.specs.Accepts.{ReadsModules, KnowsModules, Accepts}
use Rattle.guard_schema.specs.Faults as schema
use Rattle.guard_schema.specs.Known.{Known}
use Rattle.guard_schema.specs.Outcomes.{RefusesBy}
use Rattle.guard_schema.specs.Schemas.{AbstractSchema, named_types, schema_of}
use Rattle.guard_schema.proofs.ByNames.Answers.{known_refused, modules_refused, refused_by, whole}
use Rattle.guard_syntax.specs.Trees.{WrittenModule}
use Rattle.guard_policy.specs.declared.fault.PolicyFault.{PolicyFault}
use Rattle.guard_policy.specs.Loads as policy_text
use Rattle.guard_policy.specs.Loads.{Loads}
use Rattle.guard_policy.specs.Policies.{AbstractPolicy}
use Rattle.guard_policy.specs.PolicyFaults as policy
use Rattle.guard_frames.specs.Texts.{SayPolicy, of_schema}
use Rattle.guard_frames.proofs.OnePolicy.{schema_refused}
use Rattle.guard_files.specs.declared.fault.Fault.{Fault}
use Rattle.guard_files.specs.declared.fault.Fault.TheVariants.{Policy, NoMemory}
use Rattle.guard_files.specs.Faults.{StandsForPolicy, of_texts}
use Rattle.guard_files.specs.Files.{Told}
use Rattle.guard_files.specs.Reading.{AbstractLoaded, AreTexts, IsLoadedAt, IsNoPolicyAt, IsPolicyAt, SayLoaded, SayNoneLoaded}
use Rattle.guard_files.proofs.Refusals.{say_nothing}

module _ (texts : List (List ℕ)) (text : List ℕ) where
  -- ---- why they say none

  -- the modules aren't read
  pub trees_refused : (f : SchemaFault) → RefusesBy (schema.named f) (ReadsModules texts) → SayNoneLoaded texts text (of_texts (of_schema f))
  trees_refused f h =
      say_nothing texts text (of_schema f) (schema_refused texts text f (refused_by texts (schema.named f) (modules_refused texts (schema.named f) h)))

  module _ (modules : List WrittenModule) (read : ReadsModules texts (Ok modules)) where
    -- they aren't built
    pub built_refused : (f : SchemaFault) → RefusesBy (schema.named f) (KnowsModules modules) → SayNoneLoaded texts text (of_texts (of_schema f))
    built_refused f h =
        say_nothing texts text (of_schema f)
        (schema_refused texts text f (refused_by texts (schema.named f) (known_refused texts modules read (schema.named f) h)))

    module _ (k : Known) (s : AbstractSchema) (known : KnowsModules modules (Ok k)) (is : s ≡ schema_of k) where
      accepts : Accepts texts s
      accepts = whole texts modules read k s known is

      -- there is no policy over them
      pub policy_refused : (p : PolicyFault) (f : Fault) → StandsForPolicy p f → IfSome (policy.named p) (policy_text.IsRefused text (named_types s)) → SayNoneLoaded texts text f
      policy_refused p f stands h = by (policy.named p) refl stands h
        where
          by : (named : Option policy.AbstractFault) → policy.named p ≡ named → MatchOption named (f ≡ NoMemory) (λ _. f ≡ Policy p)
              → IfSome named (policy_text.IsRefused text (named_types s)) → SayNoneLoaded texts text f
          by None e is h' = inr is
          by (Some fault) e is h' = rw is (inl (s, accepts, rw e h'))

      -- ---- what they say

      pub say_loaded : (p : AbstractPolicy) → Loads text (named_types s) p → SayLoaded texts text (record { policy = p; known = k })
      say_loaded p loads = (
        inl (modules, read, known),
        subst (λ (x : AbstractSchema). Loads text (named_types x) p) is loads,
      )

-- ---- at a path

pub none_loaded : (told : Told) (path text : List ℕ) (modules : List (List ℕ)) → AreTexts told path text modules → (f : Fault) → SayNoneLoaded modules text f → IsNoPolicyAt told path f
none_loaded told path text modules are f (inl none) = inr (inl (text, modules, are, none))
none_loaded told path text modules are f (inr e) = inr (inr e)

pub said_policy : (modules : List (List ℕ)) (text : List ℕ) (l : AbstractLoaded) → SayLoaded modules text l → SayPolicy modules text l.policy
said_policy modules text l (knows, loads) = (schema_of l.known, inl (l.known, knows, refl), loads)

-- what is loaded has the policy that the texts say
pub loaded_policy : (told : Told) (path : List ℕ) (l : AbstractLoaded) → IsLoadedAt told path l → IsPolicyAt told path l.policy
loaded_policy told path l (text, modules, are, said) = (text, modules, are, said_policy modules text l said)
