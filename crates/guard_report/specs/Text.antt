-- The text of a verdict, as a report has it.
use Rattle.std.specs.Prelude.{ℕ, List, [], ◌∷◌, ◌++◌, codes, decimal, option_map, Option, Some, None}
use Rattle.guard_model.specs.declared.site.Site.{Site}
use Rattle.guard_model.specs.declared.site.Step.{Step}
use Rattle.guard_model.specs.declared.site.Step.TheVariants.{Component, Element}
use Rattle.guard_model.specs.AbstractType.{AbstractType, type_of}
use Rattle.guard_model.specs.Kinds.{element_of}
use Rattle.guard_model.specs.TypeView.{OneComponent}
use Rattle.guard_der.specs.Breach.{AbstractBreach}
use Rattle.guard_policy.specs.Policies.{AbstractPolicy, AbstractRoute, declared_type, rule_name_of, module_name}
use Rattle.guard_eval.specs.Violations.{AbstractViolation}
use Rattle.guard_policy.specs.Verdicts.{AbstractVerdict, pass, unknown_message, undecodable, outside_type, denied_by, not_allowed, no_rule}
use Rattle.guard_model.specs.Components.{component_at, components_in}
use Rattle.guard_der.specs.Names.{breach_name}

-- what has no name is written by its number
abbrev pub name_or_number : Option (List ℕ) → ℕ → List ℕ
name_or_number (Some name) number = name
name_or_number None number = decimal number

-- the name of the module, then line and column
abbrev pub site_text : AbstractPolicy → Site → List ℕ
site_text p s =
    name_or_number (module_name p s.text) s.text ++ codes ":" ++ decimal s.line ++ codes ":" ++ decimal s.column

-- the component or alternative at this place of the written list, from 0
abbrev pub component_of : Option AbstractType → ℕ → Option OneComponent
component_of None i = None
component_of (Some (type_of tags kind cons)) i = component_at i (components_in kind)

-- the name of the component or alternative at this place, or the place where no name is known
abbrev pub part_name : Option AbstractType → ℕ → List ℕ
part_name t i = name_or_number (option_map (λ c. c.name) (component_of t i)) i

-- the type of the elements of an OF type
abbrev pub element_type : Option AbstractType → Option AbstractType
element_type None = None
element_type (Some (type_of tags kind cons)) = element_of kind

-- the type one step further in, if one is known
abbrev pub type_within : Option AbstractType → Step → Option AbstractType
type_within t (Component i) = option_map (λ c. c.ty) (component_of t i)
type_within t (Element i) = element_type t

abbrev pub step_text : Option AbstractType → Step → List ℕ
step_text t (Component i) = codes "." ++ part_name t i
step_text t (Element i) = codes "[" ++ decimal i ++ codes "]"

-- from a value of the type, if one is known, further in
abbrev pub steps_text : Option AbstractType → List Step → List ℕ
steps_text t [] = []
steps_text t (step ∷ steps) = step_text t step ++ steps_text (type_within t step) steps

-- in a value of the declared type of the route's message
abbrev pub path_text : AbstractPolicy → AbstractRoute → List Step → List ℕ
path_text p route path = codes "$" ++ steps_text (declared_type p route.message) path

abbrev pub violation_text : AbstractPolicy → AbstractRoute → AbstractViolation → List ℕ
violation_text p route w = site_text p w.site ++ codes " " ++ path_text p route w.path

abbrev pub breach_text : AbstractPolicy → AbstractRoute → AbstractBreach → List ℕ
breach_text p route b = breach_name b.code ++ codes " at " ++ decimal b.at ++ codes " " ++ path_text p route b.path

abbrev pub rule_text : AbstractPolicy → ℕ → List ℕ
rule_text p i = name_or_number (rule_name_of p i) i

-- a rule and why it doesn't allow the value
abbrev pub shortfall_text : AbstractPolicy → AbstractRoute → ℕ × AbstractViolation → List ℕ
shortfall_text p route r = rule_text p r.0 ++ codes " " ++ violation_text p route r.1

abbrev pub further_shortfalls : AbstractPolicy → AbstractRoute → List (ℕ × AbstractViolation) → List ℕ
further_shortfalls p route [] = []
further_shortfalls p route (r ∷ rs) = codes ", " ++ shortfall_text p route r ++ further_shortfalls p route rs

abbrev pub shortfalls_text : AbstractPolicy → AbstractRoute → List (ℕ × AbstractViolation) → List ℕ
shortfalls_text p route [] = []
shortfalls_text p route (r ∷ rs) = shortfall_text p route r ++ further_shortfalls p route rs

abbrev pub verdict_octets : AbstractPolicy → AbstractRoute → AbstractVerdict → List ℕ
verdict_octets p route pass = codes "pass"
verdict_octets p route unknown_message = codes "unknown-message"
verdict_octets p route (undecodable b) = codes "undecodable " ++ breach_text p route b
verdict_octets p route (outside_type w) = codes "outside-type " ++ violation_text p route w
verdict_octets p route (denied_by i) = codes "denied-by " ++ rule_text p i
verdict_octets p route (not_allowed rs) = codes "not-allowed " ++ shortfalls_text p route rs
verdict_octets p route no_rule = codes "no-rule"
