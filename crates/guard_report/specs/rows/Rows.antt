-- Worked examples of texts.
use Rattle.std.specs.Prelude.{◌≡◌, ℕ, List, [], ◌∷◌, codes, refl}
use Rattle.std.specs.Fmt.{digits}
use Rattle.guard_model.specs.declared.site.Site.{Site}
use Rattle.guard_model.specs.declared.site.Step.TheVariants.{Component, Element}
use Rattle.guard_model.specs.AbstractType as type
use Rattle.guard_model.specs.AbstractType.{AbstractType, type_of, no_components, component, no_constraints}
use Rattle.guard_der.specs.declared.breach.Code.TheVariants.{BooleanContents, SetOrder}
use Rattle.guard_policy.specs.declared.policy.Effect.TheVariants.{Allow}
use Rattle.guard_policy.specs.Policies.{AbstractPolicy, AbstractRoute, AbstractRule}
use Rattle.guard_policy.specs.Verdicts.{pass, unknown_message, undecodable, outside_type, denied_by, not_allowed, no_rule}
use Rattle.guard_eval.specs.rows.Rows.{plain}
use Rattle.guard_report.specs.Text.{verdict_octets}

-- CHOICE { pair SET { left INTEGER, right BOOLEAN }, all SEQUENCE OF NULL }
abbrev pub line : AbstractType
line =
    type_of [] (type.choice
    (component (codes "pair") (plain 17 (type.set
    (component (codes "left") (plain 2 (type.integer [])) type.mandatory
    (component (codes "right") (plain 1 type.boolean) type.mandatory
    no_components)))) type.mandatory
    (component (codes "all") (plain 16 (type.sequence_of (plain 5 type.null))) type.mandatory
    no_components))) no_constraints

-- SEQUENCE { qty INTEGER, urgent BOOLEAN, lines SET OF CHOICE { .. } }
abbrev pub order : AbstractType
order =
    plain 16 (type.sequence
    (component (codes "qty") (plain 2 (type.integer [])) type.mandatory
    (component (codes "urgent") (plain 1 type.boolean) type.mandatory
    (component (codes "lines") (plain 17 (type.set_of line)) type.mandatory
    no_components))))

abbrev pub rule_called : List ℕ → AbstractRule
rule_called name = record {
  name = name;
  effect = Allow;
  from = codes "north";
  to = codes "south";
  message = codes "order";
  home = codes "Orders";
  type_name = codes "Order";
  ty = order;
}

abbrev pub policy : AbstractPolicy
policy = record {
  messages = record { name = codes "order"; home = codes "Orders"; ty = order } ∷ [];
  rules = rule_called (codes "small") ∷ rule_called (codes "wide") ∷ [];
  modules = codes "First" ∷ codes "Orders" ∷ [];
}

abbrev pub route : AbstractRoute
route = record { from = codes "north"; to = codes "south"; message = codes "order" }

abbrev place : ℕ → ℕ → ℕ → Site
place text line column = record { text = text; line = line; column = column }

passed : verdict_octets policy route pass ≡ codes "pass"
passed = refl

unknown : verdict_octets policy route unknown_message ≡ codes "unknown-message"
unknown = refl

without_rule : verdict_octets policy route no_rule ≡ codes "no-rule"
without_rule = refl

denied : verdict_octets policy route (denied_by 1) ≡ codes "denied-by wide"
denied = refl

breached :
    verdict_octets policy route (undecodable (record { code = BooleanContents; at = 5; path = Component 1 ∷ [] }))
    ≡ codes "undecodable BooleanContents at 5 $.urgent"
unfolding digits
breached = refl

outside :
    verdict_octets policy route (outside_type (record { site = place 1 3 18; path = [] }))
    ≡ codes "outside-type First:3:18 $"
unfolding digits
outside = refl

two_rules : verdict_octets policy route
    (not_allowed
    ((0, record { site = place 2 8 45; path = Component 0 ∷ [] })
    ∷ (1, record { site = place 2 9 44; path = Component 0 ∷ [] }) ∷ []))
    ≡ codes "not-allowed small Orders:8:45 $.qty, wide Orders:9:44 $.qty"
unfolding digits
two_rules = refl

-- what has no name is written by its number
nameless : verdict_octets policy route
    (not_allowed ((2, record { site = place 3 1 1; path = Component 3 ∷ Element 12 ∷ Component 0 ∷ [] }) ∷ []))
    ≡ codes "not-allowed 2 3:1:1 $.3[12].0"
unfolding digits
nameless = refl

-- through elements, alternatives and components of a SET
in_set : verdict_octets policy route
    (undecodable (record { code = SetOrder; at = 12; path = Component 2 ∷ Element 3 ∷ Component 0 ∷ Component 1 ∷ [] }))
    ≡ codes "undecodable SetOrder at 12 $.lines[3].pair.right"
unfolding digits
in_set = refl

in_items : verdict_octets policy route
    (outside_type (record { site = place 1 3 18; path = Component 2 ∷ Element 0 ∷ Component 1 ∷ Element 14 ∷ [] }))
    ≡ codes "outside-type First:3:18 $.lines[0].all[14]"
unfolding digits
in_items = refl

-- NULL has no components
under_nothing : verdict_octets policy route
    (outside_type
    (record { site = place 1 3 18; path = Component 2 ∷ Element 0 ∷ Component 1 ∷ Element 1 ∷ Component 4 ∷ [] }))
    ≡ codes "outside-type First:3:18 $.lines[0].all[1].4"
unfolding digits
under_nothing = refl
