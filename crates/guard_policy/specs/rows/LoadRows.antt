-- Worked examples of texts of policies, computed from the definitions.
use Rattle.std.specs.Prelude.{◌≡◌, ℕ, List, [], ◌∷◌, Option, None, Some, refl, codes, bytes_eq, if◌then◌else◌}
use Rattle.toml.specs.Data.{Members, no_members, member, Data, string, array, table, Items, no_items, item}
use Rattle.toml.specs.Parse.{parse_document}
use Rattle.toml.proofs.OnLiterals.{toml_on_literals}
use Rattle.guard_model.specs.declared.tag.Class.TheVariants.{Universal, Context}
use Rattle.guard_model.specs.AbstractType as type
use Rattle.guard_model.specs.AbstractType.{AbstractType, type_of, no_constraints}
use Rattle.guard_tables.specs.declared.fault.TableFault.TheVariants.{RuleTypeMismatch}
use Rattle.guard_policy.specs.declared.entry.Entry.TheVariants.{Message as message_entry, Rule as rule_entry}
use Rattle.guard_policy.specs.declared.entry.Key.TheVariants as key
use Rattle.guard_policy.specs.declared.policy.Effect.TheVariants.{Allow}
use Rattle.guard_der.specs.NamedTypes.{AbstractTypes}
use Rattle.guard_policy.specs.Entries.{policy_in}
use Rattle.guard_policy.specs.EntryFaults.{document_fault}
use Rattle.guard_policy.specs.PolicyFaults.{unknown_key, missing_key, bad_name, duplicate_name, no_such_type, no_such_message, bad_effect, bad_table}

abbrev pub integer : AbstractType
integer = type_of (record { class = Universal; number = 2 } ∷ []) (type.integer []) no_constraints

abbrev pub tagged : AbstractType
tagged = type_of (record { class = Context; number = 0 } ∷ []) (type.integer []) no_constraints

-- module Orders with the types Order and Small, INTEGER, and Tagged, [0] IMPLICIT INTEGER
abbrev pub type_there : List ℕ → Option AbstractType
type_there name =
    if bytes_eq name (codes "Order") then Some integer
    else if bytes_eq name (codes "Small") then Some integer
    else if bytes_eq name (codes "Tagged") then Some tagged
    else None

abbrev pub orders : AbstractTypes
orders = record {
  modules = codes "Orders" ∷ [];
  types = λ module_name name. if bytes_eq module_name (codes "Orders") then type_there name else None;
}

abbrev pub text : List ℕ → Data
text octets = string octets

-- a message of module Orders
abbrev pub message_of : List ℕ → List ℕ → Members
message_of name ty =
    member (codes "module") (text (codes "Orders"))
    (member (codes "name") (text name)
    (member (codes "type") (text ty) no_members))

-- a rule from north to south over a type of module Orders
abbrev pub rule_of : List ℕ → List ℕ → List ℕ → List ℕ → Members
rule_of name effect message ty =
    member (codes "effect") (text effect)
    (member (codes "from") (text (codes "north"))
    (member (codes "message") (text message)
    (member (codes "module") (text (codes "Orders"))
    (member (codes "name") (text name)
    (member (codes "to") (text (codes "south"))
    (member (codes "type") (text ty) no_members))))))

abbrev pub tables : List Members → Items
tables [] = no_items
tables (t ∷ ts) = item (table t) (tables ts)

abbrev pub document : List Members → List Members → Members
document messages rules =
    member (codes "message") (array (tables messages))
    (member (codes "modules") (array (item (text (codes "orders.asn1")) no_items))
    (member (codes "rule") (array (tables rules)) no_members))

abbrev pub order : Members
order = message_of (codes "order") (codes "Order")

abbrev pub small : Members
small = rule_of (codes "small") (codes "allow") (codes "order") (codes "Small")

pub written : parse_document
    (codes "modules = [\"orders.asn1\"]\n\n[[message]]\nname = \"order\"\nmodule = \"Orders\"\ntype = \"Order\"\n\n[[rule]]\nname = \"small\"\neffect = \"allow\"\nfrom = \"north\"\nto = \"south\"\nmessage = \"order\"\nmodule = \"Orders\"\ntype = \"Small\"\n")
    ≡ Some (document (order ∷ []) (small ∷ []))
unfolding toml_on_literals
written = refl

pub faultless : document_fault orders (document (order ∷ []) (small ∷ [])) ≡ None
faultless = refl

pub said : policy_in orders (document (order ∷ []) (small ∷ [])) ≡ record {
  messages = record { name = codes "order"; home = codes "Orders"; ty = integer } ∷ [];
  rules = record {
    name = codes "small";
    effect = Allow;
    from = codes "north";
    to = codes "south";
    message = codes "order";
    home = codes "Orders";
    type_name = codes "Small";
    ty = integer;
  } ∷ [];
  modules = codes "Orders" ∷ [];
}
said = refl

pub unknown_in_a_rule :
    document_fault orders (document (order ∷ []) (member (codes "colour") (text (codes "red")) small ∷ []))
    ≡ Some (unknown_key (rule_entry 1) (codes "colour"))
unknown_in_a_rule = refl

pub missing_in_a_message :
    document_fault orders (document (member (codes "name") (text (codes "order")) no_members ∷ []) [])
    ≡ Some (missing_key (message_entry 1) key.Module)
missing_in_a_message = refl

pub no_name :
    document_fault orders (document (message_of (codes "a b") (codes "Order") ∷ []) [])
    ≡ Some (bad_name (message_entry 1))
no_name = refl

pub second_of_a_name :
    document_fault orders (document (order ∷ []) (small ∷ small ∷ [])) ≡ Some (duplicate_name (rule_entry 2))
second_of_a_name = refl

-- a message and a rule may have one name
pub names_apart :
    document_fault orders
    (document (order ∷ []) (rule_of (codes "order") (codes "deny") (codes "order") (codes "Small") ∷ []))
    ≡ None
names_apart = refl

pub no_type :
    document_fault orders
    (document (order ∷ []) (rule_of (codes "small") (codes "allow") (codes "order") (codes "Tiny") ∷ []))
    ≡ Some (no_such_type (rule_entry 1))
no_type = refl

pub no_message :
    document_fault orders
    (document (order ∷ []) (rule_of (codes "small") (codes "allow") (codes "ordre") (codes "Small") ∷ []))
    ≡ Some (no_such_message (rule_entry 1))
no_message = refl

pub no_effect :
    document_fault orders
    (document (order ∷ []) (rule_of (codes "small") (codes "permit") (codes "order") (codes "Small") ∷ []))
    ≡ Some (bad_effect (rule_entry 1))
no_effect = refl

-- an effect is looked at before the message, and that before the type
pub effect_first :
    document_fault orders
    (document (order ∷ []) (rule_of (codes "small") (codes "permit") (codes "ordre") (codes "Tiny") ∷ []))
    ≡ Some (bad_effect (rule_entry 1))
effect_first = refl

pub message_before_type :
    document_fault orders
    (document (order ∷ []) (rule_of (codes "small") (codes "allow") (codes "ordre") (codes "Tiny") ∷ []))
    ≡ Some (no_such_message (rule_entry 1))
message_before_type = refl

-- the messages come before the rules
pub messages_first :
    document_fault orders
    (document (order ∷ message_of (codes "other") (codes "Tiny") ∷ [])
    (member (codes "colour") (text (codes "red")) small ∷ []))
    ≡ Some (no_such_type (message_entry 2))
messages_first = refl

-- of a message's rules the second has other tags
pub other_tags :
    document_fault orders
    (document (message_of (codes "other") (codes "Order") ∷ order ∷ [])
    (small ∷ rule_of (codes "tagged") (codes "deny") (codes "order") (codes "Tagged") ∷ []))
    ≡ Some (bad_table 2 (RuleTypeMismatch 1))
other_tags = refl
