-- Worked examples, computed from the definitions.
use Rattle.std.specs.Prelude.{◌≡◌, true, false, [], ◌∷◌, None, Some, refl, codes, replicate}
use Rattle.toml.specs.Data.{no_members, member, string, array, table, Items, no_items, item, boolean}
use Rattle.toml.specs.Parse.{parse_document}
use Rattle.toml.proofs.OnLiterals.{toml_on_literals}
use Rattle.guard_policy.specs.declared.entry.Entry.TheVariants.{Top}
use Rattle.guard_policy.specs.declared.entry.Key.TheVariants as key
use Rattle.guard_policy.specs.Names.{is_name, is_party, is_meant}
use Rattle.guard_policy.specs.Documents.{files_in}
use Rattle.guard_policy.specs.PolicyFaults.{top_fault, unknown_key, missing_key}

-- ---- names

pub a_name : is_name (codes "north-2_a.B") ≡ true
a_name = refl

pub no_space : is_name (codes "a b") ≡ false
no_space = refl

pub no_star : is_name (codes "*") ≡ false
no_star = refl

pub any_sender : is_party (codes "*") ≡ true
any_sender = refl

pub two_stars : is_party (codes "**") ≡ false
two_stars = refl

pub star_and_letter : is_party (codes "*x") ≡ false
star_and_letter = refl

pub a_star_means_each : is_meant (codes "*") (codes "north") ≡ true
a_star_means_each = refl

-- a route's sender `*` is none of the named ones
pub a_star_is_not_north : is_meant (codes "north") (codes "*") ≡ false
a_star_is_not_north = refl

pub not_empty : is_name [] ≡ false
not_empty = refl

pub as_long_as_may_be : is_name (replicate 63 97) ≡ true
as_long_as_may_be = refl

pub one_longer : is_name (replicate 64 97) ≡ false
one_longer = refl

-- ---- the top

-- a list of one file
abbrev pub files : Items
files = item (string (codes "orders.asn1")) no_items

pub read :
    parse_document (codes "modules = [\"orders.asn1\"]\n") ≡ Some (member (codes "modules") (array files) no_members)
unfolding toml_on_literals
read = refl

-- an equals sign alone is no document
pub no_document : parse_document (codes "=") ≡ None
unfolding toml_on_literals
no_document = refl

pub all_there : top_fault (member (codes "modules") (array files) no_members) ≡ None
all_there = refl

pub one_file : files_in (member (codes "modules") (array files) no_members) ≡ codes "orders.asn1" ∷ []
one_file = refl

pub no_files_are_lawful : top_fault (member (codes "modules") (array no_items) no_members) ≡ None
no_files_are_lawful = refl

pub modules_missing : top_fault no_members ≡ Some (missing_key Top key.Modules)
modules_missing = refl

pub modules_of_another_kind :
    top_fault (member (codes "modules") (string (codes "orders.asn1")) no_members) ≡ Some (missing_key Top key.Modules)
modules_of_another_kind = refl

pub a_file_of_another_kind :
    top_fault (member (codes "modules") (array (item (boolean true) no_items)) no_members)
    ≡ Some (missing_key Top key.Modules)
a_file_of_another_kind = refl

pub one_message_that_is_no_list :
    top_fault (member (codes "message") (table no_members) (member (codes "modules") (array files) no_members))
    ≡ Some (missing_key Top key.Message)
one_message_that_is_no_list = refl

-- the least one, before what is missing
pub unknown_keys :
    parse_document (codes "size = true\ncolour = true\n")
    ≡ Some (member (codes "colour") (boolean true) (member (codes "size") (boolean true) no_members))
unfolding toml_on_literals
unknown_keys = refl

pub least_unknown_key :
    top_fault (member (codes "colour") (boolean true) (member (codes "size") (boolean true) no_members))
    ≡ Some (unknown_key Top (codes "colour"))
least_unknown_key = refl
