-- What the orders of a list of names find: what is found by looking at each entry.
use Rattle.std.specs.Prelude.{◌≡◌, ℕ, ℤ, List, Option}
use Rattle.std.specs.BTreeMap.{BTreeMap, get_by}
use Rattle.std.specs.BTreeSet.{BTreeSet, contains}
use Rattle.std.specs.Cmp.Lexicographic.{slice_cmp}
use Rattle.std.specs.Global.{Vec}
use Rattle.std.specs.Ordering.{int_cmp, nat_cmp}
use Rattle.guard_model.specs.AbstractType.{NamedNumber}
use Rattle.guard_model.specs.NamedLists.{number_named, is_item}
use Rattle.guard_model.specs.inside.Spelled.{spelled, numbers_of}

-- the number that is kept for this name
abbrev pub number_at : BTreeMap (Vec ℕ) ℤ → List ℕ → Option ℤ
number_at numbers name = get_by (λ k. slice_cmp nat_cmp name k.items) numbers

-- by names the number of the first entry is found, and by numbers whether an entry has it; the spelling and the numbers
-- in order are those of the entries
pub record AreFound (numbers : BTreeMap (Vec ℕ) ℤ) (known : BTreeSet ℤ) (spelling : Vec ℕ) (in_order : Vec ℤ) (names : List NamedNumber) : Type 0 where
  pub by_name : (name : List ℕ) → number_at numbers name ≡ number_named name names
  pub by_number : (z : ℤ) → contains int_cmp known z ≡ is_item z names
  pub by_octets : spelling.items ≡ spelled names
  pub by_place : in_order.items ≡ numbers_of names
