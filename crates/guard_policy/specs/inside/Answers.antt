-- Which answers of the definitions the code's answers represent.
use Rattle.std.specs.Prelude.{◌≡◌, ℕ, List, map, Option, Some, None, Result, Ok, Err, IfSome, String, if◌then◌else◌}
use Rattle.std.specs.Borrow.{Bor}
use Rattle.std.specs.BTreeMap.{BTreeMap}
use Rattle.std.specs.declared.alloc.Global.{Global}
use Rattle.toml.specs.Data.{Members, no_members, member}
use Rattle.toml.specs.View.{table_view}
use Rattle.toml.specs.declared.value.Value.{Value}
use Rattle.guard_policy.specs.declared.fault.PolicyFault.{PolicyFault}
use Rattle.guard_policy.specs.declared.entry.Key.{Key}
use Rattle.guard_policy.specs.PolicyFaults.{AbstractFault, named, is_key}

abbrev pub texts_view : List (Bor (List ℕ)) → List (List ℕ)
texts_view texts = map (λ t. t.now) texts

abbrev pub tables_view : List (Bor (BTreeMap (String Global) Value)) → List Members
tables_view tables = map (λ t. table_view t.now) tables

-- The step is done where there is no fault, and a refusal names this one unless memory ran out.
abbrev pub Meets : {T : Type 0} → Option AbstractFault → Result T PolicyFault → Type 0
Meets fault (Ok done) = fault ≡ None
Meets fault (Err e) = IfSome (named e) (λ f. fault ≡ Some f)

-- The first word that is none of the keys. The code's members ascend by their words' octets, so it is the least one.
abbrev pub first_unknown : List Key → Members → Option (List ℕ)
first_unknown keys no_members = None
first_unknown keys (member word value others) = if is_key keys word then first_unknown keys others else Some word
