-- The rules that speak of a message, with their types.
use Rattle.std.proofs.Common.{◌≡◌, ℕ, ◌≤◌, List, [], ◌∷◌, length, map, Bool, true, false, cond, Option, Some, None, string_bytes, refl, ap, sym, ◌∙◌, subst, arith}
use Rattle.std.specs.Arc.{arc_value}
use Rattle.std.specs.Prelude.{bytes_eq, nat_le}
use Rattle.std.specs.Borrow.{Bor}
use Rattle.std.proofs.lemmas.Bool.Decides.{nat_tests}
use Rattle.std.proofs.lemmas.List.{length-map}
use Rattle.guard_model.specs.AbstractType.{AbstractType}
use Rattle.guard_reader.specs.Marking.{is_in}
use Rattle.guard_model.specs.declared.ty.Ty.{Ty}
use Rattle.guard_tables.specs.Tables.{types_view, first_fault}
use Rattle.guard_tables.specs.TableView.{declared_of, rules_of, table_types}
use Rattle.guard_tables.specs.declared.fault.TableFault.{TableFault}
use Rattle.guard_tables.specs.declared.fault.TableFault.TheVariants.{TooManyRules}
use Rattle.guard_tables.specs.declared.table.Table.{Table}
use Rattle.guard_policy.specs.declared.kept.KeptMessage.{KeptMessage}
use Rattle.guard_policy.specs.declared.policy.SaidRule.{SaidRule}
use Rattle.guard_policy.specs.Consistency.{types_for}
use Rattle.guard_policy.specs.Policies.{AbstractMessage, AbstractRule}
use Rattle.guard_policy.specs.SaidView.{said_view}
use Rattle.guard_policy.specs.inside.Listings.{numbers_for}
use Rattle.guard_policy.specs.inside.Keeping.{Tabled, tabled}
use Rattle.guard_policy.specs.inside.Said.{rules_view}
use Rattle.guard_policy.specs.Routing.{rules_named, IsRouting, IsRouted}

pub types_named : (name : List ℕ) (rules : List AbstractRule) → map (λ r. r.ty) (rules_named name rules) ≡ types_for name rules
types_named name [] = refl
types_named name (r ∷ rs) =
    elim (bytes_eq r.message name) as (λ (b : Bool). map (λ x. x.ty) (cond b (r ∷ rules_named name rs) (rules_named name rs)) ≡ cond b (r.ty ∷ types_for name rs) (types_for name rs)) [
      | true ↦ ap (λ (ts : List AbstractType). r.ty ∷ ts) (types_named name rs)
      | false ↦ types_named name rs
    ]

-- of the rules that were gathered, as they are handed on
pub types_given : (name : List ℕ) (rules : List AbstractRule) (named seen : List (Bor SaidRule)) (types given : List (Bor Ty)) → rules_view named ≡ rules_named name rules
    → seen ≡ named → types_view types ≡ map (λ r. r.ty) (rules_view seen) → given ≡ types → types_view given ≡ types_for name rules
types_given name rules named seen types given are same of_seen handed =
    ap types_view handed ∙ of_seen ∙ ap (λ (rs : List (Bor SaidRule)). map (λ r. r.ty) (rules_view rs)) same
    ∙ ap (λ (rs : List AbstractRule). map (λ r. r.ty) rs) are ∙ types_named name rules

-- ---- how many there are

few_from : (b : Bool) (other : Option TableFault) → cond b other (Some TooManyRules) ≡ None → b ≡ true
few_from true other e = refl
few_from false other e = absurd cc

-- a message has at most 255 rules
few_rules : (declared : AbstractType) (types : List AbstractType) → first_fault declared types ≡ None → length types ≤ 255
few_rules declared types faultless = let few : nat_le (length types) 255 ≡ true = few_from (nat_le (length types) 255) _ faultless in grind (arith, nat_tests)

abbrev rest_of : List AbstractType → List AbstractType
rest_of [] = []
rest_of (t ∷ ts) = ts

-- those of a table whose types are theirs
few_of : (rules : List AbstractRule) (name : List ℕ) (declared : AbstractType) (table : Table) → table_types table ≡ declared ∷ types_for name rules
    → length (rules_named name rules) ≤ 255
few_of rules name declared table types =
    let few = few_rules (declared_of table) (rules_of table) table.consistent.faultless in
    let a : rules_of table ≡ map (λ r. r.ty) (rules_named name rules) = ap rest_of types ∙ sym (types_named name rules) in
    let b : length (rules_of table) ≡ length (rules_named name rules) = ap (λ (ts : List AbstractType). length ts) a ∙ length-map (rules_named name rules) (λ r. r.ty) in
    omega (arith, few, b)

pub few_named : (rules : List AbstractRule) (name : List ℕ) (declared : AbstractType) (table : Table) (named : List (Bor SaidRule))
    → table_types table ≡ declared ∷ types_for name rules → rules_view named ≡ rules_named name rules → length named ≤ 255
few_named rules name declared table named types is =
    let few = few_of rules name declared table types in
    let c : length (rules_view named) ≡ length (rules_named name rules) = ap (λ (rs : List AbstractRule). length rs) is in
    let d : length (rules_view named) ≡ length named = length-map named (λ r. said_view r.now) in
    omega (arith, few, c, d)

-- ---- a message with its table and routing

pub tabled_here : (rules : List AbstractRule) (m : AbstractMessage) (name home : List ℕ) (types : List AbstractType) → name ≡ m.name → home ≡ m.home
    → types ≡ m.ty ∷ types_for m.name rules → ◌≡◌ {A = Tabled} (record { name = name; home = home; types = types }) (tabled rules m)
tabled_here rules m name home types named at are = rw (named, at, are) refl

pub routed_here : (rules : List AbstractRule) (name : List ℕ) (m : KeptMessage) (declared : AbstractType) → string_bytes m.name ≡ name
    → m.numbers.items ≡ numbers_for name 0 rules → table_types (arc_value m.table) ≡ declared ∷ types_for name rules → IsRouting (rules_named name rules) m.routing → IsRouted rules m
routed_here rules name m declared named numbers types routing = record {
  numbers = numbers ∙ ap (λ (n : List ℕ). numbers_for n 0 rules) (sym named);
  types = λ v place. ap (λ (ts : List AbstractType). is_in (rest_of ts) v place) types ∙ ap (λ (n : List ℕ). is_in (types_for n rules) v place) (sym named);
  routing = subst (λ (n : List ℕ). IsRouting (rules_named n rules) m.routing) (sym named) routing;
}
