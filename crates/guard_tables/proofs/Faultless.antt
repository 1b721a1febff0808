-- What follows where types have no fault.
use Rattle.std.proofs.Common.{◌≡◌, ℕ, suc, Bool, true, false, List, [], ◌∷◌, Option, Some, None, All, length, refl, ap, ◌∙◌, cond}
use Rattle.std.specs.Prelude.{nat_le, option_map}
use Rattle.std.specs.Bool.{Decides}
use Rattle.std.specs.Cmp.Lexicographic.{pointwise, pointwise_decides}
use Rattle.std.specs.List.{AllByRecursion}
use Rattle.std.specs.Option.{option_or}
use Rattle.std.proofs.lemmas.Bool.{and_parts}
use Rattle.std.proofs.lemmas.List.Elements.{All-from_recursion}
use Rattle.guard_model.specs.AbstractType.{AbstractType, type_of}
use Rattle.guard_model.specs.SameType.{same_base}
use Rattle.guard_model.specs.SameBase.{HasSameBase}
use Rattle.guard_model.specs.Tags.{same_tag}
use Rattle.guard_model.specs.declared.tag.Tag.{Tag}
use Rattle.guard_model.proofs.Options.{option_or_none}
use Rattle.guard_model.proofs.SameTypes.{same_base-Decides}
use Rattle.guard_model.proofs.Tags.{equal_tags, same_tag_itself}
use Rattle.guard_der.specs.Der.{der}
use Rattle.guard_tables.specs.Alike.{AreAlike}
use Rattle.guard_tables.specs.Conditions.{has_crowded_node}
use Rattle.guard_tables.specs.declared.fault.TableFault.TheVariants.{RuleTypeMismatch, TooManyRules}
use Rattle.guard_tables.specs.Tables.{is_match, first_mismatch, first_fault, crowding, most_rules}
use Rattle.guard_tables.proofs.BareTypes.{fits_by_base, der_by_base}

-- ---- of types that match

tag_Decides : (a b : Tag) → Decides (same_tag a b) (a ≡ b)
tag_Decides a b = (equal_tags a b, λ e. rw e (same_tag_itself b))

alike : (declared rule : AbstractType) → is_match declared rule ≡ true → AreAlike declared rule
alike (type_of tags kind cons) (type_of others kind_too cons_too) match v =
    let p = and_parts (pointwise same_tag tags others) (same_base (type_of tags kind cons) (type_of others kind_too cons_too)) match in
    let tags_same : tags ≡ others = (pointwise_decides tag_Decides tags others).0 p.0 in
    let base : HasSameBase (type_of tags kind cons) (type_of others kind_too cons_too) = (same_base-Decides (type_of tags kind cons) (type_of others kind_too cons_too)).0 p.1 in (
      fits_by_base (type_of tags kind cons) (type_of others kind_too cons_too) base v,
      der_by_base tags kind kind_too cons cons_too base v ∙ ap (λ ts. der (type_of ts kind_too cons_too) v) tags_same,
    )

-- ---- of types without fault

pub neither : {A : Type 0} (test : Bool) (others : Option A) (x : A) → cond test others (Some x) ≡ None → (test ≡ true) × (others ≡ None)
neither true others x e = (refl, e)
neither false others x e = absurd cc

pub unmapped : {A B : Type 0} (f : A → B) (found : Option A) → option_map f found ≡ None → found ≡ None
unmapped f None e = refl
unmapped f (Some x) e = absurd cc

all_alike : (declared : AbstractType) (place : ℕ) (rules : List AbstractType) → first_mismatch declared place rules ≡ None → AllByRecursion (AreAlike declared) rules
all_alike declared place [] e = tt
all_alike declared place (t ∷ ts) e =
    let m = neither (is_match declared t) (first_mismatch declared (suc place) ts) place e in
    (alike declared t m.0, all_alike declared (suc place) ts m.1)

pub faultless_alike : (declared : AbstractType) (rules : List AbstractType) → first_fault declared rules ≡ None → All (AreAlike declared) rules
faultless_alike declared rules e =
    let mismatch = first_mismatch declared 0 rules in
    let crowded = crowding (has_crowded_node (declared ∷ rules) declared) in
    let few = neither (nat_le (length rules) most_rules) (option_or (option_map (λ place. RuleTypeMismatch place) mismatch) crowded) TooManyRules e in
    let none = option_or_none (option_map (λ place. RuleTypeMismatch place) mismatch) crowded few.1 in
    All-from_recursion (AreAlike declared) rules (all_alike declared 0 rules (unmapped (λ place. RuleTypeMismatch place) mismatch none.0))
