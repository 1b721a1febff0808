-- What the types of a table ask, and that there is room for it.
use Rattle.std.proofs.Common.{◌≡◌, ℕ, zero, suc, ◌-◌, ◌<◌, ◌≤◌, Bool, true, false, List, [], ◌∷◌, Option, None, Some, All, length, map, get_or, ltb, slice_get, unwrap_or, refl, sym, ap, ◌∙◌, subst, arith, IsTrue}
use Rattle.std.specs.Prelude.{nat_le, option_map, IfSome}
use Rattle.std.specs.Borrow.{Bor}
use Rattle.std.specs.Cmp.Lexicographic.{pointwise}
use Rattle.std.specs.List.{AllByRecursion}
use Rattle.std.specs.Option.{is_some, option_or}
use Rattle.std.proofs.lemmas.Bool.{and_parts, leb-true, ltb-true, ltb-false}
use Rattle.std.proofs.lemmas.List.Elements.{recursion_from_All, All-get_or}
use Rattle.std.proofs.lemmas.Option.{slice_get-map, slice_get_within, slice_get_past, slice_get_read, get_or_from_slice_get}
use Rattle.guard_model.specs.AbstractType.{AbstractType}
use Rattle.guard_model.specs.AbstractValue.{AbstractValue}
use Rattle.guard_model.specs.declared.ty.Ty.{Ty}
use Rattle.guard_model.specs.Kinds.{kind_of}
use Rattle.guard_model.specs.SameBase.{HasSameBase}
use Rattle.guard_model.specs.SameType.{same_base}
use Rattle.guard_model.specs.Tags.{same_tag}
use Rattle.guard_model.specs.TypeView.{type_view}
use Rattle.guard_model.proofs.Options.{option_or_none}
use Rattle.guard_model.proofs.SameTypes.{same_base-Decides}
use Rattle.guard_der.specs.Fits.{fits}
use Rattle.guard_der.specs.Sound.{is_sound}
use Rattle.guard_tables.specs.declared.fault.TableFault.TheVariants.{RuleTypeMismatch, TooManyRules}
use Rattle.guard_tables.specs.declared.node_list.Nodes.{Nodes}
use Rattle.guard_tables.specs.Alike.{AreConsistent}
use Rattle.guard_tables.specs.Apt.{AreApt}
use Rattle.guard_tables.specs.Conditions.{has_crowded_node}
use Rattle.guard_tables.specs.Demands.{SlotDemand}
use Rattle.guard_tables.specs.OfParts.{demands_from, NeedsFew}
use Rattle.guard_tables.specs.inside.SharedTypes.{type_at, types_at}
use Rattle.guard_tables.specs.inside.Sharing.{shared, places_of, demands_by}
use Rattle.guard_tables.specs.Laws.{AllMayJudge, has_failed}
use Rattle.guard_tables.specs.Lay.{lay}
use Rattle.guard_tables.specs.Marking.{fails_at}
use Rattle.guard_tables.specs.NodesView.{root_of}
use Rattle.guard_tables.specs.Plan.{Plan}
use Rattle.guard_tables.specs.Standing.{PlanFor}
use Rattle.guard_tables.specs.StandsFor.{StandsFor}
use Rattle.guard_tables.specs.Tables.{tags_of, is_match, first_mismatch, first_fault, crowding, most_rules}
use Rattle.guard_tables.proofs.Faultless.{neither, unmapped}
use Rattle.guard_tables.proofs.FewSlots.{few_law, few_asked}
use Rattle.guard_tables.proofs.Laying.{lay_law}
use Rattle.guard_tables.proofs.SharedTypes.{are_at, first_at, as_many, told_types, ask_no_more, judge_shared, by_apt}
use Rattle.guard_tables.proofs.SharedSlots.{by_places}
use Rattle.guard_tables.proofs.LaidStanding.{stands_law}
use Rattle.guard_tables.proofs.SlotOfTypes.{member_law}

not_crowded : (crowded : Bool) → crowding crowded ≡ None → crowded ≡ false
not_crowded true e = absurd cc
not_crowded false e = refl

-- rules' types that match, with room for what all types ask
record Goes (declared : AbstractType) (rules : List AbstractType) : Type 0 where
  few : nat_le (length rules) most_rules ≡ true
  matching : first_mismatch declared 0 rules ≡ None
  room : has_crowded_node (declared ∷ rules) declared ≡ false

goes : (declared : AbstractType) (rules : List AbstractType) → first_fault declared rules ≡ None → Goes declared rules
goes declared rules e =
    let mismatch = first_mismatch declared 0 rules in
    let crowded = crowding (has_crowded_node (declared ∷ rules) declared) in
    let few = neither (nat_le (length rules) most_rules) (option_or (option_map (λ place. RuleTypeMismatch place) mismatch) crowded) TooManyRules e in
    let both = option_or_none (option_map (λ place. RuleTypeMismatch place) mismatch) crowded few.1 in
    record { few = few.0; matching = unmapped (λ place. RuleTypeMismatch place) mismatch both.0; room = not_crowded (has_crowded_node (declared ∷ rules) declared) both.1 }

matching_base : (declared rule : AbstractType) → is_match declared rule ≡ true → HasSameBase rule declared
matching_base declared rule e =
    sym ((same_base-Decides declared rule).0 (and_parts (pointwise same_tag (tags_of declared) (tags_of rule)) (same_base declared rule) e).1)

all_judge : (declared : AbstractType) (place : ℕ) (rules : List AbstractType) → first_mismatch declared place rules ≡ None → AllByRecursion (λ t. IsTrue (is_sound t)) rules → AllMayJudge declared rules
all_judge declared place [] e sound = tt
all_judge declared place (t ∷ ts) e sound =
    let m = neither (is_match declared t) (first_mismatch declared (suc place) ts) place e in
    (matching_base declared t m.0, sound.0, all_judge declared (suc place) ts m.1 sound.1)

pub table_members : (declared : AbstractType) (rules : List AbstractType) → AreConsistent declared rules → (v : AbstractValue) → IsTrue (fits declared v) → (slot : ℕ)
    → fails_at declared (lay declared (demands_from 0 (declared ∷ rules))) v slot ≡ has_failed (declared ∷ rules) v slot
table_members declared rules c v fit slot =
    member_law declared (declared ∷ rules) c.declared_sound
    (refl, c.declared_sound, all_judge declared 0 rules (goes declared rules c.faultless).matching (recursion_from_All (λ t. IsTrue (is_sound t)) rules c.rules_sound)) v fit slot

pub table_room : (declared : AbstractType) (rules : List AbstractType) → AreConsistent declared rules → NeedsFew declared (demands_from 0 (declared ∷ rules))
table_room declared rules c = few_law declared (declared ∷ rules) (goes declared rules c.faultless).room

-- ---- the nodes of a table

-- what all types ask, each kept once
abbrev shared_demands : AbstractType → List AbstractType → List SlotDemand
shared_demands declared rules = demands_by 0 (shared (declared ∷ []) rules) (0 ∷ places_of (declared ∷ []) rules)

judges : (declared : AbstractType) (rules : List AbstractType) → AreConsistent declared rules → AllMayJudge declared (shared (declared ∷ []) rules)
judges declared rules c =
    judge_shared declared rules (declared ∷ []) (refl, c.declared_sound, tt)
    (all_judge declared 0 rules (goes declared rules c.faultless).matching (recursion_from_All (λ t. IsTrue (is_sound t)) rules c.rules_sound))

shared_apt : (declared : AbstractType) (rules : List AbstractType) → AreConsistent declared rules → AreApt (kind_of declared) (shared_demands declared rules)
shared_apt declared rules c = by_apt declared 0 (shared (declared ∷ []) rules) (0 ∷ places_of (declared ∷ []) rules) (judges declared rules c)

shared_room : (declared : AbstractType) (rules : List AbstractType) → AreConsistent declared rules → NeedsFew declared (shared_demands declared rules)
shared_room declared rules c =
    few_asked declared (declared ∷ rules) (shared_demands declared rules) (λ way. ask_no_more declared rules (0 ∷ places_of (declared ∷ []) rules) way) (goes declared rules c.faultless).room

all_at : (declared : AbstractType) (rules : List AbstractType) → map (slice_get (shared (declared ∷ []) rules)) (0 ∷ places_of (declared ∷ []) rules) ≡ map Some (declared ∷ rules)
all_at declared rules =
    ap (λ (x : Option AbstractType). x ∷ map (slice_get (shared (declared ∷ []) rules)) (places_of (declared ∷ []) rules)) (first_at rules declared)
    ∙ ap (λ (xs : List (Option AbstractType)). Some declared ∷ xs) (are_at rules (declared ∷ []))

shared_stands : (nodes : Nodes) (declared : AbstractType) (rules : List AbstractType) → AreConsistent declared rules → root_of nodes ≡ lay declared (shared_demands declared rules) → StandsFor nodes declared rules
shared_stands nodes declared rules c laid = record {
  plan = subst (λ (p : Plan). PlanFor p declared) (sym laid) (stands_law declared c.declared_sound (shared_demands declared rules));
  fails = λ v fit slot.
      ap (λ (p : Plan). fails_at declared p v slot) laid
      ∙ lay_law declared c.declared_sound (shared_demands declared rules) (shared_apt declared rules c) v fit slot
      ∙ by_places (shared (declared ∷ []) rules) (0 ∷ places_of (declared ∷ []) rules) (declared ∷ rules) v slot (all_at declared rules);
}

-- ---- of types that are kept so

shared_are : (declared : AbstractType) (rules others : List AbstractType) (places : List ℕ) (demands : List SlotDemand) → demands ≡ demands_by 0 (declared ∷ others) (0 ∷ places)
    → declared ∷ others ≡ shared (declared ∷ []) rules → places ≡ places_of (declared ∷ []) rules → demands ≡ shared_demands declared rules
shared_are declared rules others places demands is same at =
    is ∙ ap (λ (ts : List AbstractType). demands_by 0 ts (0 ∷ places)) same ∙ ap (λ (ps : List ℕ). demands_by 0 (shared (declared ∷ []) rules) (0 ∷ ps)) at

pub kept_apt : (declared : AbstractType) (rules others : List AbstractType) (places : List ℕ) (demands : List SlotDemand) → AreConsistent declared rules → demands ≡ demands_by 0 (declared ∷ others) (0 ∷ places)
    → declared ∷ others ≡ shared (declared ∷ []) rules → places ≡ places_of (declared ∷ []) rules → AreApt (kind_of declared) demands
kept_apt declared rules others places demands c is same at =
    subst (λ (demands : List SlotDemand). AreApt (kind_of declared) demands) (sym (shared_are declared rules others places demands is same at)) (shared_apt declared rules c)

pub kept_room : (declared : AbstractType) (rules others : List AbstractType) (places : List ℕ) (demands : List SlotDemand) → AreConsistent declared rules → demands ≡ demands_by 0 (declared ∷ others) (0 ∷ places)
    → declared ∷ others ≡ shared (declared ∷ []) rules → places ≡ places_of (declared ∷ []) rules → NeedsFew declared demands
kept_room declared rules others places demands c is same at =
    subst (λ (demands : List SlotDemand). NeedsFew declared demands) (sym (shared_are declared rules others places demands is same at)) (shared_room declared rules c)

pub kept_stand : (nodes : Nodes) (declared : AbstractType) (rules others : List AbstractType) (places : List ℕ) (demands : List SlotDemand) → AreConsistent declared rules → demands ≡ demands_by 0 (declared ∷ others) (0 ∷ places)
    → declared ∷ others ≡ shared (declared ∷ []) rules → places ≡ places_of (declared ∷ []) rules → root_of nodes ≡ lay declared demands → StandsFor nodes declared rules
kept_stand nodes declared rules others places demands c is same at laid =
    shared_stands nodes declared rules c (laid ∙ ap (lay declared) (shared_are declared rules others places demands is same at))

pub kept_types : (declared : AbstractType) (rules others : List AbstractType) (places : List ℕ) → declared ∷ others ≡ shared (declared ∷ []) rules → places ≡ places_of (declared ∷ []) rules → types_at declared others places ≡ rules
kept_types declared rules others places same at =
    ap (λ (ts : List AbstractType). map (λ place. unwrap_or (slice_get ts place) declared) places) same
    ∙ ap (λ (ps : List ℕ). map (λ place. unwrap_or (slice_get (shared (declared ∷ []) rules) place) declared) ps) at
    ∙ told_types (shared (declared ∷ []) rules) declared (places_of (declared ∷ []) rules) rules (are_at rules (declared ∷ []))

pub few_rules : (declared : AbstractType) (rules : List AbstractType) → AreConsistent declared rules → length rules ≤ most_rules
few_rules declared rules c = leb-true (length rules) most_rules (goes declared rules c.faultless).few

pub few_places : (declared : AbstractType) (rules : List AbstractType) (places : List ℕ) → AreConsistent declared rules → places ≡ places_of (declared ∷ []) rules → length places ≤ most_rules
few_places declared rules places c at =
    let n : length places ≡ length rules = ap (λ (ps : List ℕ). length ps) at ∙ as_many rules (declared ∷ []) in
    let few = few_rules declared rules c in
    omega (arith, n, few)

-- ---- the types of a table

unwrapped : (o : Option Ty) (d : Ty) → unwrap_or (option_map type_view o) (type_view d) ≡ type_view (unwrap_or o d)
unwrapped None d = refl
unwrapped (Some t) d = refl

viewed : (r : Option (Bor Ty)) → option_map (λ t. type_view t.now) r ≡ option_map type_view (option_map (λ (t : Bor Ty). t.now) r)
viewed None = refl
viewed (Some t) = refl

-- the types of the code, as they are kept
view_at : (d : Ty) (others : List Ty) (place : ℕ) → type_view (type_at d others place) ≡ type_at (type_view d) (map type_view others) place
view_at d others place = sym (ap (λ (o : Option AbstractType). unwrap_or o (type_view d)) (slice_get-map type_view (d ∷ others) place) ∙ unwrapped (slice_get (d ∷ others) place) d)

views_at : (d : Ty) (others : List Ty) (places : List ℕ) → map type_view (types_at d others places) ≡ types_at (type_view d) (map type_view others) places
views_at d others [] = refl
views_at d others (p ∷ ps) = ap (λ (t : AbstractType). t ∷ map type_view (types_at d others ps)) (view_at d others p) ∙ ap (λ (ts : List AbstractType). type_at (type_view d) (map type_view others) p ∷ ts) (views_at d others ps)

-- of copies the same
pub of_copies : (t : Ty × List Ty) (declared : AbstractType) (rules : List AbstractType) (copy : Ty) (copies : List Ty) (others : List AbstractType) (places : List ℕ)
    → t ≡ (copy, types_at copy copies places) → type_view copy ≡ declared → map type_view copies ≡ others → types_at declared others places ≡ rules
    → (type_view t.0 ≡ declared) × (map type_view t.1 ≡ rules)
of_copies t declared rules copy copies others places is same all told = (
  ap (λ (t : Ty × List Ty). type_view t.0) is ∙ same,
  ap (λ (t : Ty × List Ty). map type_view t.1) is ∙ views_at copy copies places
      ∙ ap (λ (t : AbstractType). types_at t (map type_view copies) places) same ∙ ap (λ (ts : List AbstractType). types_at declared ts places) all ∙ told,
)

pub consistent_again : (t : Ty × List Ty) (declared : AbstractType) (rules : List AbstractType) → (type_view t.0 ≡ declared) × (map type_view t.1 ≡ rules) → AreConsistent declared rules
    → AreConsistent (type_view t.0) (map type_view t.1)
consistent_again t declared rules e c =
    subst (λ (u : AbstractType). AreConsistent u (map type_view t.1)) (sym e.0) (subst (λ (us : List AbstractType). AreConsistent declared us) (sym e.1) c)

pub stands_again : (nodes : Nodes) (t : Ty × List Ty) (declared : AbstractType) (rules : List AbstractType) → (type_view t.0 ≡ declared) × (map type_view t.1 ≡ rules)
    → StandsFor nodes declared rules → StandsFor nodes (type_view t.0) (map type_view t.1)
stands_again nodes t declared rules e s =
    subst (λ (u : AbstractType). StandsFor nodes u (map type_view t.1)) (sym e.0) (subst (λ (us : List AbstractType). StandsFor nodes declared us) (sym e.1) s)

pub types_again : (t : Ty × List Ty) (declared : AbstractType) (rules : List AbstractType) → (type_view t.0 ≡ declared) × (map type_view t.1 ≡ rules) → type_view t.0 ∷ map type_view t.1 ≡ declared ∷ rules
types_again t declared rules e = ap (λ (u : AbstractType). u ∷ map type_view t.1) e.0 ∙ ap (λ (us : List AbstractType). declared ∷ us) e.1

-- ---- the rules of a table

pub rule_view : (r : Option (Bor Ty)) (rules : List Ty) (place : ℕ) → option_map (λ t. t.now) r ≡ slice_get rules place
    → option_map (λ t. type_view t.now) r ≡ slice_get (map type_view rules) place
rule_view r rules place e = viewed r ∙ ap (option_map type_view) e ∙ sym (slice_get-map type_view rules place)

-- the rule that is there is sound
pub sound_there : (r : Option (Bor Ty)) (rules : List Ty) (place : ℕ) → All (λ t. IsTrue (is_sound t)) (map type_view rules) → option_map (λ t. t.now) r ≡ slice_get rules place
    → IfSome r (λ t. IsTrue (is_sound (type_view t.now)))
sound_there None rules place sound e = tt
sound_there (Some t) rules place sound e =
    let found : slice_get (map type_view rules) place ≡ Some (type_view t.now) = sym (rule_view (Some t) rules place e) in
    let one = All-get_or (λ t. IsTrue (is_sound t)) (map type_view rules) place (type_view t.now) (slice_get_within (map type_view rules) place (type_view t.now) found) sound in
    subst (λ (t : AbstractType). IsTrue (is_sound t)) (get_or_from_slice_get (map type_view rules) place (type_view t.now) (type_view t.now) found) one

-- ---- as they are kept

pub type_there : (d : Ty) (others : List Ty) (at : ℕ) (t : Bor Ty) (r : Option (Bor Ty)) → (at ≡ 0 → ⊥) → r ≡ Some t → is_some r ≡ ltb (at - 1) (length others) → IfSome r (λ t. t.now ≡ get_or others (at - 1) t.now)
    → t.now ≡ type_at d others at
type_there d others zero t r other is inside read = absurd (other refl)
type_there d others (suc p) t r other is inside read =
    let back : suc p - 1 ≡ p = omega arith in
    let within : p < length others = ltb-true p (length others) (sym (sym (ap is_some is) ∙ inside ∙ ap (λ (n : ℕ). ltb n (length others)) back)) in
    let same : t.now ≡ get_or others p t.now = subst (λ (n : ℕ). t.now ≡ get_or others n t.now) back (subst (λ (r : Option (Bor Ty)). IfSome r (λ t. t.now ≡ get_or others (suc p - 1) t.now)) is read) in
    let there : slice_get others p ≡ Some t.now = slice_get_read others (length others) p t.now refl within same in
    sym (ap (λ (o : Option Ty). unwrap_or o d) there)

pub type_nowhere : (d : Ty) (others : List Ty) (at : ℕ) (r : Option (Bor Ty)) → (at ≡ 0 → ⊥) → r ≡ None → is_some r ≡ ltb (at - 1) (length others) → d ≡ type_at d others at
type_nowhere d others zero r other is inside = absurd (other refl)
type_nowhere d others (suc p) r other is inside =
    let back : suc p - 1 ≡ p = omega arith in
    let past : length others ≤ p = ltb-false p (length others) (sym (sym (ap is_some is) ∙ inside ∙ ap (λ (n : ℕ). ltb n (length others)) back)) in
    sym (ap (λ (o : Option Ty). unwrap_or o d) (slice_get_past others p past))
