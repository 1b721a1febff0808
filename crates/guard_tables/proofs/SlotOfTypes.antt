-- What the plan of a table's types fails: the slots of the types of which the value is no member.
use Rattle.std.proofs.Common.{◌≡◌, ℕ, zero, suc, ◌+◌, ◌<◌, Bool, false, List, [], ◌∷◌, refl, ap, ◌∙◌, arith, IsTrue}
use Rattle.std.specs.Prelude.{not, ◌&&◌, ◌||◌}
use Rattle.std.proofs.lemmas.Bool.{eq-eqb, ne_eqb}
use Rattle.guard_model.specs.AbstractType.{AbstractType}
use Rattle.guard_model.specs.AbstractValue.{AbstractValue}
use Rattle.guard_model.specs.Kinds.{kind_of}
use Rattle.guard_der.specs.Fits.{fits}
use Rattle.guard_der.specs.Sound.{is_sound}
use Rattle.guard_eval.specs.Member.{is_member}
use Rattle.guard_tables.specs.Demands.{demands_fail}
use Rattle.guard_tables.specs.Apt.{AreApt}
use Rattle.guard_tables.specs.OfParts.{demands_from}
use Rattle.guard_tables.specs.Lay.{lay}
use Rattle.guard_tables.specs.Laws.{AllMayJudge, has_failed}
use Rattle.guard_tables.specs.Marking.{fails_at}
use Rattle.guard_tables.proofs.SlotSets.{only_law}
use Rattle.guard_tables.proofs.Truths.{or_no}
use Rattle.guard_tables.proofs.Bases.{base_is}
use Rattle.guard_tables.proofs.Speaking.{proper_of_sound}
use Rattle.guard_tables.proofs.Laying.{lay_law}

pub types_apt : (declared : AbstractType) (n : ℕ) (types : List AbstractType) → AllMayJudge declared types → AreApt (kind_of declared) (demands_from n types)
types_apt declared n [] h = tt
types_apt declared n (t ∷ ts) h = ((base_is t declared h.0, proper_of_sound t h.1), types_apt declared (suc n) ts h.2)

-- slots before the first
none_before : (n slot : ℕ) (types : List AbstractType) (v : AbstractValue) → slot < n → demands_fail slot v (demands_from n types) ≡ false
none_before n slot [] v lt = refl
none_before n slot (t ∷ ts) v lt =
    ap (λ (b : Bool). (b && not (is_member t v)) || demands_fail slot v (demands_from (suc n) ts)) (only_law n slot ∙ ne_eqb n slot (λ e. absurd (omega (arith, lt, e))))
    ∙ none_before (suc n) slot ts v (omega (arith, lt))

types_fail : (n slot i : ℕ) (types : List AbstractType) (v : AbstractValue) → slot ≡ n + i → demands_fail slot v (demands_from n types) ≡ has_failed types v i
types_fail n slot i [] v e = refl
types_fail n slot zero (t ∷ ts) v e =
    ap (λ (b : Bool). (b && not (is_member t v)) || demands_fail slot v (demands_from (suc n) ts)) (only_law n slot ∙ eq-eqb n slot (omega (arith, e)))
    ∙ ap (λ (b : Bool). not (is_member t v) || b) (none_before (suc n) slot ts v (omega (arith, e)))
    ∙ or_no (not (is_member t v))
types_fail n slot (suc i) (t ∷ ts) v e =
    ap (λ (b : Bool). (b && not (is_member t v)) || demands_fail slot v (demands_from (suc n) ts)) (only_law n slot ∙ ne_eqb n slot (λ same. absurd (omega (arith, e, same))))
    ∙ types_fail (suc n) slot i ts v (omega (arith, e))

pub member_law : (declared : AbstractType) (types : List AbstractType) → IsTrue (is_sound declared) → AllMayJudge declared types → (v : AbstractValue) → IsTrue (fits declared v) → (slot : ℕ)
    → fails_at declared (lay declared (demands_from 0 types)) v slot ≡ has_failed types v slot
member_law declared types sound h v fit slot =
    lay_law declared sound (demands_from 0 types) (types_apt declared 0 types h) v fit slot ∙ types_fail 0 slot slot types v (omega arith)
