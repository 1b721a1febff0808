-- What is read of an element without a constraint inside agrees with what it denotes.
use Rattle.std.proofs.Common.{◌≡◌, ℕ, ℤ, Bool, true, false, List, [], ◌∷◌, ◌++◌, Option, Some, None, Ok, Err, refl, cond, subst}
use Rattle.std.specs.Prelude.{IsTrue}
use Rattle.std.specs.Option.{option_or}
use Rattle.guard_model.specs.declared.site.Site.{Site}
use Rattle.guard_model.specs.AbstractType as type
use Rattle.guard_model.specs.AbstractType.{AbstractType, Constraint, type_of, at}
use Rattle.guard_model.specs.AbstractValue as value
use Rattle.guard_model.specs.AbstractValue.{AbstractValue}
use Rattle.guard_model.specs.Answer.{◌>>=◌}
use Rattle.guard_der.specs.Fits.{fits}
use Rattle.guard_der.specs.Sound.{is_sound}
use Rattle.guard_model.specs.Kinds.{is_integer, kind_of}
use Rattle.guard_syntax.specs.Trees.{WrittenValue, WrittenEnd, WrittenRange}
use Rattle.guard_values.specs.Meanings.{Meaning}
use Rattle.guard_values.specs.Denotes as values
use Rattle.guard_constraints.specs.declared.fault.ConsFault.TheVariants.{NotApplicable, ExclusiveLimit, ContainedMismatch}
use Rattle.guard_constraints.specs.Visible.{Visible, has_base_of}
use Rattle.guard_constraints.specs.RangeEnds.{has_proper_ends, value_of_end, limit_at, LimitDenotes}
use Rattle.guard_constraints.specs.Denotes.{ValueDenotes, ContainedDenotes, RangeDenotes}
use Rattle.guard_constraints.specs.Faults.{unless}
use Rattle.guard_constraints.specs.FirstFault.{element_has, value_under, end_checks}
use Rattle.guard_constraints.specs.inside.Reading.{Read, demanded, read_value, integer_in, read_end, read_limit, read_range, read_contained}
use Rattle.guard_constraints.proofs.Denoted.Agreement.{Agrees, then_agrees, made_agrees, passed_agrees, demanded_agrees, tested_agrees}

-- ---- values

abbrev pub DenotesFitting : Meaning → AbstractType → WrittenValue → AbstractValue → Type 0
DenotesFitting m t tree v = values.Denotes m t tree v × IsTrue (fits t v)

-- What is read of written values agrees with what they denote: guard_values promises it of its call.
abbrev pub ValuesAgree : Meaning → Type 0
ValuesAgree m = (t : AbstractType) (tree : WrittenValue) → IsTrue (is_sound t) → Agrees m (DenotesFitting m t tree) (read_value m t tree) (value_under t tree ∷ [])

pub value_agrees : (names : Visible) (t : AbstractType) (site : Site) (tree : WrittenValue) → ValuesAgree names.values → IsTrue (is_sound t)
    → Agrees names.values (ValueDenotes names t site tree) (read_value names.values t tree >>= λ v. Ok (at site (type.single_value v))) (value_under t tree ∷ [])
value_agrees names t site tree agree sound =
    made_agrees names.values (DenotesFitting names.values t tree) (ValueDenotes names t site tree) (read_value names.values t tree) (λ v. at site (type.single_value v)) (value_under t tree ∷ []) (agree t tree sound)
    (λ v h. (v, h.0, refl))

-- ---- contained types

module _ (m : Meaning) where
  based : (t u : AbstractType) (site : Site) (there : Option AbstractType) (b : Bool) → there ≡ Some u → has_base_of t (Some u) ≡ b
      → Agrees m (λ c. (w : AbstractType) × (there ≡ Some w) × IsTrue (has_base_of t (Some w)) × (c ≡ at site (type.contained_subtype w)))
      (cond {A = Read Constraint} b (Ok (at site (type.contained_subtype u))) (Err (ContainedMismatch site))) (element_has (unless b (ContainedMismatch site)) ∷ [])
  based t u site there true e h = (tt, (u, e, h, refl))
  based t u site there false e h = refl

  found_agrees : (t : AbstractType) (site : Site) (there found : Option AbstractType) → there ≡ found
      → Agrees m (λ c. (w : AbstractType) × (there ≡ Some w) × IsTrue (has_base_of t (Some w)) × (c ≡ at site (type.contained_subtype w)))
      (read_contained t site found) (element_has (unless (has_base_of t found) (ContainedMismatch site)) ∷ [])
  found_agrees t site there None e = refl
  found_agrees t site there (Some u) e = based t u site there (has_base_of t (Some u)) e refl

pub contained_agrees : (names : Visible) (t : AbstractType) (site : Site) (name : List ℕ)
    → Agrees names.values (ContainedDenotes names t site name) (read_contained t site (names.types name)) (element_has (unless (has_base_of t (names.types name)) (ContainedMismatch site)) ∷ [])
contained_agrees names t site name = found_agrees names.values t site (names.types name) (names.types name) refl

-- ---- ranges

-- a value that fits INTEGER is an integer
integer_read : (t : AbstractType) (site : Site) (v : AbstractValue) → IsTrue (is_integer (kind_of t)) → IsTrue (fits t v) → (z : ℤ) × (v ≡ value.integer z) × (integer_in site v ≡ Ok z)
integer_read (type_of tags (type.integer ns) cons) site (value.integer z) h k = (z, refl, refl)
integer_read (type_of tags (type.integer ns) cons) site _ h k = absurd cc
integer_read (type_of tags _ cons) site v h k = absurd cc

pub limit_agrees : (m : Meaning) (t : AbstractType) (outside : Bool) (end : Option WrittenEnd) → ValuesAgree m → IsTrue (is_sound t) → IsTrue (is_integer (kind_of t))
    → Agrees m (LimitDenotes m t outside end) (read_limit m t outside end) (end_checks t end)
limit_agrees m t outside None agree sound integer = (tt, refl)
limit_agrees m t outside (Some e) agree sound integer =
    let D : ℤ → Type 0 = λ z. values.Denotes m t (value_of_end e) (value.integer z) in
    made_agrees m D (LimitDenotes m t outside (Some e)) (read_end m t e) (λ z. limit_at outside z) (end_checks t (Some e))
    (passed_agrees m (DenotesFitting m t (value_of_end e)) D (read_value m t (value_of_end e)) (λ v. integer_in e.site v) (end_checks t (Some e)) (agree t (value_of_end e) sound)
    (λ v h.
    let i = integer_read t e.site v integer h.1 in
    let Q : AbstractValue → Type 0 = λ w. values.Denotes m t (value_of_end e) w in
    rw i.2 (tt, subst Q i.1 h.0)))
    (λ z h. (z, h, refl))

pub range_agrees : (names : Visible) (t : AbstractType) (site : Site) (r : WrittenRange) → ValuesAgree names.values → IsTrue (is_sound t)
    → Agrees names.values (RangeDenotes names t site r) (read_range names.values t site r)
    (element_has (option_or (unless (is_integer (kind_of t)) (NotApplicable site)) (unless (has_proper_ends r) (ExclusiveLimit site))) ∷ (end_checks t r.low ++ end_checks t r.high))
range_agrees names t site r agree sound =
    demanded_agrees names.values (RangeDenotes names t site r) (is_integer (kind_of t)) (NotApplicable site)
    (λ _. demanded (has_proper_ends r) (ExclusiveLimit site) >>= λ _. read_limit names.values t r.above_low r.low >>= λ low. read_limit names.values t r.below_high r.high >>= λ high. Ok (at site (type.range low high)))
    (unless (has_proper_ends r) (ExclusiveLimit site)) (end_checks t r.low ++ end_checks t r.high)
    (λ integer. tested_agrees names.values (RangeDenotes names t site r) (has_proper_ends r) (ExclusiveLimit site)
    (λ _. read_limit names.values t r.above_low r.low >>= λ low. read_limit names.values t r.below_high r.high >>= λ high. Ok (at site (type.range low high)))
    (end_checks t r.low ++ end_checks t r.high)
    (λ ends. then_agrees names.values (LimitDenotes names.values t r.above_low r.low) (RangeDenotes names t site r) (read_limit names.values t r.above_low r.low)
    (λ low. read_limit names.values t r.below_high r.high >>= λ high. Ok (at site (type.range low high))) (end_checks t r.low) (end_checks t r.high)
    (limit_agrees names.values t r.above_low r.low agree sound integer)
    (λ low at_low. made_agrees names.values (LimitDenotes names.values t r.below_high r.high) (RangeDenotes names t site r) (read_limit names.values t r.below_high r.high) (λ high. at site (type.range low high))
    (end_checks t r.high) (limit_agrees names.values t r.below_high r.high agree sound integer)
    (λ high at_high. (integer, ends, (low, high, at_low, at_high, refl))))))
