-- Types that go together: the same values fit them, with the same encodings.
use Rattle.std.specs.Prelude.{◌≡◌, List, All, IsTrue, None}
use Rattle.guard_model.specs.AbstractType.{AbstractType}
use Rattle.guard_model.specs.AbstractValue.{AbstractValue}
use Rattle.guard_der.specs.Der.{der}
use Rattle.guard_der.specs.Fits.{fits}
use Rattle.guard_der.specs.Sound.{is_sound}
use Rattle.guard_tables.specs.Tables.{first_fault}

-- constraints aside
abbrev pub AreAlike : AbstractType → AbstractType → Type 0
AreAlike t u = (v : AbstractValue) → (fits t v ≡ fits u v) × (der t v ≡ der u v)

-- what holds of the types of every table
pub record AreConsistent (declared : AbstractType) (rules : List AbstractType) : Type 0 where
  pub declared_sound : IsTrue (is_sound declared)
  pub rules_sound : All (λ t. IsTrue (is_sound t)) rules
  pub faultless : first_fault declared rules ≡ None
