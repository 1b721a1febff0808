-- The rules that allow the value of a message on a route.
use Rattle.std.specs.Prelude.{◌≡◌, ℕ, ◌&&◌, List, [], ◌∷◌, ◌++◌, codes, Some, IsTrue, if◌then◌else◌}
use Rattle.guard_model.specs.AbstractType.{AbstractType}
use Rattle.guard_model.specs.AbstractValue.{AbstractValue}
use Rattle.guard_der.specs.Der.{der}
use Rattle.guard_der.specs.Fits.{fits}
use Rattle.guard_policy.specs.Decisions.{allows, speaks_of, NumberedRule}
use Rattle.guard_policy.specs.Policies.{AbstractPolicy, AbstractRoute, AbstractRule, declared_type}

abbrev pub allowing_line : List ℕ → List ℕ
allowing_line name = codes "  allowed by " ++ name ++ codes "\n"

-- its line, where it speaks of the route and allows the value
abbrev pub allowing_line_of : AbstractRoute → AbstractValue → AbstractRule → List ℕ
allowing_line_of route v r = if speaks_of route r && allows r v then allowing_line r.name else []

abbrev pub allowing_lines : AbstractRoute → AbstractValue → List AbstractRule → List ℕ
allowing_lines route v [] = []
allowing_lines route v (r ∷ rs) = allowing_line_of route v r ++ allowing_lines route v rs

-- This is said of the declared type of the message, and of the value of it that the octets encode.
abbrev pub OfValue : AbstractPolicy → List ℕ → List ℕ → (AbstractType → AbstractValue → Type 0) → Type 0
OfValue p message octets Says =
    (t : AbstractType) × (v : AbstractValue) × (declared_type p message ≡ Some t) × IsTrue (fits t v)
    × (der t v ≡ Some octets) × Says t v

-- the numbers of the rules that allow the value
abbrev pub allowing : List NumberedRule → AbstractValue → List ℕ
allowing [] v = []
allowing (r ∷ rs) v = if allows r.rule v then r.number ∷ allowing rs v else allowing rs v

-- The message has a declared type, and the octets are the encoding of a value of it.
abbrev pub HasValue : AbstractPolicy → List ℕ → List ℕ → Type 0
HasValue p message octets = OfValue p message octets (λ t v. Unit {0})
