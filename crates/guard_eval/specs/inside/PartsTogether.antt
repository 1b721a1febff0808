-- What several WITH COMPONENTS that must all be passed say of a value's parts, gathered by places (X.680 51.8).
use Rattle.std.specs.Prelude.{◌≡◌, ℕ, suc, Bool, true, ◌&&◌, List, [], ◌∷◌, if◌then◌else◌}
use Rattle.std.specs.Option.{is_none}
use Rattle.guard_model.specs.AbstractType.{AbstractKind, Parts}
use Rattle.guard_model.specs.AbstractValue.{AbstractValue}
use Rattle.guard_model.specs.TypeView.{OnePart}
use Rattle.guard_eval.specs.declared.parts_together.PartDemands.{PartDemands}
use Rattle.guard_eval.specs.declared.parts_together.PlaceDemand.{PlaceDemand}
use Rattle.guard_eval.specs.Presence.{kind_at, part_at, is_there, if_there, first_intruder}
use Rattle.guard_eval.specs.inside.Failures.{first_part_failure, part_failure}
use Rattle.guard_eval.specs.inside.Together.{gathered_view, passes_all}

-- ---- what is demanded

-- each of the places, the first of which is place i, passes the test
abbrev pub each_place : (ℕ → PlaceDemand → Bool) → ℕ → List PlaceDemand → Bool
each_place test i [] = true
each_place test i (p ∷ ps) = test i p && each_place test (suc i) ps

-- the value's part at the place is there, or is missing, as it may be
abbrev pub is_placed_at : AbstractValue → ℕ → PlaceDemand → Bool
is_placed_at v i p = if is_there i v then p.there else p.absent

-- where the part is there, it passes what it must pass
abbrev pub is_within_at : AbstractKind → AbstractValue → ℕ → PlaceDemand → Bool
is_within_at kind v i p = if_there (passes_all (gathered_view p.within.items) (kind_at i kind)) (part_at i v)

abbrev pub are_placed : PartDemands → AbstractValue → Bool
are_placed demands v = demands.possible && each_place (is_placed_at v) 0 demands.places.items

-- from this place on
abbrev pub are_within : ℕ → List PlaceDemand → AbstractKind → AbstractValue → Bool
are_within i places kind v = each_place (is_within_at kind v) i places

abbrev pub meets : PartDemands → AbstractKind → AbstractValue → Bool
meets demands kind v = are_placed demands v && are_within 0 demands.places.items kind v

-- ---- what WITH COMPONENTS says of a value that has parts

abbrev pub passes_part : OnePart → Bool → AbstractKind → AbstractValue → Bool
passes_part p partial kind v = is_none (part_failure p partial kind v)

abbrev pub passes_listed : Parts → Bool → AbstractKind → AbstractValue → Bool
passes_listed ps partial kind v = is_none (first_part_failure ps partial kind v)

abbrev pub passes_parts : Parts → Bool → AbstractKind → AbstractValue → Bool
passes_parts ps partial kind v = passes_listed ps partial kind v && is_none (first_intruder partial kind ps v)

-- ---- what is added to the demands: the values that meet the new ones are those that met the old ones and pass the test

abbrev pub Adds : PartDemands → PartDemands → AbstractKind → (AbstractValue → Bool) → Type 0
Adds old new kind test = (v : AbstractValue) → meets new kind v ≡ (meets old kind v && test v)
