-- Worked examples of what is asked at a node, computed from the definitions.
use Rattle.std.specs.Prelude.{◌≡◌, false, [], ◌∷◌, None, refl}
use Rattle.guard_model.specs.AbstractType as type
use Rattle.guard_model.specs.AbstractType.{AbstractKind, Constraint, type_of, no_components, component, at, no_constraints, constraint}
use Rattle.guard_tables.specs.rows.Rows.{boolean, integer, one, site, up_to, universal}
use Rattle.guard_tables.specs.Slots.{only}
use Rattle.guard_tables.specs.Formulas.{never, always, slot, both, either, unless}
use Rattle.guard_tables.specs.Demands.{by_type, by_constraint, scalar, sized, within, sent, unsent}
use Rattle.guard_tables.specs.Terms.{term}
use Rattle.guard_tables.specs.Forms.{form, nothing_yet}

-- ---- conjunctions

abbrev pub small : Constraint
small = one (up_to 9)

-- on INTEGER a constraint is one test, whatever is in it
abbrev pub not_small : Constraint
not_small = one (type.except (one (up_to 99)) small)

pub a_scalar_is_one_test : (form (only 1) (by_constraint (type.integer []) not_small) (nothing_yet 2)).terms
    ≡ term (only 1) (scalar (type.integer []) not_small) ∷ []
a_scalar_is_one_test = refl

abbrev pub octets_up_to_9 : Constraint
octets_up_to_9 = one (type.size small)

pub a_size : (form (only 1) (by_constraint type.octet_string octets_up_to_9) (nothing_yet 2)).terms ≡ term (only 1) (sized small) ∷ []
a_size = refl

-- SEQUENCE { INTEGER, BOOLEAN OPTIONAL }
abbrev pub pair : AbstractKind
pair =
    type.sequence
    (component [] (integer no_constraints) type.mandatory (component [] boolean type.optional no_components))

abbrev pub first_small : type.Parts → Constraint
first_small others = one (type.with_components false (type.part_within site 0 small None others))

-- a full list makes the OPTIONAL component absent that it doesn't name
pub a_full_list :
    (form (only 1) (by_constraint pair (first_small type.no_parts)) (nothing_yet 2)).terms
    ≡ term (only 1) (within 0 (by_constraint (type.integer []) small)) ∷ term (only 1) (unsent 1) ∷ []
a_full_list = refl

-- one that it names without a word is present
pub a_name_without_a_word :
    (form (only 1) (by_constraint pair (first_small (type.part site 1 None type.no_parts))) (nothing_yet 2)).terms
    ≡ term (only 1) (within 0 (by_constraint (type.integer []) small)) ∷ term (only 1) (sent 1) ∷ []
a_name_without_a_word = refl

-- what a type asks of its parts
pub a_type :
    (form (only 1) (by_type (type_of (universal 16 ∷ []) pair no_constraints)) (nothing_yet 2)).terms
    ≡ term (only 1) (within 0 (by_type (integer no_constraints))) ∷ term (only 1) (within 1 (by_type boolean)) ∷ []
a_type = refl

-- ---- formulas: with slot 0, where slots from 1 on are free

-- no octets up to 9, but as many as 99
abbrev pub many_octets : Constraint
many_octets = one (type.except (one (type.size (one (up_to 99)))) octets_up_to_9)

pub a_set_taken_away :
    form (only 0) (by_constraint type.octet_string many_octets) (nothing_yet 1)
    ≡ record {
      terms = term (only 0) (sized (one (up_to 99))) ∷ term (only 1) (sized small) ∷ [];
      forms = unless (either (slot 1) never) ∷ [];
      next = 2;
    }
a_set_taken_away = refl

abbrev pub either_size : Constraint
either_size = one (type.union (constraint octets_up_to_9 (constraint many_octets no_constraints)))

-- each member has a slot, and the set that the second takes away another one
pub a_union :
    form (only 0) (by_constraint type.octet_string either_size) (nothing_yet 1)
    ≡ record {
      terms =
          term (only 1) (sized small) ∷ term (only 2) (sized (one (up_to 99))) ∷ term (only 3) (sized small) ∷ [];
      forms =
          both (either (slot 1) never)
          (both (either (slot 2) (either (unless (either (slot 3) never)) never)) always)
          ∷ [];
      next = 4;
    }
a_union = refl
