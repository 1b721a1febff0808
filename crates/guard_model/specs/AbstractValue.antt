-- Abstract values (X.680 3.8): what a message says, without where it is kept in memory.
use Rattle.std.specs.Prelude.{ℕ, ℤ, Bool, List, [], ◌∷◌, Option, Some, None}

mutual
  pub data AbstractValue : Type 0 where
    boolean : Bool → AbstractValue
    integer : ℤ → AbstractValue
    enumerated : ℤ → AbstractValue
    null : AbstractValue
    -- octets with the bits from the highest on, and how many bits of the last octet are unused
    bit_string : List ℕ → ℕ → AbstractValue
    octet_string : List ℕ → AbstractValue
    -- the arcs, the first one first
    object_identifier : List ℕ → AbstractValue
    -- the characters' codes in Unicode, not the octets that encode them
    characters : List ℕ → AbstractValue
    fields : Fields → AbstractValue
    items : Items → AbstractValue
    -- the place of the alternative in the written list, from 0
    chosen : ℕ → AbstractValue → AbstractValue

  -- the values of components, one place for each component in written order; absent where it is left out
  pub data Fields : Type 0 where
    no_fields : Fields
    present : AbstractValue → Fields → Fields
    absent : Fields → Fields

  pub data Items : Type 0 where
    no_items : Items
    item : AbstractValue → Items → Items

abbrev pub fields_of : List (Option AbstractValue) → Fields
fields_of [] = no_fields
fields_of (None ∷ fs) = absent (fields_of fs)
fields_of (Some v ∷ fs) = present v (fields_of fs)

abbrev pub items_of : List AbstractValue → Items
items_of [] = no_items
items_of (v ∷ vs) = item v (items_of vs)
