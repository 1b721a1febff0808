-- Contents octets of the simple kinds (X.690 8.2 to 8.8, 8.19 to 8.23).
use Rattle.std.specs.Prelude.{ℕ, ◌+◌, ◌*◌, Bool, List, [], ◌∷◌, ◌++◌, flat_map, encode_utf8_all, if◌then◌else◌}
use Rattle.guard_model.specs.declared.ty.CharKind.{CharKind}
use Rattle.guard_model.specs.declared.ty.CharKind.TheVariants.{Utf8}
use Rattle.guard_der.specs.Octets.{base_128}

-- FALSE is 00, TRUE is FF (8.2.2, 11.1)
abbrev pub boolean_octet : Bool → ℕ
boolean_octet b = if b then 255 else 0

-- A subidentifier for the first two arcs, 40X + Y, and one for each further arc, each in the fewest octets to the base
-- 128 (8.19).
abbrev pub arcs_octets : List ℕ → List ℕ
arcs_octets (x ∷ y ∷ arcs) = base_128 (40 * x + y) ++ flat_map base_128 arcs
arcs_octets _ = []

-- UTF-8 for UTF8String (8.23.10), else one octet a character (8.23.5)
abbrev pub character_octets : CharKind → List ℕ → List ℕ
character_octets Utf8 characters = encode_utf8_all characters
character_octets _ characters = characters
