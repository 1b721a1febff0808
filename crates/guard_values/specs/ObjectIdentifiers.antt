-- What object identifiers say (X.680 clause 32). A name before a number in parentheses says nothing.
use Rattle.std.specs.Prelude.{ℕ, ◌+◌, ◌^◌, Bool, false, ◌&&◌, ◌||◌, List, [], ◌∷◌, map, nat_lt, nat_le, nat_eq, not, if◌then◌else◌, Option, Some, None}
use Rattle.std.specs.Option.{option_or}
use Rattle.guard_model.specs.declared.site.Site.{Site}
use Rattle.guard_lexer.specs.Items.{number_value}
use Rattle.guard_syntax.specs.Trees.{WrittenArc}

abbrev pub arc_number : WrittenArc → ℕ
arc_number a = number_value a.number

abbrev pub arc_numbers : List WrittenArc → List ℕ
arc_numbers arcs = map arc_number arcs

-- ---- the limits of this profile on arcs

-- of 128 bits
abbrev pub is_large : ℕ → Bool
is_large arc = not (nat_lt arc (2 ^ 128))

-- the first arc with more bits than that
abbrev pub large_arc : List WrittenArc → Option Site
large_arc [] = None
large_arc (a ∷ rest) = if is_large (arc_number a) then Some a.site else large_arc rest

-- Under the arc 2 the second one: the two share a subidentifier of 128 bits, 80 and the second arc (X.690 8.19.4).
abbrev pub large_second : List WrittenArc → Option Site
large_second (a ∷ b ∷ rest) = if nat_eq (arc_number a) 2 && is_large (80 + arc_number b) then Some b.site else None
large_second _ = None

-- the arc that is too large, if one is
abbrev pub too_large_arc : List WrittenArc → Option Site
too_large_arc arcs = option_or (large_arc arcs) (large_second arcs)

-- ---- which arcs there are

-- Two or more, the first 0 to 2, the second up to 39 under 0 and 1 (X.660, X.690 8.19.4).
abbrev pub are_arcs : List ℕ → Bool
are_arcs (x ∷ y ∷ rest) = nat_le x 2 && (nat_eq x 2 || nat_le y 39)
are_arcs _ = false
