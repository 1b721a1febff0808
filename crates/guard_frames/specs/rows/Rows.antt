-- Worked examples of lengths and headers.
use Rattle.std.specs.Prelude.{◌≡◌, [], ◌∷◌, ◌++◌, Some, None, codes, refl}
use Rattle.guard_frames.specs.Frames.{stated_length}
use Rattle.guard_frames.specs.Bodies.{part_first, parts_in, body_in}

length_of_31 : stated_length (0 ∷ 0 ∷ 0 ∷ 31 ∷ []) ≡ 31
length_of_31 = refl

longest_and_one : stated_length (0 ∷ 16 ∷ 0 ∷ 1 ∷ []) ≡ 1048577
longest_and_one = refl

three_names : body_in (5 ∷ codes "north" ++ 5 ∷ codes "south" ++ 5 ∷ codes "order" ++ 48 ∷ 0 ∷ [])
    ≡ Some (record { sender = codes "north"; receiver = codes "south"; name = codes "order"; message_octets = 48 ∷ 0 ∷ [] })
unfolding body_in parts_in part_first
three_names = refl

-- a message of no octets
no_message : body_in (1 ∷ 97 ∷ 1 ∷ 46 ∷ 1 ∷ 45 ∷ [])
    ≡ Some (record { sender = codes "a"; receiver = codes "."; name = codes "-"; message_octets = [] })
unfolding body_in parts_in part_first
no_message = refl

nothing : body_in [] ≡ None
unfolding body_in parts_in part_first
nothing = refl

-- the second name is missing
one_name : body_in (1 ∷ 97 ∷ []) ≡ None
unfolding body_in parts_in part_first
one_name = refl

-- fewer octets than the length says
short_name : body_in (2 ∷ 97 ∷ []) ≡ None
unfolding body_in parts_in part_first
short_name = refl

-- `*` is no octet of a name
star : body_in (1 ∷ 42 ∷ 1 ∷ 97 ∷ 1 ∷ 98 ∷ []) ≡ None
unfolding body_in parts_in part_first
star = refl

-- a name of no octets
empty_name : body_in (0 ∷ 1 ∷ 97 ∷ 1 ∷ 98 ∷ []) ≡ None
unfolding body_in parts_in part_first
empty_name = refl
