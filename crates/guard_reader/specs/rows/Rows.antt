-- What is read of octets by plans: the tagged types of X.690 8.14.3 (of OCTET STRING, not VisibleString), and of a
-- CHOICE and a SET octets worked out by hand.
use Rattle.std.specs.Prelude.{◌≡◌, ℕ, true, false, List, [], ◌∷◌, Option, Some, None, refl}
use Rattle.guard_model.specs.declared.tag.Class.TheVariants.{Universal, Application, Context}
use Rattle.guard_model.specs.declared.tag.Tag.{Tag}
use Rattle.guard_model.specs.AbstractType as type
use Rattle.guard_der.specs.Head.{number_from, high_number, tag_number, length_at, head_of}
use Rattle.guard_tables.specs.declared.slots.Slots.{Slots}
use Rattle.guard_tables.specs.Slots.{none, only, added}
use Rattle.guard_tables.specs.Plan.{Side, Plan, plan, simple, set, choice, no_parts, part}
use Rattle.guard_reader.specs.Fronts.{octet_front, head_front, tagged_front, front, innermost}
use Rattle.guard_reader.specs.Judging.{message_judged, contents_judged, watched, present_part, member_at, members_at, absences_at, chosen_at}
use Rattle.guard_reader.specs.Octets.{split}

abbrev universal : ℕ → Tag
universal n = record { class = Universal; number = n }

abbrev application : ℕ → Tag
application n = record { class = Application; number = n }

abbrev context : ℕ → Tag
context n = record { class = Context; number = n }

-- "Jones"
abbrev jones : List ℕ
jones = 0x4A ∷ 0x6F ∷ 0x6E ∷ 0x65 ∷ 0x73 ∷ []

abbrev octets : List Tag → Plan
octets tags = plan tags false (simple type.octet_string [])

-- [2] round [APPLICATION 3]
wrapped : message_judged (octets (context 2 ∷ application 3 ∷ [])) (0xA2 ∷ 0x07 ∷ 0x43 ∷ 0x05 ∷ jones) ≡ Some none
unfolding message_judged contents_judged front tagged_front octet_front innermost split length_at
wrapped = refl

-- [APPLICATION 7] round [APPLICATION 3], and [2] alone
wrapped_too : message_judged (octets (application 7 ∷ application 3 ∷ [])) (0x67 ∷ 0x07 ∷ 0x43 ∷ 0x05 ∷ jones)
    ≡ Some none
unfolding message_judged contents_judged front tagged_front octet_front innermost split length_at
wrapped_too = refl

alone_tagged : message_judged (octets (context 2 ∷ [])) (0x82 ∷ 0x05 ∷ jones) ≡ Some none
unfolding message_judged contents_judged front tagged_front octet_front innermost split length_at
alone_tagged = refl

-- A wrapper isn't primitive, and has nothing after the element inside.
primitive : message_judged (octets (context 2 ∷ application 3 ∷ [])) (0x82 ∷ 0x07 ∷ 0x43 ∷ 0x05 ∷ jones) ≡ None
unfolding message_judged contents_judged front tagged_front octet_front innermost split length_at
primitive = refl

two_inside : message_judged (octets (context 2 ∷ application 3 ∷ [])) (0xA2 ∷ 0x04 ∷ 0x43 ∷ 0x00 ∷ 0x43 ∷ 0x00 ∷ [])
    ≡ None
unfolding message_judged contents_judged front tagged_front octet_front innermost split length_at
two_inside = refl

-- a tag above 30, in identifier octets of its own
high : message_judged (octets (context 31 ∷ [])) (0x9F ∷ 0x1F ∷ 0x05 ∷ jones) ≡ Some none
unfolding message_judged contents_judged front tagged_front head_front innermost head_of tag_number high_number
    number_from length_at
high = refl

-- ---- CHOICE { a [0], b [1], c CHOICE { d [2], e [40] } }, slots of which tell the alternative

abbrev chosen_slot : ℕ → Side
chosen_slot n = record { absent = None; present = only n; default = None }

abbrev inner : Plan
inner =
    plan [] true (choice
    (part (chosen_slot 3) (octets (context 2 ∷ []))
    (part (chosen_slot 4) (octets (context 40 ∷ []))
    no_parts)))

abbrev alternatives : List Tag → Plan
alternatives tags =
    plan tags true (choice
    (part (chosen_slot 0) (octets (context 0 ∷ []))
    (part (chosen_slot 1) (octets (context 1 ∷ []))
    (part (chosen_slot 2) inner
    no_parts))))

second : message_judged (alternatives []) (0x81 ∷ 0x00 ∷ []) ≡ Some (added none (only 1))
unfolding message_judged contents_judged chosen_at front tagged_front octet_front head_front innermost split head_of
    tag_number high_number number_from length_at none only added
second = refl

nested : message_judged (alternatives []) (0x9F ∷ 0x28 ∷ 0x00 ∷ []) ≡ Some (added (added none (only 2)) (only 4))
unfolding message_judged contents_judged chosen_at front tagged_front octet_front head_front innermost split head_of
    tag_number high_number number_from length_at none only added
nested = refl

-- in a tag of its own, one alternative and nothing after it
tagged : message_judged (alternatives (context 5 ∷ [])) (0xA5 ∷ 0x02 ∷ 0x82 ∷ 0x00 ∷ [])
    ≡ Some (added (added none (only 2)) (only 3))
unfolding message_judged contents_judged chosen_at front tagged_front octet_front head_front innermost split head_of
    tag_number high_number number_from length_at none only added
tagged = refl

two_chosen : message_judged (alternatives (context 5 ∷ [])) (0xA5 ∷ 0x04 ∷ 0x82 ∷ 0x00 ∷ 0x80 ∷ 0x00 ∷ []) ≡ None
unfolding message_judged contents_judged chosen_at front tagged_front octet_front head_front innermost split head_of
    tag_number high_number number_from length_at none only added
two_chosen = refl

-- ---- SET { x [1], y [0] OPTIONAL }, whose absence has a slot

abbrev present_slot : Option Slots → Side
present_slot absent = record { absent = absent; present = none; default = None }

abbrev members : Plan
members =
    plan (universal 17 ∷ []) true (set
    (part (present_slot None) (octets (context 1 ∷ []))
    (part (present_slot (Some (only 7))) (octets (context 0 ∷ []))
    no_parts)))

both : message_judged members (0x31 ∷ 0x04 ∷ 0x80 ∷ 0x00 ∷ 0x81 ∷ 0x00 ∷ []) ≡ Some none
unfolding message_judged contents_judged members_at member_at absences_at present_part watched front tagged_front
    octet_front head_front innermost split head_of tag_number high_number number_from length_at none only added
both = refl

one : message_judged members (0x31 ∷ 0x02 ∷ 0x81 ∷ 0x00 ∷ []) ≡ Some (added none (only 7))
unfolding message_judged contents_judged members_at member_at absences_at present_part watched front tagged_front
    octet_front head_front innermost split head_of tag_number high_number number_from length_at none only added
one = refl

-- out of order, one of them twice, and the mandatory one absent
turned : message_judged members (0x31 ∷ 0x04 ∷ 0x81 ∷ 0x00 ∷ 0x80 ∷ 0x00 ∷ []) ≡ None
unfolding message_judged contents_judged members_at member_at absences_at present_part watched front tagged_front
    octet_front head_front innermost split head_of tag_number high_number number_from length_at none only added
turned = refl

twice : message_judged members (0x31 ∷ 0x04 ∷ 0x81 ∷ 0x00 ∷ 0x81 ∷ 0x00 ∷ []) ≡ None
unfolding message_judged contents_judged members_at member_at absences_at present_part watched front tagged_front
    octet_front head_front innermost split head_of tag_number high_number number_from length_at none only added
twice = refl

missing : message_judged members (0x31 ∷ 0x02 ∷ 0x80 ∷ 0x00 ∷ []) ≡ None
unfolding message_judged contents_judged members_at member_at absences_at present_part watched front tagged_front
    octet_front head_front innermost split head_of tag_number high_number number_from length_at none only added
missing = refl
