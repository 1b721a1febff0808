-- What is wrong with the parts of WITH COMPONENTS, their constraints aside; each fault is at the part's name.
use Rattle.std.specs.Prelude.{List, [], Option}
use Rattle.std.specs.Option.{option_map, option_or}
use Rattle.guard_model.specs.AbstractType.{AbstractKind}
use Rattle.guard_model.specs.Kinds.{is_choice}
use Rattle.guard_constraints.specs.declared.fault.ConsFault.{ConsFault}
use Rattle.guard_constraints.specs.declared.fault.ConsFault.TheVariants as fault
use Rattle.guard_constraints.specs.ListedParts.{PartHead, has_bad_word, is_unknown, first_where, first_repeated, second_present}

-- C4: a word that can't speak of the component or alternative. One that is unknown is at fault for that alone.
abbrev pub word_fault : AbstractKind → List PartHead → Option ConsFault
word_fault kind hs = option_map fault.PresenceWord (first_where (has_bad_word kind) hs)

-- C5: no component or alternative
abbrev pub name_fault : AbstractKind → List PartHead → Option ConsFault
name_fault kind hs = option_map fault.UnknownComponent (first_where (is_unknown kind) hs)

-- C6: the second of two parts with one name
abbrev pub repeated_fault : List PartHead → Option ConsFault
repeated_fault hs = option_map fault.RepeatedComponent (first_repeated [] hs)

-- C7: over a CHOICE, the second part that is PRESENT
abbrev pub present_fault : AbstractKind → List PartHead → Option ConsFault
present_fault kind hs = option_map fault.TwoPresent (second_present (is_choice kind) hs)

-- All parts are looked through for each of them before the next one.
abbrev pub part_fault : AbstractKind → List PartHead → Option ConsFault
part_fault kind hs =
    option_or (word_fault kind hs)
    (option_or (name_fault kind hs) (option_or (repeated_fault hs) (present_fault kind hs)))
