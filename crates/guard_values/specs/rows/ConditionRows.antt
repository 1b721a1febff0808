-- Worked examples of faults and of their conditions: one value that is written in several ways.
use Rattle.std.specs.Prelude.{◌≡◌, ℕ, ◌+◌, pos, Bool, true, false, List, [], ◌∷◌, nat_eq, nat_lt, Option, Some, None, IsTrue, refl, codes, ◌⊎◌}
use Rattle.std.proofs.Common.{inl, inr, sym, ◌∙◌, subst}
use Rattle.guard_model.specs.declared.site.Site.{Site}
use Rattle.guard_model.specs.declared.tag.Class.TheVariants.{Universal}
use Rattle.guard_model.specs.declared.ty.CharKind.TheVariants.{Utf8}
use Rattle.guard_model.specs.AbstractType as type
use Rattle.guard_model.specs.AbstractType.{AbstractType, AbstractKind, component, no_components, type_of}
use Rattle.guard_model.specs.AbstractValue as value
use Rattle.guard_syntax.specs.Trees as written
use Rattle.guard_syntax.specs.Trees.{WrittenValue, WrittenEntries, value_node, no_entries, entry}
use Rattle.guard_values.specs.declared.fault.ValueFault.{ValueFault}
use Rattle.guard_values.specs.declared.fault.ValueFault.TheVariants.{WrongNotation, UnknownName, MissingComponent, RepeatedComponent, OutOfOrder, TooLarge}
use Rattle.guard_values.specs.Meanings.{Meaning}
use Rattle.guard_values.specs.Places.{is_place}
use Rattle.guard_values.specs.Faults.{faults_of}
use Rattle.guard_values.specs.Conditions.{IsFaultIn}

-- ---- SEQUENCE {id INTEGER, kind ENUMERATED {buy, sell}, qty INTEGER DEFAULT 1, note UTF8String OPTIONAL,
-- ---- lines SEQUENCE OF INTEGER}

abbrev of_kind : ℕ → AbstractKind → AbstractType
of_kind number kind = type_of (record { class = Universal; number = number } ∷ []) kind type.no_constraints

abbrev order : AbstractType
order =
    of_kind 16 (type.sequence
    (component (codes "id") (of_kind 2 (type.integer [])) type.mandatory
    (component (codes "kind") (of_kind 10 (type.enumerated
    (record { name = codes "buy"; number = pos 0 } ∷ record { name = codes "sell"; number = pos 1 } ∷ [])))
    type.mandatory
    (component (codes "qty") (of_kind 2 (type.integer [])) (type.default (value.integer (pos 1)))
    (component (codes "note") (of_kind 12 (type.characters Utf8)) type.optional
    (component (codes "lines") (of_kind 16 (type.sequence_of (of_kind 2 (type.integer [])))) type.mandatory
    no_components))))))

-- no name is visible
abbrev nothing : Meaning
nothing name = None

-- ---- how its values are written: each entry and the brace at a column of one line

abbrev at : ℕ → Site
at column = record { text = 1; line = 1; column = column }

abbrev digit_at : ℕ → List ℕ → WrittenValue
digit_at column digits =
    value_node (at column) (written.integer (record { site = at column; minus = false; digits = digits }))

-- id 5
abbrev id_at : ℕ → WrittenEntries → WrittenEntries
id_at column rest = entry (at column) (Some (codes "id")) (digit_at (column + 3) (codes "5")) rest

-- kind, and the name of an item
abbrev kind_at : ℕ → List ℕ → WrittenEntries → WrittenEntries
kind_at column item rest =
    entry (at column) (Some (codes "kind")) (value_node (at (column + 5)) (written.reference item)) rest

-- lines {7}
abbrev lines_at : ℕ → WrittenEntries → WrittenEntries
lines_at column rest =
    entry (at column) (Some (codes "lines"))
    (value_node (at (column + 6)) (written.list (entry (at (column + 7)) None (digit_at (column + 7) (codes "7"))
    no_entries))) rest

abbrev in_braces : WrittenEntries → WrittenValue
in_braces es = value_node (at 1) (written.list es)

-- ---- which faults it has

-- {id 5, kind sell, lines {7}}
lawful : faults_of nothing order (in_braces (id_at 2 (kind_at 8 (codes "sell") (lines_at 19 no_entries)))) ≡ []
lawful = refl

-- {id 5, kind sell}: V3, at the brace
abbrev without_lines : WrittenValue
without_lines = in_braces (id_at 2 (kind_at 8 (codes "sell") no_entries))

missing : faults_of nothing order without_lines ≡ MissingComponent (at 1) ∷ []
missing = refl

-- {kind sell, id 5, lines {7}}: V5, at the name id
abbrev kind_first : WrittenValue
kind_first = in_braces (kind_at 2 (codes "sell") (id_at 13 (lines_at 19 no_entries)))

out_of_order : faults_of nothing order kind_first ≡ OutOfOrder (at 13) ∷ []
out_of_order = refl

-- {id 5, id 5, kind sell, lines {7}}: V4, at the second name id
abbrev id_twice : WrittenValue
id_twice = in_braces (id_at 2 (id_at 8 (kind_at 14 (codes "sell") (lines_at 25 no_entries))))

repeated : faults_of nothing order id_twice ≡ RepeatedComponent (at 8) ∷ []
repeated = refl

-- TRUE: V1
other_form : faults_of nothing order (value_node (at 1) (written.boolean true)) ≡ WrongNotation (at 1) ∷ []
other_form = refl

-- {id 5, kind hold, lines {7}}: V2, at hold
unknown_item : faults_of nothing order (in_braces (id_at 2 (kind_at 8 (codes "hold") (lines_at 19 no_entries))))
    ≡ UnknownName (at 13) ∷ []
unknown_item = refl

-- {id 5, kind hold}: V2 before V3
unknown_first : faults_of nothing order (in_braces (id_at 2 (kind_at 8 (codes "hold") no_entries)))
    ≡ UnknownName (at 13) ∷ MissingComponent (at 1) ∷ []
unknown_first = refl

-- ---- their conditions stand at their sites

-- kind, which is named first, stands after id
reversed_stands : IsFaultIn nothing order kind_first (OutOfOrder (at 13))
reversed_stands = inl (inl (inl (inl (refl, (0, refl, (1, refl, refl))))))

-- both entries are for the first component
repeated_stands : IsFaultIn nothing order id_twice (RepeatedComponent (at 8))
repeated_stands = inl (inl (inl (inl (refl, (0, refl, refl)))))

-- ---- and no others do

abbrev Holds : Bool → Type 0
Holds true = Unit {0}
Holds false = ⊥

holds : (b : Bool) → IsTrue b → Holds b
holds b is = subst Holds (sym is) tt

-- two entries at one place
one_place : (earlier later i : ℕ) → Holds (nat_eq earlier earlier) → Some later ≡ Some i → Some earlier ≡ Some i
    → Holds (nat_eq earlier later)
one_place earlier later i self l e = subst (λ o. Holds (is_place earlier o)) (e ∙ sym l) self

abbrev is_before : Option ℕ → Option ℕ → Bool
is_before (Some i) (Some j) = nat_lt i j
is_before _ _ = false

in_reverse : (earlier later i j : ℕ) → Some later ≡ Some i → Some earlier ≡ Some j → IsTrue (nat_lt i j)
    → Holds (nat_lt later earlier)
in_reverse earlier later i j l e is =
    subst (λ o. Holds (is_before o (Some earlier))) (sym l)
    (subst (λ o. Holds (is_before (Some i) o)) (sym e) (holds (nat_lt i j) is))

neither : ⊥ ⊎ ⊥ → ⊥
neither (inl h) = h
neither (inr h) = h

abbrev is_too_large : ValueFault → Bool
is_too_large (TooLarge s) = true
is_too_large _ = false

-- no component is named twice where kind is first
not_repeated : (s : Site) → IsFaultIn nothing order kind_first (RepeatedComponent s) → ⊥
not_repeated s (inl (inl (inl (inl h)))) = one_place 1 0 h.1.0 tt h.1.1 h.1.2
not_repeated s (inl (inl (inl (inr (inl h))))) = one_place 1 4 h.1.0 tt h.1.1 h.1.2
not_repeated s (inl (inl (inl (inr (inr h))))) = h
not_repeated s (inl (inl (inr (inl (inl h))))) = one_place 0 4 h.1.0 tt h.1.1 h.1.2
not_repeated s (inl (inl (inr (inl (inr h))))) = h
not_repeated s (inl (inl (inr (inr h)))) = neither h
not_repeated s (inl (inr (inl h))) = neither h.2
not_repeated s (inl (inr (inr (inl h)))) = neither h.2
not_repeated s (inl (inr (inr (inr (inl h))))) = elim h.2 [
  | inl pairs ↦ neither pairs
  | inr inside ↦ elim inside [ inl element ↦ neither element.2 | inr none ↦ none ]
]
not_repeated s (inl (inr (inr (inr (inr h))))) = h
not_repeated s (inr h) = subst (λ f. Holds (is_too_large f)) (sym h.0) tt

-- no component is named in reverse where id is twice
not_out_of_order : (s : Site) → IsFaultIn nothing order id_twice (OutOfOrder s) → ⊥
not_out_of_order s (inl (inl (inl (inl h)))) = in_reverse 0 0 h.1.0 h.1.2.0 h.1.1 h.1.2.1 h.1.2.2
not_out_of_order s (inl (inl (inl (inr (inl h))))) = in_reverse 0 1 h.1.0 h.1.2.0 h.1.1 h.1.2.1 h.1.2.2
not_out_of_order s (inl (inl (inl (inr (inr (inl h)))))) = in_reverse 0 4 h.1.0 h.1.2.0 h.1.1 h.1.2.1 h.1.2.2
not_out_of_order s (inl (inl (inl (inr (inr (inr h)))))) = h
not_out_of_order s (inl (inl (inr (inl (inl h))))) = in_reverse 0 1 h.1.0 h.1.2.0 h.1.1 h.1.2.1 h.1.2.2
not_out_of_order s (inl (inl (inr (inl (inr (inl h)))))) = in_reverse 0 4 h.1.0 h.1.2.0 h.1.1 h.1.2.1 h.1.2.2
not_out_of_order s (inl (inl (inr (inl (inr (inr h)))))) = h
not_out_of_order s (inl (inl (inr (inr (inl (inl h)))))) = in_reverse 1 4 h.1.0 h.1.2.0 h.1.1 h.1.2.1 h.1.2.2
not_out_of_order s (inl (inl (inr (inr (inl (inr h)))))) = h
not_out_of_order s (inl (inl (inr (inr (inr h))))) = neither h
not_out_of_order s (inl (inr (inl h))) = neither h.2
not_out_of_order s (inl (inr (inr (inl h)))) = neither h.2
not_out_of_order s (inl (inr (inr (inr (inl h))))) = neither h.2
not_out_of_order s (inl (inr (inr (inr (inr (inl h)))))) = elim h.2 [
  | inl pairs ↦ neither pairs
  | inr inside ↦ elim inside [ inl element ↦ neither element.2 | inr none ↦ none ]
]
not_out_of_order s (inl (inr (inr (inr (inr (inr h)))))) = h
not_out_of_order s (inr h) = subst (λ f. Holds (is_too_large f)) (sym h.0) tt
