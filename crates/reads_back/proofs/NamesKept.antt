-- What a definition fills into a type, its constraints and its defaults, changes no name.
use Rattle.std.proofs.Common.{◌≡◌, ℕ, zero, suc, [], refl, sym, ap, ◌∙◌}
use Rattle.guard_model.specs.AbstractType as type
use Rattle.guard_model.specs.AbstractType.{AbstractType, AbstractKind, AbstractPresence, Components, type_of}
use Rattle.guard_syntax.specs.Trees.{WrittenType, type_node, WrittenBase}
use Rattle.guard_syntax.specs.Trees.{structure, choice, of_type, WrittenComponents, no_components}
use Rattle.guard_syntax.specs.Trees.{component}
use Rattle.guard_syntax.specs.Trees.{components_from, WrittenAlternatives, no_alternatives, alternative}
use Rattle.guard_tagging.specs.Types.{join}
use Rattle.guard_constraints.specs.Visible.{Visible}
use Rattle.guard_schema.specs.Finishing.{count_put_in}
use Rattle.guard_schema.specs.Unfinished.{first_ones, other_ones, with_first, without_default, with_parts, with_element}
use Rattle.guard_schema.specs.Unfinished.{unfinished, unfinished_kind, unfinished_list, unfinished_from}
use Rattle.guard_schema.specs.Unfinished.{unfinished_from_base, unfinished_others}
use Rattle.reads_back.proofs.NamesAlone.{stripped, stripped_kind, stripped_parts}

-- ---- components

join_stripped : (xs ys : Components) → stripped_parts (join xs ys) ≡ join (stripped_parts xs) (stripped_parts ys)
join_stripped type.no_components ys = refl
join_stripped (type.component name t presence xs) ys =
    ap (type.component name (stripped t) type.mandatory) (join_stripped xs ys)

parts_again : (n : ℕ) (cs : Components) → join (first_ones n cs) (other_ones n cs) ≡ cs
parts_again zero cs = refl
parts_again (suc n) type.no_components = refl
parts_again (suc n) (type.component name t presence cs) = ap (type.component name t presence) (parts_again n cs)

first_kept : (change : AbstractType → AbstractType) (forget : AbstractPresence → AbstractPresence)
    (others : Components → Components) → ((t : AbstractType) → stripped (change t) ≡ stripped t)
    → ((cs : Components) → stripped_parts (others cs) ≡ stripped_parts cs)
    → (cs : Components) → stripped_parts (with_first change forget others cs) ≡ stripped_parts cs
first_kept change forget others here more type.no_components = refl
first_kept change forget others here more (type.component name t presence cs) =
    ap (λ (u : AbstractType). type.component name u type.mandatory (stripped_parts (others cs))) (here t)
    ∙ ap (type.component name (stripped t) type.mandatory) (more cs)

-- ---- kinds

parts_kept : (change : Components → Components) → ((cs : Components) → stripped_parts (change cs) ≡ stripped_parts cs)
    → (kind : AbstractKind) → stripped_kind (with_parts change kind) ≡ stripped_kind kind
parts_kept change kept (type.sequence cs) = ap type.sequence (kept cs)
parts_kept change kept (type.set cs) = ap type.set (kept cs)
parts_kept change kept (type.choice cs) = ap type.choice (kept cs)
parts_kept change kept kind = refl

element_kept : (change : AbstractType → AbstractType) → ((t : AbstractType) → stripped (change t) ≡ stripped t)
    → (kind : AbstractKind) → stripped_kind (with_element change kind) ≡ stripped_kind kind
element_kept change kept (type.sequence_of t) = ap type.sequence_of (kept t)
element_kept change kept (type.set_of t) = ap type.set_of (kept t)
element_kept change kept kind = refl

-- ---- types

module _ (names : Visible) where
  mutual
    pub type_kept : (tree : WrittenType) (t : AbstractType) → stripped (unfinished names tree t) ≡ stripped t
    type_kept (type_node site tags base cs) (type_of ts kind cons) =
        ap (λ (k : AbstractKind). type_of [] k type.no_constraints) (kind_kept base kind)

    kind_kept : (base : WrittenBase) (kind : AbstractKind)
        → stripped_kind (unfinished_kind names base kind) ≡ stripped_kind kind
    kind_kept (structure k cs) kind = parts_kept (unfinished_list names cs) (λ parts. list_kept cs parts) kind
    kind_kept (choice others) kind =
        parts_kept (unfinished_others names others) (λ parts. others_kept others parts) kind
    kind_kept (of_type k c t) kind = element_kept (unfinished names t) (λ u. type_kept t u) kind
    kind_kept base kind = refl

    list_kept : (cs : WrittenComponents) (parts : Components)
        → stripped_parts (unfinished_list names cs parts) ≡ stripped_parts parts
    list_kept no_components parts = refl
    list_kept (component site name t presence cs) parts =
        first_kept (unfinished names t) (without_default presence) (unfinished_list names cs) (λ u. type_kept t u)
        (λ others. list_kept cs others) parts
    list_kept (components_from site t cs) parts =
        let n = count_put_in names t in
        let first = unfinished_from names t (first_ones n parts) in
        let others = unfinished_list names cs (other_ones n parts) in
        join_stripped first others
        ∙ ap (λ (x : Components). join x (stripped_parts others)) (from_kept t (first_ones n parts))
        ∙ ap (join (stripped_parts (first_ones n parts))) (list_kept cs (other_ones n parts))
        ∙ sym (join_stripped (first_ones n parts) (other_ones n parts))
        ∙ ap stripped_parts (parts_again n parts)

    from_kept : (t : WrittenType) (parts : Components)
        → stripped_parts (unfinished_from names t parts) ≡ stripped_parts parts
    from_kept (type_node site tags base cs) parts = from_base_kept base parts

    from_base_kept : (base : WrittenBase) (parts : Components)
        → stripped_parts (unfinished_from_base names base parts) ≡ stripped_parts parts
    from_base_kept (structure k cs) parts = list_kept cs parts
    from_base_kept base parts = refl

    others_kept : (others : WrittenAlternatives) (parts : Components)
        → stripped_parts (unfinished_others names others parts) ≡ stripped_parts parts
    others_kept no_alternatives parts = refl
    others_kept (alternative site name t others) parts =
        first_kept (unfinished names t) (λ presence. presence) (unfinished_others names others) (λ u. type_kept t u)
        (λ more. others_kept others more) parts
