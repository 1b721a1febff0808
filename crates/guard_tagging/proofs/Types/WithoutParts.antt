-- Types without components: what is read is what the definition says, or the first fault of the type.
use Rattle.std.proofs.Common.{◌≡◌, Bool, true, false, cond, ℕ, ◌+◌, ◌<◌, ◌≤◌, List, [], ◌∷◌, length, map, Option, Some, None, Result, Ok, Err, refl, sym, ap, ◌∙◌, arith, nat_lt, ◌⊎◌, inl, inr}
use Rattle.std.specs.Prelude.{min, is_some}
use Rattle.std.specs.Option.{option_or}
use Rattle.std.proofs.lemmas.Bool.{cases_lt, lt-ltb}
use Rattle.guard_model.specs.Answer.{◌>>=◌}
use Rattle.guard_model.specs.AbstractType as type
use Rattle.guard_model.specs.AbstractType.{AbstractType, AbstractKind, Constraints, type_of, no_constraints}
use Rattle.guard_model.specs.inside.Each.{each}
use Rattle.guard_model.specs.declared.site.Site.{Site}
use Rattle.guard_model.specs.declared.tag.Tag.{Tag}
use Rattle.guard_model.specs.Limits.{deepest_nesting}
use Rattle.guard_tagcheck.specs.Limits.{nesting, nesting_inside, is_tagged}
use Rattle.guard_syntax.specs.declared.tree.PlainType.{PlainType}
use Rattle.guard_syntax.specs.declared.tree.Collection.{Collection}
use Rattle.guard_syntax.specs.declared.tree.Collection.TheVariants as collection
use Rattle.guard_syntax.specs.Trees.{WrittenTag, WrittenType, WrittenBase, WrittenConstraint, WrittenNamed, WrittenItem, WrittenOfConstraint, type_node, plain, numbers, named_bits, enumerated, of_type}
use Rattle.guard_tagging.specs.declared.fault.TagFault.{TagFault}
use Rattle.guard_tagging.specs.declared.fault.TagFault.TheVariants.{TooDeep, SchemaTooLarge}
use Rattle.guard_tagging.specs.Faults as faults
use Rattle.guard_tagging.specs.Faults.{Placed, first_of, fault_where, universal_tag, implicit_choice, tag_too_large, most_nodes, nodes, nodes_inside, list_fault, number_fault, is_bit, first_outside, number_too_large, duplicate_number, with_tag_there, own_fault}
use Rattle.guard_tagging.specs.Enumerations.{numbered, named_number}
use Rattle.guard_tagging.specs.Named.{unless, allowed}
use Rattle.guard_tagging.specs.inside.ReadBases as make
use Rattle.guard_tagging.specs.inside.ReadItems.{read_named, read_bits, read_items}
use Rattle.guard_tagging.specs.inside.ReadNames as reading
use Rattle.guard_tagging.specs.inside.ReadNodes.{Node, Whole, Made, one_where, tags_of, nodes_with, whole_with, made_from, made_with}
use Rattle.guard_tagging.specs.Spelled.{AreNamed, AreItems}
use Rattle.guard_tagging.specs.Tagging.{is_untagged_choice, with_tags}
use Rattle.guard_tagging.specs.Types.{Surroundings, denoted, denoted_base, universal, plain_number, plain_kind, collection_number, of_kind}
use Rattle.guard_tagging.proofs.Numbers.WrittenNumbers.{named_places_are, item_places_are, named_read, bits_read, items_are}
use Rattle.guard_tagging.proofs.TagLists.WrittenTags.{put_all, put_automatic, with_automatic, with_automatic_is, nesting_there, all_tagged, with_tags_is}
use Rattle.guard_tagging.proofs.Types.OwnFaults.{node_fault, whole_made, node_made, whole_then}

abbrev pub node_at : Surroundings → Site → List WrittenTag → Bool → Option Tag → Node
node_at around site tags counts own = record { site = site; tags = tags; tag_default = around.tag_default; counts = counts; automatic = own }

-- the types that a type counts for, which the type after COMPONENTS OF doesn't do itself
abbrev pub counted : Bool → AbstractType → ℕ
counted counts (type_of tags kind cons) = nodes_inside kind + one_where counts

-- what is made of a type, which gets this automatic tag or none
abbrev pub made_of : Bool → Option Tag → ℕ → AbstractType → Made
made_of counts own before t = record { ty = with_automatic own t; nesting = nesting (with_automatic own t); nodes = before + counted counts t }

plus_none : (a : ℕ) → a ≡ a + 0
plus_none a = omega arith

-- the last step, which makes something of what was read
then_made : {A B : Type 0} (r : Result A TagFault) (f : Option TagFault) (x : A) (make : A → B) → r ≡ unless f x
    → (r >>= λ y. Ok (make y)) ≡ unless f (make x)
then_made {A} r None x make e = ap (λ (q : Result A TagFault). q >>= λ y. Ok (make y)) e
then_made {A} r (Some f) x make e = ap (λ (q : Result A TagFault). q >>= λ y. Ok (make y)) e

plus_assoc : (a b c : ℕ) → (a + b) + c ≡ a + (b + c)
plus_assoc a b c = omega arith

-- after an earlier fault, what follows doesn't matter
refused_either : (u : Option TagFault) (f : TagFault) (x y : Made)
    → unless (option_or u (Some f)) x ≡ unless (option_or u (Some f)) y
refused_either None f x y = refl
refused_either (Some g) f x y = refl

module _ (around : Surroundings) (site : Site) (tags : List WrittenTag) (base : WrittenBase)
    (cons : List WrittenConstraint) (counts : Bool) (own : Option Tag) (before : ℕ)
    (base_tags : List Tag) (kind : AbstractKind) (base_cons : Constraints)
    (base_is : denoted_base around base ≡ type_of base_tags kind base_cons)
    (tagged : is_tagged base_tags kind ≡ true) where
  abbrev tree : WrittenType
  tree = type_node site tags base cons

  abbrev node : Node
  node = node_at around site tags counts own

  abbrev all : List Tag
  all = put_automatic own (put_all around.tag_default tags base_tags)

  -- where IMPLICIT isn't on an untagged CHOICE
  module _ (lawful : implicit_choice (type_of base_tags kind base_cons) tags ≡ None) where
    denoted_is : denoted around (type_node site tags base cons)
        ≡ type_of (put_all around.tag_default tags base_tags) kind base_cons
    denoted_is =
        ap (with_tags around.tag_default tags) base_is
        ∙ with_tags_is around.tag_default tags base_tags kind base_cons tagged lawful

    standing_is : with_automatic own (denoted around (type_node site tags base cons))
        ≡ type_of (put_automatic own (put_all around.tag_default tags base_tags)) kind base_cons
    standing_is =
        ap (with_automatic own) denoted_is
        ∙ with_automatic_is own (put_all around.tag_default tags base_tags) kind base_cons
        (all_tagged around.tag_default tags base_tags kind tagged)

    own_is : (list large : Option TagFault) (count : ℕ) → list_fault around site base ≡ list → number_fault base ≡ large
        → own_fault around (is_some own) count tree
        ≡ node_fault node (type_of base_tags kind base_cons) list (length all + nesting_inside kind) count large
    own_is list large count l n =
        let deep : nesting (with_tag_there (is_some own) (denoted around tree)) ≡ length all + nesting_inside kind =
        nesting_there own (denoted around tree) ∙ ap nesting standing_is in
        λ i. first_of (universal_tag tags ∷ implicit_choice (base_is i) tags ∷ tag_too_large tags ∷ l i
        ∷ fault_where (nat_lt deepest_nesting (deep i)) (TooDeep site)
        ∷ fault_where (nat_lt most_nodes count) (SchemaTooLarge site) ∷ n i ∷ [])

    lawful_is : (list large : Option TagFault) (inside many : ℕ) → list_fault around site base ≡ list
        → number_fault base ≡ large
        → inside ≡ nesting_inside kind → many ≡ before + nodes_inside kind
        → unless (node_fault node (type_of base_tags kind base_cons) list (length all + inside)
        (many + one_where counts) large)
        (made_from (whole_made node base_tags kind base_cons list large inside many) kind base_cons)
        ≡ unless (own_fault around (is_some own) (before + counted counts (denoted around tree)) tree)
        (made_of counts own before (denoted around tree))
    lawful_is list large inside many l n deep much =
        let count : many + one_where counts ≡ before + counted counts (denoted around tree) =
        ap (λ (k : ℕ). k + one_where counts) much ∙ plus_assoc before (nodes_inside kind) (one_where counts)
        ∙ ap (λ (t : AbstractType). before + counted counts t) (sym denoted_is) in
        let fault : node_fault node (type_of base_tags kind base_cons) list (length all + inside)
        (many + one_where counts) large ≡ own_fault around (is_some own) (before
        + counted counts (denoted around tree)) tree =
        (λ i. node_fault node (type_of base_tags kind base_cons) list (length all + deep i) (count i) large)
        ∙ sym (own_is list large (before + counted counts (denoted around tree)) l n) in
        let made : made_from (whole_made node base_tags kind base_cons list large inside many) kind base_cons
        ≡ made_of counts own before (denoted around tree) =
        (λ i. record { ty = type_of all kind base_cons; nesting = length all + deep i; nodes = count i })
        ∙ (λ i. record { ty = sym standing_is i; nesting = nesting (sym standing_is i); nodes = before + counted counts (denoted around tree) }) in
        λ i. unless (fault i) (made i)

  -- where so many types come before the node itself
  pub node_is : (list large : Option TagFault) (inside many : ℕ) → list_fault around site base ≡ list
      → number_fault base ≡ large
      → inside ≡ nesting_inside kind → many ≡ before + nodes_inside kind
      → unless (node_fault (node_at around site tags counts own) (type_of base_tags kind base_cons) list
      (length (put_automatic own (put_all around.tag_default tags base_tags)) + inside) (many + one_where counts) large)
      (made_from (whole_made
      (node_at around site tags counts own) base_tags kind base_cons list large inside many) kind base_cons)
      ≡ unless (own_fault around (is_some own)
      (before + counted counts (denoted around (type_node site tags base cons))) (type_node site tags base cons))
      (made_of counts own before (denoted around (type_node site tags base cons)))
  node_is list large inside many l n deep much = by (implicit_choice (type_of base_tags kind base_cons) tags) refl
    where
      by : (f : Option TagFault) → implicit_choice (type_of base_tags kind base_cons) tags ≡ f
          → unless (node_fault node (type_of base_tags kind base_cons) list (length all + inside)
          (many + one_where counts) large)
          (made_from (whole_made node base_tags kind base_cons list large inside many) kind base_cons)
          ≡ unless (own_fault around (is_some own) (before + counted counts (denoted around tree)) tree)
          (made_of counts own before (denoted around tree))
      by None lawful = lawful_is lawful list large inside many l n deep much
      by (Some f) wrong =
          let there : implicit_choice (denoted_base around base) tags ≡ Some f =
          ap (λ (t : AbstractType). implicit_choice t tags) base_is ∙ wrong in
          let rest =
          first_of (tag_too_large tags ∷ list
          ∷ fault_where (nat_lt deepest_nesting (length all + inside)) (TooDeep site)
          ∷ fault_where (nat_lt most_nodes (many + one_where counts)) (SchemaTooLarge site) ∷ large ∷ []) in
          let others =
          first_of (tag_too_large tags ∷ list_fault around site base
          ∷ fault_where (nat_lt deepest_nesting (nesting (with_tag_there (is_some own) (denoted around tree))))
          (TooDeep site)
          ∷ fault_where (nat_lt most_nodes (before + counted counts (denoted around tree))) (SchemaTooLarge site)
          ∷ number_fault base ∷ []) in
          let made = made_from (whole_made node base_tags kind base_cons list large inside many) kind base_cons in
          let asked = made_of counts own before (denoted around tree) in
          ap (λ (o : Option TagFault). unless (option_or (universal_tag tags) (option_or o rest)) made) wrong
          ∙ refused_either (universal_tag tags) f made asked
          ∙ sym (λ i. unless (option_or (universal_tag tags) (option_or (there i) others)) asked)

-- ---- types that are written with words alone

pub plain_is : (around : Surroundings) (site : Site) (tags : List WrittenTag) (p : PlainType)
    (cons : List WrittenConstraint) (counts : Bool) (own : Option Tag) (before : ℕ)
    → nesting_inside (plain_kind p) ≡ 0 → nodes_inside (plain_kind p) ≡ 0
    → make.plain_type (node_at around site tags counts own) p before
    ≡ unless (own_fault around (is_some own)
    (before + counted counts (denoted around (type_node site tags (plain p) cons)))
    (type_node site tags (plain p) cons))
    (made_of counts own before (denoted around (type_node site tags (plain p) cons)))
unfolding make.plain_type
plain_is around site tags p cons counts own before deep many =
    node_made (node_at around site tags counts own) (universal (plain_number p))
    (plain_kind p) no_constraints None None 0 before (Ok tt) (λ whole. Ok (made_with whole (plain_kind p))) _ refl refl
    ∙ node_is around site tags (plain p) cons counts own before (universal (plain_number p))
    (plain_kind p) no_constraints refl refl None None 0 before refl refl (sym deep)
    (let e : before ≡ before + nodes_inside (plain_kind p) = omega (arith, many) in e)

-- ---- INTEGER, BIT STRING and ENUMERATED

pub integer_is : (around : Surroundings) (site : Site) (tags : List WrittenTag) (ns : List WrittenNamed)
    (cons : List WrittenConstraint) (counts : Bool) (own : Option Tag) (before : ℕ) → AreNamed ns
    → make.integer_type (node_at around site tags counts own) ns before
    ≡ unless (own_fault around (is_some own)
    (before + counted counts (denoted around (type_node site tags (numbers ns) cons)))
    (type_node site tags (numbers ns) cons))
    (made_of counts own before (denoted around (type_node site tags (numbers ns) cons)))
unfolding make.integer_type make.numbered_whole
integer_is around site tags ns cons counts own before spelled =
    let kind = type.integer (map named_number ns) in
    let list = duplicate_number (map faults.named_place ns) in
    let large = number_too_large (map faults.named_place ns) in
    whole_then (node_at around site tags counts own) (universal 2) false
    (make.differ (map reading.named_place ns)) 0 before
    (λ whole. each read_named ns >>= λ all. Ok (made_with whole (type.integer all)))
    ∙ node_made (node_at around site tags counts own) (universal 2) kind no_constraints list large 0 before
    (make.differ (map reading.named_place ns))
    (λ whole. each read_named ns >>= λ all. Ok (made_with whole (type.integer all)))
    (made_with (whole_made (node_at around site tags counts own)
    (universal 2) kind no_constraints list large 0 before) kind)
    (ap (λ (ps : List Placed). allowed (duplicate_number ps)) (named_places_are ns spelled))
    (then_made (each read_named ns) large (map named_number ns)
    (λ all. made_with (whole_made (node_at around site tags counts own)
    (universal 2) kind no_constraints list large 0 before) (type.integer all)) (named_read ns spelled))
    ∙ node_is around site tags (numbers ns) cons counts own before
    (universal 2) kind no_constraints refl refl list large 0 before refl refl refl (plus_none before)

pub bits_is : (around : Surroundings) (site : Site) (tags : List WrittenTag) (bs : List WrittenNamed)
    (cons : List WrittenConstraint) (counts : Bool) (own : Option Tag) (before : ℕ) → AreNamed bs
    → make.bits_type (node_at around site tags counts own) bs before
    ≡ unless (own_fault around (is_some own)
    (before + counted counts (denoted around (type_node site tags (named_bits bs) cons)))
    (type_node site tags (named_bits bs) cons))
    (made_of counts own before (denoted around (type_node site tags (named_bits bs) cons)))
unfolding make.bits_type make.numbered_whole
bits_is around site tags bs cons counts own before spelled =
    let kind = type.bit_string (map named_number bs) in
    let list = duplicate_number (map faults.named_place bs) in
    let large = first_outside is_bit (map faults.named_place bs) in
    whole_then (node_at around site tags counts own) (universal 3) false
    (make.differ (map reading.named_place bs)) 0 before
    (λ whole. read_bits bs >>= λ all. Ok (made_with whole (type.bit_string all)))
    ∙ node_made (node_at around site tags counts own) (universal 3) kind no_constraints list large 0 before
    (make.differ (map reading.named_place bs))
    (λ whole. read_bits bs >>= λ all. Ok (made_with whole (type.bit_string all)))
    (made_with (whole_made (node_at around site tags counts own)
    (universal 3) kind no_constraints list large 0 before) kind)
    (ap (λ (ps : List Placed). allowed (duplicate_number ps)) (named_places_are bs spelled))
    (then_made (read_bits bs) large (map named_number bs)
    (λ all. made_with (whole_made (node_at around site tags counts own)
    (universal 3) kind no_constraints list large 0 before) (type.bit_string all)) (bits_read bs spelled))
    ∙ node_is around site tags (named_bits bs) cons counts own before
    (universal 3) kind no_constraints refl refl list large 0 before refl refl refl (plus_none before)

pub enumerated_is : (around : Surroundings) (site : Site) (tags : List WrittenTag) (items : List WrittenItem)
    (cons : List WrittenConstraint) (counts : Bool) (own : Option Tag) (before : ℕ) → AreItems items
    → make.enumerated_type (node_at around site tags counts own) items before
    ≡ unless (own_fault around (is_some own)
    (before + counted counts (denoted around (type_node site tags (enumerated items) cons)))
    (type_node site tags (enumerated items) cons))
    (made_of counts own before (denoted around (type_node site tags (enumerated items) cons)))
unfolding make.enumerated_type make.numbered_whole
enumerated_is around site tags items cons counts own before spelled =
    let kind = type.enumerated (numbered items) in
    let list = duplicate_number (map faults.item_place items) in
    let large = number_too_large (map faults.item_place items) in
    whole_then (node_at around site tags counts own) (universal 10) false
    (make.differ (map reading.item_place items)) 0 before
    (λ whole. read_items items >>= λ all. Ok (made_with whole (type.enumerated all)))
    ∙ node_made (node_at around site tags counts own) (universal 10) kind no_constraints list large 0 before
    (make.differ (map reading.item_place items))
    (λ whole. read_items items >>= λ all. Ok (made_with whole (type.enumerated all)))
    (made_with (whole_made (node_at around site tags counts own)
    (universal 10) kind no_constraints list large 0 before) kind)
    (ap (λ (ps : List Placed). allowed (duplicate_number ps)) (item_places_are items spelled))
    (then_made (read_items items) large (numbered items)
    (λ all. made_with (whole_made (node_at around site tags counts own)
    (universal 10) kind no_constraints list large 0 before) (type.enumerated all)) (items_are items spelled))
    ∙ node_is around site tags (enumerated items) cons counts own before
    (universal 10) kind no_constraints refl refl list large 0 before refl refl refl (plus_none before)

of_nesting : (k : Collection) (t : AbstractType) → nesting t ≡ nesting_inside (of_kind k t)
of_nesting collection.Sequence t = refl
of_nesting collection.Set t = refl

pub counted_is : (t : AbstractType) → counted true t ≡ nodes t
counted_is (type_of tags kind cons) = omega arith

of_nodes : (k : Collection) (t : AbstractType) (before : ℕ)
    → before + counted true t ≡ before + nodes_inside (of_kind k t)
of_nodes collection.Sequence t before = ap (λ (n : ℕ). before + n) (counted_is t)
of_nodes collection.Set t before = ap (λ (n : ℕ). before + n) (counted_is t)

-- ---- SEQUENCE OF and SET OF, over what was read of the element

pub of_is : (around : Surroundings) (site : Site) (tags : List WrittenTag) (k : Collection)
    (c : Option WrittenOfConstraint) (t : WrittenType) (cons : List WrittenConstraint) (counts : Bool)
    (own : Option Tag) (before : ℕ)
    → make.of_type (node_at around site tags counts own) k (made_of true None before (denoted around t))
    ≡ unless (own_fault around (is_some own)
    (before + counted counts (denoted around (type_node site tags (of_type k c t) cons)))
    (type_node site tags (of_type k c t) cons))
    (made_of counts own before (denoted around (type_node site tags (of_type k c t) cons)))
unfolding make.of_type
of_is around site tags k c t cons counts own before =
    let element = denoted around t in
    node_made (node_at around site tags counts own) (universal (collection_number k))
    (of_kind k element) no_constraints None None (nesting element) (before + counted true element) (Ok tt)
    (λ whole. Ok (made_with whole (of_kind k element))) _ refl refl
    ∙ node_is around site tags (of_type k c t) cons counts own before (universal (collection_number k))
    (of_kind k element) no_constraints refl refl None None (nesting element) (before + counted true element) refl refl
    (of_nesting k element) (of_nodes k element before)

-- ---- names of types: what is too deep or too many for sure need not be known further

deep_is : (node : Node) (all : List Tag) (inside before : ℕ) → deepest_nesting < length all + inside
    → whole_with node all inside before ≡ Err (TooDeep node.site)
unfolding whole_with
deep_is node all inside before lt = rw (lt-ltb _ _ lt) refl

pub deep_capped : (node : Node) (all : List Tag) (inside top before : ℕ) → 33 ≤ top
    → whole_with node all (min inside top) before ≡ whole_with node all inside before
deep_capped node all inside top before high = by (cases_lt top inside) where
  by : (top < inside) ⊎ (inside ≤ top) → whole_with node all (min inside top) before ≡ whole_with node all inside before
  by (inl lt) =
      deep_is node all (min inside top) before (omega (arith, high, lt))
      ∙ sym (deep_is node all inside before (omega (arith, high, lt)))
  by (inr le) = ap (λ (n : ℕ). whole_with node all n before) (omega (arith, le))

many_is : (node : Node) (before : ℕ) → most_nodes < before + one_where node.counts
    → nodes_with node before ≡ Err (SchemaTooLarge node.site)
unfolding nodes_with
many_is node before lt = rw (lt-ltb _ _ lt) refl

many_enough : (node : Node) (before : ℕ) → (100001 < before) ⊎ (before ≤ 100001)
    → nodes_with node (min before 100001) ≡ nodes_with node before
many_enough node before (inl lt) =
    many_is node (min before 100001) (omega arith) ∙ sym (many_is node before (omega arith))
many_enough node before (inr le) = ap (nodes_with node) (omega arith)

with_nodes : (node : Node) (all : List Tag) (inside a b : ℕ) → nodes_with node a ≡ nodes_with node b
    → whole_with node all inside a ≡ whole_with node all inside b
unfolding whole_with
with_nodes node all inside a b e =
    ap (λ (r : Result ℕ TagFault). cond (nat_lt deepest_nesting (length all + inside)) (Err (TooDeep node.site))
    (r >>= λ n. Ok (record { tags = all; nesting = length all + inside; nodes = n }))) e

pub same_steps : {A B : Type 0} (r : Result A TagFault) (f g : A → Result B TagFault) → ((x : A) → f x ≡ g x)
    → (r >>= f) ≡ (r >>= g)
same_steps (Ok x) f g h = h x
same_steps (Err e) f g h = refl

pub referred_is : (around : Surroundings) (site : Site) (tags : List WrittenTag) (name : WrittenBase)
    (cons : List WrittenConstraint) (counts : Bool) (own : Option Tag) (before : ℕ)
    (base_tags : List Tag) (kind : AbstractKind) (base_cons : Constraints)
    → denoted_base around name ≡ type_of base_tags kind base_cons → is_tagged base_tags kind ≡ true
    → list_fault around site name ≡ None → number_fault name ≡ None
    → make.referred_to (node_at around site tags counts own) (type_of base_tags kind base_cons) before
    ≡ unless (own_fault around (is_some own) (before + counted counts (denoted around (type_node site tags name cons)))
    (type_node site tags name cons)) (made_of counts own before (denoted around (type_node site tags name cons)))
referred_is around site tags name cons counts own before base_tags kind base_cons is tagged l n =
    let node = node_at around site tags counts own in
    let last = λ (whole : Whole). Ok (made_from whole kind base_cons) in
    same_steps (tags_of node base_tags (is_untagged_choice (type_of base_tags kind base_cons))) _ _
    (λ all. ap (λ (r : Result Whole TagFault). r >>= last)
    (deep_capped node all (nesting_inside kind) 33 (min (before + nodes_inside kind) 100001) (omega arith)
    ∙ with_nodes node all (nesting_inside kind) (min (before + nodes_inside kind) 100001) (before + nodes_inside kind)
    (many_enough node (before + nodes_inside kind) (cases_lt 100001 (before + nodes_inside kind)))))
    ∙ node_made node base_tags kind base_cons None None (nesting_inside kind) (before + nodes_inside kind)
    (Ok tt) last _ refl refl
    ∙ node_is around site tags name cons counts own before base_tags kind base_cons is tagged None None
    (nesting_inside kind) (before + nodes_inside kind) l n refl refl
