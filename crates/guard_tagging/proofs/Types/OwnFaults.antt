-- A type is refused for the first of its own faults in their order, and else has the tags that the definition puts on.
use Rattle.std.proofs.Common.{◌≡◌, Bool, true, false, cond, ℕ, ◌+◌, List, [], ◌∷◌, length, Option, Some, None, Result, Ok, Err, refl, sym, ap, ◌∙◌, nat_lt}
use Rattle.std.specs.Prelude.{is_some}
use Rattle.std.specs.Option.{option_or}
use Rattle.guard_model.specs.Answer.{◌>>=◌}
use Rattle.guard_model.specs.AbstractType.{AbstractType, AbstractKind, Constraints, type_of}
use Rattle.guard_model.specs.declared.tag.Tag.{Tag}
use Rattle.guard_model.specs.Limits.{deepest_nesting}
use Rattle.guard_tagging.specs.declared.fault.TagFault.{TagFault}
use Rattle.guard_tagging.specs.declared.fault.TagFault.TheVariants.{TooDeep, SchemaTooLarge}
use Rattle.guard_tagging.specs.Faults.{first_of, fault_where, universal_tag, implicit_choice, tag_too_large, most_nodes}
use Rattle.guard_tagging.specs.Named.{unless, allowed}
use Rattle.guard_tagging.specs.inside.ReadNodes.{Node, Whole, Made, tags_of, one_where, nodes_with, whole_with}
use Rattle.guard_tagging.specs.inside.ReadTags.{in_front, read_tags}
use Rattle.guard_tagging.specs.Tagging.{is_untagged_choice}
use Rattle.guard_tagging.proofs.TagLists.WrittenTags.{put_all, put_automatic, front_is, tags_read, implicit_is}

-- ---- one step after the other

pub then_unless : {A B : Type 0} (f : Option TagFault) (x : A) (next : A → Result B TagFault) (g : Option TagFault)
    (y : B) → next x ≡ unless g y → (unless f x >>= next) ≡ unless (option_or f g) y
then_unless None x next g y e = e
then_unless (Some f) x next g y e = refl

pub then_allowed : {B : Type 0} (f : Option TagFault) (next : Unit {0} → Result B TagFault) (g : Option TagFault)
    (y : B) → next tt ≡ unless g y → (allowed f >>= next) ≡ unless (option_or f g) y
then_allowed None next g y e = e
then_allowed (Some f) next g y e = refl

then_after : {A B C : Type 0} (r : Result A TagFault) (f : A → Result B TagFault) (g : B → Result C TagFault)
    → ((r >>= f) >>= g) ≡ (r >>= λ x. f x >>= g)
then_after (Ok x) f g = refl
then_after (Err e) f g = refl

pub or_assoc : {A : Type 0} (a b c : Option A) → option_or (option_or a b) c ≡ option_or a (option_or b c)
or_assoc None b c = refl
or_assoc (Some x) b c = refl

pub or_nothing : {A : Type 0} (a : Option A) → option_or a None ≡ a
or_nothing None = refl
or_nothing (Some x) = refl

-- ---- tags

-- the faults of the tags before this type
abbrev pub tags_fault : Node → AbstractType → Option TagFault
tags_fault node t =
    option_or (universal_tag node.tags) (option_or (implicit_choice t node.tags) (tag_too_large node.tags))

-- its tags: the automatic one, those that are written, and these after them
abbrev pub all_tags : Node → List Tag → List Tag
all_tags node base = put_automatic node.automatic (put_all node.tag_default node.tags base)

pub tags_are : (node : Node) (base : List Tag) (kind : AbstractKind) (cons : Constraints)
    → tags_of node base (is_untagged_choice (type_of base kind cons))
    ≡ unless (tags_fault node (type_of base kind cons)) (all_tags node base)
unfolding tags_of
tags_are node base kind cons =
    let on_choice = is_untagged_choice (type_of base kind cons) in
    let implicit = implicit_choice (type_of base kind cons) node.tags in
    let front = in_front node.automatic in
    let replaced = is_some node.automatic in
    then_allowed (universal_tag node.tags) _ (option_or implicit (tag_too_large node.tags)) (all_tags node base)
    (ap (λ (f : Option TagFault). allowed f >>= λ _. read_tags node.tag_default replaced front node.tags base)
    (sym (implicit_is node.tags base kind cons))
    ∙ then_allowed implicit _ (tag_too_large node.tags) (all_tags node base)
    (tags_read node.tag_default replaced front node.tags base
    ∙ ap (unless (tag_too_large node.tags)) (front_is node.automatic (put_all node.tag_default node.tags base))))

-- ---- limits

abbrev pub limits_fault : Node → ℕ → ℕ → Option TagFault
limits_fault node nesting nodes =
    option_or (fault_where (nat_lt deepest_nesting nesting) (TooDeep node.site))
    (fault_where (nat_lt most_nodes nodes) (SchemaTooLarge node.site))

two_tests : {A : Type 0} (deep large : Bool) (f g : TagFault) (n : ℕ) (make : ℕ → A)
    → cond deep (Err f) (cond large (Err g) (Ok n) >>= λ k. Ok (make k))
    ≡ unless (option_or (fault_where deep f) (fault_where large g)) (make n)
two_tests true large f g n make = refl
two_tests false true f g n make = refl
two_tests false false f g n make = refl

pub limits_are : (node : Node) (tags : List Tag) (inside before : ℕ)
    → whole_with node tags inside before ≡ unless (limits_fault node (length tags + inside)
    (before + one_where node.counts))
    (record { tags = tags; nesting = length tags + inside; nodes = before + one_where node.counts })
unfolding whole_with nodes_with
limits_are node tags inside before =
    two_tests (nat_lt deepest_nesting (length tags + inside)) (nat_lt most_nodes (before + one_where node.counts))
    (TooDeep node.site) (SchemaTooLarge node.site) (before + one_where node.counts)
    (λ n. record { tags = tags; nesting = length tags + inside; nodes = n })

-- ---- a type of one node: its tags, its list, its limits, its numbers

abbrev pub node_fault : Node → AbstractType → Option TagFault → ℕ → ℕ → Option TagFault → Option TagFault
node_fault node t list nesting nodes numbers =
    first_of (universal_tag node.tags ∷ implicit_choice t node.tags ∷ tag_too_large node.tags ∷ list
    ∷ fault_where (nat_lt deepest_nesting nesting) (TooDeep node.site)
    ∷ fault_where (nat_lt most_nodes nodes) (SchemaTooLarge node.site) ∷ numbers ∷ [])

flat : (u i l list d g numbers : Option TagFault)
    → option_or (option_or u (option_or i l)) (option_or list (option_or (option_or d g) numbers))
    ≡ first_of (u ∷ i ∷ l ∷ list ∷ d ∷ g ∷ numbers ∷ [])
flat (Some f) i l list d g numbers = refl
flat None (Some f) l list d g numbers = refl
flat None None (Some f) list d g numbers = refl
flat None None None (Some f) d g numbers = refl
flat None None None None (Some f) g numbers = refl
flat None None None None None (Some f) numbers = refl
flat None None None None None None None = refl
flat None None None None None None (Some f) = refl

module _ (node : Node) (base : List Tag) (kind : AbstractKind) (cons : Constraints) (list numbers : Option TagFault)
    (inside before : ℕ) where
  abbrev all : List Tag
  all = all_tags node base

  abbrev pub whole_made : Whole
  whole_made = record { tags = all; nesting = length all + inside; nodes = before + one_where node.counts }

  -- the steps of each kind of type
  pub node_made : (check : Result (Unit {0}) TagFault) (last : Whole → Result Made TagFault) (made : Made)
      → check ≡ allowed list → last whole_made ≡ unless numbers made
      → (tags_of node base (is_untagged_choice (type_of base kind cons)) >>= λ tags. check >>= λ _.
      whole_with node tags inside before >>= last)
      ≡ unless (node_fault node (type_of base kind cons) list (length all + inside)
      (before + one_where node.counts) numbers) made
  node_made check last made checked ended =
      let t = type_of base kind cons in
      let nodes = before + one_where node.counts in
      ap (λ (r : Result (List Tag) TagFault). r >>= λ tags. check >>= λ _. whole_with node tags inside before >>= last)
      (tags_are node base kind cons)
      ∙ then_unless (tags_fault node t) all _
      (option_or list (option_or (limits_fault node (length all + inside) nodes) numbers)) made
      (ap (λ (r : Result (Unit {0}) TagFault). r >>= λ _. whole_with node all inside before >>= last) checked
      ∙ then_allowed list _ (option_or (limits_fault node (length all + inside) nodes) numbers) made
      (ap (λ (r : Result Whole TagFault). r >>= last) (limits_are node all inside before)
      ∙ then_unless (limits_fault node (length all + inside) nodes) whole_made last numbers made ended))
      ∙ ap (λ (f : Option TagFault). unless f made)
      (flat (universal_tag node.tags) (implicit_choice t node.tags) (tag_too_large node.tags) list
      (fault_where (nat_lt deepest_nesting (length all + inside)) (TooDeep node.site))
      (fault_where (nat_lt most_nodes nodes) (SchemaTooLarge node.site)) numbers)

-- the last step, after the others as one
pub whole_then : (node : Node) (base : List Tag) (on_choice : Bool) (check : Result (Unit {0}) TagFault)
    (inside before : ℕ) (last : Whole → Result Made TagFault)
    → ((tags_of node base on_choice >>= λ tags. check >>= λ _. whole_with node tags inside before) >>= last)
    ≡ (tags_of node base on_choice >>= λ tags. check >>= λ _. whole_with node tags inside before >>= last)
whole_then node base on_choice check inside before last =
    then_after (tags_of node base on_choice) (λ tags. check >>= λ _. whole_with node tags inside before) last
    ∙ (λ i. tags_of node base on_choice >>= λ tags. then_after check (λ _. whole_with node tags inside before) last i)
