-- The tags of a type as they are read are those that the definition puts on.
use Rattle.std.proofs.Common.{◌≡◌, Bool, true, false, cond, not, ◌&&◌, suc, ◌-◌, List, [], ◌∷◌, ◌++◌, length, Option, Some, None, Result, Ok, Err, refl, sym, ap, ◌∙◌, append_assoc, arith, nat_lt}
use Rattle.std.specs.Prelude.{is_some}
use Rattle.std.specs.Option.{option_or}
use Rattle.std.specs.List.{slice_get}
use Rattle.guard_model.specs.Answer.{◌>>=◌}
use Rattle.guard_model.specs.declared.tag.Tag.{Tag}
use Rattle.guard_model.specs.AbstractType as type
use Rattle.guard_model.specs.AbstractType.{AbstractType, AbstractKind, Components, Constraints, type_of}
use Rattle.guard_model.specs.Limits.{greatest_tag_number}
use Rattle.guard_tagcheck.specs.Limits.{nesting, is_tagged}
use Rattle.guard_lexer.specs.Items.{number_value}
use Rattle.guard_syntax.specs.Trees.{WrittenTag}
use Rattle.guard_syntax.specs.declared.tree.TagDefault.{TagDefault}
use Rattle.guard_syntax.specs.declared.tree.TagDefault.TheVariants as by_default
use Rattle.guard_syntax.specs.declared.tree.TagMode.{TagMode}
use Rattle.guard_syntax.specs.declared.tree.TagMode.TheVariants as mode
use Rattle.guard_tagging.specs.declared.fault.TagFault.{TagFault}
use Rattle.guard_tagging.specs.declared.fault.TagFault.TheVariants.{ImplicitChoice, TagTooLarge}
use Rattle.guard_tagging.specs.Tagging.{tag_of, is_untagged_choice, is_explicit, put_tag, with_tag, with_tags, automatic_tag, with_automatic_tag}
use Rattle.guard_tagging.specs.Faults.{fault_where, is_implicit, implicit_choice, tag_too_large, with_tag_there}
use Rattle.guard_tagging.specs.Named.{unless}
use Rattle.guard_tagging.specs.inside.ReadTags.{implicit_at, implicit_last, in_front, read_tags, kept, unless_replaced}

-- ---- a tag on a list of tags

abbrev pub put : Bool → Tag → List Tag → List Tag
put true tag tags = tag ∷ tags
put false tag [] = tag ∷ []
put false tag (outermost ∷ tags) = tag ∷ tags

abbrev pub put_all : TagDefault → List WrittenTag → List Tag → List Tag
put_all default [] base = base
put_all default (w ∷ ws) base = put (is_explicit w.mode default false) (tag_of w) (put_all default ws base)

-- a type that has a tag, or is a CHOICE, has a tag with one more
put_tagged : (explicit : Bool) (tag : Tag) (tags : List Tag) (kind : AbstractKind)
    → is_tagged (put explicit tag tags) kind ≡ true
put_tagged true tag tags kind = refl
put_tagged false tag [] kind = refl
put_tagged false tag (outermost ∷ tags) kind = refl

pub all_tagged : (default : TagDefault) (ws : List WrittenTag) (base : List Tag) (kind : AbstractKind)
    → is_tagged base kind ≡ true → is_tagged (put_all default ws base) kind ≡ true
all_tagged default [] base kind h = h
all_tagged default (w ∷ ws) base kind h =
    put_tagged (is_explicit w.mode default false) (tag_of w) (put_all default ws base) kind

put_nonempty : (explicit : Bool) (tag : Tag) (tags : List Tag) (kind : AbstractKind) (cons : Constraints)
    → is_untagged_choice (type_of (put explicit tag tags) kind cons) ≡ false
put_nonempty true tag tags kind cons = refl
put_nonempty false tag [] kind cons = refl
put_nonempty false tag (t ∷ tags) kind cons = refl

-- ---- one tag: without the word IMPLICIT it is explicit on an untagged CHOICE

explicit_there : (m : Option TagMode) (default : TagDefault) → (is_implicit m && true) ≡ false
    → is_explicit m default true ≡ true
explicit_there (Some mode.Explicit) default h = refl
explicit_there (Some mode.Implicit) default h = absurd cc
explicit_there None by_default.Explicit h = refl
explicit_there None by_default.Implicit h = refl
explicit_there None by_default.Automatic h = refl

-- on no tags a tag is the first
first_put : (explicit : Bool) (tag : Tag) → tag ∷ [] ≡ put explicit tag []
first_put true tag = refl
first_put false tag = refl

put_on : (explicit : Bool) (tag outermost : Tag) (tags : List Tag) (kind : AbstractKind) (cons : Constraints)
    → put_tag explicit tag (type_of (outermost ∷ tags) kind cons)
    ≡ type_of (put explicit tag (outermost ∷ tags)) kind cons
put_on true tag outermost tags kind cons = refl
put_on false tag outermost tags kind cons = refl

module _ (default : TagDefault) (w : WrittenTag) where
  one_on_choice : (cs : Components) (cons : Constraints) → (is_implicit w.mode && true) ≡ false
      → with_tag default w (type_of [] (type.choice cs) cons)
      ≡ type_of (put (is_explicit w.mode default false) (tag_of w) []) (type.choice cs) cons
  one_on_choice cs cons lawful =
      ap (λ (explicit : Bool). put_tag explicit (tag_of w) (type_of [] (type.choice cs) cons))
      (explicit_there w.mode default lawful)
      ∙ ap (λ (tags : List Tag). type_of tags (type.choice cs) cons)
      (first_put (is_explicit w.mode default false) (tag_of w))

  one_put : (tags : List Tag) (kind : AbstractKind) (cons : Constraints) → is_tagged tags kind ≡ true
      → (is_implicit w.mode && is_untagged_choice (type_of tags kind cons)) ≡ false
      → with_tag default w (type_of tags kind cons)
      ≡ type_of (put (is_explicit w.mode default false) (tag_of w) tags) kind cons
  one_put (outermost ∷ tags) kind cons tagged lawful =
      put_on (is_explicit w.mode default false) (tag_of w) outermost tags kind cons
  one_put [] (type.choice cs) cons tagged lawful = one_on_choice cs cons lawful
  one_put [] _ cons tagged lawful = absurd cc

-- ---- all that are written

pub no_fault : (wrong : Bool) (f : TagFault) → fault_where wrong f ≡ None → wrong ≡ false
no_fault true f h = absurd cc
no_fault false f h = refl

and_false : (a b : Bool) → b ≡ false → (a && b) ≡ false
and_false true b h = h
and_false false b h = refl

pub with_tags_is : (default : TagDefault) (ws : List WrittenTag) (base : List Tag) (kind : AbstractKind)
    (cons : Constraints) → is_tagged base kind ≡ true → implicit_choice (type_of base kind cons) ws ≡ None
    → with_tags default ws (type_of base kind cons) ≡ type_of (put_all default ws base) kind cons
with_tags_is default [] base kind cons tagged lawful = refl
with_tags_is default (w ∷ []) base kind cons tagged lawful =
    one_put default w base kind cons tagged
    (no_fault (is_implicit w.mode && is_untagged_choice (type_of base kind cons)) (ImplicitChoice w.site) lawful)
with_tags_is default (w ∷ v ∷ ws) base kind cons tagged lawful =
    let inner = put_all default (v ∷ ws) base in
    ap (with_tag default w) (with_tags_is default (v ∷ ws) base kind cons tagged lawful)
    ∙ one_put default w inner kind cons (all_tagged default (v ∷ ws) base kind tagged)
    (and_false (is_implicit w.mode) (is_untagged_choice (type_of inner kind cons))
    (put_nonempty (is_explicit v.mode default false) (tag_of v) (put_all default ws base) kind cons))

-- ---- the automatic tag

abbrev pub put_automatic : Option Tag → List Tag → List Tag
put_automatic None tags = tags
put_automatic (Some tag) tags = put false tag tags

abbrev pub with_automatic : Option Tag → AbstractType → AbstractType
with_automatic None t = t
with_automatic (Some tag) t = with_automatic_tag tag t

pub front_is : (automatic : Option Tag) (tags : List Tag)
    → in_front automatic ++ kept (is_some automatic) tags ≡ put_automatic automatic tags
front_is None tags = refl
front_is (Some tag) [] = refl
front_is (Some tag) (outermost ∷ tags) = refl

pub with_automatic_is : (automatic : Option Tag) (tags : List Tag) (kind : AbstractKind) (cons : Constraints)
    → is_tagged tags kind ≡ true
    → with_automatic automatic (type_of tags kind cons) ≡ type_of (put_automatic automatic tags) kind cons
with_automatic_is None tags kind cons tagged = refl
with_automatic_is (Some tag) (outermost ∷ tags) kind cons tagged = refl
with_automatic_is (Some tag) [] (type.choice cs) cons tagged = refl
with_automatic_is (Some tag) [] _ cons tagged = absurd cc

-- its number doesn't matter for the nesting
same_nesting : (explicit : Bool) (a b : Tag) (t : AbstractType)
    → nesting (put_tag explicit a t) ≡ nesting (put_tag explicit b t)
same_nesting true a b (type_of tags kind cons) = refl
same_nesting false a b (type_of [] kind cons) = refl
same_nesting false a b (type_of (outermost ∷ tags) kind cons) = refl

pub nesting_there : (automatic : Option Tag) (t : AbstractType)
    → nesting (with_tag_there (is_some automatic) t) ≡ nesting (with_automatic automatic t)
nesting_there None t = refl
nesting_there (Some tag) t = same_nesting (is_untagged_choice t) (automatic_tag 0) tag t

-- ---- reading from the outside in

after_replacing : (explicit : Bool) (front : List Tag) (tag : Tag) (tags : List Tag)
    → front ++ kept (not explicit) tags ≡ front ++ kept true (put explicit tag tags)
after_replacing true front tag tags = refl
after_replacing false front tag [] = refl
after_replacing false front tag (t ∷ tags) = refl

after_wrapping : (explicit : Bool) (front : List Tag) (tag : Tag) (tags : List Tag)
    → (front ++ tag ∷ []) ++ kept (not explicit) tags ≡ front ++ put explicit tag tags
after_wrapping true front tag tags = append_assoc front (tag ∷ []) tags
after_wrapping false front tag [] = append_assoc front (tag ∷ []) []
after_wrapping false front tag (t ∷ tags) = append_assoc front (tag ∷ []) tags

one_step : (replaced explicit : Bool) (front : List Tag) (tag : Tag) (tags : List Tag)
    → unless_replaced replaced front tag ++ kept (not explicit) tags ≡ front ++ kept replaced (put explicit tag tags)
one_step true explicit front tag tags = after_replacing explicit front tag tags
one_step false explicit front tag tags = after_wrapping explicit front tag tags

too_large : (large : Bool) (f : TagFault) (tag : Tag) (rest : Option TagFault) (next : Tag → Result (List Tag) TagFault)
    (tags : List Tag)
    → next tag ≡ unless rest tags → (cond large (Err f) (Ok tag) >>= next) ≡ unless (option_or
    (fault_where large f) rest) tags
too_large true f tag rest next tags e = refl
too_large false f tag rest next tags e = e

pub tags_read : (default : TagDefault) (replaced : Bool) (front : List Tag) (ws : List WrittenTag) (base : List Tag)
    → read_tags default replaced front ws base
    ≡ unless (tag_too_large ws) (front ++ kept replaced (put_all default ws base))
unfolding read_tags
tags_read default replaced front [] base = refl
tags_read default replaced front (w ∷ ws) base =
    let explicit = is_explicit w.mode default false in
    let inner = put_all default ws base in
    too_large (nat_lt greatest_tag_number (number_value w.number)) (TagTooLarge w.site) (tag_of w) (tag_too_large ws)
    (λ tag. read_tags default (not explicit) (unless_replaced replaced front tag) ws base)
    (front ++ kept replaced (put explicit (tag_of w) inner))
    (tags_read default (not explicit) (unless_replaced replaced front (tag_of w)) ws base
    ∙ ap (unless (tag_too_large ws)) (one_step replaced explicit front (tag_of w) inner))

-- ---- IMPLICIT on a CHOICE without tags

and-comm : (a b : Bool) → (a && b) ≡ (b && a)
and-comm true true = refl
and-comm true false = refl
and-comm false true = refl
and-comm false false = refl

last_of_more : (w v : WrittenTag) (ws : List WrittenTag)
    → slice_get (w ∷ v ∷ ws) (length (w ∷ v ∷ ws) - 1) ≡ slice_get (v ∷ ws) (length (v ∷ ws) - 1)
last_of_more w v ws =
    let e : length (w ∷ v ∷ ws) - 1 ≡ suc (length (v ∷ ws) - 1) = omega arith in
    ap (slice_get (w ∷ v ∷ ws)) e

pub implicit_is : (ws : List WrittenTag) (base : List Tag) (kind : AbstractKind) (cons : Constraints)
    → implicit_choice (type_of base kind cons) ws ≡ implicit_last (is_untagged_choice (type_of base kind cons)) ws
implicit_is [] base kind cons = refl
implicit_is (w ∷ []) base kind cons =
    ap (λ (b : Bool). fault_where b (ImplicitChoice w.site))
    (and-comm (is_implicit w.mode) (is_untagged_choice (type_of base kind cons)))
implicit_is (w ∷ v ∷ ws) base kind cons =
    implicit_is (v ∷ ws) base kind cons ∙ ap (implicit_at (is_untagged_choice (type_of base kind cons))) (sym
    (last_of_more w v ws))
