-- The bare type that a written type has by its tags is made up of types that are written there, which have no
-- constraints yet, and of types that names mean, under other tags perhaps. It has the kind that is written, its
-- components are those that are written, and its tags and its lists keep the limits.
use Rattle.std.proofs.Common.{◌≡◌, ℕ, suc, ◌+◌, ◌≤◌, Bool, true, false, ◌&&◌, List, [], ◌∷◌}
use Rattle.std.proofs.Common.{Option, Some, None, option_map, is_some, IsTrue, refl, sym, ap, subst, ◌∙◌, arith}
use Rattle.std.specs.Prelude.{nat_le, nat_lt}
use Rattle.std.proofs.lemmas.Bool.{and_parts, and_from}
use Rattle.std.proofs.lemmas.Bool.Decides.{nat_tests}
use Rattle.guard_model.specs.AbstractType as type
use Rattle.guard_model.specs.AbstractType.{AbstractType, AbstractKind, Components, Constraints, type_of}
use Rattle.guard_model.specs.Components.{components_in}
use Rattle.guard_model.specs.Counts.{component_count}
use Rattle.guard_model.specs.Kinds.{kind_of}
use Rattle.guard_model.specs.Limits.{most_components, greatest_tag_number}
use Rattle.guard_model.specs.declared.site.Site.{Site}
use Rattle.guard_model.specs.declared.tag.Tag.{Tag}
use Rattle.guard_tagcheck.specs.Limits.{is_tagged, are_low}
use Rattle.guard_der.specs.Sound.{is_proper, is_proper_kind, are_proper_constraints}
use Rattle.guard_syntax.specs.declared.tree.Collection.{Collection}
use Rattle.guard_syntax.specs.declared.tree.Collection.TheVariants as collection
use Rattle.guard_syntax.specs.declared.tree.PlainType.{PlainType}
use Rattle.guard_syntax.specs.declared.tree.PlainType.TheVariants as plain_type
use Rattle.guard_syntax.specs.declared.tree.TagDefault.{TagDefault}
use Rattle.guard_syntax.specs.Trees.{WrittenTag, WrittenConstraint, WrittenType, type_node, WrittenBase, plain, numbers}
use Rattle.guard_syntax.specs.Trees.{named_bits, enumerated, structure, choice, of_type, named_type, WrittenComponents}
use Rattle.guard_syntax.specs.Trees.{no_components, component, components_from, WrittenAlternatives, no_alternatives}
use Rattle.guard_syntax.specs.Trees.{alternative}
use Rattle.guard_tagging.specs.declared.fault.TagFault.{TagFault}
use Rattle.guard_tagging.specs.KnownNames.{IsKnown, IsKnownInside, AreKnown, AreKnownOthers}
use Rattle.guard_tagging.specs.Faults.{fault_where, nodes, nodes_within, nodes_put_in, universal_tag, implicit_choice}
use Rattle.guard_tagging.specs.Faults.{tag_too_large, own_fault, taken_fault, is_kind_of, is_of_kind}
use Rattle.guard_tagging.specs.Faults.{duplicate_name, component_names}
use Rattle.guard_tagging.specs.Faults.{alternative_names, too_many, fault_in, fault_in_parts, fault_in_components}
use Rattle.guard_tagging.specs.Faults.{fault_in_alternatives}
use Rattle.guard_tagging.specs.Tagging.{is_explicit, is_untagged_choice, put_tag, tag_of, with_tags, automatic_tag}
use Rattle.guard_tagging.specs.Tagging.{with_automatic_tag, with_automatic_tags}
use Rattle.guard_tagging.specs.Types.{Meaning, Surroundings, meant, universal, collection_number, plain_number}
use Rattle.guard_tagging.specs.Types.{plain_kind, structure_kind, of_kind, presence_of, is_automatic, is_automatic_base}
use Rattle.guard_tagging.specs.Types.{is_automatic_list, is_automatic_choice, tagged_where, parts_of, join, denoted}
use Rattle.guard_tagging.specs.Types.{denoted_base, denoted_components, denoted_alternatives}
use Rattle.guard_tagging.proofs.Lists.AutomaticTags.{tagged_count}
use Rattle.guard_constraints.specs.Visible.{Visible}
use Rattle.guard_schema.specs.Finishing.{count_written, count_put_in, count_within, count_of_meant}
use Rattle.guard_schema.specs.inside.Ready.{constraints_on, has_tags, IsOfName, IsMadeUp, IsMadeUpBase}
use Rattle.guard_schema.specs.inside.Ready.{AreMadeUp, IsPutIn, IsPutInBase, AreMadeUpOthers}
use Rattle.guard_schema.proofs.Filled.TakenKinds.{kind_put, kind_tagged, parts_there, of_kind_there, parts_in}
use Rattle.guard_schema.proofs.Filled.TakenKinds.{not_plain}
use Rattle.guard_schema.proofs.Filled.TakenKinds.{not_numbers, not_bits, not_enumerated, not_choice, not_of}
use Rattle.guard_schema.proofs.Filled.TakenKinds.{neither, TakesRightly, IsListed, takes_rightly, listed_so}

-- ---- how many components it has

pub count_join : (xs ys : Components) → component_count (join xs ys) ≡ component_count xs + component_count ys
count_join type.no_components ys = zero_more (component_count ys)
  where
    zero_more : (n : ℕ) → n ≡ 0 + n
    zero_more n = omega arith
count_join (type.component name t presence xs) ys =
    one_more (component_count (join xs ys)) (component_count xs) (component_count ys) (count_join xs ys)
  where
    one_more : (a b c : ℕ) → a ≡ b + c → suc a ≡ suc b + c
    one_more a b c e = omega (arith, e)

module _ (names : Visible) where
  mutual
    pub counted : (cs : WrittenComponents) (bare : Components) → AreMadeUp names cs bare
        → component_count bare ≡ count_written names cs
    counted no_components bare e = ap component_count e
    counted (component site name t presence cs) bare (u, rest, e, inside, others) =
        ap component_count e ∙ ap suc (counted cs rest others)
    counted (components_from site t cs) bare (taken, rest, e, from, others) =
        ap component_count e ∙ count_join taken rest ∙ ap (λ n. n + component_count rest) (taken_counted t taken from)
        ∙ ap (λ n. count_put_in names t + n) (counted cs rest others)

    pub taken_counted : (t : WrittenType) (taken : Components) → IsPutIn names t taken
        → component_count taken ≡ count_put_in names t
    taken_counted (type_node site tags base cs) taken h = within_counted base taken h

    within_counted : (base : WrittenBase) (taken : Components) → IsPutInBase names base taken
        → component_count taken ≡ count_within names base
    within_counted (structure k cs) taken h = counted cs taken h
    within_counted (named_type site name) taken (t, e, is) = ap component_count is ∙ sym (ap count_of_meant e)
    within_counted base taken h = absurd h

-- ---- the bare type under other tags

module _ (names : Visible) where
  retagged : (w : WrittenType) (t u : AbstractType) → kind_of u ≡ kind_of t → constraints_on u ≡ constraints_on t
      → IsTrue (has_tags u) → IsMadeUp names w t → IsMadeUp names w u
  retagged (type_node site tags base cs) t u e f tagged (old, h) = (
    tagged,
    subst (λ (k : AbstractKind). IsMadeUpBase names base k (constraints_on u)) (sym e)
        (subst (λ (c : Constraints). IsMadeUpBase names base (kind_of t) c) (sym f) h),
  )

-- ---- tags

at_most : (n most : ℕ) → nat_lt most n ≡ false → nat_le n most ≡ true
at_most n most h = grind (arith, nat_tests)

not_wrong : (wrong : Bool) (f : TagFault) → fault_where wrong f ≡ None → wrong ≡ false
not_wrong true f h = absurd cc
not_wrong false f h = refl

cons_put : (explicit : Bool) (tag : Tag) (t : AbstractType) → constraints_on (put_tag explicit tag t) ≡ constraints_on t
cons_put true tag (type_of tags kind cons) = refl
cons_put false tag (type_of [] kind cons) = refl
cons_put false tag (type_of (outermost ∷ tags) kind cons) = refl

cons_tagged : (default : TagDefault) (ws : List WrittenTag) (t : AbstractType)
    → constraints_on (with_tags default ws t) ≡ constraints_on t
cons_tagged default [] t = refl
cons_tagged default (w ∷ ws) t =
    cons_put (is_explicit w.mode default (is_untagged_choice (with_tags default ws t))) (tag_of w)
    (with_tags default ws t) ∙ cons_tagged default ws t

tags_put : (explicit : Bool) (tag : Tag) (t : AbstractType) → nat_le tag.number greatest_tag_number ≡ true
    → IsTrue (has_tags t) → IsTrue (has_tags (put_tag explicit tag t))
tags_put true tag (type_of tags kind cons) low h =
    and_from (nat_le tag.number greatest_tag_number) (are_low tags) low
    (and_parts (is_tagged tags kind) (are_low tags) h).1
tags_put false tag (type_of [] kind cons) low h = h
tags_put false tag (type_of (outermost ∷ tags) kind cons) low h =
    and_from (nat_le tag.number greatest_tag_number) (are_low tags) low
    (and_parts (nat_le outermost.number greatest_tag_number) (are_low tags) h).1

tags_with : (default : TagDefault) (ws : List WrittenTag) (t : AbstractType) → tag_too_large ws ≡ None
    → IsTrue (has_tags t) → IsTrue (has_tags (with_tags default ws t))
tags_with default [] t none h = h
tags_with default (w ∷ ws) t none h =
    let n = neither (fault_where (nat_lt greatest_tag_number (tag_of w).number) _) (tag_too_large ws) none in
    tags_put (is_explicit w.mode default (is_untagged_choice (with_tags default ws t))) (tag_of w)
    (with_tags default ws t)
    (at_most (tag_of w).number greatest_tag_number (not_wrong (nat_lt greatest_tag_number (tag_of w).number) _ n.0))
    (tags_with default ws t n.1 h)

plain_tags : (p : PlainType) → IsTrue (has_tags
    (type_of (universal (plain_number p)) (plain_kind p) type.no_constraints)) × IsTrue (is_proper_kind (plain_kind p))
plain_tags plain_type.Boolean = (refl, refl)
plain_tags p = (refl, refl)

collection_tags : (k : Collection) (kind : AbstractKind)
    → IsTrue (has_tags (type_of (universal (collection_number k)) kind type.no_constraints))
collection_tags collection.Sequence kind = refl
collection_tags collection.Set kind = refl

sound_tags : (t : AbstractType) → IsTrue (is_proper t) → IsTrue (has_tags t)
sound_tags (type_of tags kind cons) h =
    let p = and_parts (is_tagged tags kind && are_low tags && are_proper_constraints cons (type_of tags kind cons))
    (is_proper_kind kind) h in
    (and_parts (is_tagged tags kind && are_low tags) (are_proper_constraints cons (type_of tags kind cons)) p.0).0

-- ---- the bare type is made up so

module _ (names : Visible) (around : Surroundings)
    (agree : (name : List ℕ) → names.types name ≡ option_map (λ m. m.ty) (around.meaning name))
    (proper : (name : List ℕ) (u : AbstractType) → names.types name ≡ Some u → IsTrue (is_proper u)) where
  pub retagged_by : (w : WrittenType) (explicit : Bool) (tag : Tag) (t : AbstractType)
      → nat_le tag.number greatest_tag_number ≡ true → IsMadeUp names w t → IsMadeUp names w (put_tag explicit tag t)
  retagged_by (type_node site tags base cs) explicit tag t low h =
      retagged names (type_node site tags base cs) t (put_tag explicit tag t) (kind_put explicit tag t)
      (cons_put explicit tag t) (tags_put explicit tag t low h.0) h

  low_number : (n count : ℕ) → n + count ≤ 64 → nat_le n greatest_tag_number ≡ true
  low_number n count l = grind (arith, nat_tests)

  numbered_up : (k : Collection) (n : ℕ) (cs : WrittenComponents) (bare : Components) → n + component_count bare ≤ 64
      → TakesRightly around k true cs
      → AreMadeUp names cs bare → AreMadeUp names cs (with_automatic_tags n bare)
  numbered_up k n no_components bare l r e = ap (with_automatic_tags n) e
  numbered_up k n (component site name t presence cs) bare l r (u, rest, e, inside, others) =
      let few : n + suc (component_count rest) ≤ 64 = subst (λ (c : Components). n + component_count c ≤ 64) e l in (
        with_automatic_tag (automatic_tag n) u,
        with_automatic_tags (suc n) rest,
        ap (with_automatic_tags n) e,
        retagged_by t (is_untagged_choice u) (automatic_tag n) u (low_number n (suc (component_count rest)) few) inside,
        numbered_up k (suc n) cs rest (omega (arith, few)) r others,
      )
  numbered_up k n (components_from site t cs) bare l r h = absurd (true_false r.1)
    where
      true_false : true ≡ false → ⊥
      true_false e = cc

  others_numbered_up : (n : ℕ) (others : WrittenAlternatives) (bare : Components) → n + component_count bare ≤ 64
      → AreMadeUpOthers names others bare
      → AreMadeUpOthers names others (with_automatic_tags n bare)
  others_numbered_up n no_alternatives bare l e = ap (with_automatic_tags n) e
  others_numbered_up n (alternative site name t others) bare l (u, rest, e, inside, parts) =
      let few : n + suc (component_count rest) ≤ 64 = subst (λ (c : Components). n + component_count c ≤ 64) e l in (
        with_automatic_tag (automatic_tag n) u,
        with_automatic_tags (suc n) rest,
        ap (with_automatic_tags n) e,
        retagged_by t (is_untagged_choice u) (automatic_tag n) u (low_number n (suc (component_count rest)) few) inside,
        others_numbered_up (suc n) others rest (omega (arith, few)) parts,
      )

  at_most_64 : (n : ℕ) → nat_le n 64 ≡ true → 0 + n ≤ 64
  at_most_64 n h = grind (arith, nat_tests)

  tagged_up : (automatic : Bool) (k : Collection) (cs : WrittenComponents) (bare : Components)
      → nat_le (component_count bare) most_components ≡ true → TakesRightly around k automatic cs
      → AreMadeUp names cs bare → AreMadeUp names cs (tagged_where automatic bare)
  tagged_up true k cs bare few r h = numbered_up k 0 cs bare (at_most_64 (component_count bare) few) r h
  tagged_up false k cs bare few r h = h

  others_tagged_up : (automatic : Bool) (others : WrittenAlternatives) (bare : Components)
      → nat_le (component_count bare) most_components ≡ true
      → AreMadeUpOthers names others bare → AreMadeUpOthers names others (tagged_where automatic bare)
  others_tagged_up true others bare few h = others_numbered_up 0 others bare (at_most_64 (component_count bare) few) h
  others_tagged_up false others bare few h = h

  few_parts : (site : Site) (cs : Components) → too_many site cs ≡ None
      → nat_le (component_count cs) most_components ≡ true
  few_parts site cs h = at_most (component_count cs) most_components
      (not_wrong (nat_lt most_components (component_count cs)) _ h)

  few_tagged : (automatic : Bool) (cs : Components) → nat_le (component_count cs) most_components ≡ true
      → nat_le (component_count (tagged_where automatic cs)) most_components ≡ true
  few_tagged automatic cs h = ap (λ (n : ℕ). nat_le n most_components) (tagged_count automatic cs) ∙ h

  few_components : (k : Collection) (cs : WrittenComponents) → IsListed around (structure k cs)
      → nat_le (component_count (denoted_components around cs)) most_components ≡ true
  few_components k cs (site, h) =
      few_parts site (denoted_components around cs)
      (neither (duplicate_name (component_names around cs)) _
      (neither (taken_fault around k (is_automatic_list around.tag_default cs) cs) _ h).1).1

  few_alternatives : (others : WrittenAlternatives) → IsListed around (choice others)
      → nat_le (component_count (denoted_alternatives around others)) most_components ≡ true
  few_alternatives others (site, h) = few_parts site (denoted_alternatives around others)
      (neither (duplicate_name (alternative_names others)) _ h).1

  -- the tags that are written are low
  no_large_tag : (automatic : Bool) (count : ℕ) (site : Site) (tags : List WrittenTag) (base : WrittenBase)
      (cons : List WrittenConstraint)
      → own_fault around automatic count (type_node site tags base cons) ≡ None → tag_too_large tags ≡ None
  no_large_tag automatic count site tags base cons h =
      let a = neither (universal_tag tags) _ h in
      let b = neither (implicit_choice (denoted_base around base) tags) _ a.1 in
      (neither (tag_too_large tags) _ b.1).0

  -- what COMPONENTS OF a name takes in
  meant_taken : (name : List ℕ) (m : Option Meaning) → around.meaning name ≡ m → IsTrue (is_some m)
      → (t : AbstractType) × (names.types name ≡ Some t) × (components_in (kind_of (meant m)) ≡ parts_of t)
  meant_taken name (Some m) e known = (m.ty, agree name ∙ ap (option_map (λ m. m.ty)) e, sym (parts_there m.ty))
  meant_taken name None e known = absurd cc

  -- what is said of a type and its kind
  abbrev Base : WrittenBase → AbstractType → Type 0
  Base base t = IsTrue (has_tags t) × IsMadeUpBase names base (kind_of t) (constraints_on t)

  named_up : (name : List ℕ) (m : Option Meaning) → around.meaning name ≡ m → IsTrue (is_some m)
      → IsTrue (has_tags (meant m)) × IsOfName names name (kind_of (meant m)) (constraints_on (meant m))
  named_up name None e known = absurd cc
  named_up name (Some m) e known =
      let is : names.types name ≡ Some m.ty = agree name ∙ ap (option_map (λ m. m.ty)) e in
      (sound_tags m.ty (proper name m.ty is), (m.ty, is, refl, refl))

  mutual
    pub made_up : (automatic : Bool) (before count : ℕ) (t : WrittenType) → IsKnown around t
        → fault_in around automatic before count t ≡ None → IsMadeUp names t (denoted around t)
    made_up automatic before count (type_node site tags base cons) known h =
        let n = neither (fault_in_parts around before base)
        (own_fault around automatic count (type_node site tags base cons)) h in
        let b = base_up before base known n.0 (listed_so around automatic count site tags base cons n.1) in
        retagged names (type_node site tags base cons) (denoted_base around base)
        (with_tags around.tag_default tags (denoted_base around base))
        (kind_tagged around.tag_default tags (denoted_base around base))
        (cons_tagged around.tag_default tags (denoted_base around base))
        (tags_with around.tag_default tags (denoted_base around base)
        (no_large_tag automatic count site tags base cons n.1) b.0) b

    base_up : (before : ℕ) (base : WrittenBase) → IsKnownInside around base
        → fault_in_parts around before base ≡ None → IsListed around base → Base base (denoted_base around base)
    base_up before (plain p) known h l = ((plain_tags p).0, (refl, (plain_tags p).1))
    base_up before (structure k cs) known h l =
        let automatic = is_automatic_list around.tag_default cs in
        let few = few_components k cs l in
        let right = takes_rightly around k cs l in (
          collection_tags k (structure_kind k (tagged_where automatic (denoted_components around cs))),
          (
            refl,
            (
              tagged_where automatic (denoted_components around cs),
              refl,
              few_tagged automatic (denoted_components around cs) few,
              tagged_up automatic k cs (denoted_components around cs) few right
                  (components_up k automatic before cs known h right),
            ),
          ),
        )
    base_up before (choice others) known h l =
        let automatic = is_automatic_choice around.tag_default others in
        let few = few_alternatives others l in (
          refl,
          (
            refl,
            (
              tagged_where automatic (denoted_alternatives around others),
              refl,
              few_tagged automatic (denoted_alternatives around others) few,
              others_tagged_up automatic others (denoted_alternatives around others) few
                  (others_up automatic before others known h),
            ),
          ),
        )
    base_up before (of_type k c t) known h l = (
      collection_tags k (of_kind k (denoted around t)),
      (refl, (denoted around t, refl, made_up false before (before + nodes (denoted around t)) t known h)),
    )
    base_up before (named_type site name) known h l = named_up name (around.meaning name) refl known
    base_up before base known h l = (refl, (refl, refl))

    components_up : (k : Collection) (automatic : Bool) (before : ℕ) (cs : WrittenComponents) → AreKnown around cs
        → fault_in_components k automatic around before cs ≡ None
        → TakesRightly around k automatic cs → AreMadeUp names cs (denoted_components around cs)
    components_up k automatic before no_components known h r = refl
    components_up k automatic before (component site name t presence cs) known h r =
        let n = neither (fault_in around automatic before (before + nodes (denoted around t)) t) _ h in (
          denoted around t,
          denoted_components around cs,
          refl,
          made_up automatic before (before + nodes (denoted around t)) t known.0 n.0,
          components_up k automatic (before + nodes (denoted around t)) cs known.1 n.1 r,
        )
    components_up k automatic before (components_from site t cs) known h r =
        let n = neither (fault_in around false before (before + nodes_within (denoted around t)) t) _ h in (
          parts_of (denoted around t),
          denoted_components around cs,
          refl,
          put_in_up k before (before + nodes_within (denoted around t)) t known.0 n.0 r.0 r.2,
          components_up k automatic (before + nodes_put_in around k automatic t) cs known.1 n.1 r.3,
        )

    put_in_up : (k : Collection) (before count : ℕ) (t : WrittenType) → IsKnown around t
        → fault_in around false before count t ≡ None → is_of_kind k (denoted around t) ≡ true → is_automatic around t ≡ false
        → IsPutIn names t (parts_of (denoted around t))
    put_in_up k before count (type_node site tags base cons) known h of auto =
        let n = neither (fault_in_parts around before base)
        (own_fault around false count (type_node site tags base cons)) h in
        let same = kind_tagged around.tag_default tags (denoted_base around base) in
        let kind : is_kind_of k (kind_of (denoted_base around base)) ≡ true =
        ap (is_kind_of k) (sym same) ∙ sym (of_kind_there k
        (with_tags around.tag_default tags (denoted_base around base))) ∙ of in
        subst (λ (taken : Components). IsPutInBase names base taken)
        (ap components_in (sym same) ∙ sym
        (parts_there (with_tags around.tag_default tags (denoted_base around base))))
        (put_in_base_up k before base known n.0 (listed_so around false count site tags base cons n.1) kind auto)

    put_in_base_up : (k : Collection) (before : ℕ) (base : WrittenBase) → IsKnownInside around base
        → fault_in_parts around before base ≡ None → IsListed around base → is_kind_of k (kind_of (denoted_base around base)) ≡ true
        → is_automatic_base around base ≡ false
        → IsPutInBase names base (components_in (kind_of (denoted_base around base)))
    put_in_base_up k before (plain p) known h l of auto = absurd (not_plain k p of)
    put_in_base_up k before (numbers ns) known h l of auto = absurd (not_numbers k _ of)
    put_in_base_up k before (named_bits ns) known h l of auto = absurd (not_bits k _ of)
    put_in_base_up k before (enumerated items) known h l of auto = absurd (not_enumerated k _ of)
    put_in_base_up k before (structure j cs) known h l of auto =
        subst (λ (taken : Components). AreMadeUp names cs taken)
        (sym (parts_in j (tagged_where (is_automatic_list around.tag_default cs) (denoted_components around cs))
        ∙ ap (λ (b : Bool). tagged_where b (denoted_components around cs)) auto))
        (components_up j (is_automatic_list around.tag_default cs) before cs known h (takes_rightly around j cs l))
    put_in_base_up k before (choice others) known h l of auto = absurd (not_choice k _ of)
    put_in_base_up k before (of_type j c t) known h l of auto = absurd (not_of k j (denoted around t) of)
    put_in_base_up k before (named_type site name) known h l of auto = meant_taken name (around.meaning name) refl known

    others_up : (automatic : Bool) (before : ℕ) (others : WrittenAlternatives) → AreKnownOthers around others
        → fault_in_alternatives automatic around before others ≡ None
        → AreMadeUpOthers names others (denoted_alternatives around others)
    others_up automatic before no_alternatives known h = refl
    others_up automatic before (alternative site name t others) known h =
        let n = neither (fault_in around automatic before (before + nodes (denoted around t)) t) _ h in (
          denoted around t,
          denoted_alternatives around others,
          refl,
          made_up automatic before (before + nodes (denoted around t)) t known.0 n.0,
          others_up automatic (before + nodes (denoted around t)) others known.1 n.1,
        )
