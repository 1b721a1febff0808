-- A clash's path goes no deeper than the type is nested.
use Rattle.std.proofs.Common.{◌≡◌, ℕ, suc, ◌+◌, ◌<◌, ◌≤◌, Bool, true, false, List, length, Some, inl, inr, ap, arith}
use Rattle.std.specs.Prelude.{IsTrue}
use Rattle.std.proofs.lemmas.Bool.{and_parts}
use Rattle.std.proofs.Math.Nat.{le-max_left, le-max_right}
use Rattle.guard_model.specs.declared.tag.Tag.{Tag}
use Rattle.guard_model.specs.declared.site.Step.TheVariants.{Component, Element}
use Rattle.guard_model.specs.AbstractType as type
use Rattle.guard_model.specs.AbstractType.{AbstractType, AbstractKind, Components, type_of, no_components, component}
use Rattle.guard_tagcheck.specs.Limits.{is_tagged, is_formed, has_few_components, keeps_limits, parts_keep_limits, components_keep_limits, nesting, nesting_inside, deepest}
use Rattle.guard_tagcheck.specs.Distinct.{AbstractClash}
use Rattle.guard_tagcheck.specs.Search.{first_clash, clash_of_kind, clash_inside, first_pair, here, inside}
use Rattle.std.specs.Option.{option_or}
use Rattle.guard_model.proofs.Options.{option_or_some}
use Rattle.guard_tagcheck.proofs.PartLimits.{tag_there}
use Rattle.guard_tagcheck.proofs.Options.{inside_some, here_some}

path_length : (c d : AbstractClash) → c ≡ d → length c.path ≡ length d.path
path_length c d e = ap (λ (c : AbstractClash). length c.path) e

list_paths : (in_sequence : Bool) (cs : Components) (c : AbstractClash) → ((d : AbstractClash) → clash_inside 0 cs ≡ Some d → length d.path ≤ deepest cs)
    → option_or (here (first_pair in_sequence 0 cs)) (clash_inside 0 cs) ≡ Some c → length c.path ≤ deepest cs
list_paths in_sequence cs c inner e = elim (option_or_some (here (first_pair in_sequence 0 cs)) (clash_inside 0 cs) c e) [
  | inl pair ↦ omega (arith, path_length c _ (here_some (first_pair in_sequence 0 cs) c pair).2)
  | inr (none, deeper) ↦ inner c deeper
]

mutual
  pub type_paths : (t : AbstractType) (c : AbstractClash) → IsTrue (keeps_limits t) → first_clash t ≡ Some c → length c.path < nesting t
  type_paths (type_of tags kind cons) c limits e =
      let l = and_parts (is_formed tags kind) (parts_keep_limits kind) limits in
      kind_paths tags kind c (and_parts (is_tagged tags kind) (has_few_components tags kind) l.0).0 l.1 e

  kind_paths : (tags : List Tag) (kind : AbstractKind) (c : AbstractClash) → IsTrue (is_tagged tags kind) → IsTrue (parts_keep_limits kind) → clash_of_kind kind ≡ Some c → length c.path < length tags + nesting_inside kind
  kind_paths tags (type.sequence cs) c tagged limits e = omega (arith, tag_there tags tagged, list_paths true cs c (inside_paths 0 cs limits) e)
  kind_paths tags (type.set cs) c tagged limits e = omega (arith, tag_there tags tagged, list_paths false cs c (inside_paths 0 cs limits) e)
  kind_paths tags (type.choice cs) c tagged limits e = omega (arith, list_paths false cs c (inside_paths 0 cs limits) e)
  kind_paths tags (type.sequence_of t) c tagged limits e =
      let d = inside_some (Element 0) (first_clash t) c e in
      omega (arith, tag_there tags tagged, path_length c _ d.2, type_paths t d.0 limits d.1)
  kind_paths tags (type.set_of t) c tagged limits e =
      let d = inside_some (Element 0) (first_clash t) c e in
      omega (arith, tag_there tags tagged, path_length c _ d.2, type_paths t d.0 limits d.1)
  kind_paths tags type.boolean c tagged limits e = absurd cc
  kind_paths tags (type.integer ns) c tagged limits e = absurd cc
  kind_paths tags (type.bit_string ns) c tagged limits e = absurd cc
  kind_paths tags type.octet_string c tagged limits e = absurd cc
  kind_paths tags type.null c tagged limits e = absurd cc
  kind_paths tags type.object_identifier c tagged limits e = absurd cc
  kind_paths tags (type.enumerated ns) c tagged limits e = absurd cc
  kind_paths tags (type.characters k) c tagged limits e = absurd cc

  inside_paths : (i : ℕ) (cs : Components) → IsTrue (components_keep_limits cs) → (c : AbstractClash) → clash_inside i cs ≡ Some c → length c.path ≤ deepest cs
  inside_paths i no_components limits c e = absurd cc
  inside_paths i (component name t presence rest) limits c e =
      let l = and_parts (keeps_limits t) (components_keep_limits rest) limits in
      elim (option_or_some (inside (Component i) (first_clash t)) (clash_inside (suc i) rest) c e) [
        | inl first ↦
            let d = inside_some (Component i) (first_clash t) c first in
            omega (arith, path_length c _ d.2, type_paths t d.0 l.0 d.1, le-max_left (nesting t) (deepest rest))
        | inr (none, later) ↦ omega (arith, inside_paths (suc i) rest l.1 c later, le-max_right (nesting t) (deepest rest))
      ]
