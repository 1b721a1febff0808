-- Written tags one after another, as a loop reads them.
use Rattle.std.proofs.Common.{◌≡◌, Bool, false, not, ℕ, ◌+◌, ◌<◌, ◌≤◌, List, ◌++◌, map, length, get_or, drop, Option, Some, None, Result, Ok, Err, refl, sym, ◌∙◌}
use Rattle.std.proofs.lemmas.List.{at_drop_more, at_drop_all}
use Rattle.guard_model.specs.Answer.{Refuses}
use Rattle.guard_model.specs.declared.tag.Tag.{Tag}
use Rattle.guard_syntax.specs.TypeViews.{tag_view}
use Rattle.guard_syntax.specs.declared.tree.TagTree.{TagTree}
use Rattle.guard_syntax.specs.declared.tree.TagDefault.{TagDefault}
use Rattle.guard_tagging.specs.declared.fault.TagFault.{TagFault}
use Rattle.guard_tagging.specs.Tagging.{is_explicit}
use Rattle.guard_tagging.specs.inside.ReadTags.{read_tag, read_tags, kept, unless_replaced}

module _ (default : TagDefault) (replaced : Bool) (front : List Tag) (ws : List TagTree) (i : ℕ) (base : List Tag)
    (total : Result (List Tag) TagFault)
    (so_far : read_tags default replaced front (map tag_view (drop i ws)) base ≡ total) where
  pub tag_stops : (d : TagTree) → i < length ws → (f : Option TagFault)
      → Refuses f (read_tag (tag_view (get_or ws i d))) → Refuses f total
  unfolding read_tags
  tag_stops d lt None refused = tt
  tag_stops d lt (Some f) refused =
      let all : read_tags default replaced front (map tag_view (drop i ws)) base ≡ Err f =
      rw (at_drop_more (map tag_view) ws i d lt, refused) refl in
      sym so_far ∙ all

  pub next_tag : (d : TagTree) → i < length ws → (tag : Tag) → read_tag (tag_view (get_or ws i d)) ≡ Ok tag
      → read_tags default (not (is_explicit (get_or ws i d).mode default false)) (unless_replaced replaced front tag)
      (map tag_view (drop (i + 1) ws)) base ≡ total
  unfolding read_tags
  next_tag d lt tag read =
      let all : read_tags default replaced front (map tag_view (drop i ws)) base
      ≡ read_tags default (not (is_explicit (get_or ws i d).mode default false)) (unless_replaced replaced front tag)
      (map tag_view (drop (i + 1) ws)) base =
      rw (at_drop_more (map tag_view) ws i d lt, read) refl in
      sym all ∙ so_far

  pub no_tag : length ws ≤ i → total ≡ Ok (front ++ kept replaced base)
  unfolding read_tags
  no_tag le =
      let all : read_tags default replaced front (map tag_view (drop i ws)) base ≡ Ok (front ++ kept replaced base) =
      rw (at_drop_all (map tag_view) ws i le) refl in
      sym so_far ∙ all
