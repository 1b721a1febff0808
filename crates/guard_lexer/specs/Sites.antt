-- In which line and column an octet of a text is.
use Rattle.std.specs.Prelude.{ℕ, ◌+◌, List, not, take, count_by}
use Rattle.std.specs.List.{suffix_len}
use Rattle.guard_model.specs.declared.site.Site.{Site}
use Rattle.guard_lexer.specs.Octets.{is_line_feed}

-- Lines end at line feeds, and columns count octets within a line. Both begin at 1.
abbrev pub site_after : ℕ → List ℕ → Site
site_after place before = record {
  text = place;
  line = 1 + count_by is_line_feed before;
  column = 1 + suffix_len (λ octet. not (is_line_feed octet)) before;
}

-- the site of the octet at this offset
abbrev pub site_at : ℕ → List ℕ → ℕ → Site
site_at place text offset = site_after place (take offset text)
