-- What contracts see of a link.
use Rattle.std.specs.Prelude.{◌≡◌, ℕ, Bool, true, false, List, []}
use Rattle.guard_frames.specs.declared.totals.Totals.{Totals}
use Rattle.guard_frames.specs.declared.link.Link.{Link}
use Rattle.guard_frames.specs.Totals.{no_frames}

-- The octets of the frame that has begun and isn't whole yet, how many frames there were, and whether it takes no more.
-- Last, what a fault left of the frame behind the last whole one: the length that is too long, or how many octets of it
-- there were; and else 0.
pub record AbstractLink : Type 0 where
  pub held : List ℕ
  pub totals : Totals
  pub closed : Bool
  pub left : ℕ

abbrev pub link_view : Link → AbstractLink
link_view l = record { held = l.held.items; totals = l.totals; closed = l.closed; left = l.left }

-- the link takes no more, and holds nothing
pub record IsShut (l : AbstractLink) : Type 0 where
  pub closed : l.closed ≡ true
  pub empty : l.held ≡ []

-- open, with nothing held, before the first frame
abbrev pub new_link : AbstractLink
new_link = record { held = []; totals = no_frames; closed = false; left = 0 }
