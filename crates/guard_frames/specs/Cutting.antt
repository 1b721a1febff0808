-- What a cut says of the octets that it was made of.
use Rattle.std.specs.Prelude.{◌≡◌, ◌≤◌, ℕ, List, length, take, drop}
use Rattle.guard_frames.specs.Frames.{IsFrame, IsTooLong, IsUnfinished}
use Rattle.guard_frames.specs.declared.cut.Frame.{Frame}
use Rattle.guard_frames.specs.declared.cut.Cut.{Cut}
use Rattle.guard_frames.specs.declared.cut.Cut.TheVariants as cut
use Rattle.guard_frames.specs.declared.cut.Rest.{Rest}
use Rattle.guard_frames.specs.declared.cut.Rest.TheVariants.{Unfinished, TooLong}

-- the octets begin with no whole frame, as the rest says
abbrev pub IsRest : List ℕ → Rest → Type 0
IsRest s Unfinished = IsUnfinished s
IsRest s TooLong = IsTooLong s

-- the octets begin with this whole frame, and its body is what follows its four octets of length
pub record IsFirst (s : List ℕ) (frame : Frame) : Type 0 where
  pub is : IsFrame frame.octets.now
  pub within : length frame.octets.now ≤ length s
  pub front : frame.octets.now ≡ take (length frame.octets.now) s
  pub body : frame.body.now ≡ drop 4 frame.octets.now

abbrev pub IsCut : List ℕ → Cut → Type 0
IsCut s (cut.Frame frame) = IsFirst s frame
IsCut s (cut.Rest rest) = IsRest s rest
