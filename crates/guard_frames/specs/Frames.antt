-- The frames of a stream of octets: four octets of length, the high one first, and as many octets of body.
use Rattle.std.specs.Prelude.{◌≡◌, ◌<◌, ◌≤◌, ◌+◌, ◌*◌, ◌⊎◌, ℕ, List, ◌++◌, length, slice_index}
use Rattle.std.specs.List.{concat, All}

-- the length of the body that the first four octets state
abbrev pub stated_length : List ℕ → ℕ
stated_length s = ((slice_index s 0 * 256 + slice_index s 1) * 256 + slice_index s 2) * 256 + slice_index s 3

-- a whole frame, its length octets included
pub record IsFrame (s : List ℕ) : Type 0 where
  pub header : 4 ≤ length s
  pub allowed : stated_length s ≤ 1048576
  pub exact : length s ≡ stated_length s + 4

-- octets that begin with a length that no frame may have
pub record IsTooLong (s : List ℕ) : Type 0 where
  pub header : 4 ≤ length s
  pub beyond : 1048576 < stated_length s

-- less than a frame: no whole length, or fewer octets than the length says
pub record IsUnfinished (s : List ℕ) : Type 0 where
  pub allowed : 4 ≤ length s → stated_length s ≤ 1048576
  pub short : 4 ≤ length s → length s < stated_length s + 4

-- the stream is these frames and then this rest
pub record ConsistsOf (stream : List ℕ) (frames : List (List ℕ)) (rest : List ℕ) : Type 0 where
  pub whole : stream ≡ concat frames ++ rest
  pub each : All IsFrame frames
  pub left : IsUnfinished rest ⊎ IsTooLong rest
