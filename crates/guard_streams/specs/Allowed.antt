-- By which rules frames go.
use Rattle.std.specs.Prelude.{◌≡◌, ℕ, List, [], ◌∷◌, ◌++◌, drop}
use Rattle.guard_policy.specs.Policies.{AbstractPolicy}
use Rattle.guard_frames.specs.Frames.{IsFrame}
use Rattle.guard_frames.specs.OfPolicy.{lets_of}
use Rattle.guard_frames.specs.Outcomes.{GoesBy}

-- The octets are frames, each of which goes under this policy by one of these rules: by the first of its route that allows
-- its message. The last one comes first.
abbrev pub AreLet : AbstractPolicy → List ℕ → List ℕ → Type 0
AreLet p [] out = out ≡ []
AreLet p (rule ∷ before) out =
    (first : List ℕ) × (frame : List ℕ) × (out ≡ first ++ frame) × IsFrame frame × GoesBy (lets_of p) (drop 4 frame) rule
    × AreLet p before first
