-- A list of encodings after one before them.
use Rattle.std.proofs.Common.{ℕ, Bool, false, List, Option, Some, None}
use Rattle.guard_der.specs.Fits.{ascend_from}

-- The encodings exist, and after one before them none descends.
abbrev pub ascend_behind : List ℕ → Option (List (List ℕ)) → Bool
ascend_behind before None = false
ascend_behind before (Some es) = ascend_from before es
