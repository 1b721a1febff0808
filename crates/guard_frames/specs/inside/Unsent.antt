-- Frames that go side by side and wait to be put, and the totals with them.
use Rattle.std.specs.Prelude.{ℕ}
use Rattle.guard_frames.specs.declared.totals.Totals.{Totals}
use Rattle.guard_frames.specs.declared.unsent.Unsent.{Unsent}
use Rattle.guard_frames.specs.Totals.{later}

-- no frames, after these totals, from here on
abbrev pub none_after : Totals → ℕ → Unsent
none_after totals start = record { totals = totals; frames = 0; start = start }

-- the totals with these frames, which all go
abbrev pub totals_with : Unsent → Totals
totals_with these = record {
  frames = later these.totals.frames these.frames;
  passed = later these.totals.passed these.frames;
  denied = these.totals.denied;
}
