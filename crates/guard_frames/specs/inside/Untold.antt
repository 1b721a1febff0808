-- When a watch is told of frames that go side by side by one rule.
use Rattle.std.specs.Prelude.{◌≡◌, ◌<◌, ◌⊎◌, ◌-◌, ℕ}
use Rattle.guard_frames.specs.declared.untold.Untold.{Untold}
use Rattle.guard_frames.specs.Reasons.{Told}
use Rattle.guard_frames.specs.Reasons.Told.{goes}

-- no frames, from here on
abbrev pub none_from : ℕ → Untold
none_from start = record { rule = 0; before = 0; start = start }

-- A watch is told of these, the last of so many frames, which end here, if there are any; `notes` says what that changes.
abbrev pub IsToldOf : {W : Type 0} → (W → Told → W → Type 0) → Untold → ℕ → ℕ → W → W → Type 0
IsToldOf {W} notes these frames end old new =
    ((these.before ≡ frames) × (new ≡ old))
    ⊎ ((these.before < frames) × notes old (goes (frames - these.before) (end - these.start) these.rule) new)

-- One frame more, which follows so many, begins where they end, and goes by this rule. It is one of these where that is
-- their rule. Else a watch is told of them, and the frame is the first of others.
abbrev pub IsOneMore : {W : Type 0} → (W → Told → W → Type 0) → Untold → ℕ → ℕ → ℕ → W → W → Untold → Type 0
IsOneMore {W} notes these rule frames end old new more =
    ((rule ≡ these.rule) × (new ≡ old) × (more ≡ these))
    ⊎ ((rule ≡ these.rule → ⊥) × IsToldOf notes these frames end old new
    × (more ≡ record { rule = rule; before = frames; start = end }))
