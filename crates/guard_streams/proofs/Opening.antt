-- The note of the policy's number, where notes are asked for.
use Rattle.std.proofs.Common.{inl, inr, ℕ, Bool, true, false, List, refl, subst}
use Rattle.std.specs.Prelude.{Ok, Err, Option}
use Rattle.guard_frames.specs.declared.devices.Failed.{Failed}
use Rattle.guard_files.specs.Devices.{Device, device}
use Rattle.guard_streams.specs.Stream.{Opens}
use Rattle.guard_streams.specs.inside.Counting.{IsOpened}

pub opens : (verbose : Bool) (digest : List ℕ) (Nothing : Type 0) (before mid after : Option (List ℕ)) (was is : Bool) (status : ℕ) (So : Device → Type 0) →
    IsOpened verbose digest (Ok tt) (device before mid was) → So (device mid after is) → Opens verbose digest Nothing (device before after is) status So
opens true digest Nothing before mid after was is status So h so = inl (mid, h, so)
opens false digest Nothing before mid after was is status So h so = subst (λ (s : Option (List ℕ)). So (device s after is)) h so

pub unopened : (verbose : Bool) (digest : List ℕ) (Nothing : Type 0) (f : Failed) (err : Device) (So : Device → Type 0) → Nothing →
    IsOpened verbose digest (Err f) err → Opens verbose digest Nothing err 3 So
unopened true digest Nothing f err So nothing h = inr (nothing, h.3, refl, (h.0, h.1, h.2))
unopened false digest Nothing f err So nothing h = absurd h
