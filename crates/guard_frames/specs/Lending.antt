-- What a gateway ends as where the sinks of one link were lent.
use Rattle.std.specs.Prelude.{◌≡◌, ℕ, Option, OnSome, slice_set}
use Rattle.std.specs.Borrow.{LendsSo, Fml, RattleType, MutBor}
use Rattle.guard_frames.specs.declared.seats.Ends.{Ends}
use Rattle.guard_frames.specs.declared.gateway.Gateway.{Gateway}
use Rattle.guard_frames.specs.contracts.seats.Ends as the_ends
use Rattle.guard_frames.specs.contracts.gateway.Gateway as the_gateway
use Rattle.guard_frames.specs.GatewayView.{gateway_view, gateway_ends}

-- the sinks of link i are these, and all else is as it was
pub record HasEnds {S : Type 0} (old : Gateway S) (i : ℕ) (lent : Ends S) (new : Gateway S) : Type 0 where
  pub view : gateway_view new ≡ gateway_view old
  pub ends : gateway_ends new ≡ slice_set (gateway_ends old) i lent

module _ (S : RattleType) (g : MutBor (Gateway S.Denot)) (i : ℕ) where
  abbrev pub lends_ends : Option (MutBor (Ends S.Denot)) → Fml
  lends_ends r =
      LendsSo (the_gateway.the_row S) (the_ends.the_row S) g r (λ n w. OnSome r (HasEnds g.now i w n)) (λ n. n ≡ g.now)
