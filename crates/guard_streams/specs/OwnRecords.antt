-- What records of many links are to the links: events of a gateway, each of which adds to the outputs of its own link.
use Rattle.std.specs.Prelude.{◌≡◌, ◌⊎◌, ℕ, List, [], ◌∷◌, ◌++◌}
use Rattle.guard_policy.specs.Policies.{AbstractPolicy}
use Rattle.guard_frames.specs.Gateways.{AbstractEvent as event}
use Rattle.guard_frames.specs.GatewaySteps.{Turn}
use Rattle.guard_files.specs.Reading.{IsPolicyAt}
use Rattle.guard_files.specs.Records.{Record}
use Rattle.guard_files.specs.Records.Record.{piece, end, reload}
use Rattle.guard_streams.specs.Passing.{InRecords, marked}
use Rattle.guard_streams.specs.Turns.{AbstractMux, Written, Happens, KeepsOld}

-- What the event adds to the sinks of the link is written: what goes out in records of the link, and then its lines, each
-- after the link's number. Behind these there is at most the link's fault, with the note of it.
abbrev pub WritesAdded : ℕ → Written → Turn → Type 0
WritesAdded link w t =
    InRecords link t.added.out w.out × ((behind : List ℕ) × (w.err ≡ marked link t.added.reports ++ behind))

-- the record is this event, and this is written of it
abbrev pub IsTurn : List ℕ → AbstractMux → Record → Written → Turn → Type 0
IsTurn path old (piece link octets) w t = (t.event ≡ event.piece link octets) × WritesAdded link w t
IsTurn path old (end link) w t = (t.event ≡ event.end link) × WritesAdded link w t
IsTurn path old reload w t =
    (p : AbstractPolicy) × IsPolicyAt old.told path p × (t.event ≡ event.reload p) × (w.out ≡ [])

-- Records that were taken in turn are these events. One that asks for a policy that can't be had is none, and nothing
-- goes out of it.
abbrev pub AreTurns : List ℕ → AbstractMux → List Record → List Written → List Turn → Type 0
AreTurns path old [] ws turns = (ws ≡ []) × (turns ≡ [])
AreTurns path old (r ∷ records) ws turns =
    (w : Written) × (others : List Written) × (next : AbstractMux) × (ws ≡ w ∷ others) × Happens path old r w next
    × (((t : Turn) × (more : List Turn) × (turns ≡ t ∷ more) × IsTurn path old r w t
    × AreTurns path next records others more)
    ⊎ (KeepsOld path old w next × (r ≡ reload) × AreTurns path next records others turns))
