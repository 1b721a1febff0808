-- What each record of many links does, and what is written of it.
use Rattle.std.specs.Prelude.{◌≡◌, ◌⊎◌, ℕ, suc, max, List, [], ◌∷◌, ◌++◌, map, length, codes, decimal, if◌then◌else◌, Option, Some, None, Result, Ok, Err}
use Rattle.std.specs.List.{concat}
use Rattle.guard_policy.specs.Policies.{AbstractPolicy}
use Rattle.guard_frames.specs.declared.link.LinkFault.{LinkFault}
use Rattle.guard_frames.specs.declared.link.LinkFault.TheVariants.{WriteFailed}
use Rattle.guard_frames.specs.Added.{Added, nothing}
use Rattle.guard_frames.specs.Gateways.{AbstractGateway, AbstractEvent, AbstractEvent as event, step_answer}
use Rattle.guard_frames.specs.GatewaySteps.{Step}
use Rattle.guard_frames.specs.LinkView.{AbstractLink}
use Rattle.guard_files.specs.declared.fault.Fault.{Fault}
use Rattle.guard_files.specs.Files.{Told, IsLater}
use Rattle.guard_files.specs.Digest.{IsNumberedAt}
use Rattle.guard_files.specs.Reading.{IsNoPolicyAt}
use Rattle.guard_files.specs.Records.{Record}
use Rattle.guard_files.specs.Records.Record.{piece, end, reload}
use Rattle.guard_files.specs.Writing.{IsFaultLine}
use Rattle.guard_streams.specs.declared.seen.Seen.{Seen}
use Rattle.guard_streams.specs.AtFault.{IsFaultNote}
use Rattle.guard_streams.specs.Passing.{InRecords, marked, fault_line}
use Rattle.guard_streams.specs.Saying.{IsUnreadNote}
use Rattle.guard_streams.specs.Tallying.{IsSeen}
use Rattle.guard_streams.specs.Counters.{AbstractCounted}
use Rattle.guard_streams.specs.InForce.{digest_note}
use Rattle.guard_streams.specs.LinksCounted.{IsCounted, ended_counted, renewed_counted}

-- what lies between two records: what reads of files to come find, the links under the policy in force, what is seen of
-- their frames, where notes are asked for, and what is counted of them, where that is
pub record AbstractMux : Type 0 where
  pub told : Told
  pub gateway : AbstractGateway
  pub seen : Option Seen
  pub counted : Option AbstractCounted

-- what is written of a record to standard output and to standard error, and the status that comes of it
pub record Written : Type 0 where
  pub out : List ℕ
  pub err : List ℕ
  pub status : ℕ

-- ---- one record

-- 3 where the link has a fault, 1 where something is reported of its frames, and else 0
abbrev pub link_status : List ℕ → Result (Unit {0}) LinkFault → ℕ
link_status [] (Ok done) = 0
link_status (o ∷ reports) (Ok done) = 1
link_status reports (Err f) = 3

-- The gateway takes an event of this link. What it adds goes out in records, and is reported after the link's number;
-- then comes the link's fault, and the note of it.
pub record PassesOn (link : ℕ) (seen : Option Seen) (old : AbstractGateway) (event : AbstractEvent) (w : Written)
    (new : AbstractGateway) : Type 0 where
  pub answer : Result (Unit {0}) LinkFault
  pub added : Added
  pub step : Step old event (step_answer answer) added new
  pub out : InRecords link added.out w.out
  pub note : List ℕ
  pub noted : IsFaultNote seen old link event answer note
  pub err : w.err ≡ marked link added.reports ++ (fault_line link answer ++ note)
  pub status : w.status ≡ link_status added.reports answer

-- what is noted of a new policy of so many messages and rules
abbrev pub renewed_line : ℕ → ℕ → List ℕ
renewed_line messages rules =
    codes "derguard: policy read again, messages " ++ decimal messages ++ codes ", rules " ++ decimal rules ++ codes "\n"

-- with the number of its texts, where notes are asked for
abbrev pub renewed_note : Option Seen → ℕ → ℕ → List ℕ → List ℕ
renewed_note None messages rules digest = []
renewed_note (Some s) messages rules digest = renewed_line messages rules ++ digest_note digest

-- what is seen once the policy of this number is in force
abbrev pub renewed_seen : Option Seen → List ℕ → Option Seen
renewed_seen None digest = None
renewed_seen (Some s) digest = Some (record s { digest = digest })

-- The policy at the path is in force from now on, and nothing is written but a note.
pub record Renews (path : List ℕ) (old : AbstractMux) (w : Written) (new : AbstractMux) : Type 0 where
  pub policy : AbstractPolicy
  pub digest : List ℕ
  pub read : IsNumberedAt old.told path policy digest
  pub step : Step old.gateway (event.reload policy) (Ok tt) nothing new.gateway
  pub seen : new.seen ≡ renewed_seen old.seen digest
  pub noted : w ≡ record {
    out = [];
    err = renewed_note old.seen (length policy.messages) (length policy.rules) digest;
    status = 0;
  }
  pub counted : new.counted ≡ renewed_counted old.counted policy digest

-- There is no policy at the path, which is reported with what the system says of it, and the old one stays in force,
-- which is noted with its number.
pub record KeepsOld (path : List ℕ) (old : AbstractMux) (w : Written) (new : AbstractMux) : Type 0 where
  pub fault : Fault
  pub none : IsNoPolicyAt old.told path fault
  pub same : new.gateway ≡ old.gateway
  pub seen : new.seen ≡ old.seen
  pub out : w.out ≡ []
  pub line : List ℕ
  pub told : IsFaultLine fault line w.status
  pub note : List ℕ
  pub noted : IsUnreadNote old.seen fault note
  pub err : w.err ≡ line ++ note
  pub counted : new.counted ≡ old.counted

-- What a record does, where the policy is that at the path, and what is written of it. What is counted is known unless
-- the sinks of a link have no memory.
abbrev pub Happens : List ℕ → AbstractMux → Record → Written → AbstractMux → Type 0
Happens path old (piece link octets) w new =
    (p : PassesOn link old.seen old.gateway (event.piece link octets) w new.gateway) × (new.told ≡ old.told)
    × IsSeen old.gateway.policy old.seen p.answer p.added new.gateway.links new.seen
    × ((p.answer ≡ Err WriteFailed → ⊥) →
    IsCounted old.gateway.policy old.counted p.answer octets p.added new.gateway.links new.counted)
Happens path old (end link) w new =
    (p : PassesOn link old.seen old.gateway (event.end link) w new.gateway) × (new.told ≡ old.told)
    × (new.seen ≡ old.seen) × (new.counted ≡ ended_counted old.counted p.answer)
Happens path old reload w new =
    (Renews path old w new ⊎ KeepsOld path old w new) × IsLater old.told new.told

-- ---- records one after another

-- what is written of each, in turn
abbrev pub InTurn : List ℕ → AbstractMux → List Record → List Written → AbstractMux → Type 0
InTurn path old [] ws new = (ws ≡ []) × (new ≡ old)
InTurn path old (r ∷ records) ws new =
    (w : Written) × (others : List Written) × (next : AbstractMux)
    × (ws ≡ w ∷ others) × Happens path old r w next × InTurn path next records others new

abbrev pub all_out : List Written → List ℕ
all_out ws = concat (map (λ w. w.out) ws)

abbrev pub all_err : List Written → List ℕ
all_err ws = concat (map (λ w. w.err) ws)

-- the greatest
abbrev pub status_of : List Written → ℕ
status_of [] = 0
status_of (w ∷ ws) = max w.status (status_of ws)

-- the ends that are still to come of links, numbered from this one
abbrev pub ends_left : ℕ → List AbstractLink → List Record
ends_left link [] = []
ends_left link (l ∷ links) = if l.closed then ends_left (suc link) links else end link ∷ ends_left (suc link) links
