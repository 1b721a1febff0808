-- The status that comes of many links.
use Rattle.std.proofs.Common.{◌≡◌, ◌∙◌, ◌≤◌, max, inl, inr, ℕ, Bool, true, false, List, [], ◌∷◌, ◌++◌, ap, refl, sym, subst, length, arith}
use Rattle.std.specs.Prelude.{Option, Some, None, Result, Ok, Err}
use Rattle.std.proofs.lemmas.Option.{none-some}
use Rattle.std.specs.Io.KnownBytes.{Appends}
use Rattle.guard_policy.specs.Policies.{AbstractPolicy}
use Rattle.guard_frames.specs.declared.link.LinkFault.{LinkFault}
use Rattle.guard_frames.specs.declared.running.RunFault.TheVariants as run
use Rattle.guard_frames.specs.Added.{Added}
use Rattle.guard_frames.specs.Gateways.{AbstractGateway, AbstractEvent}
use Rattle.guard_frames.specs.LinkView.{AbstractLink}
use Rattle.guard_frames.proofs.Appending.{Appends_is}
use Rattle.guard_files.specs.declared.fault.Fault.{Fault}
use Rattle.guard_files.specs.declared.fault.Fault.TheVariants.{CannotRead, TooLarge, Schema, Policy, Run, NoMemory}
use Rattle.guard_files.specs.declared.stop.Stop.{Stop}
use Rattle.guard_files.specs.declared.stop.Stop.TheVariants.{BadRecord, ReadFailed, WriteFailed, ErrorFailed}
use Rattle.guard_files.specs.Devices.{Input, Device}
use Rattle.guard_files.specs.Faults.{fault_status}
use Rattle.guard_files.specs.Files.{Told}
use Rattle.guard_files.specs.Records.{Record}
use Rattle.guard_files.specs.Records.Record.{piece, end, reload}
use Rattle.guard_files.specs.Writing.{IsFaultLine, TellsOctets, TellsWith}
use Rattle.guard_streams.specs.AtFault.{IsFaultNote}
use Rattle.guard_streams.specs.Muxing.{EndsGuarded, Finishes, GuardsLinks, TellsGuarded, TellsStopWith}
use Rattle.guard_streams.specs.Passing.{marked, fault_line}
use Rattle.guard_streams.specs.declared.seen.Seen.{Seen}
use Rattle.guard_streams.specs.Shown.{Shown, Display}
use Rattle.guard_streams.specs.Stream.{Opens, TellsNone}
use Rattle.guard_streams.specs.Tallying.{IsSeen}
use Rattle.guard_streams.specs.Verbose.{TellsNotes, fault_lines}
use Rattle.guard_streams.specs.Turns.{AbstractMux, Written, Happens, PassesOn, InTurn, all_err, status_of, link_status, renewed_note, renewed_seen}
use Rattle.guard_streams.proofs.Turning.{all_err-append, status_of-append}

-- the status of a fault
abbrev pub IsFaulty : ℕ → Type 0
IsFaulty status = (2 ≤ status) × (status ≤ 3)

three : IsFaulty 3
three = (omega arith, omega arith)

fault_within : (f : Fault) → IsFaulty (fault_status f)
fault_within (CannotRead file obstacle) = (omega arith, omega arith)
fault_within (TooLarge file) = (omega arith, omega arith)
fault_within (Schema f) = (omega arith, omega arith)
fault_within (Policy f) = (omega arith, omega arith)
fault_within (Run f) = three
fault_within NoMemory = three

octets_within : (octets : List ℕ) (k status : ℕ) (err : Device) → IsFaulty k → TellsOctets octets k err status → IsFaulty status
octets_within octets k status err within (inl (all, same)) = subst IsFaulty (sym same) within
octets_within octets k status err within (inr (part, same)) = subst IsFaulty (sym same) three

pub with_within : (f : Fault) (note : List ℕ) (err : Device) (status : ℕ) → TellsWith f note err status → IsFaulty status
with_within f note err status (inl (text, is, told)) = octets_within _ (fault_status f) status err (fault_within f) told
with_within f note err status (inr told) = octets_within _ 3 status err three told

pub none_within : (verbose : Bool) (f : Fault) (err : Device) (status : ℕ) → TellsNone verbose f err status → IsFaulty status
none_within true f err status (line, is, told) = with_within f line err status told
none_within false f err status told = with_within f [] err status told

notes_most : (octets : List ℕ) (k status : ℕ) (err : Device) → k ≤ 3 → TellsNotes octets k err status → status ≤ 3
notes_most octets k status err most (inl (inl (all, same))) = omega (arith, same, most)
notes_most octets k status err most (inl (inr (part, same))) = omega (arith, same)
notes_most octets k status err most (inr told) = (octets_within _ 3 status err three told).1

-- ---- one record

link_most : (reports : List ℕ) (answer : Result (Unit {0}) LinkFault) → link_status reports answer ≤ 3
link_most [] (Ok done) = omega arith
link_most (o ∷ reports) (Ok done) = omega arith
link_most [] (Err f) = omega arith
link_most (o ∷ reports) (Err f) = omega arith

-- nothing is said where the status is 0
done_silent : (seen : Option Seen) (g : AbstractGateway) (link : ℕ) (e : AbstractEvent) (note : List ℕ)
    → IsFaultNote seen g link e (Ok tt) note → note ≡ []
done_silent None g link e note h = h
done_silent (Some s) g link e note h = h

link_silent : (seen : Option Seen) (g : AbstractGateway) (link : ℕ) (e : AbstractEvent) (reports note : List ℕ)
    (answer : Result (Unit {0}) LinkFault) → IsFaultNote seen g link e answer note → link_status reports answer ≡ 0
    → marked link reports ++ (fault_line link answer ++ note) ≡ []
link_silent seen g link e [] note (Ok done) noted none = done_silent seen g link e note noted
link_silent seen g link e (o ∷ reports) note (Ok done) noted none = absurd (omega arith)
link_silent seen g link e [] note (Err f) noted none = absurd (omega arith)
link_silent seen g link e (o ∷ reports) note (Err f) noted none = absurd (omega arith)

passed_most : (link : ℕ) (seen : Option Seen) (g new : AbstractGateway) (e : AbstractEvent) (w : Written)
    → PassesOn link seen g e w new → w.status ≤ 3
passed_most link seen g new e w h = let most = link_most h.added.reports h.answer in let is =
    h.status in omega (arith, is, most)

passed_silent : (link : ℕ) (seen : Option Seen) (g new : AbstractGateway) (e : AbstractEvent) (w : Written)
    → PassesOn link seen g e w new → w.status ≡ 0 → w.err ≡ []
passed_silent link seen g new e w h none =
    h.err ∙ link_silent seen g link e h.added.reports h.note h.answer h.noted (sym h.status ∙ none)

line_within : (f : Fault) (line : List ℕ) (status : ℕ) → IsFaultLine f line status → IsFaulty status
line_within f line status (inl (text, is, same, greatest)) = subst IsFaulty (sym greatest) (fault_within f)
line_within f line status (inr (same, greatest)) = subst IsFaulty (sym greatest) three

happens_most : (path : List ℕ) (r : Record) (old new : AbstractMux) (w : Written) → Happens path old r w new
    → w.status ≤ 3
happens_most path (piece link octets) old new w h = passed_most link old.seen old.gateway new.gateway _ w h.0
happens_most path (end link) old new w h = passed_most link old.seen old.gateway new.gateway _ w h.0
happens_most path reload old new w (inl h, later) = let is : w.status ≡ 0 =
    ap (λ (x : Written). x.status) h.noted in omega (arith, is)
happens_most path reload old new w (inr h, later) = (line_within h.fault h.line w.status h.told).1

-- and no notes are asked for
happens_silent : (path : List ℕ) (r : Record) (old new : AbstractMux) (w : Written) → Happens path old r w new
    → old.seen ≡ None → w.status ≡ 0 → w.err ≡ []
happens_silent path (piece link octets) old new w h quiet none = passed_silent link old.seen old.gateway new.gateway _ w h.0 none
happens_silent path (end link) old new w h quiet none = passed_silent link old.seen old.gateway new.gateway _ w h.0 none
happens_silent path reload old new w (inl h, later) quiet none =
    ap (λ (x : Written). x.err) h.noted
    ∙ ap (λ (x : Option Seen). renewed_note x (length h.policy.messages) (length h.policy.rules) h.digest) quiet
happens_silent path reload old new w (inr h, later) quiet none =
    let least = (line_within h.fault h.line w.status h.told).0 in absurd (omega (arith, least, none))

seen_none : (p : AbstractPolicy) (old new : Option Seen) (answer : Result (Unit {0}) LinkFault) (added : Added)
    (links : List AbstractLink) → IsSeen p old answer added links new → old ≡ None → new ≡ None
seen_none p None new answer added links h quiet = h
seen_none p (Some s) new answer added links h quiet = absurd (none-some s (sym quiet))

happens_quiet : (path : List ℕ) (r : Record) (old new : AbstractMux) (w : Written) → Happens path old r w new
    → old.seen ≡ None → new.seen ≡ None
happens_quiet path (piece link octets) old new w h quiet = seen_none old.gateway.policy old.seen new.seen h.0.answer h.0.added new.gateway.links h.2 quiet
happens_quiet path (end link) old new w h quiet = h.2 ∙ quiet
happens_quiet path reload old new w (inl h, later) quiet = h.seen ∙ ap (λ (x : Option Seen). renewed_seen x h.digest) quiet
happens_quiet path reload old new w (inr h, later) quiet = h.seen ∙ quiet

-- ---- records in turn

turns_most : (path : List ℕ) (rs : List Record) (old new : AbstractMux) (ws : List Written)
    → InTurn path old rs ws new → status_of ws ≤ 3
turns_most path [] old new ws h = let is : status_of ws ≡ 0 = ap status_of h.0 in omega (arith, is)
turns_most path (r ∷ rs) old new ws h =
    let is : status_of ws ≡ max h.0.status (status_of h.1) = ap status_of h.3 in
    let one = happens_most path r old h.2 h.0 h.4 in
    let others = turns_most path rs h.2 new h.1 h.5 in
    omega (arith, is, one, others)

turns_silent : (path : List ℕ) (rs : List Record) (old new : AbstractMux) (ws : List Written)
    → InTurn path old rs ws new → old.seen ≡ None → status_of ws ≡ 0 → all_err ws ≡ []
turns_silent path [] old new ws h quiet none = ap all_err h.0
turns_silent path (r ∷ rs) old new ws h quiet none =
    let is : status_of ws ≡ max h.0.status (status_of h.1) = ap status_of h.3 in
    let one = happens_silent path r old h.2 h.0 h.4 quiet (omega (arith, is, none)) in
    let others = turns_silent path rs h.2 new h.1 h.5 (happens_quiet path r old h.2 h.0 h.4 quiet) (omega (arith, is, none))
    in
    ap all_err h.3 ∙ ap (λ (s : List ℕ). s ++ all_err h.1) one ∙ others

turns_quiet : (path : List ℕ) (rs : List Record) (old new : AbstractMux) (ws : List Written)
    → InTurn path old rs ws new → old.seen ≡ None → new.seen ≡ None
turns_quiet path [] old new ws h quiet = ap (λ (m : AbstractMux). m.seen) h.1 ∙ quiet
turns_quiet path (r ∷ rs) old new ws h quiet =
    turns_quiet path rs h.2 new h.1 h.5 (happens_quiet path r old h.2 h.0 h.4 quiet)

-- ---- what is said at the end

stop_within : (seen : Option Seen) (s : Stop) (err : Device) (status : ℕ) → TellsStopWith seen s err status → IsFaulty status
stop_within None BadRecord err status told = octets_within _ 3 status err three told
stop_within None ReadFailed err status told = octets_within _ 3 status err three told
stop_within None WriteFailed err status told = octets_within _ 3 status err three told
stop_within None ErrorFailed err status (same, is) = subst IsFaulty (sym is) three
stop_within (Some seen) BadRecord err status (inl told) = octets_within _ 3 status err three told
stop_within (Some seen) BadRecord err status (inr told) = octets_within _ 3 status err three told
stop_within (Some seen) ReadFailed err status (said, is, told) =
    with_within (Run run.ReadFailed) (fault_lines run.ReadFailed said seen) err status told
stop_within (Some seen) WriteFailed err status (said, is, told) =
    with_within (Run run.WriteFailed) (fault_lines run.WriteFailed said seen) err status told
stop_within (Some seen) ErrorFailed err status (same, is) = subst IsFaulty (sym is) three

guarded_most : (seen : Option Seen) (greatest : ℕ) (err : Device) (status : ℕ) → greatest ≤ 3
    → TellsGuarded (Ok tt) seen greatest err status → status ≤ 3
guarded_most None greatest err status most (same, is) = omega (arith, is, most)
guarded_most (Some seen) greatest err status most told = notes_most _ greatest status err most told

-- ---- the whole stream

finishes_most : (path : List ℕ) (first : AbstractMux) (input : Input) (out err : Device) (greatest : ℕ)
    → Finishes path first input out err greatest → greatest ≤ 3
finishes_most path first input out err greatest h =
    let first = turns_most path h.all.records _ h.all.last h.all.written h.all.in_turn in
    let last = turns_most path _ h.all.last h.after h.closed h.ends in
    let both = status_of-append h.all.written h.closed in
    let all = h.greatest in
    omega (arith, all, both, first, last)

ends_most : (result : Result (Unit {0}) Stop) (path : List ℕ) (place : Option (List ℕ)) (first : AbstractMux) (input : Input)
    (out err : Device) (reported : Option (List ℕ)) (status : ℕ) (last : Shown) (display : Display)
    → EndsGuarded result path place first input out err reported status last display → status ≤ 3
ends_most (Ok done) path place first input out err reported status last display (greatest, f, shows, told) =
    guarded_most f.after.seen greatest _ status (finishes_most path first input out _ greatest f) told
ends_most (Err s) path place first input out err reported status last display (h, shows, told) =
    (stop_within _ s _ status told).1

opens_most : (verbose : Bool) (digest : List ℕ) (Nothing : Type 0) (err : Device) (status : ℕ) (So : Device → Type 0)
    → ((behind : Device) → So behind → status ≤ 3) → Opens verbose digest Nothing err status So → status ≤ 3
opens_most true digest Nothing err status So most (inl (begun, said, so)) = most _ so
opens_most true digest Nothing err status So most (inr (nothing, failed, is, part)) = omega (arith, is)
opens_most false digest Nothing err status So most so = most err so

pub links_most : (verbose : Bool) (place : Option (List ℕ)) (told : Told) (path : List ℕ) (shows : Display) (input : Input)
    (out err : Device) (status : ℕ) → GuardsLinks verbose place told path shows input out err status → status ≤ 3
links_most verbose place told path shows input out err status (inl h) = (none_within verbose h.0 err status h.5).1
links_most verbose place told path shows input out err status (inr (p, digest, later, is, since, h)) =
    opens_most verbose digest _ err status _ (λ behind so. ends_most so.result path place _ input out _ so.reported status _ _ so.ends) h

ends_silent : (result : Result (Unit {0}) Stop) (path : List ℕ) (place : Option (List ℕ)) (first : AbstractMux) (input : Input)
    (out err : Device) (reported : Option (List ℕ)) (last : Shown) (display : Display) → first.seen ≡ None
    → EndsGuarded result path place first input out err reported 0 last display → Appends err.before err.after []
ends_silent (Ok done) path place first input out err reported last display quiet (greatest, f, shows, told) =
    let still = turns_quiet path f.all.records _ f.all.last f.all.written f.all.in_turn quiet in
    let said = subst (λ (s : Option Seen). TellsGuarded (Ok tt) s greatest (record err { before = reported }) 0)
    (turns_quiet path _ f.all.last f.after f.closed f.ends still) told in
    let both = status_of-append f.all.written f.closed in
    let all = f.greatest in
    let none = said.1 in
    let front = turns_silent path f.all.records _ f.all.last f.all.written f.all.in_turn quiet (omega (arith, all, both, none)) in
    let back = turns_silent path _ f.all.last f.after f.closed f.ends still (omega (arith, all, both, none)) in
    subst (λ (s : Option (List ℕ)). Appends err.before s []) (sym said.0)
    (Appends_is err.before reported (all_err (f.all.written ++ f.closed)) []
    (all_err-append f.all.written f.closed ∙ ap (λ (s : List ℕ). s ++ all_err f.closed) front ∙ back) f.told)
ends_silent (Err s) path place first input out err reported last display quiet (h, shows, told) =
    let least = (stop_within _ s _ 0 told).0 in absurd (omega (arith, least))

pub links_silent : (told : Told) (path : List ℕ) (shows : Display) (input : Input) (out err : Device)
    → GuardsLinks false None told path shows input out err 0 → Appends err.before err.after []
links_silent told path shows input out err (inl h) = let least = (none_within false h.0 err 0 h.5).0 in absurd (omega (arith, least))
links_silent told path shows input out err (inr (p, digest, later, is, since, h)) =
    subst (λ (s : Option (List ℕ)). Appends s err.after []) h.noted
    (ends_silent h.result path None _ input out (record err { before = h.said }) h.reported _ _ refl h.ends)
