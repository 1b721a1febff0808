-- What the code does of a record that asks for a new policy.
use Rattle.std.proofs.Common.{◌≡◌, ◌∙◌, inl, inr, max, ℕ, Bool, true, List, [], ◌++◌, ap, refl, sym, subst, length, arith}
use Rattle.std.specs.Prelude.{Option, Some, None, Result}
use Rattle.std.specs.List.{All}
use Rattle.std.specs.Io.KnownBytes.{Appends}
use Rattle.guard_frames.specs.declared.gateway.Gateway.{Gateway}
use Rattle.guard_frames.specs.declared.gateway.StepFault.{StepFault}
use Rattle.guard_frames.specs.declared.kept.Kept.{Kept}
use Rattle.guard_frames.specs.Added.{Added, nothing}
use Rattle.guard_frames.specs.Gateways.{AbstractGateway, AbstractEvent as event}
use Rattle.guard_frames.specs.GatewaySteps.{Step}
use Rattle.guard_frames.specs.GatewayView.{gateway_view, gateway_ends}
use Rattle.guard_frames.specs.Prefix.{IsProperPrefix}
use Rattle.guard_frames.proofs.Appending.{Appends_none, Appends_trans}
use Rattle.guard_policy.specs.Policies.{AbstractPolicy}
use Rattle.guard_files.specs.declared.fault.Fault.{Fault}
use Rattle.guard_files.specs.Devices.{device}
use Rattle.guard_files.specs.Files.{Told, IsLater}
use Rattle.guard_files.specs.Digest.{IsNumberedAt}
use Rattle.guard_files.specs.Reading.{IsNoPolicyAt}
use Rattle.guard_files.specs.Writing.{IsFaultLine}
use Rattle.guard_files.specs.Records.Record.{reload}
use Rattle.guard_streams.specs.declared.links.Links.{Links}
use Rattle.guard_streams.specs.declared.seen.Seen.{Seen}
use Rattle.guard_streams.specs.LinksCounted.{maybe_counted, renewed_counted}
use Rattle.guard_streams.specs.Saying.{IsUnreadNote}
use Rattle.guard_streams.specs.Muxing.{WritesPart, BreaksErr}
use Rattle.guard_streams.specs.Turns.{Written, renewed_note, renewed_seen}
use Rattle.guard_streams.specs.inside.Doing.{AreEmpty, IsReady, mux_of, IsTaken}

abbrev renewed_written : Links → AbstractPolicy → List ℕ → Written
renewed_written old p digest =
    record { out = []; err = renewed_note old.seen (length p.messages) (length p.rules) digest; status = 0 }

-- standard error fails in the note
pub renewed_cut : (path : List ℕ) (told later : Told) (old : Links) (g : Gateway Kept) (p : AbstractPolicy) (digest : List ℕ)
    (answer : Result (Unit {0}) StepFault) (added : Added) (part : List ℕ) (o e e₁ : Option (List ℕ)) (b k : Bool)
    → IsNumberedAt told path p digest → IsLater told later
    → Step (gateway_view old.gateway) (event.reload p) answer added (gateway_view g) → k ≡ true
    → IsProperPrefix part (renewed_note old.seen (length p.messages) (length p.rules) digest) → Appends e e₁ part
    → WritesPart path (mux_of told old) reload [] (device o o b) (device e e₁ k) BreaksErr
renewed_cut path told later old g p digest answer added part o e e₁ b k read later_is step failed prefix said = record {
  w = renewed_written old p digest;
  new = record {
    told = later;
    gateway = gateway_view g;
    seen = renewed_seen old.seen digest;
    counted = renewed_counted (maybe_counted old.followed.counted) p digest;
  };
  happens = (
    inl (record {
      policy = p;
      digest = digest;
      read = read;
      step = record { answered = refl; same = step.same; adds = refl };
      seen = refl;
      noted = refl;
      counted = refl;
    }),
    later_is,
  );
  out_part = [];
  err_part = part;
  breaks = (failed, refl, prefix);
  sent = Appends_none o;
  told = said;
}

pub renewed : (path : List ℕ) (told later : Told) (old new : Links) (p : AbstractPolicy) (digest : List ℕ)
    (answer : Result (Unit {0}) StepFault) (added : Added) (o e e₁ : Option (List ℕ))
    → IsReady old.gateway → IsNumberedAt told path p digest → IsLater told later
    → Step (gateway_view old.gateway) (event.reload p) answer added (gateway_view new.gateway)
    → gateway_ends new.gateway ≡ gateway_ends old.gateway → new.status ≡ old.status
    → new.seen ≡ renewed_seen old.seen digest
    → maybe_counted new.followed.counted ≡ renewed_counted (maybe_counted old.followed.counted) p digest
    → Appends e e₁ (renewed_note old.seen (length p.messages) (length p.rules) digest)
    → IsTaken path told old reload later new (o, o) (e, e₁)
renewed path told later old new p digest answer added o e e₁ ready read later_is step ends status seen counted said = record {
  w = renewed_written old p digest;
  happens = (
    inl (record {
      policy = p;
      digest = digest;
      read = read;
      step = record { answered = refl; same = step.same; adds = refl };
      seen = seen;
      noted = refl;
      counted = counted;
    }),
    later_is,
  );
  sent = Appends_none o;
  told = said;
  status = omega (arith, status);
  ready = record {
    many = ap (λ (x : AbstractGateway). length x.links) step.same ∙ ready.many;
    empty = subst (All AreEmpty) (sym ends) ready.empty;
  };
}

abbrev kept_written : List ℕ → ℕ → Written
kept_written line status = record { out = []; err = line; status = status }

pub kept_old : (path : List ℕ) (told later : Told) (old new : Links) (f : Fault) (line note : List ℕ) (status : ℕ)
    (o e e₁ e₂ : Option (List ℕ))
    → IsReady old.gateway → IsNoPolicyAt told path f → IsLater told later → IsFaultLine f line status
    → IsUnreadNote old.seen f note → Appends e e₁ line → Appends e₁ e₂ note
    → new.gateway ≡ old.gateway → new.status ≡ max old.status status → new.seen ≡ old.seen
    → maybe_counted new.followed.counted ≡ maybe_counted old.followed.counted
    → IsTaken path told old reload later new (o, o) (e, e₂)
kept_old path told later old new f line note status o e e₁ e₂ ready none later_is is noted said more same greatest seen counted = record {
  w = kept_written (line ++ note) status;
  happens = (
    inr (record {
      fault = f;
      none = none;
      same = ap gateway_view same;
      seen = seen;
      out = refl;
      line = line;
      told = is;
      note = note;
      noted = noted;
      err = refl;
      counted = counted;
    }),
    later_is,
  );
  sent = Appends_none o;
  told = Appends_trans e e₁ e₂ line note said more;
  status = greatest;
  ready = subst IsReady (sym same) ready;
}

pub kept_cut : (path : List ℕ) (told later : Told) (old : Links) (f : Fault) (line note part : List ℕ) (status : ℕ)
    (o e e₁ : Option (List ℕ)) (b k : Bool)
    → IsNoPolicyAt told path f → IsLater told later → IsFaultLine f line status → IsUnreadNote old.seen f note
    → k ≡ true → IsProperPrefix part (line ++ note) → Appends e e₁ part
    → WritesPart path (mux_of told old) reload [] (device o o b) (device e e₁ k) BreaksErr
kept_cut path told later old f line note part status o e e₁ b k none later_is is noted failed prefix said = record {
  w = kept_written (line ++ note) status;
  new = record {
    told = later;
    gateway = gateway_view old.gateway;
    seen = old.seen;
    counted = maybe_counted old.followed.counted;
  };
  happens = (
    inr (record {
      fault = f;
      none = none;
      same = refl;
      seen = refl;
      out = refl;
      line = line;
      told = is;
      note = note;
      noted = noted;
      err = refl;
      counted = refl;
    }),
    later_is,
  );
  out_part = [];
  err_part = part;
  breaks = (failed, refl, prefix);
  sent = Appends_none o;
  told = said;
}

-- nothing need be noted of a policy that can't be read again
pub unread_none : (seen : Option Seen) (f : Fault) → IsUnreadNote seen f []
unread_none None f = refl
unread_none (Some s) f = inl refl
