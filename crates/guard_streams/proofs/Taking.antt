-- The records of a stream, taken one after another, and how that ends.
use Rattle.std.proofs.Common.{◌≡◌, ◌∙◌, ◌^◌, inl, inr, ℕ, Bool, List, [], ◌∷◌, ◌++◌, ap, refl, sym, subst, map, arith}
use Rattle.std.specs.Prelude.{Option, Some, None, Result, Ok, Err, OnOk, IfErr}
use Rattle.std.specs.List.{concat, All}
use Rattle.std.specs.Io.KnownBytes.{Appends, Consumes, IsAtEnd}
use Rattle.std.proofs.lemmas.List.{append-nil}
use Rattle.guard_frames.specs.Totals.{WentUpBy}
use Rattle.guard_frames.proofs.Appending.{Appends_none, Appends_trans, Appends_is}
use Rattle.guard_frames.proofs.Elements.{All_none, All_more}
use Rattle.guard_frames.proofs.Reading.{Consumes_none, Consumes_trans}
use Rattle.guard_files.specs.declared.stop.Stop.{Stop}
use Rattle.guard_files.specs.declared.stop.Stop.TheVariants.{BadRecord, ReadFailed, WriteFailed, ErrorFailed}
use Rattle.guard_files.specs.Devices.{Device, input_of, device}
use Rattle.guard_files.specs.Files.{Told}
use Rattle.guard_files.specs.Records.{Record, record_octets, IsAllowed}
use Rattle.guard_files.specs.Headers.{IsNone}
use Rattle.guard_files.proofs.RecordReading.{joined_last}
use Rattle.guard_streams.specs.declared.links.Links.{Links}
use Rattle.guard_streams.specs.declared.seen.Seen.{Seen}
use Rattle.guard_streams.specs.Muxing.{Takes, StopsAt, BreaksAtRecord, WritesPart, BreaksOut, BreaksErr, TellsStopWith}
use Rattle.guard_streams.specs.Turns.{AbstractMux, Written, InTurn, all_out, all_err, status_of}
use Rattle.guard_streams.specs.inside.Doing.{IsReady, mux_of, IsTaken, IsCut, AreEnded, IsEndCut, EndsWith}
use Rattle.guard_streams.proofs.Turning.{one_more, all_out-append, all_err-append, sent_more, told_more, status_of-append, status_of-more, after}

-- where standard error failed nothing is said of what is seen
nothing_said : (seen : Option Seen) (err : Device) (status : ℕ) → TellsStopWith seen ErrorFailed err status
    → TellsStopWith None ErrorFailed err status
nothing_said None err status h = h
nothing_said (Some s) err status h = h

-- These records were read and taken, and all that is written of them is out.
pub record TakenSoFar (path : List ℕ) (first : AbstractMux) (a b : Option (List ℕ)) (o o₁ e e₁ : Option (List ℕ))
    (told : Told) (links : Links) : Type 0 where
  pub records : List Record
  pub allowed : All IsAllowed records
  pub given : Consumes a b (concat (map record_octets records))
  pub written : List Written
  pub in_turn : InTurn path first records written (mux_of told links)
  pub sent : Appends o o₁ (all_out written)
  pub said : Appends e e₁ (all_err written)
  pub status : links.status ≡ status_of written
  pub ready : IsReady links.gateway

pub none_taken : (path : List ℕ) (a o e : Option (List ℕ)) (told : Told) (links : Links) → links.status ≡ 0
    → IsReady links.gateway
    → TakenSoFar path (mux_of told links) a a o o e e told links
none_taken path a o e told links status ready = record {
  records = [];
  allowed = All_none IsAllowed;
  given = Consumes_none a;
  written = [];
  in_turn = (refl, refl);
  sent = Appends_none o;
  said = Appends_none e;
  status = status;
  ready = ready;
}

module _ (path : List ℕ) (first : AbstractMux) (a b : Option (List ℕ)) (o o₁ e e₁ : Option (List ℕ)) (told : Told)
    (links : Links)
    (so_far : TakenSoFar path first a b o o₁ e e₁ told links) where
  pub one_taken : (c o₂ e₂ : Option (List ℕ)) (r : Record) (told₁ : Told) (links₁ : Links) → IsAllowed r
      → Consumes b c (record_octets r)
      → IsTaken path told links r told₁ links₁ (o₁, o₂) (e₁, e₂) → TakenSoFar path first a c o o₂ e e₂ told₁ links₁
  one_taken c o₂ e₂ r told₁ links₁ ok read h =
      let greatest = status_of-more so_far.written h.w in
      let was = so_far.status in
      let is = h.status in
      record {
        records = so_far.records ++ r ∷ [];
        allowed = All_more IsAllowed so_far.records r so_far.allowed ok;
        given = subst (λ (s : List ℕ). Consumes a c s) (sym (joined_last so_far.records r))
            (Consumes_trans a b c (concat (map record_octets so_far.records)) (record_octets r) so_far.given read);
        written = so_far.written ++ h.w ∷ [];
        in_turn = one_more path first (mux_of told links) (mux_of told₁ links₁) so_far.records so_far.written r h.w
            so_far.in_turn h.happens;
        sent = sent_more o o₁ o₂ so_far.written h.w so_far.sent h.sent;
        said = told_more e e₁ e₂ so_far.written h.w so_far.said h.told;
        status = omega (arith, is, was, greatest);
        ready = h.ready;
      }

  abbrev takes : (c : Option (List ℕ)) (m n : ℕ) (failed : Bool) (rest : List ℕ) → Consumes b c rest
      → Takes path first (input_of a c m n failed) rest
  takes c m n failed rest read = record {
    records = so_far.records;
    allowed = so_far.allowed;
    given = Consumes_trans a b c (concat (map record_octets so_far.records)) rest so_far.given read;
    written = so_far.written;
    last = mux_of told links;
    in_turn = so_far.in_turn;
  }

  abbrev stops_at : (c : Option (List ℕ)) (m n : ℕ) (failed f k : Bool) (rest : List ℕ) (IsRest : List ℕ → Type 0)
      → Consumes b c rest → IsRest rest
      → StopsAt path first (input_of a c m n failed) (device o o₁ f) (device e e₁ k) IsRest
  stops_at c m n failed f k rest IsRest read is =
      record { rest = rest; all = takes c m n failed rest read; is = is; sent = so_far.sent; told = so_far.said }

  abbrev breaks_at : (c o₂ e₂ : Option (List ℕ)) (m n : ℕ) (failed f k k₁ : Bool) (r : Record)
      (Breaks : Device → Device → Written → List ℕ → List ℕ → Type 0)
      → ((w : Written) (s t : List ℕ) → Breaks (device o₁ o₂ f) (device e₁ e₂ k) w s t
      → Breaks (device o o₂ f) (device e e₂ k₁) w s t)
      → IsAllowed r → Consumes b c (record_octets r)
      → WritesPart path (mux_of told links) r [] (device o₁ o₂ f) (device e₁ e₂ k) Breaks
      → BreaksAtRecord path first (input_of a c m n failed) (device o o₂ f) (device e e₂ k₁) Breaks
  breaks_at c o₂ e₂ m n failed f k k₁ r Breaks moved ok read h = record {
    next = r;
    allowed = ok;
    all = takes c m n failed (record_octets r) read;
    part = subst (λ (ws : List Written). WritesPart path (mux_of told links) r ws (device o o₂ f)
        (device e e₂ k₁) Breaks) (append-nil so_far.written)
        (after path (mux_of told links) r so_far.written [] o o₁ o₂ e e₁ e₂ f k k₁ Breaks moved so_far.sent so_far.said h);
  }

  -- an output fails in what is written of a record
  pub cut_at : (s : Stop) (c o₂ e₂ : Option (List ℕ)) (m n : ℕ) (failed f k : Bool) (r : Record) (links₁ : Links)
      → IsAllowed r → Consumes b c (record_octets r)
      → IsCut s path (mux_of told links) r (device o₁ o₂ f) (device e₁ e₂ k)
      → (s ≡ WriteFailed → links₁.seen ≡ links.seen)
      → EndsWith (Err s) path first (input_of a c m n failed) (device o o₂ f) (device e e₂ k) links₁
  cut_at BadRecord c o₂ e₂ m n failed f k r links₁ ok read h kept place last display e₃ k₁ status same shows said = absurd h
  cut_at ReadFailed c o₂ e₂ m n failed f k r links₁ ok read h kept place last display e₃ k₁ status same shows said = absurd h
  cut_at WriteFailed c o₂ e₂ m n failed f k r links₁ ok read h kept place last display e₃ k₁ status same shows said = (
    breaks_at c o₂ e₂ m n failed f k k₁ r BreaksOut (λ w s t b. b) ok read h,
    shows,
    subst (λ (seen : Option Seen). TellsStopWith seen WriteFailed (device e₂ e₃ k₁) status) (kept refl) said,
  )
  cut_at ErrorFailed c o₂ e₂ m n failed f k r links₁ ok read h kept place last display e₃ k₁ status same shows said = (
    inl (breaks_at c o₂ e₂ m n failed f k k₁ r BreaksErr (λ w s t b. (same refl ∙ b.0, b.1, b.2)) ok read h),
    shows,
    nothing_said links₁.seen _ status said,
  )

  -- or of the end of a link
  cut_at_end : (c e₂ : Option (List ℕ)) (m n : ℕ) (failed f k : Bool) (links₁ : Links) → Consumes b c [] → IsAtEnd c
      → IsEndCut path told links (device o₁ o₁ f) (device e₁ e₂ k)
      → EndsWith (Err ErrorFailed) path first (input_of a c m n failed) (device o o₁ f) (device e e₂ k) links₁
  cut_at_end c e₂ m n failed f k links₁ read at_end h place last display e₃ k₁ status same shows said = (
    inr (record {
      all = takes c m n failed [] read;
      at_end = at_end;
      before = h.before;
      next = h.next;
      more = h.more;
      ends = h.ends;
      closed = h.closed;
      last = h.last;
      in_turn = h.in_turn;
      part = after path h.last h.next so_far.written h.closed o o₁ o₁ e e₁ e₂ f k k₁ BreaksErr
          (λ w s t b. (same refl ∙ b.0, b.1, b.2)) so_far.sent so_far.said h.part;
    }),
    shows,
    nothing_said links₁.seen _ status said,
  )

  -- the ends of the links are taken after all records, as far as that goes
  pub ends_taken : (result : Result (Unit {0}) Stop) (c e₂ : Option (List ℕ)) (m n : ℕ) (failed f k : Bool) (links₁ : Links)
      → Consumes b c [] → IsAtEnd c → OnOk result (AreEnded path told links links₁ (e₁, e₂))
      → IfErr result (λ s. (s ≡ ErrorFailed) × IsEndCut path told links (device o₁ o₁ f) (device e₁ e₂ k))
      → EndsWith result path first (input_of a c m n failed) (device o o₁ f) (device e e₂ k) links₁
  ends_taken (Ok done) c e₂ m n failed f k links₁ read at_end h cut place last display e₃ k₁ status same shows said =
      let greatest = status_of-append so_far.written h.ws in
      let was = so_far.status in
      let is = h.status in (
        links₁.status,
        record {
          all = takes c m n failed [] read;
          at_end = at_end;
          closed = h.ws;
          after = mux_of told links₁;
          ends = h.ends;
          sent = Appends_is o o₁ (all_out so_far.written) (all_out (so_far.written ++ h.ws))
              (sym (all_out-append so_far.written h.ws ∙ ap (λ (s : List ℕ). all_out so_far.written ++ s) h.silent
              ∙ append-nil (all_out so_far.written))) so_far.sent;
          told = Appends_is e e₂ (all_err so_far.written ++ all_err h.ws) (all_err (so_far.written ++ h.ws))
              (sym (all_err-append so_far.written h.ws))
              (Appends_trans e e₁ e₂ (all_err so_far.written) (all_err h.ws) so_far.said h.reported);
          greatest = omega (arith, is, was, greatest);
        },
        shows,
        said,
      )
  ends_taken (Err s) c e₂ m n failed f k links₁ read at_end h cut place last display e₃ k₁ status same shows said =
      subst (λ (x : Stop). EndsWith (Err x) path first (input_of a c m n failed) (device o o₁ f) (device e e₂ k) links₁)
      (sym cut.0) (cut_at_end c e₂ m n failed f k links₁ read at_end cut.1) place last display e₃ k₁ status same shows said

  -- no more can be read
  pub none_read : (s : Stop) (c : Option (List ℕ)) (m n reads : ℕ) (failed f k : Bool) (rest : List ℕ)
      → Consumes b c rest → IsNone s rest (IsAtEnd c) failed reads → (reads ≡ 0 → WentUpBy m (2 ^ 40) n)
      → EndsWith (Err s) path first (input_of a c m n failed) (device o o₁ f) (device e e₁ k) links
  none_read BadRecord c m n reads failed f k rest read why asked place last display e₃ k₁ status same shows said =
      (stops_at c m n failed f k₁ rest _ read why, shows, said)
  none_read ReadFailed c m n reads failed f k rest read why asked place last display e₃ k₁ status same shows said = (
    stops_at c m n failed f k₁ rest _ read (why.0, elim why.1 [ inl x ↦ inl x | inr x ↦ inr (asked x) ]),
    shows,
    said,
  )
  none_read WriteFailed c m n reads failed f k rest read why asked place last display e₃ k₁ status same shows said = absurd why
  none_read ErrorFailed c m n reads failed f k rest read why asked place last display e₃ k₁ status same shows said = absurd why
