-- What the code does of one record, part by part.
use Rattle.std.proofs.Common.{◌≡◌, ◌∙◌, ◌<◌, ◌≤◌, ◌⊎◌, inl, inr, max, ℕ, zero, suc, Bool, true, false, not, cond, nat_eq, List, [], ◌∷◌, ◌++◌, ap, refl, sym, subst, length, arith, get_or, slice_get, slice_set}
use mir.Val.{bool_byte}
use Rattle.std.specs.Prelude.{Option, Some, None, Result, Ok, Err, OnSome, OnOk, IfErr}
use Rattle.std.specs.List.{All}
use Rattle.std.specs.Io.KnownBytes.{Appends}
use Rattle.std.proofs.lemmas.List.{length-map, length-set}
use Rattle.std.proofs.lemmas.List.Elements.{All-cons}
use Rattle.std.proofs.lemmas.Option.{same_Some, none-some, slice_get-get_or}
use Rattle.guard_frames.specs.declared.gateway.Gateway.{Gateway}
use Rattle.guard_frames.specs.declared.gateway.StepFault.{StepFault}
use Rattle.guard_frames.specs.declared.gateway.StepFault.TheVariants.{NoSuchLink, Link as of_link}
use Rattle.guard_frames.specs.declared.link.LinkFault.TheVariants as link_fault
use Rattle.guard_frames.specs.declared.kept.Kept.{Kept}
use Rattle.guard_frames.specs.declared.link.LinkFault.{LinkFault}
use Rattle.guard_frames.specs.declared.seats.Ends.{Ends}
use Rattle.guard_frames.specs.Added.{Added, Octets, nothing}
use Rattle.guard_frames.specs.Gateways.{AbstractGateway, AbstractEvent as event, step_answer}
use Rattle.guard_frames.specs.GatewaySteps.{Step}
use Rattle.guard_frames.specs.GatewayView.{gateway_view, gateway_ends, Took}
use Rattle.guard_frames.specs.KeptView.{kept_octets, kept_failed}
use Rattle.guard_frames.specs.LinkView.{link_view}
use Rattle.guard_frames.specs.Prefix.{IsProperPrefix}
use Rattle.guard_frames.proofs.Appending.{Appends_none, Appends_trans, Prefix_first, Prefix_second}
use Rattle.guard_frames.proofs.Elements.{All_first, All_rest}
use Rattle.guard_frames.specs.Lending.{HasEnds}
use Rattle.guard_files.specs.declared.stop.Stop.{Stop}
use Rattle.guard_files.specs.declared.stop.Stop.TheVariants.{BadRecord, ReadFailed, WriteFailed, ErrorFailed}
use Rattle.guard_files.specs.Devices.{Device, device}
use Rattle.guard_files.specs.Files.{Told}
use Rattle.guard_files.specs.Records.{Record}
use Rattle.guard_files.specs.Records.Record.{piece, end}
use Rattle.guard_streams.specs.declared.links.Links.{Links}
use Rattle.guard_streams.specs.declared.seen.Seen.{Seen}
use Rattle.guard_streams.specs.AtFault.{IsFaultNote}
use Rattle.guard_streams.specs.Muxing.{WritesPart, BreaksErr}
use Rattle.guard_streams.specs.Passing.{InRecords, marked, fault_line}
use Rattle.guard_streams.specs.declared.counts.Counts.{Counts}
use Rattle.guard_streams.specs.Counted.{AreCounted}
use Rattle.guard_streams.specs.Counters.{AbstractCounted}
use Rattle.guard_streams.specs.LinksCounted.{IsCounted, ended_counted, maybe_counted}
use Rattle.guard_streams.specs.inside.Following.{AreFollowed, piece_counted}
use Rattle.guard_streams.proofs.Followed.{is_counted}
use Rattle.guard_streams.specs.Tallying.{IsSeen}
use Rattle.guard_streams.specs.inside.Seeing.{counts_in, seen_after}
use Rattle.guard_streams.specs.Turns.{AbstractMux, Written, PassesOn, link_status}
use Rattle.guard_streams.proofs.PassingLaws.{all_records}
use Rattle.guard_streams.proofs.TallyLaws.{seen_is}
use Rattle.guard_streams.specs.inside.Doing.{AreEmpty, IsReady, IsFed, ArePassed, AreCut, mux_of, IsTaken, IsCut}

-- ---- one place of a list

pub set_here : {X : Type 0} (xs : List X) (i : ℕ) (old new : X) → slice_get xs i ≡ Some old
    → slice_get (slice_set xs i new) i ≡ Some new
set_here [] i old new h = absurd (none-some old h)
set_here (x ∷ xs) zero old new h = refl
set_here (x ∷ xs) (suc i) old new h = set_here xs i old new h

pub all_set_twice : {X : Type 0} (P : X → Type 0) (xs : List X) (i : ℕ) (a b : X) → All P xs → P b
    → All P (slice_set (slice_set xs i a) i b)
all_set_twice P [] i a b h pb = h
all_set_twice P (x ∷ xs) zero a b h pb = All-cons P b xs pb (All_rest P x xs h)
all_set_twice P (x ∷ xs) (suc i) a b h pb =
    All-cons P x (slice_set (slice_set xs i a) i b) (All_first P x xs h)
    (all_set_twice P xs i a b (All_rest P x xs h) pb)

pub all_at : {X : Type 0} (P : X → Type 0) (xs : List X) (i : ℕ) (x : X) → All P xs → slice_get xs i ≡ Some x → P x
all_at P [] i x h there = absurd (none-some x there)
all_at P (y ∷ xs) zero x h there = subst P (same_Some y x there) (All_first P y xs h)
all_at P (y ∷ xs) (suc i) x h there = all_at P xs i x (All_rest P y xs h) there

pub is_there : {X : Type 0} (xs : List X) (i : ℕ) → i ≤ 15 → length xs ≡ 16 → slice_get xs i ≡ None → ⊥
is_there [] i few many none = omega (arith, many)
is_there (x ∷ xs) i few many none =
    none-some (get_or (x ∷ xs) i x) (sym none ∙ slice_get-get_or (x ∷ xs) i x (omega (arith, few, many)))

-- ---- the answers of links that are there

pub not_answered : (answer : Result (Unit {0}) LinkFault) → step_answer answer ≡ Err NoSuchLink → ⊥
not_answered (Ok done) e = absurd cc
not_answered (Err f) e = absurd cc

pub fed_there : (old new : AbstractGateway) (i : ℕ) (octets : List ℕ) (told : Result (Unit {0}) StepFault)
    (added : Added) → i ≤ 15 → length old.links ≡ 16
    → Step old (event.piece i octets) told added new → told ≡ Err NoSuchLink → ⊥
fed_there old new i octets told added few many (inl h) e = is_there old.links i few many h.none
fed_there old new i octets told added few many (inr h) e = not_answered h.link_answer (sym h.answered ∙ e)

-- ---- a piece is fed

pub same_length : (g : Gateway Kept) → length (gateway_ends g) ≡ length (gateway_view g).links
same_length g = length-map g.seats.items (λ x. x.ends) ∙ sym (length-map g.seats.items (λ x. link_view x.link))

pub same_answer : (a b : Result (Unit {0}) LinkFault) → step_answer a ≡ step_answer b → a ≡ b
same_answer (Ok done) (Ok other) e = refl
same_answer (Ok done) (Err f) e = absurd cc
same_answer (Err f) (Ok done) e = absurd cc
same_answer (Err f) (Err k) e = cc

-- What holds of what was added, unless a sink of the link has failed, holds of what the piece added.
pub fed_of : (old new : Gateway Kept) (link : ℕ) (octets : List ℕ) (told : Result (Unit {0}) StepFault)
    (answer : Result (Unit {0}) LinkFault) (added : Added)
    → All AreEmpty (gateway_ends old) → length (gateway_ends old) ≡ 16 → link ≤ 15 → told ≡ step_answer answer
    → Step (gateway_view old) (event.piece link octets) told added (gateway_view new)
    → Took (λ (s : Kept). Some (kept_octets s)) kept_failed (gateway_ends old) (event.piece link octets) told added
    (gateway_ends new)
    → (So : Added → Type 0) → ((told ≡ Err (of_link link_fault.WriteFailed) → ⊥) → So added)
    → (x : IsFed link old octets answer new) × ((answer ≡ Err link_fault.WriteFailed → ⊥) → So x.added)
fed_of old new link octets told answer added empty many few is step (inl t) So so =
    let was = all_at AreEmpty (gateway_ends old) link t.old_ends empty t.there in (
      record {
        added = added;
        step = subst (λ (x : Result (Unit {0}) StepFault). Step (gateway_view old) (event.piece link octets) x added
            (gateway_view new)) is step;
        ends = t.new_ends;
        there = ap (λ (es : List (Ends Kept)). slice_get es link) t.others
            ∙ set_here (gateway_ends old) link t.old_ends t.new_ends t.there;
        out = t.took.sent ∙ ap (λ (s : List ℕ). s ++ added.out) was.out;
        reports = t.took.reported ∙ ap (λ (s : List ℕ). s ++ added.reports) was.reports;
        others = t.others;
      },
      λ well. so (λ e. well (same_answer answer (Err link_fault.WriteFailed) (sym is ∙ e))),
    )
fed_of old new link octets told answer added empty many few is step (inr none) So so =
    absurd (is_there (gateway_ends old) link few many none.0)

-- ---- a piece is taken

link_status_is : (reports : List ℕ) (answer : Result (Unit {0}) LinkFault)
    → max (cond (not (nat_eq (length reports) 0)) 1 0) (link_status [] answer) ≡ link_status reports answer
link_status_is [] (Ok done) = omega arith
link_status_is [] (Err f) = omega arith
link_status_is (o ∷ reports) (Ok done) = grind arith
link_status_is (o ∷ reports) (Err f) = grind arith

byte_is : (b : Bool) → bool_byte b ≡ cond b 1 0
byte_is true = refl
byte_is false = refl

pub status_after : (any : Bool) (was one now last : ℕ) (reports : List ℕ) (answer : Result (Unit {0}) LinkFault)
    → any ≡ not (nat_eq (length reports) 0)
    → one ≡ bool_byte any → now ≡ max was one → last ≡ max now (link_status [] answer)
    → last ≡ max was (link_status reports answer)
status_after any was one now last reports answer is one_is now_is last_is =
    let num : Bool → ℕ = λ b. cond b 1 0 in
    let all = link_status_is reports answer in
    let same : one ≡ num (not (nat_eq (length reports) 0)) = one_is ∙ byte_is any ∙ ap num is in
    omega (arith, all, same, now_is, last_is)

-- what the sinks of a link took is passed on, and they are lent for that
pub passed_of : (old : Gateway Kept) (link : ℕ) (lent ends : Ends Kept) (lender : Gateway Kept)
    (emptied : Ends Kept) (o o₁ e e₁ : Option (List ℕ)) → lent ≡ ends
    → (written : List ℕ) × InRecords link (kept_octets lent.out) written × Appends o o₁ written
    × Appends e e₁ (marked link (kept_octets lent.reports))
    → HasEnds old link emptied lender → AreEmpty emptied → ArePassed link ends old lender (o, o₁) (e, e₁)
passed_of old link lent ends lender emptied o o₁ e e₁ same h has empty = record {
  written = h.0;
  records = subst (λ (x : Ends Kept). InRecords link (kept_octets x.out) h.0) same h.1;
  sent = h.2;
  told = subst (λ (x : Ends Kept). Appends e e₁ (marked link (kept_octets x.reports))) same h.3;
  view = has.view;
  emptied = emptied;
  empty = empty;
  others = has.ends;
}

pub passed_there : (link : ℕ) (ends : Ends Kept) (old new same : Gateway Kept) (out err : Octets) → same ≡ new
    → ArePassed link ends old new out err → ArePassed link ends old same out err
passed_there link ends old new same out err is h =
    subst (λ (x : Gateway Kept). ArePassed link ends old x out err) (sym is) h

pub some_of : {A P : Type 0} (r : Option A) (x : A) → r ≡ Some x → OnSome r P → P
some_of None x e p = absurd (none-some x e)
some_of (Some y) x e p = p

-- the links are still all there
pub all_there : (old g new : Gateway Kept) (link : ℕ) (octets : List ℕ) (answer : Result (Unit {0}) LinkFault)
    (fed : IsFed link old octets answer g) (out err : Octets) → IsReady old → ArePassed link fed.ends g new out err
    → length (gateway_view new).links ≡ 16
all_there old g new link octets answer fed out err ready p =
    let after : gateway_ends new ≡ slice_set (slice_set (gateway_ends old) link fed.ends) link p.emptied =
    p.others ∙ ap (λ (es : List (Ends Kept)). slice_set es link p.emptied) fed.others in
    sym (same_length new) ∙ ap length after ∙ length-set (slice_set (gateway_ends old) link fed.ends) link p.emptied
    ∙ length-set (gateway_ends old) link fed.ends ∙ same_length old ∙ ready.many

module _ (path : List ℕ) (told : Told) (old : Links) (link : ℕ) (octets : List ℕ)
    (answer : Result (Unit {0}) LinkFault) (g : Gateway Kept)
    (fed : IsFed link old.gateway octets answer g) (note : List ℕ)
    (noted : IsFaultNote old.seen (gateway_view old.gateway) link (event.piece link octets) answer note)
    (counts : Counts) (counted : (answer ≡ Err link_fault.WriteFailed → ⊥)
    → AreCounted (gateway_view old.gateway).policy (counts_in old.seen) fed.added.reports counts)
    (tallied : Option AbstractCounted) (followed : (answer ≡ Err link_fault.WriteFailed → ⊥)
    → AreFollowed (gateway_view old.gateway).policy (maybe_counted old.followed.counted) fed.added tallied) where
  abbrev pub answered : List ℕ
  answered = fault_line link answer ++ note

  abbrev written_of : List ℕ → Written
  written_of out = record {
    out = out;
    err = marked link fed.added.reports ++ answered;
    status =
        link_status fed.added.reports answer;
  }

  passes : (out : List ℕ) (new : Gateway Kept) → InRecords link (kept_octets fed.ends.out) out
      → gateway_view new ≡ gateway_view g
      → PassesOn link old.seen (gateway_view old.gateway) (event.piece link octets) (written_of out) (gateway_view new)
  passes out new records view = record {
    answer = answer;
    added = fed.added;
    step = subst (λ (x : AbstractGateway). Step (gateway_view old.gateway) (event.piece link octets)
        (step_answer answer) fed.added x) (sym view) fed.step;
    out = subst (λ (s : List ℕ). InRecords link s out) fed.out records;
    note = note;
    noted = noted;
    err = refl;
    status = refl;
  }

  -- what is seen by the links that there are after the piece
  abbrev seen_by : AbstractGateway → Option Seen
  seen_by now = seen_after old.seen answer now.links counts

  is_seen : (now : AbstractGateway)
      → IsSeen (gateway_view old.gateway).policy old.seen answer fed.added now.links (seen_by now)
  is_seen now = seen_is (gateway_view old.gateway).policy old.seen answer fed.added now.links counts counted

  -- and what is counted
  abbrev pub counted_by : AbstractGateway → Option AbstractCounted
  counted_by now = piece_counted tallied answer (length octets) now.links

  count_is : (now : AbstractGateway) → (answer ≡ Err link_fault.WriteFailed → ⊥)
      → IsCounted (gateway_view old.gateway).policy (maybe_counted old.followed.counted) answer octets fed.added now.links
      (counted_by now)
  count_is now well = is_counted (gateway_view old.gateway).policy (maybe_counted old.followed.counted) tallied answer octets
      fed.added now.links (followed well)

  pub piece_taken : (new : Links) (out : Octets) (e e₁ e₂ : Option (List ℕ)) → IsReady old.gateway
      → (p : ArePassed link fed.ends g new.gateway out (e, e₁))
      → Appends e₁ e₂ answered → new.status ≡ max old.status (link_status fed.added.reports answer)
      → new.seen ≡ seen_by (gateway_view new.gateway)
      → maybe_counted new.followed.counted ≡ counted_by (gateway_view new.gateway)
      → IsTaken path told old (piece link octets) told new out (e, e₂)
  unfolding passes
  piece_taken new out e e₁ e₂ ready p said status seen counts_is =
      let after : gateway_ends new.gateway ≡ slice_set (slice_set (gateway_ends old.gateway) link fed.ends) link
      p.emptied =
      p.others ∙ ap (λ (es : List (Ends Kept)). slice_set es link p.emptied) fed.others in
      record {
        w = written_of p.written;
        happens = (
          passes p.written new.gateway p.records p.view,
          refl,
          subst (λ (x : Option Seen). IsSeen (gateway_view old.gateway).policy old.seen answer fed.added
              (gateway_view new.gateway).links x) (sym seen) (is_seen (gateway_view new.gateway)),
          λ well. subst (λ (x : Option AbstractCounted). IsCounted (gateway_view old.gateway).policy
              (maybe_counted old.followed.counted) answer octets fed.added (gateway_view new.gateway).links x)
              (sym counts_is) (count_is (gateway_view new.gateway) well),
        );
        sent = p.sent;
        told = Appends_trans e e₁ e₂ (marked link fed.added.reports) answered
            (subst (λ (s : List ℕ). Appends e e₁ (marked link s)) fed.reports p.told) said;
        status = status;
        ready = record {
          many = all_there old.gateway g new.gateway link octets answer fed out (e, e₁) ready p;
          empty = subst (All AreEmpty) (sym after) (all_set_twice AreEmpty
              (gateway_ends old.gateway) link fed.ends p.emptied ready.empty p.empty);
        };
      }

  pub piece_cut_passing : (s : Stop) (o o₁ e e₁ : Option (List ℕ)) (f k : Bool)
      → AreCut s link fed.ends (device o o₁ f) (device e e₁ k)
      → IsCut s path (mux_of told old) (piece link octets) (device o o₁ f) (device e e₁ k)
  unfolding passes
  piece_cut_passing BadRecord o o₁ e e₁ f k h = h
  piece_cut_passing ReadFailed o o₁ e e₁ f k h = h
  piece_cut_passing WriteFailed o o₁ e e₁ f k h = record {
    w = written_of h.written;
    new = record { told = told; gateway = gateway_view g; seen = seen_by (gateway_view g); counted = counted_by (gateway_view g) };
    happens = (passes h.written g h.records refl, refl, is_seen (gateway_view g), count_is (gateway_view g));
    out_part = h.part;
    err_part = [];
    breaks = (h.failed, h.prefix, refl);
    sent = h.sent;
    told = subst (λ (x : Option (List ℕ)). Appends e x []) (sym h.told) (Appends_none e);
  }
  piece_cut_passing ErrorFailed o o₁ e e₁ f k h = record {
    w = written_of h.written;
    new = record { told = told; gateway = gateway_view g; seen = seen_by (gateway_view g); counted = counted_by (gateway_view g) };
    happens = (passes h.written g h.records refl, refl, is_seen (gateway_view g), count_is (gateway_view g));
    out_part = h.written;
    err_part = h.part;
    breaks = (
      h.failed,
      refl,
      Prefix_first h.part (marked link fed.added.reports) answered
          (subst (λ (s : List ℕ). IsProperPrefix h.part (marked link s)) fed.reports h.prefix),
    );
    sent = h.sent;
    told = h.told;
  }

  pub piece_cut_telling : (s : Stop) (new : Gateway Kept) (o o₁ e e₁ e₂ : Option (List ℕ)) (f k : Bool)
      → ArePassed link fed.ends g new (o, o₁) (e, e₁)
      → (s ≡ ErrorFailed) × (k ≡ true) × ((part : List ℕ) × IsProperPrefix part answered
      × Appends e₁ e₂ part)
      → IsCut s path (mux_of told old) (piece link octets) (device o o₁ f) (device e e₂ k)
  unfolding passes
  piece_cut_telling s new o o₁ e e₁ e₂ f k p h =
      let cut : WritesPart path (mux_of told old) (piece link octets) [] (device o o₁ f) (device e e₂ k) BreaksErr =
      record {
        w = written_of p.written;
        new = record { told = told; gateway = gateway_view new; seen = seen_by (gateway_view new); counted = counted_by (gateway_view new) };
        happens = (passes p.written new p.records p.view, refl, is_seen (gateway_view new), count_is (gateway_view new));
        out_part = p.written;
        err_part = marked link fed.added.reports ++ h.2.0;
        breaks = (h.1, refl, Prefix_second h.2.0 (marked link fed.added.reports) answered h.2.1);
        sent = p.sent;
        told = Appends_trans e e₁ e₂ (marked link fed.added.reports) h.2.0
            (subst (λ (s : List ℕ). Appends e e₁ (marked link s)) fed.reports p.told) h.2.2;
      } in
      subst (λ (x : Stop). IsCut x path (mux_of told old) (piece link octets) (device o o₁ f) (device e e₂ k))
      (sym h.0) cut

-- ---- a link is ended

pub held_some : (held : List ℕ) → (held ≡ []) ⊎ (0 < length held)
held_some [] = inl refl
held_some (o ∷ held) = inr (omega arith)

module _ (old : Links) (link : ℕ) (answer : Result (Unit {0}) LinkFault) (g : Gateway Kept)
    (step : Step (gateway_view old.gateway) (event.end link) (step_answer answer) nothing (gateway_view g))
    (note : List ℕ) (noted : IsFaultNote old.seen (gateway_view old.gateway) link (event.end link) answer note) where
  abbrev ended_written : Written
  ended_written = record { out = []; err = fault_line link answer ++ note; status = link_status [] answer }

  end_passes : (new : Gateway Kept) → new ≡ g → PassesOn link old.seen (gateway_view old.gateway)
      (event.end link) ended_written (gateway_view new)
  end_passes new same = record {
    answer = answer;
    added = nothing;
    step = subst (λ (x : Gateway Kept). Step (gateway_view old.gateway) (event.end link)
        (step_answer answer) nothing (gateway_view x)) (sym same) step;
    out = all_records link [] refl;
    note = note;
    noted = noted;
    err = refl;
    status = refl;
  }

  pub end_taken : (path : List ℕ) (told : Told) (new : Links) (o e e₁ : Option (List ℕ)) → new.gateway ≡ g
      → IsReady g → Appends e e₁ (fault_line link answer ++ note)
      → new.status ≡ max old.status (link_status [] answer) → new.seen ≡ old.seen
      → maybe_counted new.followed.counted ≡ ended_counted (maybe_counted old.followed.counted) answer
      → IsTaken path told old (end link) told new (o, o) (e, e₁)
  unfolding end_passes
  end_taken path told new o e e₁ same ready said status seen counted = record {
    w = ended_written;
    happens = (end_passes new.gateway same, refl, seen, counted);
    sent = Appends_none o;
    told = said;
    status = status;
    ready = subst IsReady (sym same) ready;
  }

  pub end_cut : (path : List ℕ) (told : Told) (o e e₁ : Option (List ℕ)) (f k : Bool) → k ≡ true → (part : List ℕ)
      → IsProperPrefix part (fault_line link answer ++ note)
      → Appends e e₁ part → WritesPart path (mux_of told old) (end link) [] (device o o f) (device e e₁ k) BreaksErr
  unfolding end_passes
  end_cut path told o e e₁ f k failed part prefix said = record {
    w = ended_written;
    new = record { told = told; gateway = gateway_view g; seen = old.seen; counted = ended_counted (maybe_counted old.followed.counted) answer };
    happens = (end_passes g refl, refl, refl, refl);
    out_part = [];
    err_part = part;
    breaks = (failed, refl, prefix);
    sent = Appends_none o;
    told = said;
  }

-- ---- what a call answered

pub told_ok : {A E P Q : Type 0} (r : Result A E) → OnOk r P → (P → Q) → OnOk r Q
told_ok (Ok x) p f = f p
told_ok (Err e) p f = tt

pub told_err : {A E : Type 0} {P Q : E → Type 0} (r : Result A E) → IfErr r P → ((e : E) → P e → Q e) → IfErr r Q
told_err (Ok x) p f = tt
told_err (Err e) p f = f e p

-- standard error failed, and not standard output
pub is_error : {P : Stop → Type 0} (r : Result (Unit {0}) Stop) → IfErr r P → ((s : Stop) → P s → s ≡ ErrorFailed)
    → r ≡ Err WriteFailed → ⊥
is_error (Ok done) h is e = absurd cc
is_error (Err BadRecord) h is e = absurd cc
is_error (Err ReadFailed) h is e = absurd cc
is_error (Err WriteFailed) h is e = absurd (cc (is WriteFailed h))
is_error (Err ErrorFailed) h is e = absurd cc

pub cut_as_error : (s : Stop) (path : List ℕ) (old : AbstractMux) (r : Record) (out err : Device) → s ≡ ErrorFailed
    → WritesPart path old r [] out err BreaksErr → IsCut s path old r out err
cut_as_error s path old r out err is h = subst (λ (x : Stop). IsCut x path old r out err) (sym is) h
