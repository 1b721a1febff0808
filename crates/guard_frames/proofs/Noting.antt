-- What a watch is told, part by part.
use Rattle.std.proofs.Common.{◌≡◌, ◌<◌, ◌≤◌, ℕ, ◌+◌, ◌-◌, List, [], ◌∷◌, ◌++◌, ◌∙◌, ap, sym, refl, subst, inl, inr, drop, length, append_assoc, length-append, arith}
use Rattle.std.specs.List.{concat}
use Rattle.std.specs.Prelude.{Result, Ok, Err}
use Rattle.std.proofs.lemmas.List.{append-nil}
use Rattle.guard_frames.specs.declared.totals.Totals.{Totals}
use Rattle.guard_frames.specs.declared.why.Reason.{Reason}
use Rattle.guard_frames.specs.declared.why.Why.{Why}
use Rattle.guard_frames.specs.declared.why.Why.TheVariants.{BadHeader, NoMemory, Decided}
use Rattle.guard_frames.specs.declared.untold.Untold.{Untold}
use Rattle.guard_frames.specs.declared.link.Closing.{Closing}
use Rattle.guard_frames.specs.declared.link.Closing.TheVariants.{FrameTooLong, OutFailed, ReportsFailed, TornFrame}
use Rattle.guard_frames.specs.inside.Closing.{NotedBy}
use Rattle.guard_frames.specs.inside.Untold.{none_from, IsToldOf, IsOneMore}
use Rattle.guard_frames.specs.Added.{Added, nothing, joined, sent_more, reported_more}
use Rattle.guard_frames.specs.Bodies.{AbstractBody}
use Rattle.guard_frames.specs.Frames.{IsFrame}
use Rattle.guard_frames.specs.inside.Judged.{report_line, ReportGives}
use Rattle.guard_frames.specs.Outcomes.{Decision, GoesBy}
use Rattle.guard_frames.specs.Reasons.{Says, Told, IsPaused, AreLetBy, Tells, IsTold, Noted}
use Rattle.guard_frames.specs.Reasons.Told.{pauses, reads, goes, stays}
use Rattle.guard_frames.specs.Leaving.{AllDecided, Watched}
use Rattle.guard_frames.proofs.Elements.{All_none, All_more}
use Rattle.guard_frames.proofs.Progress.{concat_more}

-- the line of a report says why
says_why : (Gives : Reason → List ℕ → Type 0) (n : ℕ) (why : Why) (line : List ℕ) → ReportGives Gives why line → Says Gives why (report_line n why line)
says_why Gives n BadHeader line h = (n, refl)
says_why Gives n NoMemory line h = (n, refl)
says_why Gives n (Decided reason) line h = h

-- ---- octets that are added

pub joined_nothing : (a : Added) → joined a nothing ≡ a
joined_nothing a = λ i. record { out = append-nil a.out i; reports = append-nil a.reports i }

pub sent_none : (a : Added) (s : List ℕ) → s ≡ [] → sent_more a s ≡ a
sent_none a s e = ap (sent_more a) e ∙ (λ i. record { out = append-nil a.out i; reports = a.reports })

sent_both : (a : Added) (s t : List ℕ) → sent_more (sent_more a s) t ≡ sent_more a (s ++ t)
sent_both a s t = λ i. record { out = append_assoc a.out s t i; reports = a.reports }

joined_sent : (a b : Added) (s : List ℕ) → joined a (sent_more b s) ≡ sent_more (joined a b) s
joined_sent a b s = λ i. record { out = sym (append_assoc a.out b.out s) i; reports = a.reports ++ b.reports }

joined_reported : (a b : Added) (s : List ℕ) → joined a (reported_more b s) ≡ reported_more (joined a b) s
joined_reported a b s = λ i. record { out = a.out ++ b.out; reports = sym (append_assoc a.reports b.reports s) i }

-- ---- frames by one rule

no_octets : (frames : List (List ℕ)) → length frames ≡ 0 → concat frames ≡ []
no_octets [] none = refl
no_octets (f ∷ fs) none = absurd (omega (arith, none))

no_frames : (Lets : AbstractBody → ℕ → Type 0) (rule : ℕ) → AreLetBy Lets 0 rule []
no_frames Lets rule = record { frames = []; joined = refl; counted = refl; each = All_none (λ frame. IsFrame frame × GoesBy Lets (drop 4 frame) rule) }

frame_more : (Lets : AbstractBody → ℕ → Type 0) (count rule : ℕ) (octets frame body : List ℕ) → AreLetBy Lets count rule octets → IsFrame frame →
    body ≡ drop 4 frame → GoesBy Lets body rule → AreLetBy Lets (count + 1) rule (octets ++ frame)
frame_more Lets count rule octets frame body h is same by = record {
  frames = h.frames ++ frame ∷ [];
  joined = ap (λ s. s ++ frame) h.joined ∙ sym (concat_more h.frames frame);
  counted = omega (arith, h.counted, length-append h.frames (frame ∷ []));
  each = All_more (λ frame. IsFrame frame × GoesBy Lets (drop 4 frame) rule) h.frames frame h.each (is, subst (λ (s : List ℕ). GoesBy Lets s rule) same by);
}

-- A watch was told of all of which this was added, but for these, which are the last of so many frames and end here.
pub record NotedBut {W : Type 0} (Gives : Reason → List ℕ → Type 0) (Lets : AbstractBody → ℕ → Type 0) (notes : W → Told → W → Type 0) (old : W) (these : Untold)
    (count end : ℕ) (added : Added) (new : W) : Type 0 where
  pub first : Added
  pub octets : List ℕ
  pub all : added ≡ sent_more first octets
  pub among : these.before ≤ count
  pub last : AreLetBy Lets (count - these.before) these.rule octets
  pub size : end ≡ these.start + length octets
  pub few : count ≤ end
  pub noted : Noted Gives Lets notes old first new

-- ---- what was told, and then more

abbrev Never : List ℕ → Added → Totals → Type 0
Never read front t = ⊥

-- no piece came where there was no pause
none_read : (Gives : Reason → List ℕ → Type 0) (Lets : AbstractBody → ℕ → Type 0) (told : List Told) (read : List ℕ) (a : Added) → IsPaused told → Tells Never Gives Lets told read a → ⊥
none_read Gives Lets [] read a p h = p
none_read Gives Lets (pauses t ∷ told) read a p h = h.0
none_read Gives Lets (reads n ∷ told) read a p h = p
none_read Gives Lets (goes count n rule ∷ told) read a p h = p
none_read Gives Lets (stays why ∷ told) read a p h = p

tells_on : (At : List ℕ → Added → Totals → Type 0) (Gives : Reason → List ℕ → Type 0) (Lets : AbstractBody → ℕ → Type 0) (xs ys : List Told) (read : List ℕ) (a b : Added) →
    Tells At Gives Lets xs read a → Tells Never Gives Lets ys [] b → Tells At Gives Lets (ys ++ xs) read (joined a b)
tells_on At Gives Lets xs [] read a b h k =
    subst (Tells At Gives Lets xs read) (sym (ap (joined a) k.1 ∙ joined_nothing a)) h
tells_on At Gives Lets xs (pauses t ∷ ys) read a b h k = absurd k.0
tells_on At Gives Lets xs (reads n ∷ ys) read a b h (first, piece, e, size, paused, k) = absurd (none_read Gives Lets ys first b paused k)
tells_on At Gives Lets xs (goes count n rule ∷ ys) read a b h (first, octets, e, by, some, size, k) =
    (joined a first, octets, ap (joined a) e ∙ joined_sent a first octets, by, some, size, tells_on At Gives Lets xs ys read a first h k)
tells_on At Gives Lets xs (stays why ∷ ys) read a b h (first, line, e, says, k) =
    (joined a first, line, ap (joined a) e ∙ joined_reported a first line, says, tells_on At Gives Lets xs ys read a first h k)

module _ (W : Type 0) (notes : W → Told → W → Type 0) where
  is_told_on : (a b c : W) (xs ys : List Told) → IsTold notes a xs b → IsTold notes b ys c → IsTold notes a (ys ++ xs) c
  is_told_on a b c xs [] h k = subst (IsTold notes a xs) (sym k) h
  is_told_on a b c xs (y ∷ ys) h (last, k, noted) = (last, is_told_on a b last xs ys h k, noted)

module _ (W : Type 0) (Gives : Reason → List ℕ → Type 0) (Lets : AbstractBody → ℕ → Type 0) (notes : W → Told → W → Type 0) where
  pub noted_none : (a : W) → Noted Gives Lets notes a nothing a
  noted_none a = ([], (refl, refl), refl)

  pub noted_same : (a b : W) → b ≡ a → Noted Gives Lets notes a nothing b
  noted_same a b e = subst (λ (w : W). Noted Gives Lets notes a nothing w) (sym e) (noted_none a)

  pub noted_on : (a b c : W) (x y : Added) → Noted Gives Lets notes a x b → Noted Gives Lets notes b y c → Noted Gives Lets notes a (joined x y) c
  noted_on a b c x y p q =
      (q.0 ++ p.0, tells_on Never Gives Lets p.0 q.0 [] x y p.1 q.1, is_told_on W notes a b c p.0 q.0 p.2 q.2)

  -- ---- frames that go

  pub but_none : (a b : W) (x : Added) (end : ℕ) → Noted Gives Lets notes a x b → NotedBut Gives Lets notes a (none_from end) 0 end x b
  but_none a b x end p = record {
    first = x;
    octets = [];
    all = sym (sent_none x [] refl);
    among = omega arith;
    last = no_frames Lets 0;
    size = omega arith;
    few = omega arith;
    noted = p;
  }

  -- those that wait are told
  pub but_told : (a b c : W) (these : Untold) (count end : ℕ) (x : Added) → NotedBut Gives Lets notes a these count end x b → IsToldOf notes these count end b c →
      Noted Gives Lets notes a x c
  but_told a b c these count end x h (inl (none, same)) =
      let empty : h.octets ≡ [] = h.last.joined ∙ no_octets h.last.frames (omega (arith, none, h.last.counted)) in
      rw (h.all ∙ sent_none h.first h.octets empty, same) h.noted
  but_told a b c these count end x h (inr (some, noted)) =
      let size : end - these.start ≡ length h.octets = omega (arith, h.size) in
      let some₁ : 0 < count - these.before = omega (arith, some) in
      rw (h.all) (goes (count - these.before) (end - these.start) these.rule ∷ h.noted.0, (h.first, h.octets, refl, h.last, some₁, size, h.noted.1), (b, h.noted.2, noted))

  -- one more goes
  pub but_more : (a b c : W) (these more : Untold) (count end rule : ℕ) (x : Added) (frame body : List ℕ) → NotedBut Gives Lets notes a these count end x b →
      IsOneMore notes these rule count end b c more → IsFrame frame → body ≡ drop 4 frame → GoesBy Lets body rule →
      NotedBut Gives Lets notes a more (count + 1) (end + length frame) (sent_more x frame) c
  but_more a b c these more count end rule x frame body h (inl (theirs, told, same_ones)) is same by = rw (same_ones, told) (record {
    first = h.first;
    octets = h.octets ++ frame;
    all = ap (λ y. sent_more y frame) h.all ∙ sent_both h.first h.octets frame;
    among = omega (arith, h.among);
    last = let counted : count - these.before + 1 ≡ count + 1 - these.before = omega (arith, h.among) in
        subst (λ k. AreLetBy Lets k these.rule (h.octets ++ frame)) counted
        (frame_more Lets (count - these.before) these.rule h.octets frame body h.last is same (subst (GoesBy Lets body) theirs by));
    size = omega (arith, h.size, length-append h.octets frame);
    few = omega (arith, h.few, is.header);
    noted = h.noted;
  })
  but_more a b c these more count end rule x frame body h (inr (other, told, first)) is same by = rw (first) (record {
    first = x;
    octets = frame;
    all = refl;
    among = omega arith;
    last = let counted : 0 + 1 ≡ count + 1 - count = omega arith in
        subst (λ k. AreLetBy Lets k rule frame) counted (frame_more Lets 0 rule [] frame body (no_frames Lets rule) is same by);
    size = refl;
    few = omega (arith, h.few, is.header);
    noted = but_told a b c these count end x h told;
  })

  -- one more stays
  pub noted_staying : (a b c : W) (n : ℕ) (why : Why) (said : List ℕ) (x : Added) (line : List ℕ) → Noted Gives Lets notes a x b → line ≡ report_line n why said
      → ReportGives Gives why said → notes b (stays why) c → Noted Gives Lets notes a (reported_more x line) c
  noted_staying a b c n why said x line p is gives noted =
      let says : Says Gives why line = subst (Says Gives why) (sym is) (says_why Gives n why said gives) in
      (stays why ∷ p.0, (x, line, refl, says, p.1), (b, p.2, noted))

  -- what a piece adds, after what was added before it
  pub noted_by_on : (result : Result (Unit {0}) Closing) (a b c : W) (x y : Added) → Noted Gives Lets notes a x b →
      NotedBy result (λ z. Noted Gives Lets notes b z c) y → NotedBy result (λ z. Noted Gives Lets notes a z c) (joined x y)
  noted_by_on (Ok done) a b c x y p q = noted_on a b c x y p q
  noted_by_on (Err (FrameTooLong size)) a b c x y p q = noted_on a b c x y p q
  noted_by_on (Err OutFailed) a b c x y p q =
      (q.0, subst (λ (z : Added). Noted Gives Lets notes a z c) (joined_sent x y q.0) (noted_on a b c x (sent_more y q.0) p q.1))
  noted_by_on (Err ReportsFailed) a b c x y p q = (joined x q.0, noted_on a b c x q.0 p q.1)
  noted_by_on (Err (TornFrame count)) a b c x y p q = noted_on a b c x y p q

  -- ---- a run

  pub watched_none : (d : Decision) (a : W) → Watched d Gives Lets notes a [] nothing a
  watched_none d a = ([], (refl, refl), refl)

  pub watched_pause : (d : Decision) (a b c : W) (t : Totals) (read : List ℕ) (x : Added) → Watched d Gives Lets notes a read x b → AllDecided d read x t →
      notes b (pauses t) c → Watched d Gives Lets notes a read x c
  watched_pause d a b c t read x p decided noted = (pauses t ∷ p.0, (decided, p.1), (b, p.2, noted))

  -- a piece comes after a pause
  pub watched_piece : (d : Decision) (a b c e : W) (t : Totals) (n : ℕ) (read piece : List ℕ) (x : Added) → Watched d Gives Lets notes a read x b →
      AllDecided d read x t → notes b (pauses t) c → n ≡ length piece → notes c (reads n) e → Watched d Gives Lets notes a (read ++ piece) x e
  watched_piece d a b c e t n read piece x p decided paused size noted = (
    reads n ∷ pauses t ∷ p.0,
    (read, piece, refl, size, tt, (decided, p.1)),
    (c, (b, p.2, paused), noted),
  )

  pub watched_on : (d : Decision) (a b c : W) (read : List ℕ) (x y : Added) → Watched d Gives Lets notes a read x b → Noted Gives Lets notes b y c →
      Watched d Gives Lets notes a read (joined x y) c
  watched_on d a b c read x y p q =
      (q.0 ++ p.0, tells_on (AllDecided d) Gives Lets p.0 q.0 read x y p.1 q.1, is_told_on W notes a b c p.0 q.0 p.2 q.2)
