-- The frames of one link in records that are read one after another.
use Rattle.std.proofs.Common.{◌≡◌, ◌∙◌, ◌+◌, ◌<◌, ◌≤◌, ◌^◌, ◌⊎◌, inl, inr, ℕ, Bool, List, [], ◌∷◌, ◌++◌, ap, refl, sym, subst, length, length-append, take, drop, map, arith, append_assoc}
use Rattle.std.specs.Prelude.{Option, Some}
use Rattle.std.specs.List.{concat, All}
use Rattle.std.specs.Io.KnownBytes.{Consumes, IsAtEnd}
use Rattle.std.proofs.lemmas.List.{append-nil, take-append-drop}
use Rattle.std.proofs.lemmas.List.Elements.{All-append}
use Rattle.std.proofs.lemmas.List.Folds.{concat-append}
use Rattle.guard_frames.specs.declared.running.RunFault.TheVariants.{FrameTooLong, TornFrame}
use Rattle.guard_frames.specs.Frames.{IsFrame, IsTooLong, IsUnfinished}
use Rattle.guard_frames.specs.Totals.{WentUpBy}
use Rattle.guard_frames.proofs.Elements.{All_none, All_more}
use Rattle.guard_frames.proofs.Holding.{empty_unfinished}
use Rattle.guard_frames.proofs.Reading.{Consumes_none, Consumes_trans}
use Rattle.guard_files.specs.declared.stop.Stop.{Stop}
use Rattle.guard_files.specs.declared.stop.Stop.TheVariants.{BadRecord, ReadFailed, WriteFailed, ErrorFailed}
use Rattle.guard_files.specs.Devices.{Input, input_of}
use Rattle.guard_files.specs.Files.{Told}
use Rattle.guard_files.specs.Records.{LeavesOpen, Record, link_octets, of_link, record_octets, IsAllowed, IsLink}
use Rattle.guard_files.specs.Records.Record.{end}
use Rattle.guard_files.specs.Headers.{IsNone}
use Rattle.guard_files.proofs.RecordLaws.{one_more}
use Rattle.guard_files.proofs.RecordReading.{joined_last}
use Rattle.guard_files.specs.declared.fault.Fault.TheVariants.{Run, NoMemory}
use Rattle.guard_messages.specs.declared.unfound.Unfound.{Unfound}
use Rattle.guard_messages.specs.declared.unfound.Unfound.TheVariants as unfound
use Rattle.guard_messages.specs.Finding.{IsUnfound, of_stop}
use Rattle.guard_messages.specs.Linked.{ReadsLink, IsNthOfLink}
use Rattle.guard_messages.specs.Numbered.{IsNumber}
use Rattle.guard_messages.specs.Questions.{framed}
use Rattle.guard_messages.specs.inside.Passed.{AreFrames, Completes, Holds, IsUnlinked, Refuses, joins}

-- ---- octets that are frames and a rest

pub no_frames : (octets : List ℕ) → AreFrames octets 0 octets
no_frames octets = record { frames = []; each = All_none IsFrame; many = refl; joined = refl }

joined_frames : (frames others : List (List ℕ)) (a b c : List ℕ) → a ≡ concat frames ++ b → b ≡ concat others ++ c
    → a ≡ concat (frames ++ others) ++ c
joined_frames frames others a b c e f =
    e ∙ ap (λ s. concat frames ++ s) f ∙ sym (append_assoc (concat frames) (concat others) c)
    ∙ ap (λ s. s ++ c) (sym (concat-append frames others))

pub frames_more : (octets rest more : List ℕ) (count size later : ℕ) → AreFrames octets count rest → IsFrame (take size rest)
    → more ≡ drop size rest → later ≡ count + 1 → AreFrames octets later more
frames_more octets rest more count size later h is at next =
    let frame = take size rest in
    let one : rest ≡ concat (frame ∷ []) ++ more =
    sym (take-append-drop size rest) ∙ ap (λ s. frame ++ s) (sym at) ∙ ap (λ s. s ++ more) (sym (append-nil frame)) in
    let sized = length-append h.frames (frame ∷ []) in
    let many = h.many in record {
      frames = h.frames ++ frame ∷ [];
      each = All_more IsFrame h.frames frame h.each is;
      many = omega (arith, sized, many, next);
      joined = joined_frames h.frames (frame ∷ []) octets rest more h.joined one;
    }

-- the frame that was copied
pub found_frame : (a b target frame : List ℕ) (at size count : ℕ) → a ≡ target → b ≡ target
    → AreFrames a count (drop at a) → IsFrame (take size (drop at a)) → frame ≡ take size (drop at b)
    → (more : List ℕ) × AreFrames target count (frame ++ more) × IsFrame frame
found_frame a b target frame at size count e f passed is cut =
    let same : frame ≡ take size (drop at a) = cut ∙ ap (λ s. take size (drop at s)) (f ∙ sym e) in
    let more = drop size (drop at a) in
    let whole : drop at a ≡ frame ++ more = sym (take-append-drop size (drop at a)) ∙ ap (λ s. s ++ more) (sym same) in (
      more,
      subst (λ (s : List ℕ). AreFrames s count (frame ++ more)) e (subst (λ (r : List ℕ). AreFrames a count r) whole passed),
      subst IsFrame (sym same) is,
    )

-- ---- one record

-- with these octets of the link
module _ (link : ℕ) (r : Record) (held octets : List ℕ) (before : ℕ) (going : LeavesOpen link r) (are : octets ≡ of_link link r) where
  pub piece_completes : (frame : List ℕ) → ((more : List ℕ) × AreFrames (held ++ octets) before (frame ++ more) × IsFrame frame)
      → Completes link r held before frame
  piece_completes frame (more, passed, is) = record {
    going = going;
    more = more;
    passed = subst (λ (s : List ℕ). AreFrames (held ++ s) before (frame ++ more)) are passed;
    is = is;
  }

  pub piece_holds : (later : List ℕ) (left : ℕ) → ((count : ℕ) × (left + count ≡ before) × AreFrames (held ++ octets) count later × IsUnfinished later)
      → Holds link r held later before left
  piece_holds later left (count, counted, passed, unfinished) = record {
    going = going;
    count = count;
    counted = counted;
    passed = subst (λ (s : List ℕ). AreFrames (held ++ s) count later) are passed;
    unfinished = unfinished;
  }

  pub piece_refuses : (u : Unfound)
      → ((u ≡ unfound.Faulty (Run FrameTooLong)) × ((rest : List ℕ) × (count : ℕ) × (count ≤ before) × AreFrames (held ++ octets) count rest × IsTooLong rest))
      ⊎ (u ≡ unfound.Faulty NoMemory) → Refuses u link r held before
  piece_refuses u (inl (why, (rest, count, few, passed, long))) =
      subst (λ (x : Unfound). Refuses x link r held before) (sym why)
      (going, (rest, count, few, subst (λ (s : List ℕ). AreFrames (held ++ s) count rest) are passed, long))
  piece_refuses u (inr why) = subst (λ (x : Unfound). Refuses x link r held before) (sym why) tt

-- The records so far, and what is held of the link.
pub record LinkedSoFar (link n : ℕ) (a b : Option (List ℕ)) (held : List ℕ) (before : ℕ) : Type 0 where
  pub records : List Record
  pub allowed : All IsAllowed records
  pub going : All (LeavesOpen link) records
  pub given : Consumes a b (concat (map record_octets records))
  pub frames : List (List ℕ)
  pub each : All IsFrame frames
  pub counted : length frames + before + 1 ≡ n
  pub octets : link_octets link records ≡ concat frames ++ held
  pub unfinished : IsUnfinished held

pub none_linked : (link n : ℕ) (a : Option (List ℕ)) (held : List ℕ) (before : ℕ) → held ≡ [] → before + 1 ≡ n
    → LinkedSoFar link n a a held before
none_linked link n a held before none first = record {
  records = [];
  allowed = All_none IsAllowed;
  going = All_none (LeavesOpen link);
  given = Consumes_none a;
  frames = [];
  each = All_none IsFrame;
  counted = omega (arith, first);
  octets = sym none;
  unfinished = subst IsUnfinished (sym none) empty_unfinished;
}

module _ (link n : ℕ) (a b : Option (List ℕ)) (held : List ℕ) (before : ℕ)
    (so_far : LinkedSoFar link n a b held before) where
  -- with one more record
  octets_more : (r : Record) (others : List (List ℕ)) (rest : List ℕ) → joins link held r ≡ concat others ++ rest
      → link_octets link (so_far.records ++ r ∷ []) ≡ concat (so_far.frames ++ others) ++ rest
  octets_more r others rest e =
      joined_frames so_far.frames others (link_octets link (so_far.records ++ r ∷ [])) (joins link held r) rest
      (one_more link so_far.records r ∙ ap (λ s. s ++ of_link link r) so_far.octets
      ∙ append_assoc (concat so_far.frames) held (of_link link r)) e

  given_more : (c : Option (List ℕ)) (r : Record) → Consumes b c (record_octets r)
      → Consumes a c (concat (map record_octets (so_far.records ++ r ∷ [])))
  given_more c r read =
      subst (λ (s : List ℕ). Consumes a c s) (sym (joined_last so_far.records r))
      (Consumes_trans a b c (concat (map record_octets so_far.records)) (record_octets r) so_far.given read)

  pub one_linked : (c : Option (List ℕ)) (r : Record) (later : List ℕ) (left : ℕ) → IsAllowed r
      → Consumes b c (record_octets r) → Holds link r held later before left → LinkedSoFar link n a c later left
  one_linked c r later left ok read h =
      let p = h.passed in
      let sized = length-append so_far.frames p.frames in
      let many = p.many in
      let counted = so_far.counted in
      let passed = h.counted in record {
        records = so_far.records ++ r ∷ [];
        allowed = All_more IsAllowed so_far.records r so_far.allowed ok;
        going = All_more (LeavesOpen link) so_far.records r so_far.going h.going;
        given = given_more c r read;
        frames = so_far.frames ++ p.frames;
        each = All-append IsFrame so_far.frames p.frames so_far.each p.each;
        counted = omega (arith, sized, many, counted, passed);
        octets = octets_more r p.frames later p.joined;
        unfinished = h.unfinished;
      }

  -- the records and these frames, with nothing read behind them
  reads_more : (c : Option (List ℕ)) (y z : ℕ) (failed : Bool) (r : Record) (count : ℕ) (rest : List ℕ) → IsAllowed r
      → LeavesOpen link r → Consumes b c (record_octets r) → (p : AreFrames (joins link held r) count rest) → count ≤ before
      → (all : ReadsLink link n (input_of a c y z failed) rest []) × (length all.frames ≡ length so_far.frames + count)
  reads_more c y z failed r count rest ok going read p few =
      let sized = length-append so_far.frames p.frames in
      let many = p.many in
      let counted = so_far.counted in (
        record {
          records = so_far.records ++ r ∷ [];
          allowed = All_more IsAllowed so_far.records r so_far.allowed ok;
          going = All_more (LeavesOpen link) so_far.records r so_far.going going;
          given = subst (λ (s : List ℕ). Consumes a c s)
              (sym (append-nil (concat (map record_octets (so_far.records ++ r ∷ []))))) (given_more c r read);
          frames = so_far.frames ++ p.frames;
          each = All-append IsFrame so_far.frames p.frames so_far.each p.each;
          fewer = omega (arith, sized, many, counted, few);
          octets = octets_more r p.frames rest p.joined;
        },
        omega (arith, sized, many),
      )

  -- the records before this rest
  reads_rest : (c : Option (List ℕ)) (y z : ℕ) (failed : Bool) (rest : List ℕ) → Consumes b c rest
      → ReadsLink link n (input_of a c y z failed) held rest
  reads_rest c y z failed rest read =
      let counted = so_far.counted in record {
        records = so_far.records;
        allowed = so_far.allowed;
        going = so_far.going;
        given = Consumes_trans a b c (concat (map record_octets so_far.records)) rest so_far.given read;
        frames = so_far.frames;
        each = so_far.each;
        fewer = omega (arith, counted);
        octets = so_far.octets;
      }

  pub completed : (c : Option (List ℕ)) (y z : ℕ) (failed : Bool) (r : Record) (frame : List ℕ) → IsAllowed r
      → Consumes b c (record_octets r) → Completes link r held before frame
      → IsNthOfLink link n (input_of a c y z failed) frame
  completed c y z failed r frame ok read h =
      let all = reads_more c y z failed r before (frame ++ h.more) ok h.going read h.passed (omega arith) in
      let counted = so_far.counted in
      let many = all.1 in record {
        more = h.more;
        all = all.0;
        number = omega (arith, counted, many);
        is = h.is;
      }

  pub refused : (u : Unfound) (c : Option (List ℕ)) (y z : ℕ) (failed : Bool) (r : Record) → IsAllowed r
      → Consumes b c (record_octets r) → Refuses u link r held before → IsUnlinked link n (input_of a c y z failed) u
  refused unfound.NoSuchFrame c y z failed r ok read (is, none) =
      let all = reads_rest c y z failed (record_octets r) read in
      inl (subst (λ (s : List ℕ). ReadsLink link n (input_of a c y z failed) s (record_octets (end link))) none
      (subst (λ (x : Record). ReadsLink link n (input_of a c y z failed) held (record_octets x)) is all))
  refused (unfound.Faulty (Run TornFrame)) c y z failed r ok read (is, some) =
      let all = reads_rest c y z failed (record_octets r) read in (
        held,
        inl (subst (λ (x : Record). ReadsLink link n (input_of a c y z failed) held (record_octets x)) is all),
        some,
        so_far.unfinished,
      )
  refused (unfound.Faulty (Run FrameTooLong)) c y z failed r ok read (going, (rest, count, few, p, long)) =
      (rest, (reads_more c y z failed r count rest ok going read p few).0, long)
  refused (unfound.Faulty NoMemory) c y z failed r ok read h = tt
  refused _ c y z failed r ok read h = absurd h

  -- the records end
  pub ended_before : (u : Unfound) (c : Option (List ℕ)) (y z : ℕ) (failed : Bool) → Consumes b c [] → IsAtEnd c
      → ((u ≡ unfound.NoSuchFrame) × (held ≡ [])) ⊎ ((u ≡ unfound.Faulty (Run TornFrame)) × (0 < length held))
      → IsUnlinked link n (input_of a c y z failed) u
  ended_before u c y z failed read at_end (inl (is, none)) =
      subst (λ (x : Unfound). IsUnlinked link n (input_of a c y z failed) x) (sym is)
      (inr (subst (λ (s : List ℕ). ReadsLink link n (input_of a c y z failed) s []) none (reads_rest c y z failed [] read), at_end))
  ended_before u c y z failed read at_end (inr (is, some)) =
      subst (λ (x : Unfound). IsUnlinked link n (input_of a c y z failed) x) (sym is)
      (held, inr (reads_rest c y z failed [] read, at_end), some, so_far.unfinished)

  -- no record can be read
  pub stopped_before : (s : Stop) (c : Option (List ℕ)) (y z reads : ℕ) (failed : Bool) (rest : List ℕ) → Consumes b c rest
      → IsNone s rest (IsAtEnd c) failed reads → (reads ≡ 0 → WentUpBy y (2 ^ 40) z)
      → IsUnlinked link n (input_of a c y z failed) (of_stop s)
  stopped_before BadRecord c y z reads failed rest read why asked = (held, rest, reads_rest c y z failed rest read, why)
  stopped_before ReadFailed c y z reads failed rest read why asked =
      (held, rest, reads_rest c y z failed rest read, (why.0, elim why.1 [ inl x ↦ inl x | inr x ↦ inr (asked x) ]))
  stopped_before WriteFailed c y z reads failed rest read why asked = absurd why
  stopped_before ErrorFailed c y z reads failed rest read why asked = absurd why

-- ---- what is answered for it

pub unlinked_is : (u : Unfound) (told : Told) (number word : List ℕ) (link n : ℕ) (input : Input) → IsLink number link → IsNumber word n
    → IsUnlinked link n input u → IsUnfound told (framed word (Some number)) input u
unlinked_is unfound.NoSuchFrame told number word link n input first second h = (link, first, inr (n, second, h))
unlinked_is (unfound.Faulty (Run f)) told number word link n input first second h = inl (link, n, first, second, h)
unlinked_is unfound.BadRecord told number word link n input first second h = (link, n, first, second, h)
unlinked_is (unfound.Faulty NoMemory) told number word link n input first second h = inr refl
unlinked_is _ told number word link n input first second h = absurd h
