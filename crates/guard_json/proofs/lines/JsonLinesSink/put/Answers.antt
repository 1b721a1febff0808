use Rattle.std.proofs.Common.{◌≡◌, ◌+◌, ◌<◌, true, [], ◌∷◌, ◌++◌, length, take, refl, sym, ap, ◌∙◌, subst, append-nil, append_assoc, arith}
use Rattle.std.proofs.Math.Seq.{take-append_seam}
use Rattle.guard_frames.proofs.Appending.{Appends_none}
use Rattle.guard_json.specs.Cutting.{line_feed}
use Rattle.guard_json.specs.Objects.{json_line}
use Rattle.guard_json.specs.Taken.{is_one_line}
use Rattle.guard_json.specs.inside.Putting.{whole_object}
use Rattle.guard_json.proofs.OneLine.{one_line_both}
use Rattle.guard_json.proofs.Readings.{torn_line, whole_line, line_of_object}
use Rattle.guard_json.proofs.Takings.{taken_more, before_feed, with_feed}
use Rattle.guard_json.proofs.lines.JsonLinesSink.put.Goals as goal

pub returns-then-self-clause-none : goal.returns-then-self-clause-none
returns-then-self-clause-none g c = Appends_none _

pub returns-in_default-clause-none : goal.returns-in_default-clause-none
returns-in_default-clause-none g c =
    let w = c.args.self.now in
    let same : c.extend_from_slice.new.self.items ≡ w.begun.items =
    rw c.in_default.is at c.extend_from_slice.ensures.items in
    taken_more w.is_broken true w.sink.ghost_name w.written w.written w.begun.items c.extend_from_slice.new.self.items _ _ [] [] []
    c.if-self.false (omega arith) (Appends_none _) (λ one. (refl, ap is_one_line same ∙ one)) (append-nil w.begun.items ∙ sym same)

pub returns-then-end-octets-clause-taken : goal.returns-then-end-octets-clause-taken
returns-then-end-octets-clause-taken g c =
    let w = c.args.self.now in
    let octets = c.args.octets.now in
    let front = take c.place_of-end.result octets in
    let grew : c.extend_from_slice.new.self.items ≡ w.begun.items ++ front =
    rw c.in-Ok.is at c.extend_from_slice.ensures.items in
    let one_front : is_one_line front ≡ true = ap (λ n. is_one_line (take n octets)) c.place_of-end.ensures.place ∙ before_feed octets in
    taken_more w.is_broken w.is_broken w.sink.ghost_name w.written w.written w.begun.items c.extend_from_slice.new.self.items _ _ [] []
    front c.if-self.false (omega arith) (Appends_none _)
    (λ one. (refl, ap is_one_line grew ∙ one_line_both w.begun.items front one one_front)) (sym grew)

pub returns-in-Ok-put_line-clause-taken : goal.returns-in-Ok-put_line-clause-taken
returns-in-Ok-put_line-clause-taken g c =
    let w = c.args.self.now in
    let begun = w.begun.items in
    let octets = c.args.octets.now in
    let end = c.place_of-end.result in
    let place = c.place_of-end.ensures.place in
    let front = take end octets in
    let line = c.deref.result.now in
    let puts = c.in-Ok-put_line.ensures.whole in
    let grew : line ≡ begun ++ front =
    c.deref.ensures.value
    ∙ rw c.in-Ok.is at c.extend_from_slice.ensures.items in
    let one_front : is_one_line front ≡ true = ap (λ n. is_one_line (take n octets)) place ∙ before_feed octets in
    let within : end < length octets = omega (arith, c.place_of-end.ensures.within, c.if-end-octets.false) in
    let taken : take (end + 1) octets ≡ front ++ line_feed ∷ [] =
    ap (λ n. take (n + 1) octets) place
    ∙ with_feed octets (subst (λ n. n < length octets) place within)
    ∙ ap (λ n. take n octets ++ line_feed ∷ []) (sym place) in
    let same : begun ++ take (end + 1) octets ≡ (line ++ line_feed ∷ []) ++ c.clear.new.self.items =
    ap (λ y. begun ++ y) taken
    ∙ sym (append_assoc begun front (line_feed ∷ []))
    ∙ ap (λ y. y ++ line_feed ∷ []) (sym grew)
    ∙ sym (append-nil (line ++ line_feed ∷ []))
    ∙ ap (λ y. (line ++ line_feed ∷ []) ++ y) (sym c.clear.ensures.items) in
    taken_more w.is_broken w.is_broken w.sink.ghost_name w.written c.in-Ok-put_line.written begun c.clear.new.self.items _ _ (whole_object line)
    (line ++ line_feed ∷ []) (take (end + 1) octets) c.if-self.false puts.counted puts.taken
    (λ one. (
      whole_line w.is_broken (json_line line) line puts.one
          (line_of_object line puts.tells (ap is_one_line grew ∙ one_line_both begun front one one_front)),
      ap is_one_line c.clear.ensures.items,
    )) same

pub returns-in-Err-clause-none : goal.returns-in-Err-clause-none
returns-in-Err-clause-none g c =
    let w = c.args.self.now in
    let begun = w.begun.items in
    let front = take c.place_of-end.result c.args.octets.now in
    let torn = c.in-Err.ensures.part in
    let grew : c.extend_from_slice.new.self.items ≡ begun ++ front =
    rw c.in-Ok.is at c.extend_from_slice.ensures.items in
    let back : c.truncate.new.self.items ≡ begun =
    c.truncate.ensures.items
    ∙ ap (λ s. take (length s) c.extend_from_slice.new.self.items) c.as_slice-begun.ensures.value
    ∙ ap (take (length begun)) grew
    ∙ take-append_seam begun front in
    taken_more w.is_broken true w.sink.ghost_name w.written c.in-Err.written begun c.truncate.new.self.items _ _ torn.part [] []
    c.if-self.false torn.counted torn.taken (λ one. (torn_line [] torn.part torn.one, ap is_one_line back ∙ one)) (append-nil begun ∙ sym back)
