use Rattle.std.proofs.Common.{take}
use Rattle.std.proofs.lemmas.Option.{IfSome_then}
use Rattle.std.proofs.lemmas.Result.{IfOk-weaker, IfErr-weaker}
use Rattle.guard_files.specs.Headers.{record_of}
use Rattle.guard_messages.proofs.LinkedFrames.{piece_completes, piece_holds, piece_refuses}
use Rattle.guard_messages.proofs.linked.take_record.Goals as goal

pub returns-in-Some : goal.returns-in-Some
returns-in-Some c =
    let held = c.args.held.now.items in
    let before = c.args.before.now in
    let room = c.args.room.now in
    let r = record_of c.args.header room in
    let octets = take c.in-Some.size room in
    let of = c.in-Some.ensures.piece.1 room in
    record {
      frame = IfOk-weaker c.take_piece.result _ _
          (λ found h. IfSome_then found h (λ frame. piece_completes c.args.link r held octets before of.0 of.1 frame.items))
          c.take_piece.ensures.frame;
      none = IfOk-weaker c.take_piece.result _ _
          (λ found h none. piece_holds c.args.link r held octets before of.0 of.1 _ _ (h none)) c.take_piece.ensures.none;
      refused = IfErr-weaker c.take_piece.result _ _
          (λ u. piece_refuses c.args.link r held octets before of.0 of.1 u) c.take_piece.ensures.refused;
    }
