use Rattle.std.proofs.Common.{take, drop, get_or, ◌∷◌, [], take-append-drop}
use Rattle.web_frames.proofs.ReaderLemmas.{Feeds-front, first_byte}
use Rattle.web_frames.proofs.reader.FrameReader.take_some.Goals as goal

pub returns-in-Err : goal.returns-in-Err
returns-in-Err c =
    let piece = c.args.piece.now in
    Feeds-front c.args.self.now piece (get_or piece 0 0 ∷ []) (drop 1 piece) c.in-Err.fault c.take_head.new.self (first_byte piece c.requires.some) c.in-Err.ensures

pub returns-in-Err-take_payload : goal.returns-in-Err-take_payload
returns-in-Err-take_payload c =
    let piece = c.args.piece.now in
    let count = c.min-count.result in
    Feeds-front c.args.self.now piece (take count piece) (drop count piece) c.in-Err-take_payload.fault c.take_payload.new.self (take-append-drop count piece)
    c.in-Err-take_payload.ensures
