use Rattle.std.proofs.Common.{◌-◌, subst, length, take, drop, Option, Ok}
use Rattle.std.proofs.lemmas.List.{take_rest}
use Rattle.std.proofs.lemmas.Result.{err_from_is_err_and}
use Rattle.web_frames.specs.declared.event.FrameEvent.{FrameEvent}
use Rattle.web_frames.specs.Parts.{TakesSome}
use Rattle.web_frames.proofs.ReaderLemmas.{TakenSoFar-none, TakenSoFar-more, Took-event, Feeds-behind}
use Rattle.web_frames.proofs.reader.FrameReader.take.Goals as goal

pub loop-taken-init : goal.loop-taken-init
loop-taken-init c = TakenSoFar-none c.args.self.now c.args.piece.now c.requires

pub returns-in_err-count : goal.returns-in_err-count
returns-in_err-count c =
    let piece = c.args.piece.now in
    let taken = c.loop-taken.taken in
    let p = err_from_is_err_and c.from_residual.result c.from_residual.ensures.1 in
    rw (p.1, p.2)
    (Feeds-behind c.args.self.now piece (take (length piece - taken) (drop taken piece)) taken c.loop-taken.self c.in_err-count.field-0.0 c.take_some.new.self
    c.requires c.loop-taken.invariant (take_rest piece taken) c.in_err-count.ensures)

pub returns-in-Some : goal.returns-in-Some
returns-in-Some c =
    let piece = c.args.piece.now in
    let taken = c.loop-taken.taken in
    let rest = take (length piece - taken) (drop taken piece) in
    Took-event c.args.self.now piece rest taken c.loop-taken.self c.in_ok-count.count c.in-Some.event c.take_some.new.self c.loop-taken.invariant (take_rest piece taken)
    (subst (λ (told : Option FrameEvent). TakesSome c.loop-taken.self rest (Ok (c.in_ok-count.count, told)) c.take_some.new.self) c.in-Some.is c.in_ok-count.ensures)

pub loop-taken-preserved : goal.loop-taken-preserved
loop-taken-preserved c =
    let piece = c.args.piece.now in
    let taken = c.loop-taken.taken in
    let rest = take (length piece - taken) (drop taken piece) in
    TakenSoFar-more c.args.self.now piece rest taken c.loop-taken.self c.in_ok-count.count c.take_some.new.self c.loop-taken.invariant (take_rest piece taken)
    (subst (λ (told : Option FrameEvent). TakesSome c.loop-taken.self rest (Ok (c.in_ok-count.count, told)) c.take_some.new.self) c.in_default.is c.in_ok-count.ensures)
