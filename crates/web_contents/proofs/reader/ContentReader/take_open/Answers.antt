use Rattle.std.proofs.Common.{◌+◌, sym, ap, ◌∙◌, subst, drop, Option, Ok}
use Rattle.std.proofs.lemmas.List.{take_rest}
use Rattle.std.proofs.lemmas.Result.{err_from_is_err_and}
use Rattle.web_frames.specs.declared.event.FrameEvent.{FrameEvent}
use Rattle.web_contents.specs.Contents.{place_of}
use Rattle.web_contents.specs.Calls.{TakesRun}
use Rattle.web_contents.proofs.Runs.{none_so_far, more_so_far, gives_run, gives_end, refuses_run, refuses_now}
use Rattle.web_contents.proofs.reader.ContentReader.take_open.Goals as goal

pub loop-taken-init : goal.loop-taken-init
loop-taken-init c = record { so_far = none_so_far c.args.self.now c.args.piece.now; is_open = c.requires.is_open }

pub returns-in_err-count : goal.returns-in_err-count
returns-in_err-count c =
    let p = err_from_is_err_and c.from_residual.result c.from_residual.ensures.1 in
    rw (p.1, p.2)
    (refuses_run c.args.self.now c.args.piece.now c.loop-taken.self c.take_run.new.self c.loop-taken.taken c.in_err-count.field-0.0 c.loop-taken.invariant.so_far
    (rw take_rest at c.in_err-count.ensures))

pub returns-in-Some : goal.returns-in-Some
returns-in-Some c =
    let old = c.loop-taken.self in
    let piece = drop c.loop-taken.taken c.args.piece.now in
    rw c.told_of.ensures
    (gives_run c.args.self.now c.args.piece.now old c.take_run.new.self c.loop-taken.taken c.in_ok-count.count c.in-Some.event c.loop-taken.invariant.so_far
    (subst (λ (told : Option FrameEvent). TakesRun old piece (Ok (c.in_ok-count.count, told)) c.take_run.new.self) c.in-Some.is
    (rw take_rest at c.in_ok-count.ensures)))

pub loop-taken-preserved : goal.loop-taken-preserved
loop-taken-preserved c =
    let old = c.loop-taken.self in
    let piece = drop c.loop-taken.taken c.args.piece.now in
    record {
      so_far = more_so_far c.args.self.now c.args.piece.now old c.take_run.new.self c.loop-taken.taken c.in_ok-count.count c.loop-taken.invariant.so_far
          (subst (λ (told : Option FrameEvent). TakesRun old piece (Ok (c.in_ok-count.count, told)) c.take_run.new.self) c.in_default.is
          (rw take_rest at c.in_ok-count.ensures));
      is_open = ap place_of (sym c.self.view_is) ∙ sym c.self.invariant.2 ∙ c.in-Open.is;
    }

pub returns-in-Over : goal.returns-in-Over
returns-in-Over c =
    let old = c.loop-taken.self in
    let piece = drop c.loop-taken.taken c.args.piece.now in
    let so_far = more_so_far c.args.self.now c.args.piece.now old c.take_run.new.self c.loop-taken.taken c.in_ok-count.count c.loop-taken.invariant.so_far
    (subst (λ (told : Option FrameEvent). TakesRun old piece (Ok (c.in_ok-count.count, told)) c.take_run.new.self) c.in_default.is
    (rw take_rest at c.in_ok-count.ensures)) in
    gives_end c.args.self.now c.args.piece.now c.take_run.new.self (c.loop-taken.taken + c.in_ok-count.count) so_far
    (ap place_of (sym c.self.view_is) ∙ sym c.self.invariant.2 ∙ c.in-Over.is)

pub returns-in-Refused : goal.returns-in-Refused
returns-in-Refused c =
    let old = c.loop-taken.self in
    let piece = drop c.loop-taken.taken c.args.piece.now in
    let so_far = more_so_far c.args.self.now c.args.piece.now old c.take_run.new.self c.loop-taken.taken c.in_ok-count.count c.loop-taken.invariant.so_far
    (subst (λ (told : Option FrameEvent). TakesRun old piece (Ok (c.in_ok-count.count, told)) c.take_run.new.self) c.in_default.is
    (rw take_rest at c.in_ok-count.ensures)) in
    refuses_now c.args.self.now c.args.piece.now c.take_run.new.self (c.loop-taken.taken + c.in_ok-count.count) c.in-Refused.fault so_far
    (ap place_of (sym c.self.view_is) ∙ sym c.self.invariant.2 ∙ c.in-Refused.is)
