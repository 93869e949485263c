use Rattle.std.proofs.Common.{refl, subst, sym, arith}
use Rattle.connect_replay.specs.Outcome.{PrintsSection}
use Rattle.connect_replay.proofs.Told.{nonempty, empty, section_read, none_read, fewer}
use Rattle.connect_replay.proofs.replay.replay.Goals as goal

pub returns-then-not-is_empty-clause-printed : goal.returns-then-not-is_empty-clause-printed
returns-then-not-is_empty-clause-printed g c =
    c.finish.ensures.printed _ _ (nonempty c.args.words.now (sym c.if-not-is_empty.ensures), refl)

pub returns-in-Ok-Some-clause-printed : goal.returns-in-Ok-Some-clause-printed
returns-in-Ok-Some-clause-printed g c =
    let buffer = c.read_start.new.buffer in
    let prints = rw c.in-Ok-Some.field-0-is at c.in-Ok-Some.ensures in
    let read = section_read _ _ _ _ c.in-Ok.ensures.read (λ short. c.in-Ok.ensures.end (fewer c.in-Ok.count buffer c.in-Ok.ensures.room (omega arith))) prints in
    c.finish-in-Ok-Some.ensures.printed _ _ (empty c.args.words.now (sym c.if-not-is_empty.ensures), subst (PrintsSection _) (sym c.as_str.ensures) read.1)

pub returns-in-Ok-Some-clause-whole : goal.returns-in-Ok-Some-clause-whole
returns-in-Ok-Some-clause-whole g c = λ _.
    let buffer = c.read_start.new.buffer in
    let prints = rw c.in-Ok-Some.field-0-is at c.in-Ok-Some.ensures in
    (section_read _ _ _ _ c.in-Ok.ensures.read (λ short. c.in-Ok.ensures.end (fewer c.in-Ok.count buffer c.in-Ok.ensures.room (omega arith))) prints).0

pub returns-in-Ok-None-clause-printed : goal.returns-in-Ok-None-clause-printed
returns-in-Ok-None-clause-printed g c =
    let buffer = c.read_start.new.buffer in
    let none = rw c.in-Ok-None.field-0-is at c.in-Ok-None.ensures in
    c.finish-in-Ok-None.ensures.printed _ _
    (empty c.args.words.now (sym c.if-not-is_empty.ensures), refl, none_read _ _ _ c.in-Ok.ensures.read (λ short. c.in-Ok.ensures.end (fewer c.in-Ok.count buffer c.in-Ok.ensures.room (omega arith))) none, refl)
