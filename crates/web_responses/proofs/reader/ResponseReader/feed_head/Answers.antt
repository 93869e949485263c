use Rattle.std.proofs.Common.{◌+◌, ap, sym, ◌∙◌, refl, length, arith}
use Rattle.std.proofs.lemmas.Bool.{both_ways}
use Rattle.web_contents.specs.Contents.{place_of}
use Rattle.web_responses.specs.Openings.{opening}
use Rattle.web_responses.specs.Calls.{IsHead, Reader, state_of, due_of}
use Rattle.web_responses.proofs.FeedLemmas.{stage_head, holds_head, to_head, head_goes_on, taken_held, begun_fine, feeds_head, feeds_opening, refuses_opening, refuses_head}
use Rattle.web_responses.proofs.reader.ResponseReader.feed_head.Goals as goal

pub invariant_of-self : goal.invariant_of-self
invariant_of-self c =
    let i = c.self.inside in
    let here : IsHead (state_of i.stage i.head i.body) = rw (← c.self.view_is) at c.requires.head in
    let stage = stage_head i.stage i.head i.body here in
    let holds = holds_head i.stage i.head i.body i.count stage c.self.invariant in
    let new = c.take.new.self in
    to_head i.stage new i.body (i.count + c.in-Ok.count) stage
    (head_goes_on i.head c.args.piece.now new c.in-Ok.count c.in-Ok.ensures.taken (λ e. both_ways c.is_whole.result c.if-not-is_whole.true (c.is_whole.ensures.1 e)))
    (taken_held i.head c.args.piece.now new c.in-Ok.count i.count c.in-Ok.ensures.taken holds.1)

pub returns-then-not-is_whole : goal.returns-then-not-is_whole
returns-then-not-is_whole c =
    let i = c.self.inside in
    let here : IsHead (state_of i.stage i.head i.body) = rw (← c.self.view_is) at c.requires.head in
    rw (← c.self.view_is)
    (feeds_head i.stage i.head i.body (due_of i.trailers i.ends) i.count c.args.piece.now c.take.new.self c.in-Ok.count (stage_head i.stage i.head i.body here)
    (ap (λ (r : Reader). r.due) c.self.view_is ∙ c.requires.none_due) c.in-Ok.ensures.taken
    (λ e. both_ways c.is_whole.result c.if-not-is_whole.true (c.is_whole.ensures.1 e)))

pub invariant_of-self-in-Ok-read_opening : goal.invariant_of-self-in-Ok-read_opening
invariant_of-self-in-Ok-read_opening c =
    let i = c.self.inside in
    let here : IsHead (state_of i.stage i.head i.body) = rw (← c.self.view_is) at c.requires.head in
    let stage = stage_head i.stage i.head i.body here in
    let holds = holds_head i.stage i.head i.body i.count stage c.self.invariant in
    let fits = taken_held i.head c.args.piece.now c.take.new.self c.in-Ok.count i.count c.in-Ok.ensures.taken holds.1 in
    let counted = c.new.ensures.counted in
    let at = ap length c.head-in-Ok-read_opening.ensures in (
      λ fault e. begun_fine c.is_some.result c.in-Ok-read_opening.field-0.body (length c.head-in-Ok-read_opening.result.now) fault
          (ap place_of (sym c.new.ensures.begun) ∙ e),
      omega arith,
    )

pub returns-in-Ok-read_opening : goal.returns-in-Ok-read_opening
returns-in-Ok-read_opening c =
    let i = c.self.inside in
    let here : IsHead (state_of i.stage i.head i.body) = rw (← c.self.view_is) at c.requires.head in
    let stage = stage_head i.stage i.head i.body here in
    let holds = holds_head i.stage i.head i.body i.count stage c.self.invariant in
    rw (← c.self.view_is)
    (feeds_opening i.stage i.head i.body (due_of i.trailers i.ends) i.count c.args.piece.now c.take.new.self c.in-Ok.count c.in-Ok-read_opening.field-0
    c.is_some.result c.is_over-self-inside.result (length c.head-in-Ok-read_opening.result.now) c.new.result
    stage (ap (λ (r : Reader). r.due) c.self.view_is ∙ c.requires.none_due) c.in-Ok.ensures.taken holds.0
    (c.is_whole.ensures.0 c.if-not-is_whole.false) (ap opening (sym c.head.ensures) ∙ c.in-Ok-read_opening.ensures)
    c.is_some.ensures (ap length c.head-in-Ok-read_opening.ensures) c.new.ensures.begun c.is_over-self-inside.ensures)

pub returns-in-Err-read_opening : goal.returns-in-Err-read_opening
returns-in-Err-read_opening c =
    let i = c.self.inside in
    let here : IsHead (state_of i.stage i.head i.body) = rw (← c.self.view_is) at c.requires.head in
    let stage = stage_head i.stage i.head i.body here in
    let holds = holds_head i.stage i.head i.body i.count stage c.self.invariant in
    rw (← c.self.view_is)
    (refuses_opening i.stage i.head i.body (due_of i.trailers i.ends) i.count (i.count + c.in-Ok.count) c.args.piece.now c.take.new.self c.in-Ok.count
    c.in-Err-read_opening.fault stage (ap (λ (r : Reader). r.due) c.self.view_is ∙ c.requires.none_due) c.in-Ok.ensures.taken holds.0
    (c.is_whole.ensures.0 c.if-not-is_whole.false) (rw c.head.ensures at c.in-Err-read_opening.ensures) refl)

pub returns-in-Err : goal.returns-in-Err
returns-in-Err c =
    let i = c.self.inside in
    let here : IsHead (state_of i.stage i.head i.body) = rw (← c.self.view_is) at c.requires.head in
    let stage = stage_head i.stage i.head i.body here in
    let holds = holds_head i.stage i.head i.body i.count stage c.self.invariant in
    rw (← c.self.view_is, c.fault_of_reading-fault.ensures)
    (refuses_head i.stage i.head i.body (due_of i.trailers i.ends) i.count c.args.piece.now c.take.new.self c.in-Err.fault stage
    (ap (λ (r : Reader). r.due) c.self.view_is ∙ c.requires.none_due) holds.0 c.in-Err.ensures.refused)
