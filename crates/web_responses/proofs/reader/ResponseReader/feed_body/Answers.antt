use Rattle.std.proofs.Common.{◌≡◌, ap, ◌∙◌, subst, Option, Some}
use Rattle.std.proofs.lemmas.Bool.{both_ways}
use Rattle.web_contents.specs.declared.event.ContentEvent.{ContentEvent}
use Rattle.web_contents.specs.declared.event.ContentEvent.TheVariants.{Message, Trailers, End}
use Rattle.web_contents.specs.Calls.{Gives}
use Rattle.web_frames.specs.declared.event.FrameEvent.TheVariants as frame
use Rattle.web_contents.specs.Contents.{place_of}
use Rattle.web_responses.specs.Calls.{IsBody, Reader, state_of, due_of}
use Rattle.web_responses.proofs.FeedLemmas.{stage_body, body_open, holds_body, feeds_over, feeds_none, feeds_end, feeds_event, refuses_body}
use Rattle.web_responses.proofs.reader.ResponseReader.feed_body.Goals as goal

pub returns-then-is_over : goal.returns-then-is_over
returns-then-is_over c =
    let i = c.self.inside in
    let here : IsBody (state_of i.stage i.head i.body) = rw (← c.self.view_is) at c.requires.body in
    rw (← c.self.view_is)
    (feeds_over i.stage i.head i.body (due_of i.trailers i.ends) i.count c.args.piece.now (stage_body i.stage i.head i.body here)
    (ap (λ (r : Reader). r.due) c.self.view_is ∙ c.requires.none_due) (c.is_over.ensures.0 c.if-is_over.true))

pub returns-in-None : goal.returns-in-None
returns-in-None c =
    let i = c.self.inside in
    let here : IsBody (state_of i.stage i.head i.body) = rw (← c.self.view_is) at c.requires.body in
    let stage = stage_body i.stage i.head i.body here in
    let fine = (holds_body i.stage i.head i.body i.count stage c.self.invariant).0 in
    let going = body_open (place_of i.body) (λ e. both_ways c.is_over.result c.if-is_over.false (c.is_over.ensures.1 e)) fine in
    rw (← c.self.view_is)
    (feeds_none i.stage i.head i.body (due_of i.trailers i.ends) i.count c.args.piece.now c.in-Ok.count c.take.new.self stage
    (ap (λ (r : Reader). r.due) c.self.view_is ∙ c.requires.none_due) going
    (subst (λ (told : Option ContentEvent). Gives i.body c.args.piece.now c.in-Ok.count told c.take.new.self) c.in-None.is c.in-Ok.ensures))

pub returns-in-Some-End : goal.returns-in-Some-End
returns-in-Some-End c =
    let i = c.self.inside in
    let here : IsBody (state_of i.stage i.head i.body) = rw (← c.self.view_is) at c.requires.body in
    let stage = stage_body i.stage i.head i.body here in
    let fine = (holds_body i.stage i.head i.body i.count stage c.self.invariant).0 in
    let going = body_open (place_of i.body) (λ e. both_ways c.is_over.result c.if-is_over.false (c.is_over.ensures.1 e)) fine in
    let told : c.in-Ok.told ≡ Some End = c.in-Some-End.is ∙ ap (λ (e : ContentEvent). Some e) c.in-Some-End.field-0-is in
    rw (← c.self.view_is)
    (feeds_end i.stage i.head i.body (due_of i.trailers i.ends) i.count c.args.piece.now c.in-Ok.count c.take.new.self stage
    (ap (λ (r : Reader). r.due) c.self.view_is ∙ c.requires.none_due) going
    (subst (λ (o : Option ContentEvent). Gives i.body c.args.piece.now c.in-Ok.count o c.take.new.self) told c.in-Ok.ensures))

pub returns-in-Some-Message : goal.returns-in-Some-Message
returns-in-Some-Message c =
    let i = c.self.inside in
    let here : IsBody (state_of i.stage i.head i.body) = rw (← c.self.view_is) at c.requires.body in
    let stage = stage_body i.stage i.head i.body here in
    let fine = (holds_body i.stage i.head i.body i.count stage c.self.invariant).0 in
    let going = body_open (place_of i.body) (λ e. both_ways c.is_over.result c.if-is_over.false (c.is_over.ensures.1 e)) fine in
    let told : c.in-Ok.told ≡ Some (Message c.in-Some-Message.message) = c.in-Some-Message.is ∙ ap (λ (e : ContentEvent). Some e) c.in-Some-Message.field-0-is in
    rw (← c.self.view_is)
    (feeds_event i.stage i.head i.body i.trailers i.ends c.is_over-self-inside.result i.count c.args.piece.now c.in-Ok.count (frame.Message c.in-Some-Message.message)
    c.take.new.self stage (ap (λ (r : Reader). r.due) c.self.view_is ∙ c.requires.none_due) going
    (subst (λ (o : Option ContentEvent). Gives i.body c.args.piece.now c.in-Ok.count o c.take.new.self) told c.in-Ok.ensures) c.is_over-self-inside.ensures)

pub returns-in-Some-Trailers : goal.returns-in-Some-Trailers
returns-in-Some-Trailers c =
    let i = c.self.inside in
    let here : IsBody (state_of i.stage i.head i.body) = rw (← c.self.view_is) at c.requires.body in
    let stage = stage_body i.stage i.head i.body here in
    let fine = (holds_body i.stage i.head i.body i.count stage c.self.invariant).0 in
    let going = body_open (place_of i.body) (λ e. both_ways c.is_over.result c.if-is_over.false (c.is_over.ensures.1 e)) fine in
    let told : c.in-Ok.told ≡ Some (Trailers c.in-Some-Trailers.trailers) = c.in-Some-Trailers.is ∙ ap (λ (e : ContentEvent). Some e) c.in-Some-Trailers.field-0-is in
    rw (← c.self.view_is)
    (feeds_event i.stage i.head i.body i.trailers i.ends c.is_over-self-inside-in-Some-Trailers.result i.count c.args.piece.now c.in-Ok.count
    (frame.Trailers c.in-Some-Trailers.trailers)
    c.take.new.self stage (ap (λ (r : Reader). r.due) c.self.view_is ∙ c.requires.none_due) going
    (subst (λ (o : Option ContentEvent). Gives i.body c.args.piece.now c.in-Ok.count o c.take.new.self) told c.in-Ok.ensures)
    c.is_over-self-inside-in-Some-Trailers.ensures)

pub returns-in-Err : goal.returns-in-Err
returns-in-Err c =
    let i = c.self.inside in
    let here : IsBody (state_of i.stage i.head i.body) = rw (← c.self.view_is) at c.requires.body in
    let stage = stage_body i.stage i.head i.body here in
    let fine = (holds_body i.stage i.head i.body i.count stage c.self.invariant).0 in
    let going = body_open (place_of i.body) (λ e. both_ways c.is_over.result c.if-is_over.false (c.is_over.ensures.1 e)) fine in
    rw (← c.self.view_is)
    (refuses_body i.stage i.head i.body (due_of i.trailers i.ends) i.count c.args.piece.now c.in-Err.fault c.take.new.self stage
    (ap (λ (r : Reader). r.due) c.self.view_is ∙ c.requires.none_due) going c.in-Err.ensures)
