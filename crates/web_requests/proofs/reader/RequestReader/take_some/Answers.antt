use Rattle.std.proofs.Common.{◌≡◌, min, length, take, ap, ◌∙◌, arith, rules, Some}
use Rattle.web_contents.specs.declared.event.ContentEvent.{ContentEvent}
use Rattle.web_requests.proofs.Parts.{TakesPart_at, Refuses_at, in_body, holds_taken, few_taken, message_taken, trailers_taken, end_taken, all_taken, refuses_part}
use Rattle.web_requests.proofs.reader.RequestReader.take_some.Goals as goal

pub take-requires : goal.take-requires
take-requires c =
    let r = c.self.inside in
    let most_is : c.min-most.result ≡ min (length c.args.piece.now) 4611686018427387904 = search rules in
    few_taken r.stage r.head r.path r.message c.args.self.now r.contents c.min-most.result c.args.piece.now
    (in_body r.stage r.head r.path r.message r.contents c.args.self.now c.self.view_is c.requires.within) c.self.invariant (omega arith) (omega arith)

pub invariant_of-self : goal.invariant_of-self
invariant_of-self c =
    let r = c.self.inside in
    holds_taken r.stage r.head r.path r.message c.args.self.now r.contents c.take.new.self (take c.min-most.result c.args.piece.now)
    c.in-Ok-default-Some-Message.count c.in-Ok-default-Some-Message.field-0-1
    (in_body r.stage r.head r.path r.message r.contents c.args.self.now c.self.view_is c.requires.within) c.self.invariant
    c.in-Ok-default-Some-Message.ensures.takes

pub invariant_of-self-in-Ok-default-Some-Trailers : goal.invariant_of-self-in-Ok-default-Some-Trailers
invariant_of-self-in-Ok-default-Some-Trailers c =
    let r = c.self.inside in
    holds_taken r.stage r.head r.path r.message c.args.self.now r.contents c.take.new.self (take c.min-most.result c.args.piece.now)
    c.in-Ok-default-Some-Trailers.count c.in-Ok-default-Some-Trailers.field-0-1
    (in_body r.stage r.head r.path r.message r.contents c.args.self.now c.self.view_is c.requires.within) c.self.invariant
    c.in-Ok-default-Some-Trailers.ensures.takes

pub invariant_of-self-in-Ok-default-None : goal.invariant_of-self-in-Ok-default-None
invariant_of-self-in-Ok-default-None c =
    let r = c.self.inside in
    holds_taken r.stage r.head r.path r.message c.args.self.now r.contents c.take.new.self (take c.min-most.result c.args.piece.now)
    c.in-Ok-default-None.count c.in-Ok-default-None.field-0-1
    (in_body r.stage r.head r.path r.message r.contents c.args.self.now c.self.view_is c.requires.within) c.self.invariant
    c.in-Ok-default-None.ensures.takes

pub returns-in-Ok-default-Some-Message : goal.returns-in-Ok-default-Some-Message
returns-in-Ok-default-Some-Message c =
    let r = c.self.inside in
    let most_is : c.min-most.result ≡ min (length c.args.piece.now) 4611686018427387904 = search rules in
    let some = c.requires.some in
    let x = in_body r.stage r.head r.path r.message r.contents c.args.self.now c.self.view_is c.requires.within in
    TakesPart_at r.stage r.head r.path c.in-Ok-default-Some-Message.message c.take.new.self c.args.self.now c.args.piece.now c.in-Ok-default-Some-Message.count
    x.stage_is
    (message_taken c.args.self.now r.path r.message r.contents c.take.new.self c.args.piece.now c.min-most.result c.in-Ok-default-Some-Message.count
    c.in-Ok-default-Some-Message.message x.state_is (omega arith) c.in-Ok-default-Some-Message.field-0-1
    (c.in-Ok-default-Some-Message.field-0-1-is ∙ ap (λ (e : ContentEvent). Some e) c.in-Ok-default-Some-Message.field-0-1-0-is)
    c.in-Ok-default-Some-Message.ensures.takes)

pub returns-in-Ok-default-Some-Trailers : goal.returns-in-Ok-default-Some-Trailers
returns-in-Ok-default-Some-Trailers c =
    let r = c.self.inside in
    let most_is : c.min-most.result ≡ min (length c.args.piece.now) 4611686018427387904 = search rules in
    let some = c.requires.some in
    let x = in_body r.stage r.head r.path r.message r.contents c.args.self.now c.self.view_is c.requires.within in
    TakesPart_at r.stage r.head r.path r.message c.take.new.self c.args.self.now c.args.piece.now c.in-Ok-default-Some-Trailers.count x.stage_is
    (trailers_taken c.args.self.now r.path r.message r.contents c.take.new.self c.args.piece.now c.min-most.result c.in-Ok-default-Some-Trailers.count
    c.in-Ok-default-Some-Trailers.field-0-1-0-0 x.state_is (omega arith) c.in-Ok-default-Some-Trailers.field-0-1
    (c.in-Ok-default-Some-Trailers.field-0-1-is ∙ ap (λ (e : ContentEvent). Some e) c.in-Ok-default-Some-Trailers.field-0-1-0-is)
    c.in-Ok-default-Some-Trailers.ensures.takes)

pub returns-in-Ok-default-Some-End : goal.returns-in-Ok-default-Some-End
returns-in-Ok-default-Some-End c =
    let r = c.self.inside in
    let most_is : c.min-most.result ≡ min (length c.args.piece.now) 4611686018427387904 = search rules in
    let some = c.requires.some in
    let x = in_body r.stage r.head r.path r.message r.contents c.args.self.now c.self.view_is c.requires.within in
    TakesPart_at r.stage r.head r.path r.message c.take.new.self c.args.self.now c.args.piece.now c.in-Ok-default-Some-End.count x.stage_is
    (end_taken c.args.self.now r.path r.message r.contents c.take.new.self c.args.piece.now c.min-most.result c.in-Ok-default-Some-End.count
    x.state_is x.is_open (omega arith) c.in-Ok-default-Some-End.field-0-1
    (c.in-Ok-default-Some-End.field-0-1-is ∙ ap (λ (e : ContentEvent). Some e) c.in-Ok-default-Some-End.field-0-1-0-is)
    c.in-Ok-default-Some-End.ensures.takes)

pub returns-in-Ok-default-None : goal.returns-in-Ok-default-None
returns-in-Ok-default-None c =
    let r = c.self.inside in
    let most_is : c.min-most.result ≡ min (length c.args.piece.now) 4611686018427387904 = search rules in
    let some = c.requires.some in
    let x = in_body r.stage r.head r.path r.message r.contents c.args.self.now c.self.view_is c.requires.within in
    TakesPart_at r.stage r.head r.path r.message c.take.new.self c.args.self.now c.args.piece.now c.in-Ok-default-None.count x.stage_is
    (all_taken c.args.self.now r.path r.message r.contents c.take.new.self c.args.piece.now c.min-most.result c.in-Ok-default-None.count
    x.state_is (omega arith) (omega arith) c.in-Ok-default-None.field-0-1 c.in-Ok-default-None.field-0-1-is c.in-Ok-default-None.ensures.takes)

pub returns : goal.returns
returns c =
    let r = c.self.inside in
    let x = in_body r.stage r.head r.path r.message r.contents c.args.self.now c.self.view_is c.requires.within in
    Refuses_at r.stage r.head r.path r.message c.take.new.self c.args.self.now c.args.piece.now c.in-Err.fault x.stage_is
    (refuses_part c.args.self.now r.path r.message r.contents c.take.new.self c.args.piece.now c.min-most.result c.in-Err.fault x.state_is
    c.requires.within c.in-Err.ensures.takes)
