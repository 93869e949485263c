use Rattle.std.proofs.Common.{◌≡◌, ◌≢◌, List, ℕ, [], length, drop, sym, ap, ◌∙◌, subst, Ok, Err}
use Rattle.std.proofs.lemmas.Bool.{both_ways}
use Rattle.std.proofs.lemmas.List.{take_rest}
use Rattle.web_head_reader.specs.declared.place.HeadPlace.TheVariants.{Whole}
use Rattle.web_heads.specs.Requests.{request_head}
use Rattle.web_requests.specs.Machine.{RequestState, state_of, after_head, after}
use Rattle.web_requests.specs.Calls.{Feeds, BeginsBody}
use Rattle.web_requests.proofs.Pieces.{feeds_from}
use Rattle.web_requests.proofs.Heads.{in_head, still_open, goes_on_in_head, holds_head, takes_head, whole_short, body_joined, bad_head_refuses, long_head_refuses}
use Rattle.web_requests.proofs.reader.RequestReader.feed_head.Goals as goal

pub invariant_of-self : goal.invariant_of-self
invariant_of-self c =
    let r = c.self.inside in
    let x = in_head r.stage r.head r.path r.message r.contents c.args.self.now c.self.view_is c.requires c.self.invariant in
    let not_whole : c.take.new.self.place ≢ Whole = λ e. both_ways c.is_whole.result c.if-not-is_whole.true (c.is_whole.ensures.1 e) in
    holds_head r.stage r.head c.take.new.self c.args.self.now r.contents c.args.piece.now c.in-Ok.taken x
    (goes_on_in_head r.stage r.head c.take.new.self c.args.self.now c.args.piece.now c.in-Ok.taken x c.in-Ok.ensures.taken not_whole)

pub returns-then-not-is_whole : goal.returns-then-not-is_whole
returns-then-not-is_whole c =
    let r = c.self.inside in
    let x = in_head r.stage r.head r.path r.message r.contents c.args.self.now c.self.view_is c.requires c.self.invariant in
    let not_whole : c.take.new.self.place ≢ Whole = λ e. both_ways c.is_whole.result c.if-not-is_whole.true (c.is_whole.ensures.1 e) in
    takes_head r.stage r.head c.take.new.self r.path r.message r.contents c.args.self.now c.args.piece.now c.in-Ok.taken x c.in-Ok.ensures.taken
    (goes_on_in_head r.stage r.head c.take.new.self c.args.self.now c.args.piece.now c.in-Ok.taken x c.in-Ok.ensures.taken not_whole)

pub begin_body-requires : goal.begin_body-requires
begin_body-requires c =
    let r = c.self.inside in
    let x = in_head r.stage r.head r.path r.message r.contents c.args.self.now c.self.view_is c.requires c.self.invariant in
    rw c.head.ensures
    (whole_short r.stage r.head c.take.new.self c.args.self.now c.args.piece.now c.in-Ok.taken x c.in-Ok.ensures.taken
    (c.is_whole.ensures.0 c.if-not-is_whole.false))

pub returns-in-Ok-begin_body : goal.returns-in-Ok-begin_body
returns-in-Ok-begin_body c =
    let r = c.self.inside in
    let x = in_head r.stage r.head r.path r.message r.contents c.args.self.now c.self.view_is c.requires c.self.invariant in
    let path = c.in-Ok-begin_body.path in
    let contents = c.in-Ok-begin_body.contents in
    let rest = drop c.in-Ok.taken c.args.piece.now in
    let joined = body_joined r.stage r.head c.take.new.self c.args.self.now c.args.piece.now c.in-Ok.taken x c.in-Ok.ensures.taken
    (c.is_whole.ensures.0 c.if-not-is_whole.false) in
    let begun = subst (λ (bytes : List ℕ). BeginsBody bytes (Ok (path, contents))) c.head.ensures c.in-Ok-begin_body.ensures in
    let same : after (state_of path [] contents) rest ≡ after c.args.self.now c.args.piece.now
    = ap (λ (s : RequestState). after s rest) (sym begun.0) ∙ joined in
    feeds_from c.args.self.now (state_of path [] contents) c.args.piece.now rest c.feed_body.result c.feed_body.new.self same
    (still_open r.stage r.head c.args.self.now x)
    (subst (λ (m : List ℕ). Feeds (state_of path m contents) rest c.feed_body.result c.feed_body.new.self) c.new.ensures
    (rw take_rest at c.feed_body.ensures))

pub returns-in-Err-begin_body : goal.returns-in-Err-begin_body
returns-in-Err-begin_body c =
    let r = c.self.inside in
    let x = in_head r.stage r.head r.path r.message r.contents c.args.self.now c.self.view_is c.requires c.self.invariant in
    let rest = drop c.in-Ok.taken c.args.piece.now in
    let joined = body_joined r.stage r.head c.take.new.self c.args.self.now c.args.piece.now c.in-Ok.taken x c.in-Ok.ensures.taken
    (c.is_whole.ensures.0 c.if-not-is_whole.false) in
    bad_head_refuses c.args.self.now c.args.piece.now rest
    (after_head (length c.take.new.self.held) (request_head c.take.new.self.held)) c.in-Err-begin_body.fault joined
    (still_open r.stage r.head c.args.self.now x)
    (subst (λ (bytes : List ℕ). BeginsBody bytes (Err c.in-Err-begin_body.fault)) c.head.ensures c.in-Err-begin_body.ensures)

pub returns-in-Err : goal.returns-in-Err
returns-in-Err c =
    let r = c.self.inside in
    let x = in_head r.stage r.head r.path r.message r.contents c.args.self.now c.self.view_is c.requires c.self.invariant in
    rw c.fault_of_reading-fault.ensures
    (long_head_refuses r.stage r.head c.take.new.self c.args.self.now c.args.piece.now c.in-Err.fault x c.in-Err.ensures.refused)
