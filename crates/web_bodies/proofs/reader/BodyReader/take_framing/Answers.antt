use Rattle.std.proofs.Common.{◌≡◌, sym, ap, ◌∙◌}
use Rattle.web_bodies.specs.declared.place.BodyPlace.TheVariants.{Refused}
use Rattle.std.proofs.lemmas.Bool.{both_ways, false_from_ne_true}
use Rattle.web_bodies.specs.Body.{Body}
use Rattle.web_bodies.specs.Steps.{awaits_payload}
use Rattle.web_bodies.proofs.Framing.{taken_none, taken_more, taken_up_to, faulty_before, faulty_at, refuses_faulty}
use Rattle.web_bodies.proofs.reader.BodyReader.take_framing.Goals as goal

pub returns-in-Refused-clause-refused : goal.returns-in-Refused-clause-refused
returns-in-Refused-clause-refused c =
    let refused : c.args.self.now.place ≡ Refused c.in-Refused.fault = ap (λ (b : Body). b.place) (sym c.self.view_is) ∙ c.in-Refused.is in
    refuses_faulty c.args.self.now c.args.piece.now c.args.self.now c.in-Refused.fault
    (faulty_before c.args.self.now c.args.piece.now c.in-Refused.fault refused)

pub loop-index-init : goal.loop-index-init
loop-index-init c =
    taken_none c.args.self.now c.args.piece.now c.requires.some c.requires.framing (rw (← c.self.view_is) c.self.invariant.0) c.requires.not_over
    (λ fault e. c.in_default.not-Refused fault (ap (λ (b : Body). b.place) c.self.view_is ∙ e))

pub returns-in-Refused-place : goal.returns-in-Refused-place
returns-in-Refused-place c = record {
  taken = tt;
  refused =
      refuses_faulty c.args.self.now c.args.piece.now c.take_byte.new.self c.in-Refused-place.fault
      (faulty_at c.args.self.now c.args.piece.now c.loop-index.self c.loop-index.index c.take_byte.new.self c.in-Refused-place.fault
      c.loop-index.invariant c.loop-index-test.true c.in_ok-take_byte.ensures.ok
      (ap (λ (b : Body). b.place) (sym c.self-in-loop-index.view_is) ∙ c.in-Refused-place.is));
  stays_refused = λ fault e. absurd (c.in_default.not-Refused fault (ap (λ (b : Body). b.place) c.self.view_is ∙ e));
}

pub returns-then-not-is_in_framing : goal.returns-then-not-is_in_framing
returns-then-not-is_in_framing c = record {
  taken =
      taken_up_to c.args.self.now c.args.piece.now c.loop-index.self c.loop-index.index c.take_byte.new.self c.loop-index.invariant
      c.loop-index-test.true c.in_ok-take_byte.ensures.ok
      (λ fault e. c.in_default-place.not-Refused fault (ap (λ (b : Body). b.place) c.self-in-loop-index.view_is ∙ e))
      (c.is_in_framing.ensures.framing c.if-not-is_in_framing.true);
  refused = tt;
  stays_refused = λ fault e. absurd (c.in_default.not-Refused fault (ap (λ (b : Body). b.place) c.self.view_is ∙ e));
}

pub loop-index-preserved : goal.loop-index-preserved
loop-index-preserved c =
    taken_more c.args.self.now c.args.piece.now c.loop-index.self c.loop-index.index c.take_byte.new.self c.loop-index.invariant
    c.loop-index-test.true c.in_ok-take_byte.ensures.ok
    (λ over. both_ways c.is_in_framing.result (c.is_in_framing.ensures.over over) c.if-not-is_in_framing.false)
    (λ fault e. c.in_default-place.not-Refused fault (ap (λ (b : Body). b.place) c.self-in-loop-index.view_is ∙ e))
    (false_from_ne_true (awaits_payload c.take_byte.new.self.place)
    (λ payload. both_ways c.is_in_framing.result (c.is_in_framing.ensures.payload payload) c.if-not-is_in_framing.false))
