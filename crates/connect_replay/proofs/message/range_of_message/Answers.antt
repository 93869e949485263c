-- The message of an ask's plan is read as the plan, whose root is the range.
use Rattle.std.proofs.Common.{◌≡◌, Option, Some, sym, ap, ◌∙◌, subst}
use Rattle.std.specs.Prelude.{Ok, ◌≤◌, unwrap_or}
use Rattle.std.specs.Option.{is_some}
use Rattle.std.proofs.lemmas.Bool.{false≢true}
use Rattle.proto_fields.specs.Faults.{Gives}
use Rattle.relation_parts.specs.declared.range.Range.{Range}
use Rattle.plan_messages.specs.declared.plan.Plan.{Plan}
use Rattle.plan_messages.specs.Depths.{plan_depth}
use Rattle.plan_messages.specs.Known.{IsKnownPlan}
use Rattle.connect_replay.specs.Message.{asked_plan, asked_range, root_range}
use Rattle.connect_replay.proofs.Messages.{asked_known, asked_deep, asked_root, asked_is_given, given_plan, given_fault}
use Rattle.connect_replay.proofs.message.range_of_message.Goals as goal

pub encode_plan-requires-clause-known : goal.encode_plan-requires-clause-known
encode_plan-requires-clause-known c = subst IsKnownPlan (sym c.plan_of_ask-asked.ensures.exact) (asked_known c.args.ask.now)

pub encode_plan-requires-clause-depth : goal.encode_plan-requires-clause-depth
encode_plan-requires-clause-depth c = subst (λ (plan : Plan). plan_depth plan ≤ 200) (sym c.plan_of_ask-asked.ensures.exact) (asked_deep c.args.ask.now)

pub returns-in-Some : goal.returns-in-Some
returns-in-Some c =
    let gives : Gives c.decode_plan.result (Ok (asked_plan c.args.ask.now)) =
    asked_is_given (asked_plan c.args.ask.now) c.plan_of_ask-asked.result c.in_ok-message.message c.as_slice.result.now c.as_slice.ensures c.plan_of_ask-asked.ensures.exact
    (c.in_ok-message.ensures.read c.plan_of_ask-asked.ensures.bits) c.decode_plan.result c.decode_plan.ensures.read in
    let root : c.range_of_root.result ≡ Some (asked_range c.args.ask.now) =
    c.range_of_root.ensures ∙ ap root_range (given_plan c.decode_plan.result (asked_plan c.args.ask.now) c.in-Ok.plan gives c.in-Ok.is) ∙ asked_root c.args.ask.now in
    ap (λ (o : Option Range). unwrap_or o (asked_range c.args.ask.now)) (sym c.in-Some.is ∙ root)

pub unreachable-requires : goal.unreachable-requires
unreachable-requires c =
    let gives : Gives c.decode_plan.result (Ok (asked_plan c.args.ask.now)) =
    asked_is_given (asked_plan c.args.ask.now) c.plan_of_ask-asked.result c.in_ok-message.message c.as_slice.result.now c.as_slice.ensures c.plan_of_ask-asked.ensures.exact
    (c.in_ok-message.ensures.read c.plan_of_ask-asked.ensures.bits) c.decode_plan.result c.decode_plan.ensures.read in
    let root : c.range_of_root.result ≡ Some (asked_range c.args.ask.now) =
    c.range_of_root.ensures ∙ ap root_range (given_plan c.decode_plan.result (asked_plan c.args.ask.now) c.in-Ok.plan gives c.in-Ok.is) ∙ asked_root c.args.ask.now in
    absurd (false≢true (ap is_some (sym c.in-None.is ∙ root)))

pub want_of_memory-requires : goal.want_of_memory-requires
want_of_memory-requires c =
    let gives : Gives c.decode_plan.result (Ok (asked_plan c.args.ask.now)) =
    asked_is_given (asked_plan c.args.ask.now) c.plan_of_ask-asked.result c.in_ok-message.message c.as_slice.result.now c.as_slice.ensures c.plan_of_ask-asked.ensures.exact
    (c.in_ok-message.ensures.read c.plan_of_ask-asked.ensures.bits) c.decode_plan.result c.decode_plan.ensures.read in
    given_fault c.decode_plan.result (asked_plan c.args.ask.now) c.in-Err.fault gives c.in-Err.is
