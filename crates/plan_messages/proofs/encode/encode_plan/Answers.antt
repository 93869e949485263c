-- What is given spells the plan, and a plan is read back.
use Rattle.std.proofs.Common.{◌<◌, ◌^◌, length, rules}
use Rattle.proto_fields.specs.declared.kind.MessageKind.TheVariants as kinds
use Rattle.expression_messages.proofs.Encoded.{encoded}
use Rattle.plan_messages.specs.Spelled.{plan_fields}
use Rattle.plan_messages.specs.Plans.{plan_at}
use Rattle.plan_messages.proofs.PlanBack.{plan_read_back}
use Rattle.plan_messages.proofs.encode.encode_plan.Goals as goal

pub returns-clause-read : goal.returns-clause-read
returns-clause-read c bits =
    let plan = c.args.plan.now in
    let short : length c.finish-bytes.result < 2 ^ 64 = search rules in
    encoded 200 kinds.Plan (plan_fields plan) (plan_at 200) plan c.finish-bytes.result short
    (λ few. plan_read_back 200 plan c.requires.known bits few c.requires.depth)
    (search rules)
