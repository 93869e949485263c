-- What is read of a plan in a sound message is the same at every level that suffices: its payloads, joined, are one sound message.
use Rattle.std.proofs.Common.{◌≡◌, ℕ, ◌≤◌, List, [], refl, sym, ap, ◌∙◌}
use Rattle.std.specs.List.{AllByRecursion}
use Rattle.proto_fields.specs.declared.kind.MessageKind.TheVariants as kinds
use Rattle.proto_fields.specs.Fields.{Field}
use Rattle.proto_fields.specs.Faults.{IsSound}
use Rattle.proto_fields.specs.Readings.{last_some, payloads, latest}
use Rattle.expression_messages.specs.Messages.{message_at}
use Rattle.expression_messages.proofs.Agreement.{message_at-joined}
use Rattle.plan_messages.specs.Plans.{plan_at}
use Rattle.plan_messages.proofs.Joined.{joined_agree}
use Rattle.plan_messages.proofs.PlanAgree.{plan_agrees}

-- no plan is the same at every level
plan_at-nothing : (level more : ℕ) → plan_at more [] ≡ plan_at level []
unfolding latest last_some
plan_at-nothing level more = refl

-- of the plan in a message
pub inner_plan_agrees : (level more number : ℕ) (fields : List Field) → level ≤ more → AllByRecursion (IsSound level kinds.Plan) (payloads number fields) →
    plan_at more (message_at number fields) ≡ plan_at level (message_at number fields)
inner_plan_agrees level more number fields upper sound =
    let joined = message_at-joined number fields in
    ap (plan_at more) joined
    ∙ joined_agree level kinds.Plan (plan_at level) (plan_at more) (plan_at-nothing level more) (λ bytes one. plan_agrees level more bytes upper one) (payloads number fields) sound
    ∙ ap (plan_at level) (sym joined)
