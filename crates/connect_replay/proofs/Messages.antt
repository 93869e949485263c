-- A plan's message that is decoded: the plan is what was spelled, and no fault is left but want of memory. The plan of an ask has a spelling.
use Rattle.std.proofs.Common.{◌≡◌, ℕ, ◌+◌, ◌≤◌, max, List, Result, Ok, Err, Some, None, refl, sym, ap, ◌∙◌, subst, arith}
use Rattle.std.specs.Prelude.{FitsSigned}
use Rattle.std.specs.Int.{w64}
use Rattle.std.proofs.lemmas.Bool.{false≢true}
use Rattle.std.specs.Result.{is_ok}
use Rattle.proto_fields.specs.declared.fault.MessageFault.{MessageFault}
use Rattle.proto_fields.specs.declared.fault.MessageFault.TheVariants as fault
use Rattle.proto_fields.specs.declared.kind.MessageKind.TheVariants as kinds
use Rattle.proto_fields.specs.Fields.{fields_of}
use Rattle.proto_fields.specs.Faults.{IsSound, Gives}
use Rattle.expression_messages.specs.Laws.{IsReadAs}
use Rattle.relation_members.specs.declared.member.RelationMember.TheVariants as V
use Rattle.relation_members.specs.Depths.{member_depth}
use Rattle.relation_members.specs.Known.{is_known_member}
use Rattle.relation_messages.specs.declared.relation.Relation.{Relation}
use Rattle.relation_messages.specs.declared.relation.Relation.TheOpen.{Relation-F}
use Rattle.relation_messages.specs.declared.relation.Relation.TheViews.{roll-Relation, out-roll-Relation}
use Rattle.relation_messages.specs.declared.relation.Relation.TheFolds.{every_made-Relation}
use Rattle.relation_messages.specs.Depths.{common_depth, relation_depth}
use Rattle.relation_messages.specs.Known.{is_known_relation, HasRelationBitsHere, HasRelationBits}
use Rattle.relation_messages.proofs.Folds.{relation_deep, relation_known}
use Rattle.plan_messages.specs.declared.plan.Plan.{Plan}
use Rattle.plan_messages.specs.Plans.{plan_at}
use Rattle.plan_messages.specs.Depths.{plan_depth}
use Rattle.plan_messages.specs.Known.{IsKnownPlan, HasPlanBits}
use Rattle.connect_replay.specs.declared.ask.Ask.{Ask}
use Rattle.connect_replay.specs.Message.{asked_range, asked_plan, range_in, root_range}

-- ---- the plan of an ask

-- the one layer of the relation that is asked for
asked_layer : Ask → Relation-F Relation
asked_layer ask = record { common = None; member = V.Range (asked_range ask) }

pub asked_known : (ask : Ask) → IsKnownPlan (asked_plan ask)
unfolding asked_layer
asked_known ask =
    relation_known (roll-Relation (asked_layer ask))
    ∙ ap (λ (layer : Relation-F Relation). is_known_member is_known_relation layer.member) (out-roll-Relation (asked_layer ask))

pub asked_deep : (ask : Ask) → plan_depth (asked_plan ask) ≤ 200
unfolding asked_layer
asked_deep ask =
    let deep : relation_depth (roll-Relation (asked_layer ask)) ≡ 2 =
    relation_deep (roll-Relation (asked_layer ask))
    ∙ ap (λ (layer : Relation-F Relation). 1 + max (common_depth layer.common) (member_depth relation_depth layer.member)) (out-roll-Relation (asked_layer ask)) in
    omega (arith, deep)

pub asked_root : (ask : Ask) → root_range (asked_plan ask) ≡ Some (asked_range ask)
unfolding asked_layer
asked_root ask = ap (λ (layer : Relation-F Relation). range_in layer.member) (out-roll-Relation (asked_layer ask))

pub asked_bits : (ask : Ask) → FitsSigned w64 ask.start → FitsSigned w64 ask.end → FitsSigned w64 ask.step → HasPlanBits (asked_plan ask)
unfolding asked_layer HasRelationBits
asked_bits ask start end step =
    every_made-Relation HasRelationBitsHere (asked_layer ask) (record { common = None; member = V.Range (asked_range ask) }) refl
    (record { common = tt; rest = record { start = start; end = end; step = step; num_partitions = tt } })

-- the decoder gives the plan that the encoder was given
pub asked_is_given : (asked plan : Plan) (message bytes : List ℕ) → bytes ≡ message → plan ≡ asked → IsReadAs 200 kinds.Plan message (plan_at 200) plan → (result : Result Plan MessageFault) →
    (IsSound 200 kinds.Plan bytes → Gives result (Ok (plan_at 200 (fields_of bytes)))) → Gives result (Ok asked)
asked_is_given asked plan message bytes same plan_is back result read =
    subst (λ (p : Plan). Gives result (Ok p)) (ap (λ (b : List ℕ). plan_at 200 (fields_of b)) same ∙ back.same ∙ plan_is) (read (subst (IsSound 200 kinds.Plan) (sym same) back.sound))

-- ---- what the decoder gives

-- the plan of an answer, or another where there is none
plan_or : Plan → Result Plan MessageFault → Plan
plan_or other (Ok plan) = plan
plan_or other (Err fault) = other

pub given_plan : (result : Result Plan MessageFault) (asked plan : Plan) → Gives result (Ok asked) → result ≡ Ok plan → plan ≡ asked
unfolding plan_or
given_plan result asked plan gives is =
    let same : Ok asked ≡ Ok plan = subst (λ (r : Result Plan MessageFault). Gives r (Ok asked)) is gives in
    sym (ap (plan_or asked) same)

refuted : {A : Type 0} (asked : Plan) (f : MessageFault) → Ok asked ≡ Err f → A
refuted asked f same = absurd (false≢true (sym (ap is_ok same)))

pub given_fault : (result : Result Plan MessageFault) (asked : Plan) (f : MessageFault) → Gives result (Ok asked) → result ≡ Err f → f ≡ fault.OutOfMemory
given_fault result asked (fault.Wire f) gives is = refuted asked (fault.Wire f) (subst (λ (r : Result Plan MessageFault). Gives r (Ok asked)) is gives)
given_fault result asked (fault.NotUtf8 at) gives is = refuted asked (fault.NotUtf8 at) (subst (λ (r : Result Plan MessageFault). Gives r (Ok asked)) is gives)
given_fault result asked (fault.TooDeep at) gives is = refuted asked (fault.TooDeep at) (subst (λ (r : Result Plan MessageFault). Gives r (Ok asked)) is gives)
given_fault result asked fault.OutOfMemory gives is = refl
