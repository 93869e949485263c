-- What is read at one level, by what is read at the levels further in.
use Rattle.std.proofs.Common.{◌≡◌, ℕ, zero, suc, ◌-◌, ◌<◌, List, Option, None, Some, refl, sym, ap, ◌∙◌, arith}
use Rattle.std.specs.Prelude.{option_map, unwrap_or}
use Rattle.proto_fields.specs.declared.kind.MessageKind.TheVariants as kinds
use Rattle.proto_fields.specs.Fields.{Field}
use Rattle.proto_fields.specs.Readings.{Member, merged, latest}
use Rattle.relation_parts.specs.declared.common.RelationCommon.{RelationCommon}
use Rattle.relation_parts.specs.Parts.{common_of}
use Rattle.relation_members.specs.declared.member.RelationMember.{RelationMember}
use Rattle.relation_members.specs.declared.member.RelationMember.TheVariants as V
use Rattle.relation_members.specs.Members.{member_at}
use Rattle.relation_messages.specs.declared.relation.Relation.{Relation}
use Rattle.relation_messages.specs.declared.relation.Relation.TheViews.{roll-Relation}
use Rattle.relation_messages.specs.Relations.{absent, relation_of, relation_at}

-- a relation of these parts
abbrev pub relation_with : Option RelationCommon → RelationMember Relation → Relation
relation_with common member = roll-Relation (record { common = common; member = member })

pub relation_at_zero : (level : ℕ) (fields : List Field) → level ≡ 0 → relation_at level fields ≡ absent
unfolding relation_at
relation_at_zero level fields none = rw none refl

pub relation_at_level : (level : ℕ) (fields : List Field) → 0 < level → relation_at level fields ≡ relation_of (relation_at (level - 2)) (level - 2) fields
unfolding relation_at
relation_at_level zero fields some = absurd (omega arith)
relation_at_level (suc zero) fields some = refl
relation_at_level (suc (suc level)) fields some =
    let left : level ≡ suc (suc level) - 2 = omega arith in ap (λ (n : ℕ). relation_of (relation_at n) n fields) left

-- by the member that was set last

pub of_parts : (common common2 : Option RelationCommon) (member member2 : RelationMember Relation) → common ≡ common2 → member ≡ member2 → relation_with common member ≡ relation_with common2 member2
of_parts common common2 member member2 common_is member_is = ap (λ (c : Option RelationCommon). relation_with c member) common_is ∙ ap (relation_with common2) member_is

pub relation_at_none : (level : ℕ) (fields : List Field) (common : Option RelationCommon) → 0 < level → common ≡ option_map common_of (merged 1 fields) → latest kinds.Relation fields ≡ None →
    relation_with common (V.Other 0) ≡ relation_at level fields
relation_at_none level fields common some common_is found =
    let member : V.Other 0 ≡ unwrap_or (option_map (member_at (relation_at (level - 2)) (level - 2)) (latest kinds.Relation fields)) (V.Other 0) =
    ap (λ (m : Option Member). unwrap_or (option_map (member_at (relation_at (level - 2)) (level - 2)) m) (V.Other 0)) (sym found) in
    of_parts common (option_map common_of (merged 1 fields)) (V.Other 0) (unwrap_or (option_map (member_at (relation_at (level - 2)) (level - 2)) (latest kinds.Relation fields)) (V.Other 0)) common_is member
    ∙ sym (relation_at_level level fields some)

pub relation_at_some : (level inner : ℕ) (fields : List Field) (common : Option RelationCommon) (member : Member) (read : RelationMember Relation) → 0 < level → inner ≡ level - 2 → common ≡ option_map common_of (merged 1 fields) →
    latest kinds.Relation fields ≡ Some member → read ≡ member_at (relation_at inner) inner member → relation_with common read ≡ relation_at level fields
relation_at_some level inner fields common member read some inner_is common_is found read_is =
    let by : ℕ → Option Member → RelationMember Relation = λ n m. unwrap_or (option_map (member_at (relation_at n) n) m) (V.Other 0) in
    let same : read ≡ by (level - 2) (latest kinds.Relation fields) = read_is ∙ ap (λ (n : ℕ). by n (Some member)) inner_is ∙ ap (by (level - 2)) (sym found) in
    of_parts common (option_map common_of (merged 1 fields)) read (by (level - 2) (latest kinds.Relation fields)) common_is same ∙ sym (relation_at_level level fields some)
