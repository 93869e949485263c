-- What is read of the relation in sound messages is the same at every level that suffices.
use Rattle.std.proofs.Common.{◌≡◌, ℕ, zero, suc, ◌-◌, ◌<◌, ◌≤◌, List, [], ◌∷◌, Option, None, Some, refl, sym, ap, ◌∙◌, arith}
use Rattle.std.specs.Prelude.{option_map}
use Rattle.std.proofs.lemmas.List.{append-nil}
use Rattle.proto_fields.specs.declared.kind.MessageKind.TheVariants as kinds
use Rattle.proto_fields.specs.Fields.{Field, fields_of}
use Rattle.proto_fields.specs.Faults.{IsSound}
use Rattle.proto_fields.specs.Readings.{last_some, payloads, merged, Member, latest}
use Rattle.expression_messages.proofs.Agreement.{AreSound, sound_some, fields_in, joined_sound, since_sound}
use Rattle.relation_parts.specs.Parts.{common_of}
use Rattle.relation_members.specs.declared.member.RelationMember.{RelationMember}
use Rattle.relation_members.specs.Members.{member_at}
use Rattle.relation_members.proofs.MemberAgrees.{InputsAgree, member_agrees}
use Rattle.relation_messages.specs.declared.relation.Relation.{Relation}
use Rattle.relation_messages.specs.Relations.{absent, relation_at}
use Rattle.relation_messages.proofs.Levels.{relation_with, relation_at_zero, relation_at_none, relation_at_some}

-- what two levels agree on: all messages of relations, one after another, that are sound with the lower
abbrev Agree : ℕ → ℕ → Type 0
Agree level more = InputsAgree level (relation_at level) (relation_at more)

by_member : (level more : ℕ) → 0 < level → level ≤ more → Agree (level - 1 - 1) (more - 1 - 1) → (fields : List Field) → AreSound level kinds.Relation fields →
    (found : Option Member) → latest kinds.Relation fields ≡ found → relation_at more fields ≡ relation_at level fields
by_member level more some upper agree fields sound None is =
    let common = option_map common_of (merged 1 fields) in
    sym (relation_at_none more fields common (omega (arith, some, upper)) refl is) ∙ relation_at_none level fields common some refl is
by_member level more some upper agree fields sound (Some member) is =
    let common = option_map common_of (merged 1 fields) in
    let read : ℕ → RelationMember Relation = λ n. member_at (relation_at n) n member in
    let same = member_agrees level more (relation_at (level - 1 - 1)) (relation_at (more - 1 - 1)) upper agree member (since_sound level kinds.Relation fields member is sound) in
    sym (relation_at_some more (more - 1 - 1) fields common member (read (more - 1 - 1)) (omega (arith, some, upper)) (omega arith) refl is refl)
    ∙ ap (relation_with common) same
    ∙ relation_at_some level (level - 1 - 1) fields common member (read (level - 1 - 1)) some (omega arith) refl is refl

-- no relation is the same at every level

latest-nothing : latest kinds.Relation [] ≡ None
unfolding latest last_some
latest-nothing = refl

merged-nothing : None ≡ option_map common_of (merged 1 [])
unfolding payloads
merged-nothing = refl

pub relation_at-nothing : (level : ℕ) → relation_at level [] ≡ absent
relation_at-nothing zero = relation_at_zero zero [] refl
relation_at-nothing (suc level) = sym (relation_at_none (suc level) [] None (omega arith) merged-nothing latest-nothing)

-- with so many levels left in the proof
agree_to : (fuel level more : ℕ) → level ≤ fuel → level ≤ more → Agree level more
unfolding fields_in
agree_to fuel level more few upper [] sound = relation_at-nothing more ∙ sym (relation_at-nothing level)
agree_to zero level more few upper (message ∷ messages) sound = absurd (omega (arith, few, sound_some level kinds.Relation message sound.0))
agree_to (suc fuel) level more few upper (message ∷ messages) sound =
    let some = sound_some level kinds.Relation message sound.0 in
    let inner : Agree (level - 1 - 1) (more - 1 - 1) = agree_to fuel (level - 1 - 1) (more - 1 - 1) (omega (arith, few)) (omega (arith, upper)) in
    by_member level more some upper inner (fields_in (message ∷ messages)) (joined_sound level kinds.Relation (message ∷ messages) sound) (latest kinds.Relation (fields_in (message ∷ messages))) refl

-- of one message
pub relation_agrees : (level more : ℕ) (bytes : List ℕ) → level ≤ more → IsSound level kinds.Relation bytes → relation_at more (fields_of bytes) ≡ relation_at level (fields_of bytes)
unfolding fields_in
relation_agrees level more bytes upper sound =
    let one = append-nil (fields_of bytes) in
    ap (relation_at more) (sym one) ∙ agree_to level level more (omega arith) upper (bytes ∷ []) (sound, tt) ∙ ap (relation_at level) one
