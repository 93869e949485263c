-- Each return is what the message's fields say at this level.
use Rattle.std.proofs.Common.{◌≡◌, ℕ, ◌<◌, ◌-◌, List, refl, sym, ap, ◌∙◌, arith}
use Rattle.proto_fields.specs.Views.{seen, member_of}
use Rattle.expression_messages.specs.declared.data_type.StructField.{StructField}
use Rattle.expression_messages.specs.declared.data_type.TypeMessage.{TypeMessage}
use Rattle.expression_messages.specs.declared.data_type.TypeMessage.TheVariants.{Struct}
use Rattle.expression_messages.specs.Messages.{message_at}
use Rattle.expression_messages.specs.Types.{struct_fields_of, type_at}
use Rattle.expression_messages.proofs.Levels.{type_at-zero, type_at-None, type_at-plain, type_at-struct}
use Rattle.expression_messages.proofs.type_reading.+types.Goals as goal

pub type_from-returns-then-level-eq0 : goal.type_from-returns-then-level-eq0
type_from-returns-then-level-eq0 t c = sym (type_at-zero c.args.level (seen c.args.items.now) c.if-level-eq0.true)

pub type_from-returns-in-None : goal.type_from-returns-in-None
type_from-returns-in-None t c = sym (type_at-None c.args.level (seen c.args.items.now) (omega arith) (sym c.in-None.ensures))

pub type_from-returns-then-member-ne21 : goal.type_from-returns-then-member-ne21
type_from-returns-then-member-ne21 t c =
    c.plain_type.ensures ∙ sym (type_at-plain c.args.level (seen c.args.items.now) (member_of c.in-Some.member) (omega arith) (sym c.in-Some.ensures) c.if-member-ne21.true)

pub type_from-returns-in_ok-fields-in-Some : goal.type_from-returns-in_ok-fields-in-Some
type_from-returns-in_ok-fields-in-Some t c =
    let fields = c.in_ok-fields-in-Some.ensures in
    let found = c.in_ok-found-in-Some.ensures in
    let whole = type_at-struct c.args.level (seen c.args.items.now) (member_of c.in-Some.member) (omega arith) (sym c.in-Some.ensures) c.if-member-ne21.false in
    let level : c.saturating_sub.result ≡ c.args.level - 3 = c.saturating_sub.ensures in
    let within : seen c.as_slice.result.now ≡ message_at 21 (seen c.in-Some.member.since.now) = ap seen c.as_slice.ensures ∙ found in
    ap (λ (fs : List (StructField TypeMessage)). Struct fs)
    (fields ∙ ap (λ (n : ℕ). struct_fields_of (type_at n) (seen c.as_slice.result.now)) level ∙ ap (struct_fields_of (type_at (c.args.level - 3))) within)
    ∙ sym whole
