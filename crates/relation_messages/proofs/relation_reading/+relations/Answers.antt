-- Each return is what the message's fields say at this level.
use Rattle.std.proofs.Common.{sym, arith}
use Rattle.proto_fields.specs.Views.{seen, member_of}
use Rattle.relation_messages.proofs.Levels.{relation_at_some}
use Rattle.relation_messages.proofs.relation_reading.+relations.Goals as goal

pub relation_from-returns-in_ok-member_from-in-Some : goal.relation_from-returns-in_ok-member_from-in-Some
relation_from-returns-in_ok-member_from-in-Some t c =
    relation_at_some c.args.level c.saturating_sub.result (seen c.args.items.now) c.in_ok-common.common (member_of c.in-Some.member) c.in_ok-member_from-in-Some.field-0
    (omega arith) c.saturating_sub.ensures c.in_ok-common.ensures (sym c.in-Some.ensures) c.in_ok-member_from-in-Some.ensures
