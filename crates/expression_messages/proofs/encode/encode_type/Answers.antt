-- What is given spells the type, and a type is read back.
use Rattle.std.proofs.Common.{◌≡◌, ◌<◌, ◌^◌, length, rules, arith}
use Rattle.proto_fields.specs.declared.kind.MessageKind.TheVariants as kinds
use Rattle.proto_fields.specs.Spelling.{spell}
use Rattle.expression_messages.specs.Spelled.{type_fields}
use Rattle.expression_messages.specs.Types.{type_at}
use Rattle.expression_messages.proofs.Encoded.{encoded}
use Rattle.expression_messages.proofs.TypeBack.{type_read_back}
use Rattle.expression_messages.proofs.encode.encode_type.Goals as goal

pub returns-clause-read : goal.returns-clause-read
returns-clause-read c bits =
    let kind = c.args.kind.now in
    let short : length c.finish-bytes.result < 2 ^ 64 = search rules in
    encoded 200 kinds.DataType (type_fields kind) (type_at 200) kind c.finish-bytes.result short
    (λ few. type_read_back 200 kind c.requires.known bits few c.requires.depth)
    (search rules)
