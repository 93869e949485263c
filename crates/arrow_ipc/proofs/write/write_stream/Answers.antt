use Rattle.std.proofs.Common.{◌≡◌, subst, sym, ◌∙◌}
use Rattle.flat_tables.specs.Layout.{CanBePut}
use Rattle.arrow_ipc.specs.Columns.{buffers_from, body_of}
use Rattle.arrow_ipc.specs.Messages.{batch_message}
use Rattle.arrow_ipc.proofs.Sizes.{schema_can_be_put, batch_can_be_put}
use Rattle.arrow_ipc.proofs.Streams.{batch_message_is, stream_written}
use Rattle.arrow_ipc.proofs.write.write_stream.Goals as goal

pub write_message-requires : goal.write_message-requires
write_message-requires c = subst CanBePut (sym c.in_ok-first.ensures) (schema_can_be_put c.object_sizes_add_up.ensures c.args.schema.now c.args.rows.now c.requires)

pub write_message-requires-2 : goal.write_message-requires-2
write_message-requires-2 c =
    let body : c.as_slice-bytes.result.now ≡ body_of (buffers_from 0 c.args.schema.now.0 c.args.rows.now) = c.as_slice-bytes.ensures.value ∙ c.in_ok-body.ensures.body in
    let same : c.in_ok-second.second ≡ batch_message c.args.schema.now c.args.rows.now
    = c.in_ok-second.ensures ∙ batch_message_is c.args.schema.now c.args.rows.now _ _ _ c.in_ok-body.ensures.nodes c.in_ok-body.ensures.spans body in
    subst CanBePut (sym same) (batch_can_be_put c.object_sizes_add_up.ensures c.args.schema.now c.args.rows.now c.requires)

pub returns : goal.returns
returns c =
    let body : c.as_slice-bytes.result.now ≡ body_of (buffers_from 0 c.args.schema.now.0 c.args.rows.now) = c.as_slice-bytes.ensures.value ∙ c.in_ok-body.ensures.body in
    let same : c.in_ok-second.second ≡ batch_message c.args.schema.now c.args.rows.now
    = c.in_ok-second.ensures ∙ batch_message_is c.args.schema.now c.args.rows.now _ _ _ c.in_ok-body.ensures.nodes c.in_ok-body.ensures.spans body in
    stream_written c.args.schema.now c.args.rows.now c.new-out.result c.write_message.new.out c.write_message-2.new.out c.append_both.new.self c.as_slice-bytes.result.now c.in_ok-first.first c.in_ok-second.second
    c.new-out.ensures c.in_ok-write_message.ensures c.in_ok-write_message-2.ensures c.in_ok-append_both.ensures.ok c.in_ok-first.ensures same body
