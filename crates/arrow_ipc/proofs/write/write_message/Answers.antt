use Rattle.std.proofs.Common.{◌≡◌, ℕ, List, length, ap, ◌∙◌, sym}
use Rattle.std.specs.Int.{w32, to_le_bytes}
use Rattle.std.proofs.lemmas.Result.{on_ok_weaker}
use Rattle.flat_tables.specs.Layout.{layout}
use Rattle.arrow_ipc.proofs.Streams.{inside_Some, message_written}
use Rattle.arrow_ipc.proofs.write.write_message.Goals as goal

pub returns : goal.returns
returns c =
    let whole : c.finish-metadata.result ≡ layout c.args.message.now = inside_Some _ _ (sym c.finish-metadata.ensures ∙ c.in_ok-put.ensures.ok) in
    let size : c.to_le_bytes.result ≡ to_le_bytes w32 (length c.as_slice-2.result.now) = c.to_le_bytes.ensures ∙ ap (λ (bytes : List ℕ). to_le_bytes w32 (length bytes)) (c.as_slice.ensures ∙ sym c.as_slice-2.ensures) in
    on_ok_weaker c.append.result (λ e.
    message_written c.args.out.now c.append_both.new.self c.append.new.self c.as_slice-2.result.now c.to_le_bytes.result c.args.message.now
    e c.in_ok-append_both.ensures.ok (c.as_slice-2.ensures ∙ whole) size)
    c.append.ensures.ok
