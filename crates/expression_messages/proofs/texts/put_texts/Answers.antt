-- One more text before those that stand.
use Rattle.std.proofs.Common.{◌≡◌, ℕ, ◌-◌, ◌++◌, List, take, get_or, sym, ap, ◌∙◌, arith}
use Rattle.proto_fields.specs.Spelling.{spell, payload_fields}
use Rattle.expression_messages.specs.Messages.{repeated_fields}
use Rattle.expression_messages.proofs.Written.{repeated_more, repeated_none}
use Rattle.expression_messages.proofs.texts.put_texts.Goals as goal

pub returns : goal.returns
returns c = sym (repeated_none c.args.number c.args.texts.now c.loop-index.index c.loop-index.out (omega arith)) ∙ c.loop-index.invariant

pub loop-index-preserved : goal.loop-index-preserved
loop-index-preserved c =
    let text = c.index-texts-index.result in
    let left = repeated_fields c.args.number (take (c.loop-index.index - 1) c.args.texts.now) in
    let bytes = c.as_bytes.ensures.value ∙ c.as_str.ensures in
    ap (λ (bytes : List ℕ). spell left ++ bytes) (c.in_ok-put_payload.ensures.ok ∙ ap (λ (p : List ℕ). spell (payload_fields c.args.number p) ++ c.loop-index.out) bytes)
    ∙ repeated_more c.args.number c.args.texts.now c.loop-index.index text c.loop-index.out (omega arith) (omega arith) c.index-texts-index.is
    ∙ c.loop-index.invariant
