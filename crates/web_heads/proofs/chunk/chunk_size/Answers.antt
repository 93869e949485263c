use Rattle.std.proofs.Common.{ℕ, List, [], sym, append-nil, subst}
use Rattle.httparse.specs.Grammar.{ReadsChunkLine}
use Rattle.web_heads.proofs.Answered.{chunk_size-long, chunk_size-found, chunk_size-none, chunk_size-partly, size_sound, size_none}
use Rattle.web_heads.proofs.chunk.chunk_size.Goals as goal

pub returns-then-line-gt-MOST_CHUNK_LINE : goal.returns-then-line-gt-MOST_CHUNK_LINE
returns-then-line-gt-MOST_CHUNK_LINE c =
    let exact = sym (chunk_size-long c.args.line.now c.if-line-gt-MOST_CHUNK_LINE.true) in
    record { exact = exact; found = tt; none = size_none c.args.line.now exact }

pub returns-then-len-line : goal.returns-then-len-line
returns-then-len-line c =
    let exact = chunk_size-found c.args.line.now c.in-Ok-Complete.len c.in-Ok-Complete.size
    (rw (c.in-Ok-Complete.is, c.in-Ok-Complete.field-0-is) at c.parse_chunk_size.ensures.complete)
    c.if-len-line.true c.if-line-gt-MOST_CHUNK_LINE.false in
    record { exact = exact; found = size_sound c.args.line.now c.in-Ok-Complete.size (sym exact); none = tt }

pub returns-else-len-line : goal.returns-else-len-line
returns-else-len-line c =
    let exact = chunk_size-partly c.args.line.now c.in-Ok-Complete.len c.in-Ok-Complete.size
    (rw (c.in-Ok-Complete.is, c.in-Ok-Complete.field-0-is) at c.parse_chunk_size.ensures.complete)
    c.if-len-line.false c.if-line-gt-MOST_CHUNK_LINE.false in
    record { exact = exact; found = tt; none = size_none c.args.line.now exact }

pub returns-in-Ok-Partial : goal.returns-in-Ok-Partial
returns-in-Ok-Partial c =
    let exact = chunk_size-none c.args.line.now (λ l. (rw (c.in-Ok-Partial.is, c.in-Ok-Partial.field-0-is) at c.parse_chunk_size.ensures.partial) l [])
    c.if-line-gt-MOST_CHUNK_LINE.false in
    record { exact = exact; found = tt; none = size_none c.args.line.now exact }

pub returns-in-Err : goal.returns-in-Err
returns-in-Err c =
    let exact = chunk_size-none c.args.line.now
    (λ l reads. (rw c.in-Err.is at c.parse_chunk_size.ensures.invalid) [] l []
    (subst (λ (text : List ℕ). ReadsChunkLine text l []) (sym (append-nil c.args.line.now)) reads))
    c.if-line-gt-MOST_CHUNK_LINE.false in
    record { exact = exact; found = tt; none = size_none c.args.line.now exact }
