-- what is read is what the bytes hold
use Rattle.std.proofs.Common.{List, subst, sym}
use Rattle.cn_types.specs.declared.row.Row.{Row}
use Rattle.arrow_read.specs.Laws.{HoldsWanted}
use Rattle.arrow_read.proofs.StreamLaws.{streams_are_read, stream_made}
use Rattle.arrow_read.proofs.reader.read_stream.Goals as goal

pub returns-clause-holds : goal.returns-clause-holds
returns-clause-holds c =
    subst (λ (rows : List Row). HoldsWanted c.args.bytes.now c.args.want c.in_ok-schema.schema rows) (sym c.in_ok-of.ensures)
    ((streams_are_read c.args.bytes.now c.args.want c.in_ok-schema.schema c.in_ok-rows.rows).0
    (stream_made c.args.bytes.now c.args.want c.in_ok-schema.schema c.in_ok-schema.start c.in_ok-rows.rows c.in_ok-rows.found c.in_ok-if_wanted.field-0 c.in_ok-schema.ensures.ok c.in_ok-rows.ensures.ok
    (sym c.in_ok-if_wanted.ensures)))
