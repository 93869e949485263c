use Rattle.std.proofs.Common.{◌≡◌, ◌+◌, false, ◌∙◌}
use Rattle.std.specs.Prelude.{vec_len}
use Rattle.relation_eval.proofs.FirstFacts.{still_front, kept_more, kept_same}
use Rattle.relation_eval.proofs.firsts.flagged_rows.Goals as goal

pub loop-row-preserved-in-Continue-1 : goal.loop-row-preserved-in-Continue-1
loop-row-preserved-in-Continue-1 c =
    let taken = c.in-Some.ensures in
    let one_less : vec_len c.pop.new.self + 1 ≡ vec_len c.loop-row.rows = taken.len in
    let front = still_front c.args.rows.items c.loop-row.rows.items c.pop.new.self.items c.args.flags.now c.in-Some.row (vec_len c.loop-row.rows) (vec_len c.pop.new.self) c.len.result false
    one_less c.loop-row.invariant.0 c.loop-row.invariant.1 taken.items c.requires c.len.ensures in
    let pushed = c.in_ok-push.ensures in (
      front.0,
      front.1,
      pushed.items ∙ kept_more c.args.rows.items c.loop-row.rows.items c.pop.new.self.items c.args.flags.now c.in-Some.row (vec_len c.loop-row.rows) (vec_len c.pop.new.self) c.len.result false
          one_less c.loop-row.invariant.0 c.loop-row.invariant.1 taken.items c.requires c.len.ensures c.loop-row.kept.items c.loop-row.invariant.2 c.if-flags-len.true,
    )

pub loop-row-preserved : goal.loop-row-preserved
loop-row-preserved c =
    let taken = c.in-Some.ensures in
    let one_less : vec_len c.pop.new.self + 1 ≡ vec_len c.loop-row.rows = taken.len in
    let front = still_front c.args.rows.items c.loop-row.rows.items c.pop.new.self.items c.args.flags.now c.in-Some.row (vec_len c.loop-row.rows) (vec_len c.pop.new.self) c.len.result false
    one_less c.loop-row.invariant.0 c.loop-row.invariant.1 taken.items c.requires c.len.ensures in (
      front.0,
      front.1,
      kept_same c.args.rows.items c.loop-row.rows.items c.pop.new.self.items c.args.flags.now c.in-Some.row (vec_len c.loop-row.rows) (vec_len c.pop.new.self) c.len.result false
          one_less c.loop-row.invariant.0 c.loop-row.invariant.1 taken.items c.requires c.len.ensures c.loop-row.kept.items c.loop-row.invariant.2 c.if-flags-len.false,
    )
