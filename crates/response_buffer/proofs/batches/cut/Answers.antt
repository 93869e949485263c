use Rattle.std.proofs.Common.{◌≡◌, ◌<◌, [], length, map, arith, rules, subst}
use Rattle.std.proofs.lemmas.Bool.Decides.{nat_tests}
use Rattle.std.proofs.lemmas.List.{append-nil, length-map, nil_from_length}
use Rattle.cn_types.specs.Weight.{row_weight}
use Rattle.response_buffer.specs.Batches.{AreBatches, IsCutting, batch_ends}
use Rattle.response_buffer.proofs.BatchLemmas.{IsCutting-from_batches, batch_ends-IsCutting}
use Rattle.response_buffer.proofs.batches.cut.Goals as goal

pub returns-then-is_empty-clause-ends : goal.returns-then-is_empty-clause-ends
unfolding batch_ends
returns-then-is_empty-clause-ends c =
    let none : c.args.rows.now ≡ [] = nil_from_length c.args.rows.now (grind (arith, nat_tests, c.if-is_empty.ensures)) in
    rw none (search rules)

pub returns : goal.returns
returns c =
    let weights = map row_weight c.args.rows.now in
    let count : length weights ≡ length c.args.rows.now = length-map c.args.rows.now row_weight in
    let some : 0 < length c.args.rows.now = grind (arith, nat_tests, c.if-is_empty.ensures) in
    let done : c.loop-start.start ≡ length weights = omega (arith, c.loop-start.invariant.within) in
    let cutting : IsCutting c.args.max_rows weights c.loop-start.ends =
    IsCutting-from_batches c.args.max_rows weights c.loop-start.ends (omega arith)
    (subst (AreBatches c.args.max_rows weights 0) (append-nil c.loop-start.ends) (c.loop-start.invariant.batches [] done)) in
    record { cutting = cutting; ends = (batch_ends-IsCutting c.args.max_rows weights).1 c.loop-start.ends cutting }
