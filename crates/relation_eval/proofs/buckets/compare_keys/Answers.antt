use Rattle.std.proofs.Common.{◌≡◌, length, sym, ap, ◌∙◌, arith}
use Rattle.std.specs.Prelude.{min, unwrap_or}
use Rattle.std.specs.Option.{option_copied}
use Rattle.std.specs.declared.cmp.Ordering.TheVariants.{Less, Equal, Greater}
use Rattle.std.specs.Ordering.{nat_cmp}
use Rattle.cn_types.specs.declared.value.Value.TheVariants.{Null}
use Rattle.cn_types.specs.Order.{value_cmp}
use Rattle.relation_eval.specs.Places.{key_by}
use Rattle.relation_eval.proofs.BucketFacts.{cell, cells_step, lengths_decide}
use Rattle.relation_eval.proofs.buckets.compare_keys.Goals as goal

pub returns-in-Less : goal.returns-in-Less
returns-in-Less c =
    let xs = (key_by c.args.left_columns c.args.left.now).0 in
    let ys = (key_by c.args.right_columns c.args.right.now).0 in
    let here : Less ≡ value_cmp (cell xs c.loop-place.place) (cell ys c.loop-place.place) =
    c.in-Less.ensures ∙ ap (λ x. value_cmp x (unwrap_or (option_copied c.key_value-right_value.result) Null)) c.key_value-left_value.ensures ∙ ap (λ y. value_cmp (cell xs c.loop-place.place) y) c.key_value-right_value.ensures in
    sym (cells_step xs ys c.loop-place.place Less _ (omega arith) (omega arith) c.loop-place.invariant here)

pub returns-in-Greater : goal.returns-in-Greater
returns-in-Greater c =
    let xs = (key_by c.args.left_columns c.args.left.now).0 in
    let ys = (key_by c.args.right_columns c.args.right.now).0 in
    let here : Greater ≡ value_cmp (cell xs c.loop-place.place) (cell ys c.loop-place.place) =
    c.in-Greater.ensures ∙ ap (λ x. value_cmp x (unwrap_or (option_copied c.key_value-right_value.result) Null)) c.key_value-left_value.ensures ∙ ap (λ y. value_cmp (cell xs c.loop-place.place) y) c.key_value-right_value.ensures in
    sym (cells_step xs ys c.loop-place.place Greater _ (omega arith) (omega arith) c.loop-place.invariant here)

pub loop-place-preserved : goal.loop-place-preserved
loop-place-preserved c =
    let xs = (key_by c.args.left_columns c.args.left.now).0 in
    let ys = (key_by c.args.right_columns c.args.right.now).0 in
    let here : Equal ≡ value_cmp (cell xs c.loop-place.place) (cell ys c.loop-place.place) =
    c.in-Equal.ensures ∙ ap (λ x. value_cmp x (unwrap_or (option_copied c.key_value-right_value.result) Null)) c.key_value-left_value.ensures ∙ ap (λ y. value_cmp (cell xs c.loop-place.place) y) c.key_value-right_value.ensures in
    cells_step xs ys c.loop-place.place Equal _ (omega arith) (omega arith) c.loop-place.invariant here

pub returns : goal.returns
returns c =
    let xs = (key_by c.args.left_columns c.args.left.now).0 in
    let ys = (key_by c.args.right_columns c.args.right.now).0 in
    let end : c.loop-place.place ≡ min (length xs) (length ys) = omega arith in
    let counts : c.cmp.result ≡ nat_cmp (length xs) (length ys) = c.cmp.ensures ∙ ap (λ n. nat_cmp n c.key_len-right_count.result) c.key_len-left_count.ensures ∙ ap (λ n. nat_cmp (length xs) n) c.key_len-right_count.ensures in
    counts ∙ sym (lengths_decide xs ys c.loop-place.place end) ∙ sym c.loop-place.invariant
