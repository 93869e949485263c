use Rattle.std.proofs.Common.{◌≡◌, ◌<◌, ◌≤◌, ◌+◌, ◌-◌, ◌^◌, ◌⊎◌, ℕ, min, map, sum, length, slice_range, inl, inr, arith, refl, subst, ◌∙◌}
use Rattle.std.proofs.lemmas.List.{length-map}
use Rattle.cn_types.specs.Weight.{row_weight}
use Rattle.response_buffer.proofs.BatchLemmas.{sum-slice_range_more, sum-slice_range_one, get_or-map-read, IsBatch-heavy, IsBatch-full}
use Rattle.response_buffer.proofs.batches.batch_end.Goals as goal

pub loop-end-init : goal.loop-end-init
loop-end-init c =
    let rows = c.args.rows.now in
    let weights = map row_weight rows in
    let count : length weights ≡ length rows = length-map rows row_weight in
    let first = sum-slice_range_one weights c.args.start (omega arith) ∙ get_or-map-read row_weight rows c.args.start c.index-rows-start.result (omega arith) c.index-rows-start.is in
    record { weighed = omega (arith, first, c.weight-weight.ensures); fits = inl refl }

pub loop-end-preserved : goal.loop-end-preserved
loop-end-preserved c =
    let rows = c.args.rows.now in
    let weights = map row_weight rows in
    let end = c.loop-end.end in
    let count : length weights ≡ length rows = length-map rows row_weight in
    let more = sum-slice_range_more weights c.args.start end (omega arith) (omega arith) in
    let row = get_or-map-read row_weight rows end c.index-rows-end.result (omega arith) c.index-rows-end.is in
    let weighed : c.saturating_add-weight.result ≡ min (sum (slice_range weights c.args.start (end + 1))) (2 ^ 64 - 1) =
    omega (arith, more, row, c.loop-end.invariant.weighed, c.weight.ensures, c.saturating_add-weight.ensures) in
    record { weighed = weighed; fits = inr (omega (arith, weighed)) }

pub returns-then-weight-gt-BATCH_WEIGHT : goal.returns-then-weight-gt-BATCH_WEIGHT
returns-then-weight-gt-BATCH_WEIGHT c =
    let rows = c.args.rows.now in
    let weights = map row_weight rows in
    let end = c.loop-end.end in
    let count : length weights ≡ length rows = length-map rows row_weight in
    let more = sum-slice_range_more weights c.args.start end (omega arith) (omega arith) in
    let row = get_or-map-read row_weight rows end c.index-rows-end.result (omega arith) c.index-rows-end.is in
    let heavy : 2 ^ 20 < sum (slice_range weights c.args.start (end + 1)) =
    omega (arith, more, row, c.loop-end.invariant.weighed, c.weight.ensures, c.saturating_add-weight.ensures) in
    IsBatch-heavy c.args.max_rows weights c.args.start end (omega arith) (omega arith) (λ limited. omega arith) c.loop-end.invariant.fits heavy

pub returns : goal.returns
returns c =
    let rows = c.args.rows.now in
    let weights = map row_weight rows in
    let count : length weights ≡ length rows = length-map rows row_weight in
    let limit = c.args.start + c.at_most.result in
    let some : c.args.start < limit = elim c.at_most.ensures.full [ inl all ↦ omega arith | inr most ↦ omega arith ] in
    let done : c.loop-end.end ≡ limit = omega arith in
    let fits = subst (λ (end : ℕ). (end ≡ c.args.start + 1) ⊎ (sum (slice_range weights c.args.start end) ≤ 2 ^ 20)) done c.loop-end.invariant.fits in
    let full : (limit ≡ length weights) ⊎ ((0 < c.args.max_rows) × (limit ≡ c.args.start + c.args.max_rows)) =
    elim c.at_most.ensures.full [ inl all ↦ inl (omega arith) | inr most ↦ inr (most.0, omega arith) ] in
    IsBatch-full c.args.max_rows weights c.args.start limit some (omega arith) (λ limited. omega arith) fits full
