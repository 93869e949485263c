-- one more row
use Rattle.std.proofs.Common.{◌≡◌, ◌+◌, List, [], ◌∷◌, ◌++◌, arith, ap, sym, ◌∙◌}
use Rattle.std.proofs.lemmas.List.{append_assoc}
use Rattle.std.proofs.lemmas.List.FromFn.{map-range_with_len_more}
use Rattle.std.proofs.lemmas.List.Sums.{sum_by_push}
use Rattle.cn_types.specs.declared.row.Row.{Row}
use Rattle.arrow_read.specs.Columns.{row_of, rows_of}
use Rattle.arrow_read.specs.Room.{row_texts, texts_size}
use Rattle.arrow_read.proofs.rows.push_rows.Goals as goal

pub loop-row-preserved : goal.loop-row-preserved
loop-row-preserved c =
    let here : 0 + c.loop-row.row ≡ c.loop-row.row = omega arith in
    let made : Row = c.in_ok-made.made in
    let more : texts_size (c.loop-row.rows ++ made ∷ []) ≡ texts_size c.loop-row.rows + row_texts made = sum_by_push row_texts c.loop-row.rows made in
    let now : texts_size c.push.new.self ≡ texts_size (c.loop-row.rows ++ made ∷ []) = ap texts_size c.in_ok-push.ensures.ok in
    record {
      rows = c.in_ok-push.ensures.ok
          ∙ ap (λ (rows : List Row). rows ++ made ∷ []) c.loop-row.invariant.rows
          ∙ append_assoc c.args.rows.now (rows_of c.args.columns.now c.loop-row.row) (made ∷ [])
          ∙ ap (λ (row : Row). c.args.rows.now ++ (rows_of c.args.columns.now c.loop-row.row ++ row ∷ [])) c.in_ok-made.ensures.row
          ∙ ap (λ (rows : List Row). c.args.rows.now ++ rows) (sym (map-range_with_len_more (row_of c.args.columns.now) 0 c.loop-row.row c.loop-row.row here));
      texts = omega (arith, now, more, c.in_ok-made.ensures.texts, c.loop-row.invariant.texts);
    }
