use Rattle.plan_model.proofs.WorkedFacts.{worked_numbers, worked_truths, worked_comparisons, worked_texts_and_dates, worked_casts, worked_aggregates}
use Rattle.plan_model.proofs.laws.worked_rows_hold.Goals as goal

pub returns : goal.returns
returns c = record {
  numbers = worked_numbers;
  truths = worked_truths;
  comparisons = worked_comparisons;
  texts_and_dates = worked_texts_and_dates;
  casts = worked_casts;
  aggregates = worked_aggregates;
}
