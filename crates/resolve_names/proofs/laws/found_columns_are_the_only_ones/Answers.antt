use Rattle.resolve_names.proofs.OnlyOne.{found_is_the_only_one}
use Rattle.resolve_names.proofs.laws.found_columns_are_the_only_ones.Goals as goal

pub returns : goal.returns
returns c = found_is_the_only_one
