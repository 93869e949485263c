use Rattle.cn_types.proofs.DateFacts.{dates_of_the_calendar}
use Rattle.cn_types.proofs.dates.dates_are_of_the_calendar.Goals as goal

pub returns : goal.returns
returns c = dates_of_the_calendar
