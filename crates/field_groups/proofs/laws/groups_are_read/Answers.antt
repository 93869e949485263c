-- Each part of the law.
use Rattle.std.proofs.Common.{◌++◌}
use Rattle.field_groups.proofs.Among.{behind, before_others}
use Rattle.field_groups.proofs.Rests.{behind_up_to}
use Rattle.field_groups.proofs.laws.groups_are_read.Goals as goal

pub returns : goal.returns
returns t = record {
  among = λ number front part back in_front at_back. before_others number (front ++ part) part back (behind number front part in_front) at_back;
  behind = λ most number front part few above. behind_up_to most number front part few above;
}
