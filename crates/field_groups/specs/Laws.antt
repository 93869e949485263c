-- Laws over the definitions, for all fields.
use Rattle.std.specs.Prelude.{ℕ, ◌<◌, List, ◌++◌}
use Rattle.proto_fields.specs.Fields.{Field}
use Rattle.field_groups.specs.Groups.{AreOthers, AreUpTo, ReadsAs}

-- what is read of a number is read of the fields with that number alone, whatever other fields stand before and behind
pub record GroupsAreRead : Type 0 where
  pub among : (number : ℕ) (front part back : List Field) → AreOthers number front → AreOthers number back → ReadsAs number (front ++ part ++ back) part
  pub behind : (most number : ℕ) (front part : List Field) → AreUpTo most front → most < number → ReadsAs number (front ++ part) part
