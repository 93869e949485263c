-- A group of fields among fields of other numbers.
use Rattle.std.specs.Prelude.{◌≡◌, ◌≢◌, ◌≤◌, ℕ, List}
use Rattle.std.specs.List.{AllByRecursion}
use Rattle.proto_fields.specs.Fields.{Field}
use Rattle.proto_fields.specs.Readings.{last_number, last_payload, payloads}

-- no field has this number
abbrev pub AreOthers : ℕ → List Field → Type 0
AreOthers number fields = AllByRecursion (λ field. field.number ≢ number) fields

-- no field has a greater number
abbrev pub AreUpTo : ℕ → List Field → Type 0
AreUpTo most fields = AllByRecursion (λ field. field.number ≤ most) fields

-- what is read of this number is read of this part alone
pub record ReadsAs (number : ℕ) (whole part : List Field) : Type 0 where
  pub number_is : last_number number whole ≡ last_number number part
  pub payload_is : last_payload number whole ≡ last_payload number part
  pub payloads_are : payloads number whole ≡ payloads number part
