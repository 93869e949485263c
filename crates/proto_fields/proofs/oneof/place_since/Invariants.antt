use Rattle.std.proofs.Common.{◌≡◌, ◌+◌, take}
use Rattle.std.specs.Prelude.{not}
use Rattle.std.specs.List.{suffix_len}
use Rattle.proto_fields.specs.Readings.{sets_other}
use Rattle.proto_fields.specs.Views.{seen}
use Rattle.proto_fields.proofs.oneof.place_since.Given as goal

abbrev pub invariant-loop-index : goal.invariant-loop-index
invariant-loop-index l = l.place + suffix_len (λ field. not (sets_other l.kind l.number field)) (take l.index (seen l.records)) ≡ l.index
