use Rattle.std.proofs.Common.{◌≡◌, ◌++◌, drop}
use Rattle.std.specs.Prelude.{string_bytes}
use Rattle.plan_text.specs.Drafts.{more_fields_json}
use Rattle.plan_text.proofs.values.push_fields.Given as goal

abbrev pub invariant-loop-field : goal.invariant-loop-field
invariant-loop-field l = string_bytes l.out ++ more_fields_json (drop l.field-index l.fields) ≡ string_bytes l.initial.out ++ more_fields_json l.fields
