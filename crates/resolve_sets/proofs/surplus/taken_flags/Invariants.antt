use Rattle.std.proofs.Common.{◌≡◌, take}
use Rattle.resolve_relations.specs.Columns.{numbered}
use Rattle.resolve_sets.specs.Flags.{is_taken}
use Rattle.resolve_sets.proofs.surplus.taken_flags.Given as goal

abbrev pub invariant-loop-partner : goal.invariant-loop-partner
invariant-loop-partner l =
    l.flags.items ≡ numbered (is_taken (take l.partner-index l.partners)) l.right
