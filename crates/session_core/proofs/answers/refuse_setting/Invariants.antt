use Rattle.std.proofs.Common.{◌≡◌, drop, not}
use Rattle.std.specs.List.{find}
use Rattle.session_core.specs.Config.{may_set}
use Rattle.session_core.proofs.answers.refuse_setting.Given as goal

abbrev pub invariant-loop-pair : goal.invariant-loop-pair
invariant-loop-pair l = find (λ asked. not (may_set asked)) l.new ≡ find (λ asked. not (may_set asked)) (drop l.pair-index l.new)
