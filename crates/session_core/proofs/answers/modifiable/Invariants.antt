use Rattle.std.proofs.Common.{◌≡◌, ◌++◌, drop, map, codes}
use Rattle.session_core.specs.Presets.{pair}
use Rattle.session_core.specs.Shown.{told}
use Rattle.session_core.proofs.answers.modifiable.Given as goal

abbrev pub invariant-loop-key : goal.invariant-loop-key
invariant-loop-key l = map told l.shown.items ++ map (λ key. pair key (codes "true")) (drop l.key-index l.keys) ≡ map (λ key. pair key (codes "true")) l.keys
