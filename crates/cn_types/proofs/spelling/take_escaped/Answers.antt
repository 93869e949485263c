use Rattle.std.proofs.Common.{refl, ◌∷◌, ◌++◌}
use Rattle.std.specs.String.{string_bytes}
use lib.Utf8.{encode}
use Rattle.cn_types.proofs.Unescapes.{stops_behind}
use Rattle.cn_types.proofs.spelling.take_escaped.Goals as goal

pub returns-in_default-clause-bad : goal.returns-in_default-clause-bad
returns-in_default-clause-bad c =
    λ bad t rest. stops_behind (string_bytes c.args.out.now) (92 ∷ (encode c.args.letter ++ rest)) t (λ s. c.in_default.ensures.none refl s rest)
