-- The pair that a pair to be answered stands for.
use Rattle.std.specs.Option.{option_map}
use Rattle.cn_types.specs.declared.settings.Pair.{Pair}
use Rattle.session_core.specs.declared.shown.Shown.{Shown}

abbrev pub told : Shown → Pair
told shown = record { key = shown.key.now; value = option_map (λ value. value.now) shown.value }
