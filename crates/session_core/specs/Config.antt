-- What an operation on settings answers, and the settings that it leaves.
use Rattle.std.specs.Prelude.{ℕ, ◌+◌, Bool, false, not, if◌then◌else◌, List, [], ◌∷◌, map, length, drop, Result, Ok, Err, is_none, is_some, nat_lt, ◌&&◌, sum_by, unwrap_or, codes}
use Rattle.std.specs.List.{find, flat_map, starts_with}
use Rattle.std.specs.Option.{option_map_or, option_or}
use Rattle.std.specs.Bool.{nat_eq}
use Rattle.cn_types.specs.declared.settings.Pair.{Pair}
use Rattle.response_messages.specs.declared.key_value.KeyValue.{KeyValue}
use Rattle.request_messages.specs.declared.config.ConfigOperation.{ConfigOperation}
use Rattle.request_messages.specs.declared.config.ConfigOperation.TheVariants as operation
use Rattle.session_core.specs.declared.refusal.ConfigRefusal.{ConfigRefusal}
use Rattle.session_core.specs.declared.refusal.ConfigRefusal.TheVariants as refusal
use Rattle.session_core.specs.Presets.{pair, is_allowed}
use Rattle.session_core.specs.Settings.{value_of, put_all, without}

-- what an operation answers
abbrev pub Answer : Type 0
Answer = Result (List Pair) ConfigRefusal

abbrev pub pair_of : KeyValue → Pair
pair_of asked = record { key = asked.key; value = asked.value }

-- a pair may be set where it has a value, and one that its key may take
abbrev pub may_set : KeyValue → Bool
may_set asked = option_map_or (is_allowed asked.key) asked.value false

-- the pair of a key, without a value where the settings have none
abbrev pub pair_at : List Pair → List ℕ → Pair
pair_at settings key = record { key = key; value = value_of settings key }

-- the same, with a value given for a key without one
abbrev pub pair_or : List Pair → KeyValue → Pair
pair_or settings asked = record { key = asked.key; value = option_or (value_of settings asked.key) asked.value }

-- a pair with a value whose key begins with the prefix, with the prefix taken off
abbrev pub under : List ℕ → Pair → List Pair
under prefix pair =
    if is_some pair.value && starts_with nat_eq pair.key prefix
    then (record { key = drop (length prefix) pair.key; value = pair.value }) ∷ [] else []

-- a set is refused for the first pair that may not be set
abbrev pub setting : List KeyValue → Answer
setting new = option_map_or (λ asked. Err (refusal.BadSetting asked.key)) (find (λ asked. not (may_set asked)) new) (Ok [])

-- a get is refused for the first key without a value
abbrev pub getting : List Pair → List (List ℕ) → Answer
getting settings keys =
    option_map_or (λ key. Err (refusal.NotFound key)) (find (λ key. is_none (value_of settings key)) keys) (Ok (map (pair_at settings) keys))

-- the pairs that an operation asks for; set and unset ask for none
abbrev pub asked_of : List Pair → ConfigOperation → Answer
asked_of settings (operation.Set new) = setting new
asked_of settings (operation.Get keys) = getting settings keys
asked_of settings (operation.GetWithDefault defaults) = Ok (map (pair_or settings) defaults)
asked_of settings (operation.GetOption keys) = Ok (map (pair_at settings) keys)
asked_of settings (operation.GetAll prefix) = Ok (flat_map (under (unwrap_or prefix [])) settings)
asked_of settings (operation.Unset keys) = Ok []
asked_of settings (operation.IsModifiable keys) = Ok (map (λ key. pair key (codes "true")) keys)
asked_of settings operation.Absent = Err refusal.Unsupported

-- a pair weighs its key, its value and 16
abbrev pub pair_weight : Pair → ℕ
pair_weight pair = length pair.key + option_map_or length pair.value 0 + 16

-- pairs that weigh together more than 8,388,608 are too many to answer
abbrev pub limited : List Pair → Answer
limited pairs = if nat_lt 8388608 (sum_by pair_weight pairs) then Err (refusal.ReplyTooLarge 8388608) else Ok pairs

abbrev pub limited_answer : Answer → Answer
limited_answer (Ok pairs) = limited pairs
limited_answer (Err why) = Err why

-- what an operation answers over settings
abbrev pub answered : List Pair → ConfigOperation → Answer
answered settings asked = limited_answer (asked_of settings asked)

-- the settings that an accepted operation leaves
abbrev pub changed : List Pair → ConfigOperation → List Pair
changed settings (operation.Set new) = put_all settings (map pair_of new)
changed settings (operation.Unset keys) = without keys settings
changed settings other = settings
