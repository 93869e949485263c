-- What holds of the texts of ids, and of the settings of every session.
use Rattle.std.specs.Prelude.{◌≡◌, ℕ, List, map, take, bytes_eq}
use Rattle.std.specs.List.{IsDistinct}
use Rattle.std.specs.Str.{str_to_ascii_lowercase}
use Rattle.cn_types.specs.declared.settings.Pair.{Pair}
use Rattle.request_messages.specs.declared.config.ConfigOperation.{ConfigOperation}
use Rattle.session_core.specs.Config.{changed}
use Rattle.session_core.specs.Ids.{IsTextOf}
use Rattle.session_core.specs.Presets.{presets}

-- two texts that differ only in case are texts of one id
abbrev pub CaseIsFree : Type 0
CaseIsFree = (a b : List ℕ) (id : ℕ) → str_to_ascii_lowercase a ≡ str_to_ascii_lowercase b → IsTextOf id a → IsTextOf id b

-- a text is that of at most one id
abbrev pub OneIdIsSpelled : Type 0
OneIdIsSpelled = (a b : ℕ) (text : List ℕ) → IsTextOf a text → IsTextOf b text → a ≡ b

abbrev pub keys_of : List Pair → List (List ℕ)
keys_of settings = map (λ pair. pair.key) settings

-- the presets' keys come first, and no key stands twice
pub record HavePresets (settings : List Pair) : Type 0 where
  pub first : take 5 (keys_of settings) ≡ keys_of presets
  pub distinct : IsDistinct bytes_eq (keys_of settings)

-- it is so in a new session, and no operation ends it
abbrev pub PresetsStay : Type 0
PresetsStay = HavePresets presets × ((settings : List Pair) (asked : ConfigOperation) → HavePresets settings → HavePresets (changed settings asked))
