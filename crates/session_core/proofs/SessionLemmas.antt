-- The session of a key by its place.
use Rattle.std.proofs.Common.{◌≡◌, ℕ, zero, suc, ◌<◌, Bool, true, false, List, [], ◌∷◌, length, slice_get, position, Option, Some, None, Result, Ok, Err, IfOk, IfErr, arith, refl, sym, ap, ◌∙◌, true≢false, if◌then◌else◌}
use Rattle.std.specs.Prelude.{is_some}
use Rattle.std.specs.Map.{keys_of, values_of}
use Rattle.std.specs.Option.{option_map_or}
use Rattle.std.proofs.lemmas.Option.{same_Some}
use Rattle.indexmap.proofs.MapLemmas.{Found-position, insert_entry-first, some_index}
use Rattle.cn_types.specs.declared.settings.Pair.{Pair}
use Rattle.request_messages.specs.declared.config.ConfigOperation.{ConfigOperation}
use Rattle.session_core.specs.declared.refusal.ConfigRefusal.TheVariants as refusal
use Rattle.session_core.specs.declared.keys.SessionKey.{SessionKey}
use Rattle.session_core.specs.declared.session.Session.{Session}
use Rattle.session_core.specs.Config.{answered}
use Rattle.session_core.specs.Presets.{presets}
use Rattle.session_core.specs.Sessions.{Opened, same_key, session_of, settings_of, settings_at, named, named_at, may_admit, configured}

-- the settings at a place, by the session there
pub settings_at-value : (limit : ℕ) (es : List (SessionKey × Session)) (i : ℕ) (session : Session) → slice_get (values_of es) i ≡ Some session
    → settings_at (record { limit = limit; sessions = es }) i ≡ session.settings.0
settings_at-value limit [] i session e = absurd (true≢false (sym (ap is_some e)))
settings_at-value limit (entry ∷ es) zero session e = ap (λ (s : Session). s.settings.0) (same_Some _ _ e)
settings_at-value limit (entry ∷ es) (suc i) session e = settings_at-value limit es i session e

at_place : (es : List (SessionKey × Session)) (i : ℕ) → i < length es
    → option_map_or (λ s. s.settings.0) (slice_get (values_of es) i) presets ≡ option_map_or (λ e. e.1.settings.0) (slice_get es i) []
at_place [] i h = absurd (omega arith)
at_place (e ∷ es) zero h = refl
at_place (e ∷ es) (suc i) h = at_place es i (omega arith)

-- the settings of a key that has a place
pub settings_of-there : (opened : Opened) (key : SessionKey) (place : ℕ) → position (same_key key) (keys_of opened.sessions) ≡ Some place
    → settings_of opened key ≡ settings_at opened place
settings_of-there opened key place there =
    let found = Found-position (same_key key) opened.sessions place there in
    ap (λ (o : Option Session). option_map_or (λ s. s.settings.0) o presets) found.value ∙ at_place opened.sessions place found.within

-- a key without a place has the presets
pub settings_of-new : (opened : Opened) (key : SessionKey) → position (same_key key) (keys_of opened.sessions) ≡ None → settings_of opened key ≡ presets
settings_of-new opened key none = by (session_of opened key) (sym (some_index (same_key key) opened.sessions) ∙ ap is_some none)
  where
    by : (o : Option Session) → is_some o ≡ false → option_map_or (λ s. s.settings.0) o presets ≡ presets
    by None e = refl
    by (Some s) e = absurd (true≢false e)

-- a key that has a place keeps it
pub named-there : (opened : Opened) (key : SessionKey) (settings : List Pair) (now place : ℕ) → position (same_key key) (keys_of opened.sessions) ≡ Some place
    → named opened key settings now ≡ named_at opened place settings now
named-there opened key settings now place there =
    ap (λ (es : List (SessionKey × Session)). let made : Opened = record { limit = opened.limit; sessions = es } in made)
    (insert_entry-first same_key key _ opened.sessions place (Found-position (same_key key) opened.sessions place there).first)

-- what an admitted operation answers
pub configured-admitted : (opened : Opened) (key : SessionKey) (asked : ConfigOperation) (settings : List Pair) → may_admit opened key ≡ true
    → settings_of opened key ≡ settings → configured opened key asked ≡ answered settings asked
configured-admitted opened key asked settings may same =
    ap (λ (b : Bool). if b then answered (settings_of opened key) asked else Err (refusal.SessionLimit opened.limit)) may
    ∙ ap (λ (l : List Pair). answered l asked) same

pub IfOk-map : {T E : Type 0} (r : Result T E) (P Q : T → Type 0) → ((x : T) → P x → Q x) → IfOk r P → IfOk r Q
IfOk-map (Ok x) P Q f h = f x h
IfOk-map (Err e) P Q f h = tt

pub IfErr-map : {T E : Type 0} (r : Result T E) (P Q : E → Type 0) → ((x : E) → P x → Q x) → IfErr r P → IfErr r Q
IfErr-map (Ok x) P Q f h = tt
IfErr-map (Err e) P Q f h = f e h
