-- The sessions of a server: when one may be made, and what a request makes of them.
use Rattle.std.specs.Prelude.{ℕ, ◌==◌, ◌||◌, ◌&&◌, Bool, if◌then◌else◌, List, [], length, Err, Option, is_some, nat_lt, slice_get, bytes_eq}
use Rattle.std.specs.Map.{lookup}
use Rattle.std.specs.Option.{option_map_or}
use Rattle.indexmap.specs.IndexMap.{insert_entry}
use Rattle.indexmap.specs.Layout.{set_value_at}
use Rattle.cn_types.specs.declared.settings.Pair.{Pair}
use Rattle.request_messages.specs.declared.config.ConfigOperation.{ConfigOperation}
use Rattle.session_core.specs.declared.refusal.ConfigRefusal.TheVariants as refusal
use Rattle.session_core.specs.declared.keys.SessionKey.{SessionKey}
use Rattle.session_core.specs.declared.session.Session.{Session}
use Rattle.session_core.specs.Presets.{presets}
use Rattle.session_core.specs.Config.{Answer, answered, changed}

-- the sessions, each under its key, in the order in which they were made, and how many there may be
pub record Opened : Type 0 where
  pub limit : ℕ
  pub sessions : List (SessionKey × Session)

-- a session is that of a user and an id
abbrev pub same_key : SessionKey → SessionKey → Bool
same_key a b = (a.session == b.session) && bytes_eq a.user b.user

-- the session of a key, where it was made
abbrev pub session_of : Opened → SessionKey → Option Session
session_of opened key = lookup (same_key key) opened.sessions

-- the settings of a session; one that isn't made yet has the presets
abbrev pub settings_of : Opened → SessionKey → List Pair
settings_of opened key = option_map_or (λ session. session.settings.0) (session_of opened key) presets

-- a request may be accepted where its session is there or there may be one more
abbrev pub may_admit : Opened → SessionKey → Bool
may_admit opened key = is_some (session_of opened key) || nat_lt (length opened.sessions) opened.limit

-- an accepted request leaves its session with these settings and this last moment, where it stands or else last
abbrev pub named : Opened → SessionKey → List Pair → ℕ → Opened
named opened key settings now = record {
  limit = opened.limit;
  sessions = insert_entry same_key opened.sessions key (record { settings = record { 0 = settings }; last = now });
}

-- the settings of the session at a place
abbrev pub settings_at : Opened → ℕ → List Pair
settings_at opened place = option_map_or (λ entry. entry.1.settings.0) (slice_get opened.sessions place) []

-- the session at a place with these settings and this last moment
abbrev pub named_at : Opened → ℕ → List Pair → ℕ → Opened
named_at opened place settings now = record {
  limit = opened.limit;
  sessions = set_value_at opened.sessions place (record { settings = record { 0 = settings }; last = now });
}

-- what an operation on the settings of a session answers
abbrev pub configured : Opened → SessionKey → ConfigOperation → Answer
configured opened key asked =
    if may_admit opened key then answered (settings_of opened key) asked else Err (refusal.SessionLimit opened.limit)

-- the settings that it leaves where it is accepted
abbrev pub settings_after : Opened → SessionKey → ConfigOperation → List Pair
settings_after opened key asked = changed (settings_of opened key) asked
