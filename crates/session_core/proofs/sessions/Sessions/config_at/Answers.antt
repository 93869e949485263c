-- The settings that are lent are those at the place.
use Rattle.std.proofs.Common.{◌≡◌, ◌∙◌, sym, ap, rules, List}
use Rattle.std.specs.Option.{option_map_or}
use Rattle.cn_types.specs.declared.settings.Pair.{Pair}
use Rattle.session_core.specs.Config.{answered, changed}
use Rattle.session_core.specs.Sessions.{Opened, settings_at, named_at}
use Rattle.session_core.proofs.SessionLemmas.{settings_at-value}
use Rattle.session_core.proofs.sessions.Sessions.config_at.Goals as goal

pub returns-in_err-answer-clause-refused : goal.returns-in_err-answer-clause-refused
returns-in_err-answer-clause-refused c =
    let same : settings_at c.args.self.now c.args.place ≡ c.as_slice-settings.result.now =
    ap (λ (o : Opened). settings_at o c.args.place) (sym c.self.view_is)
    ∙ settings_at-value c.self.inside.limit c.self.inside.sessions.entries c.args.place c.index.result.now c.index.ensures
    ∙ sym c.as_slice-settings.ensures in
    rw same (search rules)

pub returns-clause-ok : goal.returns-clause-ok
returns-clause-ok c =
    let same : settings_at c.args.self.now c.args.place ≡ c.as_slice-settings.result.now =
    ap (λ (o : Opened). settings_at o c.args.place) (sym c.self.view_is)
    ∙ settings_at-value c.self.inside.limit c.self.inside.sessions.entries c.args.place c.index.result.now c.index.ensures
    ∙ sym c.as_slice-settings.ensures in
    ap (λ (l : List Pair). answered l c.args.operation.now) same ∙ c.in_ok-answer.ensures.ok

pub returns-clause-changes : goal.returns-clause-changes
returns-clause-changes c =
    let same : settings_at c.args.self.now c.args.place ≡ c.as_slice-settings.result.now =
    ap (λ (o : Opened). settings_at o c.args.place) (sym c.self.view_is)
    ∙ settings_at-value c.self.inside.limit c.self.inside.sessions.entries c.args.place c.index.result.now c.index.ensures
    ∙ sym c.as_slice-settings.ensures in
    c.note.ensures ∙ ap (λ (l : List Pair). named_at c.args.self.now c.args.place l c.args.now)
    (ap (λ (l : List Pair). option_map_or (λ s. s.0) c.in_ok-new.new l) same ∙ c.in_ok-new.ensures ∙ ap (λ (l : List Pair). changed l c.args.operation.now) (sym same))
