-- A session that is there keeps its place and its settings.
use Rattle.std.proofs.Common.{List, ◌∙◌, sym, ap}
use Rattle.cn_types.specs.declared.settings.Pair.{Pair}
use Rattle.session_core.specs.Sessions.{settings_of, named, named_at}
use Rattle.session_core.specs.declared.keys.SessionKey.{SessionKey}
use Rattle.session_core.proofs.PlaceLemmas.{OnOk-map}
use Rattle.session_core.proofs.SessionLemmas.{settings_of-there, settings_of-new, named-there}
use Rattle.session_core.proofs.sessions.Sessions.admit.Goals as goal

pub returns-in-Some-clause-ok : goal.returns-in-Some-clause-ok
returns-in-Some-clause-ok c =
    c.note.ensures
    ∙ ap (λ (l : List Pair). named_at c.args.self.now c.in-Some.place l c.args.now)
    (sym (settings_of-there c.args.self.now c.args.session.now c.in-Some.place (sym c.in-Some.ensures.place)))
    ∙ sym (named-there c.args.self.now c.args.session.now (settings_of c.args.self.now c.args.session.now) c.args.now c.in-Some.place
    (sym c.in-Some.ensures.place))

pub returns-in_ok-settings-in-None-clause-ok : goal.returns-in_ok-settings-in-None-clause-ok
returns-in_ok-settings-in-None-clause-ok c =
    OnOk-map c.make.result _ _
    (λ e. e
    ∙ ap (λ (k : SessionKey). named c.args.self.now k c.in_ok-settings-in-None.settings.0 c.args.now) c.in_ok-key-in-None.ensures
    ∙ ap (λ (l : List Pair). named c.args.self.now c.args.session.now l c.args.now)
    (c.in_ok-settings-in-None.ensures ∙ sym (settings_of-new c.args.self.now c.args.session.now (sym c.in-None.ensures.place))))
    c.make.ensures.ok
