-- An admitted operation is one on the session at its place, or on a new one.
use Rattle.std.proofs.Common.{List, ◌∙◌, sym, ap}
use Rattle.cn_types.specs.declared.settings.Pair.{Pair}
use Rattle.session_core.specs.Config.{changed}
use Rattle.session_core.specs.Presets.{presets}
use Rattle.session_core.specs.Sessions.{settings_at, settings_after, named, named_at}
use Rattle.session_core.proofs.PlaceLemmas.{OnOk-map}
use Rattle.session_core.proofs.SessionLemmas.{settings_of-there, settings_of-new, named-there, configured-admitted, IfOk-map, IfErr-map}
use Rattle.session_core.proofs.sessions.Sessions.config.Goals as goal

pub returns-in-Some-clause-ok : goal.returns-in-Some-clause-ok
returns-in-Some-clause-ok c =
    IfOk-map c.config_at.result _ _
    (λ pairs e. configured-admitted c.args.self.now c.args.session c.args.operation.now (settings_at c.args.self.now c.in-Some.place)
    (sym c.may_admit.ensures ∙ c.if-not-may_admit.false)
    (settings_of-there c.args.self.now c.args.session c.in-Some.place (sym c.in-Some.ensures.place)) ∙ e)
    c.config_at.ensures.ok

pub returns-in-Some-clause-refused : goal.returns-in-Some-clause-refused
returns-in-Some-clause-refused c =
    IfErr-map c.config_at.result _ _
    (λ why f other. configured-admitted c.args.self.now c.args.session c.args.operation.now (settings_at c.args.self.now c.in-Some.place)
    (sym c.may_admit.ensures ∙ c.if-not-may_admit.false)
    (settings_of-there c.args.self.now c.args.session c.in-Some.place (sym c.in-Some.ensures.place)) ∙ f other)
    c.config_at.ensures.refused

pub returns-in-Some-clause-changes : goal.returns-in-Some-clause-changes
returns-in-Some-clause-changes c =
    OnOk-map c.config_at.result _ _
    (λ e. e
    ∙ ap (λ (l : List Pair). named_at c.args.self.now c.in-Some.place (changed l c.args.operation.now) c.args.now)
    (sym (settings_of-there c.args.self.now c.args.session c.in-Some.place (sym c.in-Some.ensures.place)))
    ∙ sym (named-there c.args.self.now c.args.session (settings_after c.args.self.now c.args.session c.args.operation.now) c.args.now c.in-Some.place
    (sym c.in-Some.ensures.place)))
    c.config_at.ensures.changes

pub returns-in-Some-clause-unchanged : goal.returns-in-Some-clause-unchanged
returns-in-Some-clause-unchanged c = c.config_at.ensures.unchanged

pub returns-in-None-clause-ok : goal.returns-in-None-clause-ok
returns-in-None-clause-ok c =
    IfOk-map c.config_new.result _ _
    (λ pairs e. configured-admitted c.args.self.now c.args.session c.args.operation.now presets
    (sym c.may_admit.ensures ∙ c.if-not-may_admit.false)
    (settings_of-new c.args.self.now c.args.session (sym c.in-None.ensures.place)) ∙ e)
    c.config_new.ensures.ok

pub returns-in-None-clause-refused : goal.returns-in-None-clause-refused
returns-in-None-clause-refused c =
    IfErr-map c.config_new.result _ _
    (λ why f other. configured-admitted c.args.self.now c.args.session c.args.operation.now presets
    (sym c.may_admit.ensures ∙ c.if-not-may_admit.false)
    (settings_of-new c.args.self.now c.args.session (sym c.in-None.ensures.place)) ∙ f other)
    c.config_new.ensures.refused

pub returns-in-None-clause-changes : goal.returns-in-None-clause-changes
returns-in-None-clause-changes c =
    OnOk-map c.config_new.result _ _
    (λ e. e
    ∙ ap (λ (l : List Pair). named c.args.self.now c.args.session (changed l c.args.operation.now) c.args.now)
    (sym (settings_of-new c.args.self.now c.args.session (sym c.in-None.ensures.place))))
    c.config_new.ensures.changes

pub returns-in-None-clause-unchanged : goal.returns-in-None-clause-unchanged
returns-in-None-clause-unchanged c = c.config_new.ensures.unchanged
