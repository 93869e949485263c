-- What has to hold of a draft before a deed: columns and rows that are put into a stream can be written.
use Rattle.std.specs.Prelude.{List, [], ◌∷◌}
use Rattle.arrow_ipc.specs.Stream.{CanBeWritten}
use Rattle.plan_grammar.specs.declared.symbol.Action.{Action}
use Rattle.plan_grammar.specs.declared.symbol.Action.TheVariants as action
use Rattle.plan_grammar.specs.declared.symbol.StepAction.{StepAction}
use Rattle.plan_grammar.specs.declared.symbol.StepAction.TheVariants as step
use Rattle.plan_grammar.specs.declared.symbol.Deed.{Deed}
use Rattle.plan_grammar.specs.declared.symbol.Deed.TheVariants as deed
use Rattle.plan_text.specs.declared.draft.Draft.{Draft}
use Rattle.plan_text.specs.Drafts.{built}

-- its columns and rows can be written
abbrev pub HasValues : Draft → Type 0
HasValues draft = CanBeWritten (record { 0 = draft.columns }) draft.rows

abbrev pub CanStep : StepAction → Draft → Type 0
CanStep step.Values draft = HasValues draft
CanStep other draft = Unit {0}

abbrev pub CanAct : Action → Draft → Type 0
CanAct (action.Step one) draft = CanStep one draft
CanAct other draft = Unit {0}

abbrev pub CanDo : Deed → Draft → Type 0
CanDo (deed.Act one) draft = CanAct one draft
CanDo other draft = Unit {0}

-- each deed can be done where those before it are
abbrev pub CanDoAll : List Deed → Draft → Type 0
CanDoAll [] draft = Unit {0}
CanDoAll (one ∷ deeds) draft = CanDo one draft × CanDoAll deeds (built one draft)
