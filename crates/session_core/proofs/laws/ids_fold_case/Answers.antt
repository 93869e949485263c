-- A text says of an id only what its lower case does.
use Rattle.std.proofs.Common.{◌∙◌, sym}
use Rattle.session_core.proofs.IdLemmas.{one_id}
use Rattle.session_core.proofs.laws.ids_fold_case.Goals as goal

pub returns-clause-case : goal.returns-clause-case
returns-clause-case c = λ a b id same spelled. record { width = spelled.width; same = sym same ∙ spelled.same }

pub returns-clause-one : goal.returns-clause-one
returns-clause-one c = one_id
