use Rattle.resolve_names.proofs.Sound.{spelled_as}
use Rattle.resolve_names.proofs.Outcomes.{if_ok}
use Rattle.resolve_names.proofs.identifier.identifier_parts.Goals as goal

pub returns-clause-spelling : goal.returns-clause-spelling
returns-clause-spelling c = if_ok _ c.read_parts.result (λ found is. spelled_as c.args.text.now found is) c.read_parts.ensures
