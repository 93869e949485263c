use Rattle.std.proofs.Common.{ap, sym, ◌∙◌}
use Rattle.std.specs.Prelude.{option_map}
use Rattle.table_lines.specs.Lines.{pieces_left}
use Rattle.table_lines.proofs.PieceFacts.{next_is}
use Rattle.table_lines.proofs.pieces.Pieces.next.Goals as goal

pub returns-clause-next : goal.returns-clause-next
returns-clause-next c =
    sym c.self.view_is ∙ ap (λ o. pieces_left c.self.inside.separator (option_map (λ rest. rest.now) o)) c.in_ok-rest.was
    ∙ next_is c.self.inside.separator c.piece_length-size.result c.in_ok-rest.rest.now c.split_at.result.0.now c.split_at.result.1.now (option_map (λ rest. rest.now) c.behind_first-self-inside.result)
    c.piece_length-size.ensures.run c.split_at.ensures.front c.split_at.ensures.back c.behind_first-self-inside.ensures
