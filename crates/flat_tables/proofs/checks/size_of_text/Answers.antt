use Rattle.std.proofs.Common.{ℕ, ◌^◌, min, sym, ap, ◌∙◌}
use Rattle.flat_tables.proofs.Bounds.{length-text_block}
use Rattle.flat_tables.proofs.checks.size_of_text.Goals as goal

pub returns : goal.returns
returns c = c.size_of_vector.ensures ∙ ap (λ (n : ℕ). min n (2 ^ 31)) (sym (length-text_block c.args.text.now))
