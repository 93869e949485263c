use Rattle.std.proofs.Common.{◌∙◌, sym}
use Rattle.std.proofs.lemmas.Bool.{eqb-true, eqb-false}
use Rattle.web_frames.proofs.CallLemmas.{Feeds-none, Feeds-one_more}
use Rattle.web_frames.proofs.reader.FrameReader.take_none.Goals as goal

pub returns-then-is_empty : goal.returns-then-is_empty
returns-then-is_empty c = Feeds-none c.args.self.now c.args.piece.now c.args.fault c.requires (eqb-true _ _ (sym c.is_empty.ensures ∙ c.if-is_empty.true))

pub returns-else-is_empty : goal.returns-else-is_empty
returns-else-is_empty c =
    Feeds-one_more c.args.self.now c.args.piece.now c.args.fault c.refuse.result c.refuse.new.self c.requires (eqb-false _ _ (sym c.is_empty.ensures ∙ c.if-is_empty.false))
    c.refuse.ensures.fault c.refuse.ensures.state
