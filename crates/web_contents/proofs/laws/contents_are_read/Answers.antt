use Rattle.web_contents.proofs.Read as proved
use Rattle.web_contents.proofs.laws.contents_are_read.Goals as goal

pub returns : goal.returns
returns c = proved.contents_are_read
