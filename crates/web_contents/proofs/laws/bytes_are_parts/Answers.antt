use Rattle.web_contents.proofs.Parts as proved
use Rattle.web_contents.proofs.laws.bytes_are_parts.Goals as goal

pub returns : goal.returns
returns c = proved.bytes_are_parts
