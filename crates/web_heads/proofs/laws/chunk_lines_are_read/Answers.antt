use Rattle.web_heads.proofs.ChunkLemmas.{sound, complete}
use Rattle.web_heads.proofs.Answered.{size_sound, size_complete}
use Rattle.web_heads.proofs.laws.chunk_lines_are_read.Goals as goal

pub returns : goal.returns
returns c = record { sound = sound; complete = complete; sizes = size_sound; only = size_complete }
