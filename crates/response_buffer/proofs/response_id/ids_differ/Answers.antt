use Rattle.response_buffer.specs.Ids.{number_of}
use Rattle.response_buffer.proofs.IdLemmas.{uuid_text-injective, number_of-lt, number_of-injective}
use Rattle.response_buffer.proofs.response_id.ids_differ.Goals as goal

pub returns-clause-texts : goal.returns-clause-texts
returns-clause-texts c = λ a b fa fb same.
    number_of-injective a b fa fb (uuid_text-injective (number_of a) (number_of b) (number_of-lt a fa) (number_of-lt b fb) same)
