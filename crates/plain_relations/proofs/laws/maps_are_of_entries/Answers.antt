use Rattle.plain_relations.proofs.MapLaws.{is_map, one_map}
use Rattle.plain_relations.proofs.laws.maps_are_of_entries.Goals as goal

pub returns : goal.returns
returns c = record { of_entries = is_map; one = one_map; rising = λ map. map.rising }
