-- Each half has fewer entries.
use Rattle.plain_relations.proofs.map_merging.+map_of_last.Given as goal

abbrev pub decreases-map_of_last : goal.decreases-map_of_last
decreases-map_of_last l = l.count
