use Rattle.rank_laws.proofs.Kept.{compose-forest, invert-forest, embed_roots-forest, embed_leaves-forest}
use Rattle.rank_laws.proofs.forests_are_made_of_forests.Goals as goal

pub returns : goal.returns
returns c = record { compositions = compose-forest; inverses = invert-forest; embeddings_by_root = embed_roots-forest; embeddings_by_place = embed_leaves-forest }
