-- Leaves that meet: those of all ranks on the same root with the same key. Each leaf has its key and its id at its local index.
use Rattle.std.specs.Prelude.{◌≡◌, ℕ, ◌<◌, Bool, ◌&&◌, min, List, [], length, map, filter, flat_map, fold, get_or, Option, Some, None}
use Rattle.std.specs.List.{enumerate_from, AllByRecursion}
use Rattle.plain_lists.specs.Lists.{same_list}
use Rattle.sf_defs.specs.declared.Leaf.{Leaf}
use Rattle.sf_defs.specs.Forest.{Forest, is_on_root, leaves_on, root_of}

-- the key at a local index of a rank
abbrev pub key_at : List (List (List ℕ)) → ℕ → ℕ → List ℕ
key_at keys rank local = get_or (get_or keys rank []) local []

-- the id at a local index of a rank
abbrev pub id_at : List (List ℕ) → ℕ → ℕ → ℕ
id_at ids rank local = get_or (get_or ids rank []) local 0

-- the leaf of a rank is on this root and has this key
abbrev pub meets : List (List (List ℕ)) → ℕ × ℕ → List ℕ → ℕ → Leaf → Bool
meets keys root key rank l = is_on_root root l && same_list (key_at keys rank l.local) key

-- the ids of the leaves of all ranks on this root that have this key
unfoldable pub ids_meeting : Forest → List (List (List ℕ)) → List (List ℕ) → ℕ × ℕ → List ℕ → List ℕ
ids_meeting f keys ids root key = flat_map (λ r. map (λ (l : Leaf). id_at ids r.0 l.local) (filter (meets keys root key r.0) r.1)) (enumerate_from 0 f.leaves)

-- the least id of the leaves that meet the one at a local index of a rank, itself among them
abbrev pub least_meeting : Forest → List (List (List ℕ)) → List (List ℕ) → ℕ → ℕ → ℕ × ℕ → ℕ
least_meeting f keys ids rank local root = fold min (id_at ids rank local) (ids_meeting f keys ids root (key_at keys rank local))

-- the id after leaves met: of a leaf the least id of those that meet it, elsewhere the one that was there
abbrev pub met_on : Forest → List (List (List ℕ)) → List (List ℕ) → ℕ → ℕ → Option (ℕ × ℕ) → ℕ
met_on f keys ids rank local None = id_at ids rank local
met_on f keys ids rank local (Some root) = least_meeting f keys ids rank local root

abbrev pub met_id : Forest → List (List (List ℕ)) → List (List ℕ) → ℕ → ℕ → ℕ
met_id f keys ids rank local = met_on f keys ids rank local (root_of f rank local)

-- these are the ids after leaves met
pub record AreMet (f : Forest) (keys : List (List (List ℕ))) (ids met : List (List ℕ)) : Type 0 where
  pub shape : map length met ≡ map length ids
  pub each : (rank local : ℕ) → id_at met rank local ≡ met_id f keys ids rank local

-- a key at the local index of each leaf
pub record HaveKeys (f : Forest) (keys : List (List (List ℕ))) : Type 0 where
  pub ranks : length keys ≡ length f.roots
  pub places : (rank : ℕ) → rank < length f.roots → AllByRecursion (λ (l : Leaf). l.local < length (get_or keys rank [])) (leaves_on f rank)
