-- The items of which accepted words are made.
use Rattle.std.specs.Prelude.{◌≡◌, ℕ, Bool, true, false, if◌then◌else◌, List, [], ◌∷◌, ◌++◌, codes, Option, Some, None, flat_map}
use Rattle.std.specs.List.{AllByRecursion}
use Rattle.input_defs.specs.Words.{Source, File, Request, is_file_name, made_of}

-- an item; where it has a value, that stands in the same word after `=`, or in the next word
pub data Item : Type 0 where
  PlanItem : Bool → List ℕ → Item
  MadeItem : Bool → List ℕ → Source → Item
  SummaryItem : Item
  MeshItem : List ℕ → Item

abbrev pub words_of : Item → List (List ℕ)
words_of (PlanItem true name) = (codes "--plan=" ++ name) ∷ []
words_of (PlanItem false name) = codes "--plan" ∷ name ∷ []
words_of (MadeItem true text source) = (codes "--make=" ++ text) ∷ []
words_of (MadeItem false text source) = codes "--make" ∷ text ∷ []
words_of SummaryItem = codes "--summary" ∷ []
words_of (MeshItem name) = name ∷ []

-- its name names a file, or its text a generated mesh
abbrev pub IsRight : Item → Type 0
IsRight (PlanItem joined name) = is_file_name name ≡ true
IsRight (MadeItem joined text source) = made_of text ≡ Some source
IsRight SummaryItem = Unit {0}
IsRight (MeshItem name) = is_file_name name ≡ true

-- ---- what items say

abbrev pub plans_of : List Item → List (List ℕ)
plans_of [] = []
plans_of (PlanItem joined name ∷ items) = name ∷ plans_of items
plans_of (MadeItem joined text source ∷ items) = plans_of items
plans_of (SummaryItem ∷ items) = plans_of items
plans_of (MeshItem name ∷ items) = plans_of items

abbrev pub sources_of : List Item → List Source
sources_of [] = []
sources_of (PlanItem joined name ∷ items) = sources_of items
sources_of (MadeItem joined text source ∷ items) = source ∷ sources_of items
sources_of (SummaryItem ∷ items) = sources_of items
sources_of (MeshItem name ∷ items) = File name ∷ sources_of items

abbrev pub summaries_of : List Item → List Bool
summaries_of [] = []
summaries_of (PlanItem joined name ∷ items) = summaries_of items
summaries_of (MadeItem joined text source ∷ items) = summaries_of items
summaries_of (SummaryItem ∷ items) = true ∷ summaries_of items
summaries_of (MeshItem name ∷ items) = summaries_of items

abbrev pub listed_name : Option (List ℕ) → List (List ℕ)
listed_name None = []
listed_name (Some name) = name ∷ []

-- each at most once, and exactly one source
pub record IsListed (items : List Item) (r : Request) : Type 0 where
  pub right : AllByRecursion IsRight items
  pub plan : plans_of items ≡ listed_name r.plan
  pub source : sources_of items ≡ r.source ∷ []
  pub summary : summaries_of items ≡ (if r.summary then true ∷ [] else [])

-- the words are those of listed items
pub record MadeOfItems (words : List (List ℕ)) (r : Request) : Type 0 where
  pub items : List Item
  pub spelled : words ≡ flat_map words_of items
  pub listed : IsListed items r
