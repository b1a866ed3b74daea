-- The words of points by the strata of a rank's own chart: cells, vertices, faces and edges.
use Rattle.std.specs.Prelude.{ℕ, ◌+◌, ◌*◌, ℤ, List, [], ◌++◌, map, replicate, slice_range, get_or, Option, unwrap_or}
use Rattle.plain_lists.specs.Lists.{below}
use Rattle.mesh_defs.specs.declared.Place.{Place}
use Rattle.mesh_defs.specs.declared.Place.TheVariants.{Node, Element}
use Rattle.plex_defs.specs.Fields.{word_of}
use Rattle.interp_share.specs.declared.rank_fields.sizes.ChartSizes.{ChartSizes}

-- so many points without words
abbrev pub no_words : ℕ → List (List ℕ)
no_words n = replicate n []

-- the words of a row, where there is one
abbrev pub row_words : Option (List ℤ) → List ℕ
row_words row = map word_of (unwrap_or row [])

-- the first multiples of a weight
abbrev pub multiples : ℕ → ℕ → List ℕ
multiples count weight = map (λ i. (i + 1) * weight) (below count)

-- how many points a data section has rows for, and how many stand before them
abbrev pub count_on : ChartSizes → Place → ℕ
count_on sizes Node = sizes.vertices
count_on sizes Element = sizes.cells

abbrev pub before_on : ChartSizes → Place → ℕ
before_on sizes Node = sizes.cells
before_on sizes Element = 0

-- and how many stand behind them
abbrev pub after_on : ChartSizes → Place → ℕ
after_on sizes Node = sizes.faces + sizes.edges
after_on sizes Element = sizes.vertices + sizes.faces + sizes.edges

-- the words of a data section with these rows
abbrev pub section_words : ChartSizes → Place → List (Option (List ℤ)) → List (List ℕ)
section_words sizes on rows = no_words (before_on sizes on) ++ map row_words rows ++ no_words (after_on sizes on)

-- the words of points with these weights, as many on a point as the counts have for its dimension; cells have this dimension
abbrev pub weighted_words : ChartSizes → ℕ → List ℕ → List ℕ → List (List ℕ)
weighted_words sizes dim counts weights =
    let vertices = sizes.cells + sizes.vertices in
    let faces = vertices + sizes.faces in
    map (multiples (get_or counts dim 0)) (slice_range weights 0 sizes.cells)
    ++ map (multiples (get_or counts 0 0)) (slice_range weights sizes.cells vertices)
    ++ map (multiples (get_or counts 2 0)) (slice_range weights vertices faces)
    ++ map (multiples (get_or counts 1 0)) (slice_range weights faces (faces + sizes.edges))
