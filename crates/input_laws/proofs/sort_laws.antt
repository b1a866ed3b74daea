pub mod SortRows
