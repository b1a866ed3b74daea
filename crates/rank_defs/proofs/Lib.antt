pub mod FieldRows
pub mod RankRows
pub mod StripRows
pub mod RightRows
