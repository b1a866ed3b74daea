pub mod Rising
pub mod Seen
pub mod ByKey
pub mod OwnSights
pub mod Tops
pub mod Shared
pub mod ByVertices
pub mod HomeParts
mod KeyRows
