pub mod FirstPart
