pub mod Runs
pub mod TextRows
pub mod StripTexts
pub mod KnownTexts
pub mod WordTexts
pub mod OneName
