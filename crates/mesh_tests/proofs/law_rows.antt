pub mod Fan
pub mod SharedRows
pub mod OrderRows
pub mod HomeRows
pub mod KeyedRows
pub mod TraceRows
pub mod LayerRows
