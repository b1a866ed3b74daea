pub mod Traces
mod TraceRows
