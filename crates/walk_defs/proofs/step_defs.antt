pub mod StepRows
