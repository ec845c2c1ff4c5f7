mod Finding
mod OutcomeRows
mod RenderedRows
mod Results
mod RunRows
