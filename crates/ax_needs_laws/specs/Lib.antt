pub mod Just
