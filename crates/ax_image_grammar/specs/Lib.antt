pub mod Payloads
pub mod Table
pub mod Grammar
pub mod Met
pub mod Container
pub mod StandsFor
pub mod Writes
pub mod Rows
