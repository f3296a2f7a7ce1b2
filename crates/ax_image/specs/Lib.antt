pub mod Documents
pub mod Readable
pub mod StandsFor
pub mod WriteChanges
