pub mod AsWritten
pub mod EachPart
pub mod Forms
pub mod Neighbours
pub mod SameOrBoth
pub mod StepNames
