pub mod Applying
mod Batching
mod ByNumbers
mod Choosing
mod Courses
mod Damaging
pub mod Holding
mod InOrder
mod Looking
mod Numbers
pub mod Opened
mod OwnRefusals
pub mod PolicyHeld
mod QueryTexts
mod ReadingInto
pub mod Recaching
mod Refusals
mod RowLines
mod Scanning
mod ShownTexts
mod Stopping
mod Walking
mod WholeEnough
