pub mod OneContents
pub mod TermLists
pub mod LastPart
pub mod ToldApart
