mod Gathered
pub mod Rowless
pub mod WrittenMembers
