mod Short
mod StoredDocuments
pub mod Within
