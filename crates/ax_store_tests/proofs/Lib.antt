pub mod ManyParts
