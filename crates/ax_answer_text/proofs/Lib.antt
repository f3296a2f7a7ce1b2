mod SameParts
pub mod TakenWhole
mod TextLaws
mod WholeTexts
