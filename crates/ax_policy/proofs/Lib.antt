mod Apart
mod Below
mod Comparisons
mod CompositesAgain
mod Decisions
mod DefaultRules
mod Insertion
mod Lists
mod NamePlaces
pub mod NormalFits
mod NormalTrees
mod NumberLaws
pub mod Orders
mod PathReading
mod PathTexts
mod PolicyAgain
mod RuleLaws
mod RuleMaps
mod RulesAgain
mod SamePaths
mod Searching
mod TreeLooks
mod Utf8
mod WalkPlaces
