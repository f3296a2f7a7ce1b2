mod DifferentPairs
mod Exchanging
mod NetLaws
mod Owning
mod Stepping
