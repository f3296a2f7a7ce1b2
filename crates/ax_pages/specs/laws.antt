pub mod AreaLaws
