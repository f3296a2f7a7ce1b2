pub mod ReadyLemmas
