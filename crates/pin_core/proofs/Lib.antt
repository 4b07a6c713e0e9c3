pub mod CurrentLemmas
