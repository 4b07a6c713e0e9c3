pub mod PrintedKinds
