pub mod Failures
pub mod Classified
pub mod Keys
pub mod Nonces
pub mod PeerStage
pub mod Sealed
pub mod ServerStage
