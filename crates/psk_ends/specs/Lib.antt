pub mod Checks
pub mod Failures
pub mod Nonces
pub mod PeerStage
pub mod ServerStage
pub mod PeerKeys
