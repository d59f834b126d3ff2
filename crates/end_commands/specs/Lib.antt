pub mod EndCommand
pub mod EndScript
pub mod EndText
pub mod PeerCommand
pub mod ServerCommand
