pub mod PeerTable
pub mod Expanded
pub mod Inputs
pub mod Rows
pub mod Laws
