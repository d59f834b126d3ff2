pub mod Sent
pub mod Store
pub mod Conversations
pub mod Receiving
pub mod TwoRecords
pub mod World
pub mod Judgement
pub mod Run
