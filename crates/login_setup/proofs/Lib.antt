mod SetupRows
-- Users pass their test exactly where each is of one of the two methods and has a key that fits it.
pub mod Sound
pub mod UserLists
-- Settings that are sound and settings that aren't, of a peer and of a server, at worked values.
mod WorkedSettings
