-- What it does to combine octets with the ones at their places in a second list.
pub mod Combining
-- The sizes of a sealed text, for those who send it.
pub mod Laws
-- A sealed text and its one plaintext.
pub mod Sealing
-- The key stream a block longer, and the counter mode back.
pub mod Stream
