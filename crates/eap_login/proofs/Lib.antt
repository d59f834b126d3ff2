-- Where neither a read nor a write failed, the status is the answer's, or memory was wanting.
pub mod Completing
-- Words that were answered, or for which memory was wanting before anything was read or written.
pub mod Exiting
-- No text that ends with status 0 has the line of honest tags and the line of ends that are apart,
-- and says that nonces are fresh or nothing of them.
pub mod NeverBoth
