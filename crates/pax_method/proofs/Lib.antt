-- The blocks of PAX-KDF: one has 16 octets, and so four have 64.
pub mod Blocks
-- What is known of the octets of a Request and of a Response.
pub mod Requests
-- The turn of an end that is so far, with A, B and CID.
pub mod Steps
-- What the history of a peer of EAP-PAX tells: its tags, and of a decision other than FAIL a
-- success.
pub mod PeerImplied
-- What the history of a server of EAP-PAX tells: its tags, and of a good end a success.
pub mod ServerImplied
-- Two ends of EAP-PAX that have succeeded agree: the first tag that the server accepted covers A, B
-- and CID, and only the peer can have made it.
pub mod Agrees
-- Two ends of EAP-PAX agree in every run, by the law over any methods.
pub mod Runs
-- Worked values of the keys and of a login.
mod Worked
