-- A packet whose PCHANNEL is filled in at its end.
pub mod Filled
-- The peer's answer to PSK-3, by what its check gave.
pub mod PeerChecks
-- The packets of messages have room for an Expanded Type.
pub mod Capacities
-- What is known of the octets of a Request and of a Response.
pub mod Requests
-- The server's answer to PSK-4, by what its check gave.
pub mod ServerChecks
-- The keys of a server's users.
pub mod UserKeys
