-- The pieces of a record, and the size of a MAC.
pub mod Pieces
-- A packet up to its MAC, and the MAC that is put behind it.
pub mod MacLaws
-- The packets of messages have room for an Expanded Type.
pub mod Capacities
-- What is known of the octets of a Request and of a Response.
pub mod Requests
-- The keys of the users that a server knows.
pub mod UserKeys
