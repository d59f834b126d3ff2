-- What is known of the octets of a Request and of a Response.
pub mod Requests
-- A login by MD5-Challenge, turn by turn.
pub mod Logins
-- What a discard leaves, of a call that is one step of the server's table.
pub mod Discarded
-- Worked values of the Type-Data, and of a login.
mod Worked
