-- What a call that begins an end answers, as a number.
pub mod Answers
-- What each method has its own of.
pub mod ByMethod
-- Which end a session is, which calls it takes, and what it has.
pub mod Ends
-- Why a login has failed.
pub mod Failures
-- What is of EAP-GPSK alone.
pub mod Gpsk
-- The session that a handle lends to a call.
pub mod Borrowing
-- The methods alone.
pub mod Methods
-- The peer's name in a Response, and the server's in a Request.
pub mod PeerName
-- What is of EAP-PSK alone.
pub mod Psk
-- What is reported of a method that succeeded.
pub mod Reports
-- The block of a session that has just been made.
pub mod Place
-- What a call writes into a buffer of the program's.
pub mod Capacities
-- What an end has sent.
pub mod Sent
-- The Session-Id of a login.
pub mod SessionId
-- The states in which an end stands between two calls.
pub mod Settled
-- The result of a call, as numbers.
pub mod Turns
-- A server's one user, given while it runs.
pub mod Users
-- The supplicant of IEEE 802.1X, as a program in C sees it.
pub mod Supplicants
-- The port of IEEE 802.1X, likewise.
pub mod Ports
